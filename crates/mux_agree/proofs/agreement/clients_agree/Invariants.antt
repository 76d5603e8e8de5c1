use Rattle.std.proofs.Common.{◌≡◌, []}
use Rattle.mux_agree.specs.Seen.{clients_of, records_of}
use Rattle.mux_agree.specs.Walk.{kept_down}
use Rattle.mux_agree.proofs.Walks.{first_behind}
use Rattle.mux_agree.proofs.agreement.clients_agree.Given as goal

-- the first fault of the clients is that of the clients that are left
abbrev pub invariant-loop-place : goal.invariant-loop-place
invariant-loop-place l =
    first_behind (clients_of l.all) (records_of l.all) kept_down [] l.all.downs.now 0 ≡ first_behind (clients_of l.all) (records_of l.all) kept_down [] l.all.downs.now l.place
