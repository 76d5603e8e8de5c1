use Rattle.std.proofs.Common.{◌≡◌}
use Rattle.std.specs.Prelude.{map}
use Rattle.mux_agree.specs.Seen.{clients_of, records_of}
use Rattle.mux_agree.specs.Walk.{all_records, first_among, kept_down, kept_up, stops}
use Rattle.mux_agree.proofs.Walks.{first_behind}
use Rattle.mux_agree.proofs.agreement.servers_agree.Given as goal

-- the first fault of the servers is that of the servers that are left
abbrev pub invariant-loop-place : goal.invariant-loop-place
invariant-loop-place l =
    let clients = all_records (map kept_down l.all.downs.now) in
    first_among (clients_of l.all) (records_of l.all) (stops clients (map kept_up l.all.ups.now)) ≡ first_behind (clients_of l.all) (records_of l.all) kept_up clients l.all.ups.now l.place
