use Rattle.std.proofs.Common.{◌≡◌}
use Rattle.mux_agree.specs.Seen.{clients_of, records_of}
use Rattle.mux_agree.specs.Walk.{joined}
use Rattle.mux_agree.proofs.Walks.{first_left}
use Rattle.mux_agree.proofs.agreement.Walk.epoch_agrees.Given as goal

-- the first fault of the epoch is that of what is left of it
abbrev pub invariant-loop-place : goal.invariant-loop-place
invariant-loop-place l =
    let at = first_left (clients_of l.self.all) (records_of l.self.all) (records_of l.self.earlier) l.self.session l.self.mode (joined l.older) l.records in
    at 0 ≡ at l.place
