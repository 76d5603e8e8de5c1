use Rattle.std.proofs.Common.{◌≡◌}
use Rattle.mux_agree.specs.Seen.{clients_of, records_of}
use Rattle.mux_agree.proofs.Walks.{first_epochs}
use Rattle.mux_agree.proofs.agreement.Walk.session_agrees.Given as goal

-- the first fault of the session is that of the epochs that are left
abbrev pub invariant-loop-number : goal.invariant-loop-number
invariant-loop-number l =
    first_epochs (clients_of l.self.all) (records_of l.self.all) (records_of l.self.earlier) l.self.session l.self.mode l.epochs 0
    ≡ first_epochs (clients_of l.self.all) (records_of l.self.all) (records_of l.self.earlier) l.self.session l.self.mode l.epochs l.number
