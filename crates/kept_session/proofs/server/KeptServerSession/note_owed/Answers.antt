use Rattle.std.proofs.Common.{None, Ok}
use Rattle.kept_session.proofs.ReachingDown.{noted, advanced, keeps_on}
use Rattle.kept_session.proofs.server.KeptServerSession.note_owed.Goals as goal

pub invariant_of-self : goal.invariant_of-self
invariant_of-self c =
    (c.self.invariant.0, c.self.invariant.1, keeps_on c.self.inside.ended.items c.self.inside.session _ _ (λ p q. noted p q c.args.placed (Ok None)) c.note_owed.ensures c.self.invariant.2)

pub returns : goal.returns
returns c = rw (← c.self.view_is) (advanced c.self.inside.ended.items c.self.inside.session _ _ (λ p q. noted p q c.args.placed (Ok None)) c.note_owed.ensures)
