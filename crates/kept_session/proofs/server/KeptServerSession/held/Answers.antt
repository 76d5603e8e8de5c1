use Rattle.kept_session.proofs.server.KeptServerSession.held.Goals as goal

pub returns-clause-ended : goal.returns-clause-ended
returns-clause-ended c = rw (← c.self.view_is) c.self.invariant.1
