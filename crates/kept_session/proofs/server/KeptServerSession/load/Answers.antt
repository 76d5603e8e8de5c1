use Rattle.kept_session.proofs.server.KeptServerSession.load.Goals as goal

pub returns : goal.returns
returns c = rw (← c.self.view_is) (λ p b. c.load.ensures.told p b)
