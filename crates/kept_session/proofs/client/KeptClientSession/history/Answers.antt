use Rattle.kept_session.proofs.Outlining.{outlined, followed, alone}
use Rattle.kept_session.proofs.client.KeptClientSession.history.Goals as goal

pub returns-clause-outlined : goal.returns-clause-outlined
returns-clause-outlined c = rw (← c.self.view_is) (outlined _ c.self.invariant.2)

pub returns-clause-follow : goal.returns-clause-follow
returns-clause-follow c = rw (← c.self.view_is) (followed _ c.self.invariant.2)

pub returns-clause-alone : goal.returns-clause-alone
returns-clause-alone c = rw (← c.self.view_is) (alone _ c.self.invariant.2)
