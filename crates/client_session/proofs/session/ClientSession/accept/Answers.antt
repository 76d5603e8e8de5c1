use Rattle.std.proofs.Common.{refl, arith}
use Rattle.client_session.proofs.Soundness.{Accepted, accepted}
use Rattle.client_session.proofs.session.ClientSession.accept.Goals as goal
use Rattle.client_session.proofs.session.ClientSession.accept.Goals.{In-Ok}

taken : (c : In-Ok) → Accepted c.self.inside c.take.new.self
taken c =
    accepted c.self.inside c.take.new.self c.in-Ok.tag _ c.self.invariant refl c.in-Ok.ensures.vacant (omega (arith, c.in-Ok.ensures.tag)) c.in-Ok.ensures.taken
    (rw (← c.self.view_is) at c.requires.out)
    (rw (← c.self.view_is) at c.requires.records)

pub invariant_of-self : goal.invariant_of-self
invariant_of-self c = (taken (goal.at.invariant_of-self c).In-Ok).sound

pub write-requires-clause-records : goal.write-requires-clause-records
write-requires-clause-records c = (taken (goal.at.write-requires-clause-records c).In-Ok).records

pub write-requires-clause-out : goal.write-requires-clause-out
write-requires-clause-out c = (taken (goal.at.write-requires-clause-out c).In-Ok).out
