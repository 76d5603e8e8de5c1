use Rattle.std.proofs.Common.{refl}
use Rattle.line_session.proofs.TalkLemmas.{Laws, Goes_noted, Goes_still}
use Rattle.line_session.proofs.session.LineSession.turn.Goals as goal

pub returns-in-Leaving-clause-goes : goal.returns-in-Leaving-clause-goes
returns-in-Leaving-clause-goes g c =
    let laws : Laws g.R.AsyncRead.reads g.W.AsyncWrite.writes g.A.Answers.answers = record { reads_nothing = g.met.R.AsyncRead.reads_nothing; reads_in_order = g.met.R.AsyncRead.reads_in_order; writes_nothing = g.met.W.AsyncWrite.writes_nothing; writes_in_order = g.met.W.AsyncWrite.writes_in_order; answers_nothing = g.met.A.Answers.answers_nothing; answers_in_order = g.met.A.Answers.answers_in_order } in
    Goes_noted laws 1 _ c.args.self.now _ _ _ c.finish.ensures.noted (Goes_still laws 1 _ _ refl refl refl refl refl refl refl)
