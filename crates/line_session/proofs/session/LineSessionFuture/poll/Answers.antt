use Rattle.std.proofs.Common.{◌+◌, refl}
use Rattle.line_session.proofs.TalkLemmas.{Laws, Goes_trans, Goes_still}
use Rattle.line_session.proofs.session.LineSessionFuture.poll.Goals as goal

pub returns-in-Some-clause-goes : goal.returns-in-Some-clause-goes
returns-in-Some-clause-goes g c =
    let laws : Laws g.R.AsyncRead.reads g.W.AsyncWrite.writes g.A.Answers.answers = record { reads_nothing = g.met.R.AsyncRead.reads_nothing; reads_in_order = g.met.R.AsyncRead.reads_in_order; writes_nothing = g.met.W.AsyncWrite.writes_nothing; writes_in_order = g.met.W.AsyncWrite.writes_in_order; answers_nothing = g.met.A.Answers.answers_nothing; answers_in_order = g.met.A.Answers.answers_in_order } in
    Goes_still laws 64 _ _ refl refl refl refl refl refl refl

pub returns-clause-since : goal.returns-clause-since
returns-clause-since g c =
    λ first before.
    let laws : Laws g.R.AsyncRead.reads g.W.AsyncWrite.writes g.A.Answers.answers = record { reads_nothing = g.met.R.AsyncRead.reads_nothing; reads_in_order = g.met.R.AsyncRead.reads_in_order; writes_nothing = g.met.W.AsyncWrite.writes_nothing; writes_in_order = g.met.W.AsyncWrite.writes_in_order; answers_nothing = g.met.A.Answers.answers_nothing; answers_in_order = g.met.A.Answers.answers_in_order } in
    (before.0 + 64, Goes_trans laws before.0 64 first _ _ before.1 c.turns.ensures.goes)
