use Rattle.std.proofs.Common.{refl, ap}
use Rattle.line_session.specs.Answering.{answered_with}
use Rattle.line_session.specs.Talking.{stage_after}
use Rattle.line_session.proofs.TalkLemmas.{Laws, Goes_trans, Goes_settled, Goes_line, Goes_refused}
use Rattle.line_session.proofs.session.LineSession.take_line.Goals as goal

pub returns-in-Ok-None-clause-goes : goal.returns-in-Ok-None-clause-goes
returns-in-Ok-None-clause-goes g c =
    let laws : Laws g.R.AsyncRead.reads g.W.AsyncWrite.writes g.A.Answers.answers = record { reads_nothing = g.met.R.AsyncRead.reads_nothing; reads_in_order = g.met.R.AsyncRead.reads_in_order; writes_nothing = g.met.W.AsyncWrite.writes_nothing; writes_in_order = g.met.W.AsyncWrite.writes_in_order; answers_nothing = g.met.A.Answers.answers_nothing; answers_in_order = g.met.A.Answers.answers_in_order } in
    let settled = rw c.in-Ok-None.field-0-is at c.in-Ok-None.ensures.next in
    Goes_trans laws 0 1 _ (record c.args.self.now { codec = c.decode.new.self; buffer = c.decode.new.src }) _
    (Goes_settled laws 0 c.args.self.now _ refl refl refl refl refl settled.1) c.read.ensures.goes

pub returns-in-Ok-Some-clause-goes : goal.returns-in-Ok-Some-clause-goes
returns-in-Ok-Some-clause-goes g c =
    let laws : Laws g.R.AsyncRead.reads g.W.AsyncWrite.writes g.A.Answers.answers = record { reads_nothing = g.met.R.AsyncRead.reads_nothing; reads_in_order = g.met.R.AsyncRead.reads_in_order; writes_nothing = g.met.W.AsyncWrite.writes_nothing; writes_in_order = g.met.W.AsyncWrite.writes_in_order; answers_nothing = g.met.A.Answers.answers_nothing; answers_in_order = g.met.A.Answers.answers_in_order } in
    let gives = rw c.in-Ok-Some.field-0-is at c.in-Ok-Some.ensures.next in
    rw c.tell.ensures
    (Goes_line laws c.in-Ok-Some.line (answered_with c.as_str.result.now c.answer-answer.result) c.args.self.now _ c.requires.0 c.requires.1 refl refl gives
    c.answer-answer.ensures c.as_str.ensures.value refl (ap (λ s. stage_after c.answer-answer.result.is_last s) c.requires.1))

pub returns-in-Err-clause-goes : goal.returns-in-Err-clause-goes
returns-in-Err-clause-goes g c =
    let laws : Laws g.R.AsyncRead.reads g.W.AsyncWrite.writes g.A.Answers.answers = record { reads_nothing = g.met.R.AsyncRead.reads_nothing; reads_in_order = g.met.R.AsyncRead.reads_in_order; writes_nothing = g.met.W.AsyncWrite.writes_nothing; writes_in_order = g.met.W.AsyncWrite.writes_in_order; answers_nothing = g.met.A.Answers.answers_nothing; answers_in_order = g.met.A.Answers.answers_in_order } in
    let why = c.refusal.ensures in
    rw c.refuse.ensures
    (Goes_refused laws c.in-Err.fault why.0 c.args.self.now _ c.requires.0 c.requires.1 refl refl refl c.in-Err.ensures.next why.1 why.2 refl)
