use Rattle.std.proofs.Common.{refl, sym, subst}
use Rattle.line_session.specs.Talking.{IsRefusing}
use Rattle.line_session.proofs.TalkLemmas.{Laws, Goes_shut, Goes_noted}
use Rattle.line_session.proofs.session.LineSession.shut_down.Goals as goal

pub returns-in-Pending-clause-goes : goal.returns-in-Pending-clause-goes
returns-in-Pending-clause-goes g c =
    let laws : Laws g.R.AsyncRead.reads g.W.AsyncWrite.writes g.A.Answers.answers = record { reads_nothing = g.met.R.AsyncRead.reads_nothing; reads_in_order = g.met.R.AsyncRead.reads_in_order; writes_nothing = g.met.W.AsyncWrite.writes_nothing; writes_in_order = g.met.W.AsyncWrite.writes_in_order; answers_nothing = g.met.A.Answers.answers_nothing; answers_in_order = g.met.A.Answers.answers_in_order } in
    let refusing : IsRefusing c.args.self.now.stage = subst IsRefusing (sym c.requires.1) tt in
    Goes_shut laws 0 c.args.self.now _ refl c.poll_shutdown.ensures.bytes refl refl refusing refusing

pub returns-in-Ready-Ok-clause-goes : goal.returns-in-Ready-Ok-clause-goes
returns-in-Ready-Ok-clause-goes g c =
    let laws : Laws g.R.AsyncRead.reads g.W.AsyncWrite.writes g.A.Answers.answers = record { reads_nothing = g.met.R.AsyncRead.reads_nothing; reads_in_order = g.met.R.AsyncRead.reads_in_order; writes_nothing = g.met.W.AsyncWrite.writes_nothing; writes_in_order = g.met.W.AsyncWrite.writes_in_order; answers_nothing = g.met.A.Answers.answers_nothing; answers_in_order = g.met.A.Answers.answers_in_order } in
    let refusing : IsRefusing c.args.self.now.stage = subst IsRefusing (sym c.requires.1) tt in
    Goes_shut laws 0 c.args.self.now _ refl c.poll_shutdown.ensures.bytes refl refl refusing tt

pub returns-then-eq-clause-goes : goal.returns-then-eq-clause-goes
returns-then-eq-clause-goes g c =
    let laws : Laws g.R.AsyncRead.reads g.W.AsyncWrite.writes g.A.Answers.answers = record { reads_nothing = g.met.R.AsyncRead.reads_nothing; reads_in_order = g.met.R.AsyncRead.reads_in_order; writes_nothing = g.met.W.AsyncWrite.writes_nothing; writes_in_order = g.met.W.AsyncWrite.writes_in_order; answers_nothing = g.met.A.Answers.answers_nothing; answers_in_order = g.met.A.Answers.answers_in_order } in
    let refusing : IsRefusing c.args.self.now.stage = subst IsRefusing (sym c.requires.1) tt in
    Goes_shut laws 0 c.args.self.now _ refl c.poll_shutdown.ensures.bytes refl refl refusing refusing

pub returns-else-eq-clause-goes : goal.returns-else-eq-clause-goes
returns-else-eq-clause-goes g c =
    let laws : Laws g.R.AsyncRead.reads g.W.AsyncWrite.writes g.A.Answers.answers = record { reads_nothing = g.met.R.AsyncRead.reads_nothing; reads_in_order = g.met.R.AsyncRead.reads_in_order; writes_nothing = g.met.W.AsyncWrite.writes_nothing; writes_in_order = g.met.W.AsyncWrite.writes_in_order; answers_nothing = g.met.A.Answers.answers_nothing; answers_in_order = g.met.A.Answers.answers_in_order } in
    let refusing : IsRefusing c.args.self.now.stage = subst IsRefusing (sym c.requires.1) tt in
    Goes_noted laws 0 _ (record c.args.self.now { writer = c.poll_shutdown.new.self }) _ _ _ c.finish.ensures.noted
    (Goes_shut laws 0 c.args.self.now _ refl c.poll_shutdown.ensures.bytes refl refl refusing refusing)
