use Rattle.std.proofs.Common.{refl, sym, subst}
use Rattle.line_session.specs.Talking.{IsRefusing}
use Rattle.line_session.proofs.TalkLemmas.{Laws, Goes_drained, Goes_shut, Goes_noted, Goes_trans}
use Rattle.line_session.proofs.session.LineSession.drain.Goals as goal

pub returns-in-Pending-clause-goes : goal.returns-in-Pending-clause-goes
returns-in-Pending-clause-goes g c =
    let laws : Laws g.R.AsyncRead.reads g.W.AsyncWrite.writes g.A.Answers.answers = record { reads_nothing = g.met.R.AsyncRead.reads_nothing; reads_in_order = g.met.R.AsyncRead.reads_in_order; writes_nothing = g.met.W.AsyncWrite.writes_nothing; writes_in_order = g.met.W.AsyncWrite.writes_in_order; answers_nothing = g.met.A.Answers.answers_nothing; answers_in_order = g.met.A.Answers.answers_in_order } in
    let refusing : IsRefusing c.args.self.now.stage = subst IsRefusing (sym c.requires.1) tt in
    Goes_drained laws 0 _ _ c.args.self.now _ c.poll_read_buf.ensures.bytes (laws.writes_nothing _) refl refl refusing refusing

pub returns-then-eq-clause-goes : goal.returns-then-eq-clause-goes
returns-then-eq-clause-goes g c =
    let laws : Laws g.R.AsyncRead.reads g.W.AsyncWrite.writes g.A.Answers.answers = record { reads_nothing = g.met.R.AsyncRead.reads_nothing; reads_in_order = g.met.R.AsyncRead.reads_in_order; writes_nothing = g.met.W.AsyncWrite.writes_nothing; writes_in_order = g.met.W.AsyncWrite.writes_in_order; answers_nothing = g.met.A.Answers.answers_nothing; answers_in_order = g.met.A.Answers.answers_in_order } in
    let refusing : IsRefusing c.args.self.now.stage = subst IsRefusing (sym c.requires.1) tt in
    Goes_drained laws 0 _ _ c.args.self.now _ c.poll_read_buf.ensures.bytes (laws.writes_nothing _) refl refl refusing refusing

pub returns-in-Ready-Ok-eq0-clause-goes : goal.returns-in-Ready-Ok-eq0-clause-goes
returns-in-Ready-Ok-eq0-clause-goes g c =
    let laws : Laws g.R.AsyncRead.reads g.W.AsyncWrite.writes g.A.Answers.answers = record { reads_nothing = g.met.R.AsyncRead.reads_nothing; reads_in_order = g.met.R.AsyncRead.reads_in_order; writes_nothing = g.met.W.AsyncWrite.writes_nothing; writes_in_order = g.met.W.AsyncWrite.writes_in_order; answers_nothing = g.met.A.Answers.answers_nothing; answers_in_order = g.met.A.Answers.answers_in_order } in
    let refusing : IsRefusing c.args.self.now.stage = subst IsRefusing (sym c.requires.1) tt in
    Goes_noted laws 0 _ (record c.args.self.now { reader = c.poll_read_buf.new.reader; buffer = c.poll_read_buf.new.buf }) _ _ _ c.finish.ensures.noted
    (Goes_drained laws 0 _ _ c.args.self.now _ c.poll_read_buf.ensures.bytes (laws.writes_nothing _) refl refl refusing refusing)

pub returns-else-eq-clause-goes : goal.returns-else-eq-clause-goes
returns-else-eq-clause-goes g c =
    let laws : Laws g.R.AsyncRead.reads g.W.AsyncWrite.writes g.A.Answers.answers = record { reads_nothing = g.met.R.AsyncRead.reads_nothing; reads_in_order = g.met.R.AsyncRead.reads_in_order; writes_nothing = g.met.W.AsyncWrite.writes_nothing; writes_in_order = g.met.W.AsyncWrite.writes_in_order; answers_nothing = g.met.A.Answers.answers_nothing; answers_in_order = g.met.A.Answers.answers_in_order } in
    let refusing : IsRefusing c.args.self.now.stage = subst IsRefusing (sym c.requires.1) tt in
    Goes_noted laws 0 _ (record c.args.self.now { reader = c.poll_read_buf.new.reader; buffer = c.poll_read_buf.new.buf }) _ _ _ c.finish-else-eq.ensures.noted
    (Goes_drained laws 0 _ _ c.args.self.now _ c.poll_read_buf.ensures.bytes (laws.writes_nothing _) refl refl refusing refusing)

pub returns-in-None-clause-goes : goal.returns-in-None-clause-goes
returns-in-None-clause-goes g c =
    let laws : Laws g.R.AsyncRead.reads g.W.AsyncWrite.writes g.A.Answers.answers = record { reads_nothing = g.met.R.AsyncRead.reads_nothing; reads_in_order = g.met.R.AsyncRead.reads_in_order; writes_nothing = g.met.W.AsyncWrite.writes_nothing; writes_in_order = g.met.W.AsyncWrite.writes_in_order; answers_nothing = g.met.A.Answers.answers_nothing; answers_in_order = g.met.A.Answers.answers_in_order } in
    let refusing : IsRefusing c.args.self.now.stage = subst IsRefusing (sym c.requires.1) tt in
    Goes_noted laws 0 _ c.count.new.self _ _ _ c.finish-in-None.ensures.noted
    (Goes_noted laws 0 _ (record c.args.self.now { reader = c.poll_read_buf.new.reader; buffer = c.poll_read_buf.new.buf }) _ _ _ c.count.ensures (Goes_drained laws 0 _ _ c.args.self.now _ c.poll_read_buf.ensures.bytes (laws.writes_nothing _) refl refl refusing refusing))

pub returns-in-Some-clause-goes : goal.returns-in-Some-clause-goes
returns-in-Some-clause-goes g c =
    let laws : Laws g.R.AsyncRead.reads g.W.AsyncWrite.writes g.A.Answers.answers = record { reads_nothing = g.met.R.AsyncRead.reads_nothing; reads_in_order = g.met.R.AsyncRead.reads_in_order; writes_nothing = g.met.W.AsyncWrite.writes_nothing; writes_in_order = g.met.W.AsyncWrite.writes_in_order; answers_nothing = g.met.A.Answers.answers_nothing; answers_in_order = g.met.A.Answers.answers_in_order } in
    let refusing : IsRefusing c.args.self.now.stage = subst IsRefusing (sym c.requires.1) tt in
    Goes_trans laws 0 0 _ c.count.new.self _
    (Goes_noted laws 0 _ (record c.args.self.now { reader = c.poll_read_buf.new.reader; buffer = c.poll_read_buf.new.buf }) _ _ _ c.count.ensures (Goes_drained laws 0 _ _ c.args.self.now _ c.poll_read_buf.ensures.bytes (laws.writes_nothing _) refl refl refusing refusing))
    (Goes_shut laws 0 c.count.new.self _ refl (laws.writes_nothing _) refl refl (rw c.count.ensures refusing) tt)
