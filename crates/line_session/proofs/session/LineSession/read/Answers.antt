use Rattle.std.proofs.Common.{◌≡◌, inr, Ok, refl, ap, ◌∙◌}
use Rattle.futures.specs.declared.task.Poll.TheVariants.{Ready, Pending}
use Rattle.tokio.specs.Io.Moved.{count_moved}
use Rattle.line_session.proofs.TalkLemmas.{Laws, Goes_read, Goes_noted, Goes_no_memory, Goes_trans, no_line_held}
use Rattle.line_session.proofs.session.LineSession.read.Goals as goal

pub returns-in-Pending-clause-goes : goal.returns-in-Pending-clause-goes
returns-in-Pending-clause-goes g c =
    let laws : Laws g.R.AsyncRead.reads g.W.AsyncWrite.writes g.A.Answers.answers = record { reads_nothing = g.met.R.AsyncRead.reads_nothing; reads_in_order = g.met.R.AsyncRead.reads_in_order; writes_nothing = g.met.W.AsyncWrite.writes_nothing; writes_in_order = g.met.W.AsyncWrite.writes_in_order; answers_nothing = g.met.A.Answers.answers_nothing; answers_in_order = g.met.A.Answers.answers_in_order } in
    Goes_read laws 1 _ c.args.self.now _ c.poll_read_buf.ensures.bytes refl refl refl refl refl

pub returns-in-Interrupted-clause-goes : goal.returns-in-Interrupted-clause-goes
returns-in-Interrupted-clause-goes g c =
    let laws : Laws g.R.AsyncRead.reads g.W.AsyncWrite.writes g.A.Answers.answers = record { reads_nothing = g.met.R.AsyncRead.reads_nothing; reads_in_order = g.met.R.AsyncRead.reads_in_order; writes_nothing = g.met.W.AsyncWrite.writes_nothing; writes_in_order = g.met.W.AsyncWrite.writes_in_order; answers_nothing = g.met.A.Answers.answers_nothing; answers_in_order = g.met.A.Answers.answers_in_order } in
    Goes_read laws 1 _ c.args.self.now _ c.poll_read_buf.ensures.bytes refl refl refl refl refl

pub returns-in-Ready-Ok-eq0-clause-goes : goal.returns-in-Ready-Ok-eq0-clause-goes
returns-in-Ready-Ok-eq0-clause-goes g c =
    let laws : Laws g.R.AsyncRead.reads g.W.AsyncWrite.writes g.A.Answers.answers = record { reads_nothing = g.met.R.AsyncRead.reads_nothing; reads_in_order = g.met.R.AsyncRead.reads_in_order; writes_nothing = g.met.W.AsyncWrite.writes_nothing; writes_in_order = g.met.W.AsyncWrite.writes_in_order; answers_nothing = g.met.A.Answers.answers_nothing; answers_in_order = g.met.A.Answers.answers_in_order } in
    Goes_noted laws 1 _ (record c.args.self.now { reader = c.poll_read_buf.new.reader; buffer = c.poll_read_buf.new.buf }) _ _ _ c.finish.ensures.noted
    (Goes_read laws 1 _ c.args.self.now _ c.poll_read_buf.ensures.bytes refl refl refl refl refl)

pub returns-in-Ready-Ok-clause-goes : goal.returns-in-Ready-Ok-clause-goes
returns-in-Ready-Ok-clause-goes g c =
    let laws : Laws g.R.AsyncRead.reads g.W.AsyncWrite.writes g.A.Answers.answers = record { reads_nothing = g.met.R.AsyncRead.reads_nothing; reads_in_order = g.met.R.AsyncRead.reads_in_order; writes_nothing = g.met.W.AsyncWrite.writes_nothing; writes_in_order = g.met.W.AsyncWrite.writes_in_order; answers_nothing = g.met.A.Answers.answers_nothing; answers_in_order = g.met.A.Answers.answers_in_order } in
    Goes_noted laws 1 _ (record c.args.self.now { reader = c.poll_read_buf.new.reader; buffer = c.poll_read_buf.new.buf }) _ _ _ c.count.ensures
    (Goes_read laws 1 _ c.args.self.now _ c.poll_read_buf.ensures.bytes refl refl refl refl refl)

pub returns-in_default-clause-goes : goal.returns-in_default-clause-goes
returns-in_default-clause-goes g c =
    let laws : Laws g.R.AsyncRead.reads g.W.AsyncWrite.writes g.A.Answers.answers = record { reads_nothing = g.met.R.AsyncRead.reads_nothing; reads_in_order = g.met.R.AsyncRead.reads_in_order; writes_nothing = g.met.W.AsyncWrite.writes_nothing; writes_in_order = g.met.W.AsyncWrite.writes_in_order; answers_nothing = g.met.A.Answers.answers_nothing; answers_in_order = g.met.A.Answers.answers_in_order } in
    Goes_noted laws 1 _ (record c.args.self.now { reader = c.poll_read_buf.new.reader; buffer = c.poll_read_buf.new.buf }) _ _ _ c.finish-in_default.ensures.noted
    (Goes_read laws 1 _ c.args.self.now _ c.poll_read_buf.ensures.bytes refl refl refl refl refl)

pub returns-in-OutOfMemory-clause-goes : goal.returns-in-OutOfMemory-clause-goes
returns-in-OutOfMemory-clause-goes g c =
    let laws : Laws g.R.AsyncRead.reads g.W.AsyncWrite.writes g.A.Answers.answers = record { reads_nothing = g.met.R.AsyncRead.reads_nothing; reads_in_order = g.met.R.AsyncRead.reads_in_order; writes_nothing = g.met.W.AsyncWrite.writes_nothing; writes_in_order = g.met.W.AsyncWrite.writes_in_order; answers_nothing = g.met.A.Answers.answers_nothing; answers_in_order = g.met.A.Answers.answers_in_order } in
    Goes_trans laws 0 1 _ (record c.args.self.now { reader = c.poll_read_buf.new.reader; buffer = c.poll_read_buf.new.buf }) _
    (Goes_read laws 0 _ c.args.self.now _ c.poll_read_buf.ensures.bytes refl refl refl refl refl)
    (Goes_no_memory laws (record c.args.self.now { reader = c.poll_read_buf.new.reader; buffer = c.poll_read_buf.new.buf }) _ c.requires.start.0 c.requires.start.1 c.refuse.ensures)

pub returns-in-Ready-Ok-eq0-clause-ends : goal.returns-in-Ready-Ok-eq0-clause-ends
returns-in-Ready-Ok-eq0-clause-ends g c =
    let none : c.poll_read_buf.result ≡ Ready (Ok 0) = cc in
    let appended = c.poll_read_buf.ensures.bytes in
    rw (c.finish.ensures.over, c.finish.ensures.noted) (
      c.requires.start.1,
      c.requires.start.0,
      c.poll_read_buf.ensures.end none,
      no_line_held c.args.self.now.codec c.args.self.now.buffer.items c.poll_read_buf.new.buf.items appended.0
          c.requires.partial appended.2 (appended.3 ∙ ap count_moved none),
    )

pub returns-in-Pending-clause-idle : goal.returns-in-Pending-clause-idle
returns-in-Pending-clause-idle g c =
    let none : c.poll_read_buf.result ≡ Pending = cc in
    let appended = c.poll_read_buf.ensures.bytes in
    inr (inr (no_line_held c.args.self.now.codec c.args.self.now.buffer.items c.poll_read_buf.new.buf.items appended.0
    c.requires.partial appended.2 (appended.3 ∙ ap count_moved none)))
