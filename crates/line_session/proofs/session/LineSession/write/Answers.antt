use Rattle.std.proofs.Common.{◌≡◌, Ok, Err, take, refl, ap, subst}
use Rattle.futures.specs.declared.task.Poll.TheVariants.{Ready, Pending}
use Rattle.tokio.specs.Io.Moved.{count_moved}
use Rattle.line_session.proofs.TalkLemmas.{Laws, Goes_wrote, Goes_noted}
use Rattle.line_session.proofs.session.LineSession.write.Goals as goal

pub returns-in-Pending-clause-goes : goal.returns-in-Pending-clause-goes
returns-in-Pending-clause-goes g c =
    let laws : Laws g.R.AsyncRead.reads g.W.AsyncWrite.writes g.A.Answers.answers = record { reads_nothing = g.met.R.AsyncRead.reads_nothing; reads_in_order = g.met.R.AsyncRead.reads_in_order; writes_nothing = g.met.W.AsyncWrite.writes_nothing; writes_in_order = g.met.W.AsyncWrite.writes_in_order; answers_nothing = g.met.A.Answers.answers_nothing; answers_in_order = g.met.A.Answers.answers_in_order } in
    let is : c.poll_write.result ≡ Pending = cc in
    let wrote = subst (λ n. g.W.AsyncWrite.writes c.args.self.now.writer (take n c.args.self.now.unsent) c.poll_write.new.self) (ap count_moved is) (rw c.rest.ensures at c.poll_write.ensures.bytes) in
    Goes_wrote laws 0 0 c.args.self.now _ wrote refl refl refl refl refl refl

pub returns-in-Ready-Ok-eq0-clause-goes : goal.returns-in-Ready-Ok-eq0-clause-goes
returns-in-Ready-Ok-eq0-clause-goes g c =
    let laws : Laws g.R.AsyncRead.reads g.W.AsyncWrite.writes g.A.Answers.answers = record { reads_nothing = g.met.R.AsyncRead.reads_nothing; reads_in_order = g.met.R.AsyncRead.reads_in_order; writes_nothing = g.met.W.AsyncWrite.writes_nothing; writes_in_order = g.met.W.AsyncWrite.writes_in_order; answers_nothing = g.met.A.Answers.answers_nothing; answers_in_order = g.met.A.Answers.answers_in_order } in
    let is : c.poll_write.result ≡ Ready (Ok 0) = cc in
    let wrote = subst (λ n. g.W.AsyncWrite.writes c.args.self.now.writer (take n c.args.self.now.unsent) c.poll_write.new.self) (ap count_moved is) (rw c.rest.ensures at c.poll_write.ensures.bytes) in
    Goes_noted laws 0 _ (record c.args.self.now { writer = c.poll_write.new.self }) _ _ _ c.lose.ensures.noted (Goes_wrote laws 0 0 c.args.self.now _ wrote refl refl refl refl refl refl)

pub returns-then-eq-clause-goes : goal.returns-then-eq-clause-goes
returns-then-eq-clause-goes g c =
    let laws : Laws g.R.AsyncRead.reads g.W.AsyncWrite.writes g.A.Answers.answers = record { reads_nothing = g.met.R.AsyncRead.reads_nothing; reads_in_order = g.met.R.AsyncRead.reads_in_order; writes_nothing = g.met.W.AsyncWrite.writes_nothing; writes_in_order = g.met.W.AsyncWrite.writes_in_order; answers_nothing = g.met.A.Answers.answers_nothing; answers_in_order = g.met.A.Answers.answers_in_order } in
    let is : c.poll_write.result ≡ Ready (Err c.in-Ready-Err.e) = cc in
    let wrote = subst (λ n. g.W.AsyncWrite.writes c.args.self.now.writer (take n c.args.self.now.unsent) c.poll_write.new.self) (ap count_moved is) (rw c.rest.ensures at c.poll_write.ensures.bytes) in
    Goes_wrote laws 0 0 c.args.self.now _ wrote refl refl refl refl refl refl

pub returns-else-eq-clause-goes : goal.returns-else-eq-clause-goes
returns-else-eq-clause-goes g c =
    let laws : Laws g.R.AsyncRead.reads g.W.AsyncWrite.writes g.A.Answers.answers = record { reads_nothing = g.met.R.AsyncRead.reads_nothing; reads_in_order = g.met.R.AsyncRead.reads_in_order; writes_nothing = g.met.W.AsyncWrite.writes_nothing; writes_in_order = g.met.W.AsyncWrite.writes_in_order; answers_nothing = g.met.A.Answers.answers_nothing; answers_in_order = g.met.A.Answers.answers_in_order } in
    let is : c.poll_write.result ≡ Ready (Err c.in-Ready-Err.e) = cc in
    let wrote = subst (λ n. g.W.AsyncWrite.writes c.args.self.now.writer (take n c.args.self.now.unsent) c.poll_write.new.self) (ap count_moved is) (rw c.rest.ensures at c.poll_write.ensures.bytes) in
    Goes_noted laws 0 _ (record c.args.self.now { writer = c.poll_write.new.self }) _ _ _ c.lose-else-eq.ensures.noted (Goes_wrote laws 0 0 c.args.self.now _ wrote refl refl refl refl refl refl)

pub returns-in-Ready-Ok-clause-goes : goal.returns-in-Ready-Ok-clause-goes
returns-in-Ready-Ok-clause-goes g c =
    let laws : Laws g.R.AsyncRead.reads g.W.AsyncWrite.writes g.A.Answers.answers = record { reads_nothing = g.met.R.AsyncRead.reads_nothing; reads_in_order = g.met.R.AsyncRead.reads_in_order; writes_nothing = g.met.W.AsyncWrite.writes_nothing; writes_in_order = g.met.W.AsyncWrite.writes_in_order; answers_nothing = g.met.A.Answers.answers_nothing; answers_in_order = g.met.A.Answers.answers_in_order } in
    let is : c.poll_write.result ≡ Ready (Ok c.in-Ready-Ok.count) = cc in
    let wrote = subst (λ n. g.W.AsyncWrite.writes c.args.self.now.writer (take n c.args.self.now.unsent) c.poll_write.new.self) (ap count_moved is) (rw c.rest.ensures at c.poll_write.ensures.bytes) in
    Goes_noted laws 0 _ (record c.args.self.now { writer = c.poll_write.new.self; unsent = c.advance.new.self }) _ _ _ c.count.ensures
    (Goes_wrote laws 0 c.in-Ready-Ok.count c.args.self.now _ wrote c.advance.ensures refl refl refl refl refl)
