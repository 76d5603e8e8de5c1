use Rattle.std.proofs.Common.{false, refl, subst, drop}
use Rattle.std.proofs.lemmas.Result.{err_from_is_err_and}
use Rattle.rolling_audit.proofs.Covered.{left_opening, left_rest, rest_is, takes}
use Rattle.rolling_audit.specs.Covering.{Adds}
use Rattle.rolling_audit.specs.Opening.{OpensIf, is_new}
use Rattle.rolling_audit.proofs.run.RunAudit.take.Goals as goal

pub returns-in_err-open_new-clause-err : goal.returns-in_err-open_new-clause-err
returns-in_err-open_new-clause-err c =
    let p = err_from_is_err_and c.from_residual.result c.from_residual.ensures.1 in
    rw (p.1, p.2)
    (left_opening c.args.self.now c.set.new.self c.open_new.new.audit c.args.session c.args.epoch c.in-Some.within c.args.records.now c.in-Some.ensures.turn c.set.ensures _
    (subst (λ m. OpensIf m false c.args.session c.args.self.now.audit c.open_new.new.audit) c.as_slice.ensures.value (c.in_err-open_new.ensures.left refl)) c.in_err-open_new.ensures.err)

pub returns-clause-ok : goal.returns-clause-ok
returns-clause-ok c =
    λ ok.
    record {
      within = c.in-Some.within;
      turn = c.in-Some.ensures.turn;
      takes = takes c.args.self.now c.set.new.self c.open_new.new.audit c.args.session c.args.epoch c.in-Some.within c.args.records.now c.in-Some.ensures.turn c.set.ensures
          (is_new c.args.self.now.audit c.args.session) (subst (λ m. OpensIf m (is_new c.args.self.now.audit c.args.session) c.args.session c.args.self.now.audit c.open_new.new.audit) c.as_slice.ensures.value (c.in_ok-open_new.ensures.ok refl)) c.take_rest.new.self (drop c.in-Some.within c.args.records.now) _
          (subst (λ l. Adds (record c.args.self.now { audit = c.open_new.new.audit; turns = c.set.new.self }) c.args.session l c.take_rest.new.self)
          (rest_is c.in-Some.within c.args.records.now) (c.take_rest.ensures.ok ok)) c.take_rest.ensures.lasts c.take_rest.ensures.open c.take_rest.ensures.modes (c.take_rest.ensures.next ok);
    }

pub returns-clause-err : goal.returns-clause-err
returns-clause-err c =
    left_rest c.args.self.now c.set.new.self c.open_new.new.audit c.args.session c.args.epoch c.in-Some.within c.args.records.now c.in-Some.ensures.turn c.set.ensures
    (subst (λ m. OpensIf m (is_new c.args.self.now.audit c.args.session) c.args.session c.args.self.now.audit c.open_new.new.audit) c.as_slice.ensures.value (c.in_ok-open_new.ensures.ok refl)) c.take_rest.result c.take_rest.new.self c.take_rest.ensures.lasts c.take_rest.ensures.open c.take_rest.ensures.modes c.take_rest.ensures.err
