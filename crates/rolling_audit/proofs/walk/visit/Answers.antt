use Rattle.std.proofs.Common.{◌≡◌, subst, sym, ◌∙◌, Bool, false, refl}
use Rattle.std.proofs.lemmas.Result.{err_from_is_err_and}
use Rattle.rolling_audit.specs.Faults.{is_of_other_boot}
use Rattle.rolling_audit.specs.Steps.{AllGoOn}
use Rattle.rolling_audit.specs.Taken.{life_of}
use Rattle.rolling_audit.proofs.Refusing.{refused_lives, refused_trail}
use Rattle.rolling_audit.proofs.Taking.{takes_one}
use Rattle.rolling_audit.proofs.walk.visit.Goals as goal

pub returns-in_err-step-clause-err : goal.returns-in_err-step-clause-err
returns-in_err-step-clause-err c =
    let p = err_from_is_err_and c.from_residual.result c.from_residual.ensures.1 in
    rw (p.1, p.2) (refused_trail c.in_err-step.field-0.0 c.args.lives.now.boot c.args.id c.args.trail.now (life_of c.args.lives.now) c.args.met.now c.in_err-step.ensures.err)

pub returns-clause-ok : goal.returns-clause-ok
returns-clause-ok c =
    λ h. takes_one c.args.lives.now.boot c.args.id c.args.trail.now c.step.new.self (life_of c.args.lives.now) (life_of c.count.new.self) c.args.met.now
    (subst (λ boot. is_of_other_boot boot c.args.met.now ≡ false) c.boot.ensures (sym c.is_of_other_boot.ensures ∙ c.if-is_of_other_boot.false)) (c.in_ok-step.ensures.ok refl)
    (subst (λ (b : Bool). AllGoOn (life_of c.args.lives.now) b c.args.met.now (life_of c.count.new.self)) c.is_client.ensures (c.count.ensures.ok h))

pub returns-clause-err : goal.returns-clause-err
returns-clause-err c =
    refused_lives c.count.result c.args.lives.now.boot c.args.id c.args.trail.now (life_of c.args.lives.now) c.args.met.now c.count.ensures.err
