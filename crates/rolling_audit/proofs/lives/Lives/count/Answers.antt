use Rattle.std.proofs.Common.{sym, ◌∙◌}
use Rattle.rolling_audit.proofs.Refusing.{named_refuses}
use Rattle.rolling_audit.specs.Taken.{life_of}
use Rattle.rolling_audit.proofs.lives.Lives.count.Goals as goal

pub returns-in-Some-clause-ok : goal.returns-in-Some-clause-ok
returns-in-Some-clause-ok c = λ h. c.count_named.ensures.ok h c.args.met.now (sym c.kind.ensures) (sym c.name.ensures ∙ c.in-Some.is)

pub returns-in-Some-clause-err : goal.returns-in-Some-clause-err
returns-in-Some-clause-err c =
    named_refuses c.count_named.result (life_of c.args.self.now) c.args.met.now c.in-Some.name c.kind.result (sym c.kind.ensures) (sym c.name.ensures ∙ c.in-Some.is) c.count_named.ensures.err
