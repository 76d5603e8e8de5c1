use Rattle.std.proofs.Common.{subst, refl, take, ◌∷◌, [], ◌∙◌}
use Rattle.std.proofs.lemmas.List.{take_all}
use Rattle.rolling_audit.specs.Steps.{IsRefusedAt, Takes}
use Rattle.rolling_audit.specs.Taken.{life_of}
use Rattle.rolling_audit.proofs.Refusing.{faulty_at}
use Rattle.rolling_audit.proofs.Taking.{takes_after, takes_next, takes_none}
use Rattle.rolling_audit.proofs.walk.walk.Goals as goal

pub loop-taken-init : goal.loop-taken-init
loop-taken-init c = record { takes = takes_none c.args.lives.now.boot c.args.id c.args.trail.now (life_of c.args.lives.now); boot = refl }

pub loop-taken-preserved : goal.loop-taken-preserved
loop-taken-preserved c =
    record {
      takes = takes_next c.args.lives.now.boot c.args.id c.args.trail.now c.make_room.new.trail c.visit.new.trail (life_of c.args.lives.now) (life_of c.make_room.new.lives) (life_of c.visit.new.lives)
          c.args.records.now c.loop-taken.taken c.index-records-taken.result c.loop-taken-test.true
          (takes_after c.args.lives.now.boot c.args.id c.args.trail.now c.loop-taken.trail c.make_room.new.trail (life_of c.args.lives.now) (life_of c.loop-taken.lives) (life_of c.make_room.new.lives)
          (take c.loop-taken.taken c.args.records.now) c.loop-taken.invariant.takes
          (subst (λ b. Takes b c.args.id c.loop-taken.trail (life_of c.loop-taken.lives) [] c.make_room.new.trail (life_of c.make_room.new.lives)) c.loop-taken.invariant.boot c.make_room.ensures.same))
          (subst (λ r. Takes c.args.lives.now.boot c.args.id c.make_room.new.trail (life_of c.make_room.new.lives) (r ∷ []) c.visit.new.trail (life_of c.visit.new.lives)) c.index-records-taken.is
          (subst (λ b. Takes b c.args.id c.make_room.new.trail (life_of c.make_room.new.lives) (c.index-records-taken.result ∷ []) c.visit.new.trail (life_of c.visit.new.lives))
          (c.make_room.ensures.boot ∙ c.loop-taken.invariant.boot) (c.in_default.ensures.ok refl)));
      boot = c.visit.ensures.boot ∙ (c.make_room.ensures.boot ∙ c.loop-taken.invariant.boot);
    }

pub returns-in-Err-clause-err : goal.returns-in-Err-clause-err
returns-in-Err-clause-err c = (
  refl,
  faulty_at c.in-Err.cause c.args.lives.now.boot c.args.id c.args.trail.now c.make_room.new.trail (life_of c.args.lives.now) (life_of c.make_room.new.lives)
      c.args.records.now c.loop-taken.taken c.index-records-taken.result c.loop-taken-test.true
      (takes_after c.args.lives.now.boot c.args.id c.args.trail.now c.loop-taken.trail c.make_room.new.trail (life_of c.args.lives.now) (life_of c.loop-taken.lives) (life_of c.make_room.new.lives)
      (take c.loop-taken.taken c.args.records.now) c.loop-taken.invariant.takes
      (subst (λ b. Takes b c.args.id c.loop-taken.trail (life_of c.loop-taken.lives) [] c.make_room.new.trail (life_of c.make_room.new.lives)) c.loop-taken.invariant.boot c.make_room.ensures.same))
      (subst (λ r. IsRefusedAt c.in-Err.cause c.args.lives.now.boot c.args.id c.make_room.new.trail (life_of c.make_room.new.lives) r) c.index-records-taken.is
      (subst (λ b. IsRefusedAt c.in-Err.cause b c.args.id c.make_room.new.trail (life_of c.make_room.new.lives) c.index-records-taken.result)
      (c.make_room.ensures.boot ∙ c.loop-taken.invariant.boot) c.in-Err.ensures.err)),
)

pub returns-then-is_err-clause-err : goal.returns-then-is_err-clause-err
returns-then-is_err-clause-err c = (
  c.loop-taken-test.true,
  takes_after c.args.lives.now.boot c.args.id c.args.trail.now c.loop-taken.trail c.make_room.new.trail (life_of c.args.lives.now) (life_of c.loop-taken.lives) (life_of c.make_room.new.lives)
      (take c.loop-taken.taken c.args.records.now) c.loop-taken.invariant.takes
      (subst (λ b. Takes b c.args.id c.loop-taken.trail (life_of c.loop-taken.lives) [] c.make_room.new.trail (life_of c.make_room.new.lives)) c.loop-taken.invariant.boot c.make_room.ensures.same),
)

pub returns-clause-ok : goal.returns-clause-ok
returns-clause-ok c =
    λ h. subst (λ l. Takes c.args.lives.now.boot c.args.id c.args.trail.now (life_of c.args.lives.now) l c.loop-taken.trail (life_of c.loop-taken.lives))
    (take_all c.loop-taken.taken c.args.records.now c.loop-taken-test.false) c.loop-taken.invariant.takes
