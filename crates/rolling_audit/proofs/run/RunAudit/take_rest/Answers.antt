use Rattle.std.proofs.Common.{refl, arith, take, length, ◌≤◌, ◌≡◌, ◌∙◌, sym, ap, subst, Option, Some}
use Rattle.rolling_audit.specs.declared.fault.RollingFault.{RollingFault}
use Rattle.rolling_audit.specs.declared.fault.RollingFault.TheVariants.{Memory, NotOpen}
use Rattle.rolling_audit.specs.Steps.{LeftBy}
use Rattle.rolling_audit.proofs.Covered.{adds}
use Rattle.rolling_audit.proofs.run.RunAudit.take_rest.Goals as goal

pub returns-in-Ok-clause-ok : goal.returns-in-Ok-clause-ok
returns-in-Ok-clause-ok c =
    λ ok.
    adds c.args.self.now c.note.new.self c.take.new.self c.args.session c.args.rest.now _ c.note.ensures.audit (c.in-Ok.ensures.ok refl) c.in-Ok.ensures.open
    c.in-Ok.ensures.lasts c.note.ensures.counts c.note.ensures.records c.note.ensures.turns c.requires.there (λ none. let e = c.in-Ok.ensures.shut none in absurd (cc e))

pub returns-in-Err-Memory-clause-err : goal.returns-in-Err-Memory-clause-err
returns-in-Err-Memory-clause-err c =
    let left : LeftBy (Memory c.in-Err-Memory.taken) c.args.self.now.audit c.args.session c.args.rest.now c.take.new.self =
    subst (λ e. LeftBy e c.args.self.now.audit c.args.session c.args.rest.now c.take.new.self) c.in-Err-Memory.field-0-is c.in-Err-Memory.ensures.err in
    let less = left.0 in
    let within : c.in-Err-Memory.taken ≤ length c.args.rest.now = omega (arith, less) in (
      c.in-Err-Memory.taken,
      within,
      adds c.args.self.now c.note-in-Err-Memory.new.self c.take.new.self c.args.session (take c.in-Err-Memory.taken c.args.rest.now) _ c.note-in-Err-Memory.ensures.audit
          left.1 c.in-Err-Memory.ensures.open c.in-Err-Memory.ensures.lasts c.note-in-Err-Memory.ensures.counts c.note-in-Err-Memory.ensures.records
          c.note-in-Err-Memory.ensures.turns c.requires.there
          (λ none.
          let e : ◌≡◌ {A = Option RollingFault} (Some (Memory c.in-Err-Memory.taken)) (Some (NotOpen c.args.session)) =
          sym (ap Some c.in-Err-Memory.field-0-is) ∙ c.in-Err-Memory.ensures.shut none in
          absurd (cc e)),
      c.note-in-Err-Memory.ensures.turns,
    )
