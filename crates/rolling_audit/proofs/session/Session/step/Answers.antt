use Rattle.std.proofs.Common.{inr, refl, sym, ◌∙◌}
use Rattle.rolling_audit.proofs.Stands.{drained_so, lapsed_so, many_so, steps_on}
use Rattle.rolling_audit.proofs.session.Session.step.Goals as goal

pub returns-then-is_after_drain-clause-err : goal.returns-then-is_after_drain-clause-err
returns-then-is_after_drain-clause-err c =
    λ boot past all s. sym (drained_so boot c.args.self.now c.args.met.now past s) ∙ (sym c.is_after_drain.ensures ∙ c.if-is_after_drain.true)

pub returns-then-is_on_lapsed-clause-err : goal.returns-then-is_on_lapsed-clause-err
returns-then-is_on_lapsed-clause-err c =
    λ boot past all s. sym (lapsed_so boot c.args.self.now c.args.met.now past s) ∙ (sym c.is_on_lapsed.ensures ∙ c.if-is_on_lapsed.true)

pub returns-then-not-look-clause-err : goal.returns-then-not-look-clause-err
returns-then-not-look-clause-err c = λ boot past all s. inr (many_so boot c.args.self.now c.args.met.now past s (c.look.ensures.no c.if-not-look.true))

pub returns-clause-ok : goal.returns-clause-ok
returns-clause-ok c =
    let old = c.args.self.now in
    λ h.
    steps_on old
    (record { id = old.id; mode = old.mode; about = old.about; outline = c.look.new.outline; tags = c.follow.new.tags; dues = c.wait.new.dues; sent = c.wait.new.sent })
    c.args.met.now (sym c.is_after_drain.ensures ∙ c.if-is_after_drain.false) (sym c.is_on_lapsed.ensures ∙ c.if-is_on_lapsed.false)
    (c.is_led_to.ensures.yes c.if-not-is_led_to.false) (c.follow.ensures.yes c.if-not-follow.false) c.wait.ensures (c.look.ensures.yes c.if-not-look.false) refl refl refl
