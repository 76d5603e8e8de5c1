use Rattle.std.proofs.Common.{subst}
use Rattle.std.specs.Prelude.{map}
use Rattle.std.proofs.lemmas.List.{take_all}
use Rattle.mux_agree.specs.declared.agreement.histories.UpHistory.{UpHistory}
use Rattle.mux_agree.specs.Walk.{joined, kept_up}
use Rattle.rolling_audit.specs.Whole.{TakesEach, TakesWhole}
use Rattle.rolling_audit.proofs.Whole.{takes_history, takes_no_history}
use Rattle.rolling_audit.proofs.verdict.take_ups.Goals as goal

pub loop-up-init : goal.loop-up-init
loop-up-init c = takes_no_history c.args.audit.now

pub loop-up-preserved : goal.loop-up-preserved
loop-up-preserved c =
    takes_history kept_up c.args.audit.now c.loop-up.audit c.take_whole.new.audit c.args.ups.now c.loop-up.up-index c.up-item.result c.loop-up-test.true
    c.loop-up.invariant
    (subst (λ (h : UpHistory). TakesWhole c.loop-up.audit (kept_up h) c.take_whole.new.audit) c.up-item.is
    (subst (λ es. TakesWhole c.loop-up.audit (record { session = (kept_up c.up-item.result).session; mode = (kept_up c.up-item.result).mode; records = joined es }) c.take_whole.new.audit)
    c.deref.ensures.value (c.take_whole.ensures c.if-not-take_whole.false)))

pub returns : goal.returns
returns c =
    λ h. subst (λ l. TakesEach c.args.audit.now (map kept_up l) c.loop-up.audit) (take_all c.loop-up.up-index c.args.ups.now c.loop-up-test.false)
    c.loop-up.invariant
