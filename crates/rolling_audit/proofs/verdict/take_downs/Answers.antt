use Rattle.std.proofs.Common.{subst}
use Rattle.std.specs.Prelude.{map}
use Rattle.std.proofs.lemmas.List.{take_all}
use Rattle.mux_agree.specs.declared.agreement.histories.DownHistory.{DownHistory}
use Rattle.mux_agree.specs.Walk.{joined, kept_down}
use Rattle.rolling_audit.specs.Whole.{TakesEach, TakesWhole}
use Rattle.rolling_audit.proofs.Whole.{takes_history, takes_no_history}
use Rattle.rolling_audit.proofs.verdict.take_downs.Goals as goal

pub loop-down-init : goal.loop-down-init
loop-down-init c = takes_no_history c.args.audit.now

pub loop-down-preserved : goal.loop-down-preserved
loop-down-preserved c =
    takes_history kept_down c.args.audit.now c.loop-down.audit c.take_whole.new.audit c.args.downs.now c.loop-down.down-index c.down-item.result c.loop-down-test.true
    c.loop-down.invariant
    (subst (λ (h : DownHistory). TakesWhole c.loop-down.audit (kept_down h) c.take_whole.new.audit) c.down-item.is
    (subst (λ es. TakesWhole c.loop-down.audit (record { session = (kept_down c.down-item.result).session; mode = (kept_down c.down-item.result).mode; records = joined es }) c.take_whole.new.audit)
    c.deref.ensures.value (c.take_whole.ensures c.if-not-take_whole.false)))

pub returns : goal.returns
returns c =
    λ h. subst (λ l. TakesEach c.args.audit.now (map kept_down l) c.loop-down.audit) (take_all c.loop-down.down-index c.args.downs.now c.loop-down-test.false)
    c.loop-down.invariant
