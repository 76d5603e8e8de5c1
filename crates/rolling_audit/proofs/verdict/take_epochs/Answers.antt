use Rattle.std.proofs.Common.{subst, ap, ◌∙◌, rules}
use Rattle.std.proofs.lemmas.List.{take_all}
use Rattle.mux_agree.specs.Walk.{joined}
use Rattle.rolling_audit.specs.Steps.{TakesAll}
use Rattle.rolling_audit.proofs.Whole.{takes_epoch, takes_no_epoch}
use Rattle.rolling_audit.proofs.verdict.take_epochs.Goals as goal

pub loop-epoch-init : goal.loop-epoch-init
loop-epoch-init c = takes_no_epoch c.args.audit.now c.args.session

pub loop-epoch-preserved : goal.loop-epoch-preserved
loop-epoch-preserved c =
    takes_epoch c.args.audit.now c.loop-epoch.audit c.take.new.self c.args.session c.args.epochs.now c.loop-epoch.epoch-index c.epoch-item.result c.loop-epoch-test.true
    c.loop-epoch.invariant
    (subst (λ rs. TakesAll c.loop-epoch.audit c.args.session rs c.take.new.self) (c.records.ensures.value ∙ ap (λ h. h.records) c.epoch-item.is)
    (c.take.ensures.ok (search rules)))

pub returns : goal.returns
returns c =
    λ h. subst (λ l. TakesAll c.args.audit.now c.args.session (joined l) c.loop-epoch.audit) (take_all c.loop-epoch.epoch-index c.args.epochs.now c.loop-epoch-test.false)
    c.loop-epoch.invariant
