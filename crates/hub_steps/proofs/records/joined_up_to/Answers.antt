use Rattle.std.proofs.Common.{◌∙◌, ap, refl, take}
use Rattle.std.proofs.lemmas.List.{take_all}
use Rattle.mux_agree.specs.Walk.{joined}
use Rattle.hub_steps.proofs.Filling.{filled_epoch, filled_on}
use Rattle.hub_steps.proofs.records.joined_up_to.Goals as goal

pub loop-epoch-preserved : goal.loop-epoch-preserved
loop-epoch-preserved c =
    filled_epoch _ _ _ _ _ _ _ c.loop-epoch-test.true c.loop-epoch.invariant
    (c.records.ensures.value ∙ ap (λ h. h.records) c.epoch-item.is) c.in_ok-fill.ensures

pub returns : goal.returns
returns c =
    let whole = take_all c.loop-epoch.epoch-index c.args.epochs.now c.loop-epoch-test.false in
    filled_on _ _ _ _ _ _ (c.loop-epoch.invariant ∙ ap (λ hs. take c.args.most (joined hs)) whole) refl c.in_ok-fill-2.ensures
