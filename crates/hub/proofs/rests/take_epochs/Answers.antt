use Rattle.std.proofs.Common.{refl, ◌∷◌, []}
use Rattle.std.proofs.lemmas.Result.{err_from_is_err_and}
use Rattle.hub.proofs.Taking.{epoch_next, goes_on, stops_on}
use Rattle.hub.proofs.rests.take_epochs.Goals as goal

pub returns-in_err-take_next-clause-err : goal.returns-in_err-take_next-clause-err
returns-in_err-take_next-clause-err c =
    let p = err_from_is_err_and c.from_residual.result c.from_residual.ensures.1 in
    let next = epoch_next _ _ _ c.args.session c.args.epochs.now c.loop-epoch.epoch-index _ _ _ c.loop-epoch-test.true c.epoch-item.is
    c.records.ensures.value c.loop-epoch.invariant in
    rw (p.1, p.2) (stops_on _ _ _ _ _ _ next c.in_err-take_next.ensures.err)

pub loop-epoch-preserved : goal.loop-epoch-preserved
loop-epoch-preserved c =
    goes_on _ _ _ _ (record { session = c.args.session; records = c.records.result.now } ∷ []) _
    (epoch_next _ _ _ c.args.session c.args.epochs.now c.loop-epoch.epoch-index _ _ _ c.loop-epoch-test.true c.epoch-item.is c.records.ensures.value
    c.loop-epoch.invariant) (c.in_ok-take_next.ensures.ok refl)
