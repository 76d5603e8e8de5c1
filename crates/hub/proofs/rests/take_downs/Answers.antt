use Rattle.std.proofs.Common.{refl}
use Rattle.std.proofs.lemmas.Result.{err_from_is_err_and}
use Rattle.mux_history.specs.declared.session.SessionId.TheVariants.{Client}
use Rattle.hub.specs.Rests.{rests_of}
use Rattle.hub.proofs.Taking.{goes_on, session_next, stops_on}
use Rattle.hub.proofs.rests.take_downs.Goals as goal

pub returns-in_err-take_epochs-clause-err : goal.returns-in_err-take_epochs-clause-err
returns-in_err-take_epochs-clause-err c =
    let p = err_from_is_err_and c.from_residual.result c.from_residual.ensures.1 in
    let next = session_next (λ d. Client d.client) (λ d. d.epochs.items) _ _ _ c.args.downs.now c.loop-down.down-index _ _ _ c.loop-down-test.true
    c.down-item.is c.as_slice.ensures.value c.loop-down.invariant in
    rw (p.1, p.2) (stops_on _ _ _ _ _ _ next c.in_err-take_epochs.ensures.err)

pub loop-down-preserved : goal.loop-down-preserved
loop-down-preserved c =
    goes_on _ _ _ _ (rests_of (Client c.down-item.result.client) c.as_slice.result.now) _
    (session_next (λ d. Client d.client) (λ d. d.epochs.items) _ _ _ c.args.downs.now c.loop-down.down-index _ _ _ c.loop-down-test.true c.down-item.is
    c.as_slice.ensures.value c.loop-down.invariant) (c.in_ok-take_epochs.ensures.ok refl)
