use Rattle.std.proofs.Common.{refl}
use Rattle.std.proofs.lemmas.Result.{err_from_is_err_and}
use Rattle.mux_history.specs.declared.session.SessionId.TheVariants.{Server}
use Rattle.hub.specs.Rests.{rests_of}
use Rattle.hub.proofs.Taking.{goes_on, session_next, stops_on}
use Rattle.hub.proofs.rests.take_ups.Goals as goal

pub returns-in_err-take_epochs-clause-err : goal.returns-in_err-take_epochs-clause-err
returns-in_err-take_epochs-clause-err c =
    let p = err_from_is_err_and c.from_residual.result c.from_residual.ensures.1 in
    let next = session_next (λ u. Server u.server) (λ u. u.epochs.items) _ _ _ c.args.ups.now c.loop-up.up-index _ _ _ c.loop-up-test.true
    c.up-item.is c.as_slice.ensures.value c.loop-up.invariant in
    rw (p.1, p.2) (stops_on _ _ _ _ _ _ next c.in_err-take_epochs.ensures.err)

pub loop-up-preserved : goal.loop-up-preserved
loop-up-preserved c =
    goes_on _ _ _ _ (rests_of (Server c.up-item.result.server) c.as_slice.result.now) _
    (session_next (λ u. Server u.server) (λ u. u.epochs.items) _ _ _ c.args.ups.now c.loop-up.up-index _ _ _ c.loop-up-test.true c.up-item.is
    c.as_slice.ensures.value c.loop-up.invariant) (c.in_ok-take_epochs.ensures.ok refl)
