use Rattle.std.proofs.Common.{refl}
use Rattle.std.proofs.lemmas.Result.{err_from_is_err_and}
use Rattle.hub.specs.Rests.{down_rests, rests, up_rests}
use Rattle.hub.proofs.Taking.{goes_on, none_yet, stops_last, stops_on, takes_both}
use Rattle.hub.proofs.rests.take_rests.Goals as goal

pub returns-in_err-take_downs-clause-err : goal.returns-in_err-take_downs-clause-err
returns-in_err-take_downs-clause-err c =
    let p = err_from_is_err_and c.from_residual.result c.from_residual.ensures.1 in
    let downs = c.args.downs.now in
    let ups = c.args.ups.now in
    rw (p.1, p.2)
    (stops_on _ _ _ (rests downs ups) (down_rests downs) (up_rests ups) (none_yet c.args.audit.now (rests downs ups))
    c.in_err-take_downs.ensures.err)

pub returns-clause-ok : goal.returns-clause-ok
returns-clause-ok c =
    λ ok.
    takes_both _ _ _ (down_rests c.args.downs.now) (up_rests c.args.ups.now) (c.in_ok-take_downs.ensures.ok refl) (c.take_ups.ensures.ok ok)

pub returns-clause-err : goal.returns-clause-err
returns-clause-err c =
    let downs = c.args.downs.now in
    let ups = c.args.ups.now in
    stops_last c.take_ups.result _ _ (rests downs ups) (up_rests ups)
    (goes_on _ _ _ (rests downs ups) (down_rests downs) (up_rests ups) (none_yet c.args.audit.now (rests downs ups))
    (c.in_ok-take_downs.ensures.ok refl)) c.take_ups.ensures.err
