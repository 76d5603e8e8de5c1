use Rattle.std.proofs.Common.{sym, ◌∙◌, ap}
use Rattle.std.specs.Result.{result_err}
use Rattle.std.proofs.lemmas.Result.{err_from_is_err_and}
use Rattle.mux_agree.specs.Seen.{clients_of, records_of}
use Rattle.mux_agree.proofs.Walks.{client_more}
use Rattle.mux_agree.proofs.agreement.clients_agree.Goals as goal

pub returns-in_err-session_agrees : goal.returns-in_err-session_agrees
returns-in_err-session_agrees c =
    let more = client_more (clients_of c.args.all) (records_of c.args.all) c.args.all.downs.now c.loop-place.place c.down-item.result c.loop-place-test.true c.down-item.is
    c.deref.result.now c.deref.ensures.value _ (sym (ap result_err c.in_err-session_agrees.was) ∙ c.session_agrees.ensures) in
    let p = err_from_is_err_and c.from_residual.result c.from_residual.ensures.1 in
    rw (p.1, p.2) (sym (c.loop-place.invariant ∙ more))

pub loop-place-preserved : goal.loop-place-preserved
loop-place-preserved c =
    let more = client_more (clients_of c.args.all) (records_of c.args.all) c.args.all.downs.now c.loop-place.place c.down-item.result c.loop-place-test.true c.down-item.is
    c.deref.result.now c.deref.ensures.value _ (sym (ap result_err c.in_ok-session_agrees.was) ∙ c.session_agrees.ensures) in
    c.loop-place.invariant ∙ more
