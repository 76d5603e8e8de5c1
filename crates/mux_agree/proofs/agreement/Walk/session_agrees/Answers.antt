use Rattle.std.proofs.Common.{sym, ◌∙◌, ap}
use Rattle.std.specs.Result.{result_err}
use Rattle.std.proofs.lemmas.Result.{err_from_is_err_and}
use Rattle.mux_agree.specs.Seen.{clients_of, records_of}
use Rattle.mux_agree.proofs.Walks.{epochs_more}
use Rattle.mux_agree.proofs.agreement.Walk.session_agrees.Goals as goal

pub returns-in_err-epoch_agrees : goal.returns-in_err-epoch_agrees
returns-in_err-epoch_agrees c =
    let walk = c.args.self in
    let more = epochs_more (clients_of walk.all) (records_of walk.all) (records_of walk.earlier) walk.session walk.mode c.args.epochs.now
    c.loop-number.number c.index-epochs-number.result c.loop-number-test.true c.index-epochs-number.is c.records.result.now c.records.ensures.value
    _ (sym (ap result_err c.in_err-epoch_agrees.was) ∙ c.epoch_agrees.ensures) in
    let p = err_from_is_err_and c.from_residual.result c.from_residual.ensures.1 in
    rw (p.1, p.2) (sym (c.loop-number.invariant ∙ more))

pub loop-number-preserved : goal.loop-number-preserved
loop-number-preserved c =
    let walk = c.args.self in
    let more = epochs_more (clients_of walk.all) (records_of walk.all) (records_of walk.earlier) walk.session walk.mode c.args.epochs.now
    c.loop-number.number c.index-epochs-number.result c.loop-number-test.true c.index-epochs-number.is c.records.result.now c.records.ensures.value
    _ (sym (ap result_err c.in_ok-epoch_agrees.was) ∙ c.epoch_agrees.ensures) in
    c.loop-number.invariant ∙ more
