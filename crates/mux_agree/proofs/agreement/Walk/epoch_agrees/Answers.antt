use Rattle.std.proofs.Common.{sym, ◌∙◌, ◌+◌, ap, Some}
use Rattle.mux_agree.specs.Seen.{clients_of, records_of}
use Rattle.mux_agree.specs.Walk.{joined}
use Rattle.mux_agree.proofs.Walks.{first_left, left_from, left_more, told_else}
use Rattle.mux_agree.proofs.agreement.Walk.epoch_agrees.Goals as goal

pub returns-in-Some : goal.returns-in-Some
returns-in-Some c =
    let walk = c.args.self in
    let clients = clients_of walk.all in
    let all = records_of walk.all in
    let earlier = records_of walk.earlier in
    let older = joined c.args.older.now in
    let k = c.loop-place.place in
    let more = left_more clients all earlier walk.session walk.mode older c.args.records.now k c.index-records-place.result c.loop-place-test.true c.index-records-place.is
    c.cause.result c.cause.ensures in
    (λ i. Some (record { session = walk.session; place = c.place.ensures i; cause = c.in-Some.cause }))
    ∙ sym (sym (left_from clients all earlier walk.session walk.mode older c.args.records.now)
    ∙ (c.loop-place.invariant
    ∙ (more ∙ ap (λ o. told_else walk.session older c.args.records.now k o (first_left clients all earlier walk.session walk.mode older c.args.records.now (k + 1))) c.in-Some.is)))
