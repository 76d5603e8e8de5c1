use Rattle.std.proofs.Common.{rules, length, refl, sym}
use Rattle.std.specs.Prelude.{option_map}
use Rattle.std.proofs.lemmas.Option.{slice_get_read}
use Rattle.hub.specs.Rests.{first_left}
use Rattle.hub.proofs.Telling.{wrong_up_at}
use Rattle.hub.proofs.receipts.first_of_servers.Goals as goal

pub returns-in-Some-clause-some : goal.returns-in-Some-clause-some
returns-in-Some-clause-some g c =
    let seats = c.args.seats.now.items in
    let seat = c.index-seat.result.now in
    let own = c.server-number.ensures.is in
    let there = slice_get_read seats (length seats) c.loop-i.i seat refl (search rules) c.index-seat.ensures in
    let wrong = wrong_up_at (first_left (option_map (λ a. a.now) c.args.audit)) c.args.ups.now seat c.server-number.result
    c.first_epoch_left-first.result c.in-Some.place own c.first_epoch_left-first.ensures c.in-Some.ensures.wrong in
    (c.loop-i.i, (seat, there, sym own, wrong))
