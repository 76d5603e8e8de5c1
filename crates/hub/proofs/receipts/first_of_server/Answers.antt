use Rattle.hub.proofs.Telling.{right_up, wrong_up}
use Rattle.hub.proofs.receipts.first_of_server.Goals as goal

pub returns-clause-right : goal.returns-clause-right
returns-clause-right g c =
    right_up c.args.first c.args.ups.now c.args.seat.now c.wrong_of_server.result c.wrong_of_server.ensures.stand c.wrong_of_server.ensures.rise

pub returns-clause-wrong : goal.returns-clause-wrong
returns-clause-wrong g c = wrong_up c.args.first c.args.ups.now c.args.seat.now c.wrong_of_server.result c.wrong_of_server.ensures.some
