use Rattle.hub.proofs.Telling.{right_down, wrong_down}
use Rattle.hub.proofs.receipts.first_of_client.Goals as goal

pub returns-clause-right : goal.returns-clause-right
returns-clause-right g c =
    right_down c.args.first c.args.downs.now c.args.seat.now c.wrong_of_client.result c.wrong_of_client.ensures.stand c.wrong_of_client.ensures.rise

pub returns-clause-wrong : goal.returns-clause-wrong
returns-clause-wrong g c = wrong_down c.args.first c.args.downs.now c.args.seat.now c.wrong_of_client.result c.wrong_of_client.ensures.some
