use Rattle.hub_base.proofs.Places.{ticket_back, other_back}
use Rattle.hub_base.proofs.errands.Errands.give_back.Goals as goal

pub returns-in-Ticket-clause-back : goal.returns-in-Ticket-clause-back
returns-in-Ticket-clause-back c =
    ticket_back c.args.self.now.items c.take-to.new.self.items c.put.new.self.items c.args.at c.args.word c.take-to.result c.back.result
    c.in-Ticket.ticket c.take-to.ensures.value c.take-to.ensures.left c.in-Ticket.is c.back.ensures c.put.ensures.there

pub returns-in_default-clause-back : goal.returns-in_default-clause-back
returns-in_default-clause-back c =
    other_back c.args.self.now.items c.take-to.new.self.items c.put-in_default.new.self.items c.args.at c.args.word c.take-to.result
    c.take-to.ensures.value c.take-to.ensures.left c.in_default.not-Ticket c.put-in_default.ensures.there
