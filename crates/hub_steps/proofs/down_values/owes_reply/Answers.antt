use Rattle.std.proofs.Common.{ap, sym, ◌∙◌}
use Rattle.std.specs.Option.{option_copied}
use Rattle.hub_steps.proofs.Handing.{passes}
use Rattle.hub_steps.proofs.down_values.owes_reply.Goals as goal

pub returns : goal.returns
returns c =
    passes c.owes_reply.result c.args.slot.now c.in-Some.session c.args.errands.now.items c.args.at c.in-Some-reply.settled.now
    c.in-Some.is (sym c.reply.ensures ∙ ap option_copied c.in-Some-reply.is) c.owes_reply.ensures.last c.owes_reply.ensures.due
