use Rattle.std.proofs.Common.{◌≡◌, slice_set, Ok, refl, ap, ◌∙◌}
use Rattle.hub_base.specs.Errands.{errand_at, placing}
use Rattle.hub_base.proofs.Places.{put_over}
use Rattle.hub_steps.specs.Batches as batches
use Rattle.hub_steps.proofs.Handing.{done_here, others_stay, gone_up, is_there, stood_ticket}
use Rattle.hub_steps.proofs.up_batch.send_here.Goals as goal
use Rattle.hub_steps.proofs.up_batch.send_here.Goals.{After-fill}

placed_there : (c : After-fill) → c.fill.new.self.items ≡ slice_set c.args.errands.now.items c.args.at (placing c.send-placed.result)
placed_there c =
    put_over c.args.errands.now.items c.take_ticket.new.self.items c.fill.new.self.items c.args.at c.placed.result _
    (c.in-Some.ensures.left refl) c.fill.ensures.there c.placed.ensures

pub fill-requires : goal.fill-requires
fill-requires c = ap (λ xs. errand_at xs c.args.at) (c.in-Some.ensures.left refl) ∙ done_here c.args.errands.now.items c.args.at

pub returns-clause-event : goal.returns-clause-event
returns-clause-event c =
    batches.ServesUp.offer c.args.at c.in-Some.ticket (Ok c.send-placed.result) (stood_ticket _ c.in-Some.ticket c.in-Some.ensures.value)
    c.send-placed.ensures.event (λ none. absurd (is_there c.args.slot.now _ c.requires.3 none)) (placed_there c) batches.ServesUp.none

pub returns-clause-gone : goal.returns-clause-gone
returns-clause-gone c = gone_up c.args.errands.now.items c.fill.new.self.items c.args.at _ (placed_there c) refl

pub returns-clause-others : goal.returns-clause-others
returns-clause-others c = others_stay c.args.errands.now.items c.fill.new.self.items c.args.at _ (placed_there c)
