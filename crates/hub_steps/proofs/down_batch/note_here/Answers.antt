use Rattle.std.proofs.Common.{None, Ok, refl}
use Rattle.hub_steps.specs.Batches as batches
use Rattle.hub_steps.proofs.Handing.{others_stay, gone_down, is_there, stood_placed}
use Rattle.hub_steps.proofs.down_batch.note_here.Goals as goal

pub returns-clause-event : goal.returns-clause-event
returns-clause-event c =
    batches.AnswersDown.note c.args.at c.in-Some.placed (Ok None) (stood_placed _ c.in-Some.placed c.in-Some.ensures.value)
    c.note_owed.ensures.event (λ none. absurd (is_there c.args.slot.now _ c.requires.2 none)) (c.in-Some.ensures.left refl)
    batches.AnswersDown.none

pub returns-clause-gone : goal.returns-clause-gone
returns-clause-gone c = gone_down c.args.errands.now.items c.take_placed.new.self.items c.args.at _ (c.in-Some.ensures.left refl) refl

pub returns-clause-others : goal.returns-clause-others
returns-clause-others c = others_stay c.args.errands.now.items c.take_placed.new.self.items c.args.at _ (c.in-Some.ensures.left refl)
