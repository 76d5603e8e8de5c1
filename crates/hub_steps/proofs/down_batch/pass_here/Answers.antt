use Rattle.std.proofs.Common.{Ok, refl}
use Rattle.server_session.specs.declared.answers.Answer.TheVariants as whether
use Rattle.hub_steps.specs.Batches as batches
use Rattle.hub_steps.proofs.Handing.{others_stay, gone_down, is_there, stood_reply}
use Rattle.hub_steps.proofs.down_batch.pass_here.Goals as goal

pub returns-clause-event : goal.returns-clause-event
returns-clause-event c =
    batches.AnswersDown.settle c.args.at c.in-Some.settled (Ok whether.Answered) (stood_reply _ c.in-Some.settled c.in-Some.ensures.value)
    c.pass_owed.ensures.event (λ none. absurd (is_there c.args.slot.now _ c.requires.3 none)) (c.in-Some.ensures.left refl)
    batches.AnswersDown.none

pub returns-clause-gone : goal.returns-clause-gone
returns-clause-gone c = gone_down c.args.errands.now.items c.take_reply.new.self.items c.args.at _ (c.in-Some.ensures.left refl) refl

pub returns-clause-others : goal.returns-clause-others
returns-clause-others c = others_stay c.args.errands.now.items c.take_reply.new.self.items c.args.at _ (c.in-Some.ensures.left refl)
