use Rattle.std.proofs.Common.{◌≡◌, slice_set, Ok, refl, sym, ap, ◌∙◌, subst, rules}
use Rattle.hub_base.specs.Errands.{client_at, client_of, errand_at}
use Rattle.hub_base.specs.declared.errands.Errand.{Errand}
use Rattle.hub_base.specs.declared.errands.Value.TheVariants as value
use Rattle.hub_base.proofs.Places.{put_over}
use Rattle.hub_steps.specs.Batches.{AnswersDown, after_note, after_settle}
use Rattle.hub_steps.specs.Batches as batches
use Rattle.hub_steps.proofs.Handing.{stood, others_stay, gone_down, no_down, put_back}
use Rattle.hub_steps.proofs.down_batch.answer_any.Goals.{After-put, After-put-in-Ok-Again, After-put-in_default}
use Rattle.hub_steps.proofs.down_batch.answer_any.Goals as goal

-- a recall is put in the place of what was handed on
recalled_there : (c : After-put) → c.put.new.self.items ≡ slice_set c.args.errands.now.items c.args.at (after_note c.note.result)
recalled_there c =
    put_over c.args.errands.now.items c.take-to.new.self.items c.put.new.self.items c.args.at c.recall.result _ c.take-to.ensures.left
    c.put.ensures.there (c.recall.ensures ∙ sym (ap after_note (c.in-Ok-Some.is ∙ ap (λ o. Ok o) c.in-Ok-Some.field-0-is)))

pub returns-in-Ok-Some-clause-event : goal.returns-in-Ok-Some-clause-event
returns-in-Ok-Some-clause-event c =
    batches.AnswersDown.note c.args.at c.in-Placed.placed c.note.result
    (stood _ c.take-to.result (value.Placed c.in-Placed.placed) c.take-to.ensures.value c.in-Placed.is)
    c.note.ensures.event c.note.ensures.none (recalled_there c) batches.AnswersDown.none

pub returns-in-Ok-Some-clause-gone : goal.returns-in-Ok-Some-clause-gone
returns-in-Ok-Some-clause-gone c = gone_down c.args.errands.now.items c.put.new.self.items c.args.at _ (recalled_there c ∙ ap (λ r. slice_set c.args.errands.now.items c.args.at (after_note r)) (c.in-Ok-Some.is ∙ ap (λ o. Ok o) c.in-Ok-Some.field-0-is)) refl

pub returns-in-Ok-Some-clause-others : goal.returns-in-Ok-Some-clause-others
returns-in-Ok-Some-clause-others c = others_stay c.args.errands.now.items c.put.new.self.items c.args.at _ (recalled_there c ∙ ap (λ r. slice_set c.args.errands.now.items c.args.at (after_note r)) (c.in-Ok-Some.is ∙ ap (λ o. Ok o) c.in-Ok-Some.field-0-is))

pub returns-in-Ok-None-clause-event : goal.returns-in-Ok-None-clause-event
returns-in-Ok-None-clause-event c =
    batches.AnswersDown.note c.args.at c.in-Placed.placed c.note.result
    (stood _ c.take-to.result (value.Placed c.in-Placed.placed) c.take-to.ensures.value c.in-Placed.is)
    c.note.ensures.event c.note.ensures.none (c.take-to.ensures.left ∙ sym (ap (λ r. slice_set c.args.errands.now.items c.args.at (after_note r)) (c.in-Ok-None.is ∙ ap (λ o. Ok o) c.in-Ok-None.field-0-is))) batches.AnswersDown.none

pub returns-in-Ok-None-clause-gone : goal.returns-in-Ok-None-clause-gone
returns-in-Ok-None-clause-gone c = gone_down c.args.errands.now.items c.take-to.new.self.items c.args.at _ c.take-to.ensures.left refl

pub returns-in-Ok-None-clause-others : goal.returns-in-Ok-None-clause-others
returns-in-Ok-None-clause-others c = others_stay c.args.errands.now.items c.take-to.new.self.items c.args.at _ c.take-to.ensures.left

pub returns-in-Err-clause-event : goal.returns-in-Err-clause-event
returns-in-Err-clause-event c =
    batches.AnswersDown.note c.args.at c.in-Placed.placed c.note.result
    (stood _ c.take-to.result (value.Placed c.in-Placed.placed) c.take-to.ensures.value c.in-Placed.is)
    c.note.ensures.event c.note.ensures.none (c.take-to.ensures.left ∙ sym (ap (λ r. slice_set c.args.errands.now.items c.args.at (after_note r)) c.in-Err.is)) batches.AnswersDown.none

pub returns-in-Err-clause-gone : goal.returns-in-Err-clause-gone
returns-in-Err-clause-gone c = gone_down c.args.errands.now.items c.take-to.new.self.items c.args.at _ c.take-to.ensures.left refl

pub returns-in-Err-clause-others : goal.returns-in-Err-clause-others
returns-in-Err-clause-others c = others_stay c.args.errands.now.items c.take-to.new.self.items c.args.at _ c.take-to.ensures.left

-- a dispatch that is to be sent again is put in the place of what was handed on
again_there : (c : After-put-in-Ok-Again)
    → c.put-in-Ok-Again.new.self.items ≡ slice_set c.args.errands.now.items c.args.at (after_settle c.settle.result)
again_there c =
    put_over c.args.errands.now.items c.take-to.new.self.items c.put-in-Ok-Again.new.self.items c.args.at c.ticket.result _
    c.take-to.ensures.left c.put-in-Ok-Again.ensures.there (c.ticket.ensures ∙ sym (ap after_settle (c.in-Ok-Again.is ∙ ap (λ o. Ok o) c.in-Ok-Again.field-0-is)))

pub returns-in-Ok-Again-clause-event : goal.returns-in-Ok-Again-clause-event
returns-in-Ok-Again-clause-event c =
    batches.AnswersDown.settle c.args.at c.in-Reply.settled c.settle.result
    (stood _ c.take-to.result (value.Reply c.in-Reply.settled) c.take-to.ensures.value c.in-Reply.is)
    c.settle.ensures.event c.settle.ensures.none (again_there c) batches.AnswersDown.none

pub returns-in-Ok-Again-clause-gone : goal.returns-in-Ok-Again-clause-gone
returns-in-Ok-Again-clause-gone c = gone_down c.args.errands.now.items c.put-in-Ok-Again.new.self.items c.args.at _ (again_there c ∙ ap (λ r. slice_set c.args.errands.now.items c.args.at (after_settle r)) (c.in-Ok-Again.is ∙ ap (λ o. Ok o) c.in-Ok-Again.field-0-is)) refl

pub returns-in-Ok-Again-clause-others : goal.returns-in-Ok-Again-clause-others
returns-in-Ok-Again-clause-others c = others_stay c.args.errands.now.items c.put-in-Ok-Again.new.self.items c.args.at _ (again_there c ∙ ap (λ r. slice_set c.args.errands.now.items c.args.at (after_settle r)) (c.in-Ok-Again.is ∙ ap (λ o. Ok o) c.in-Ok-Again.field-0-is))

pub returns-in-Ok-Answered-clause-event : goal.returns-in-Ok-Answered-clause-event
returns-in-Ok-Answered-clause-event c =
    batches.AnswersDown.settle c.args.at c.in-Reply.settled c.settle.result
    (stood _ c.take-to.result (value.Reply c.in-Reply.settled) c.take-to.ensures.value c.in-Reply.is)
    c.settle.ensures.event c.settle.ensures.none (c.take-to.ensures.left ∙ sym (ap (λ r. slice_set c.args.errands.now.items c.args.at (after_settle r)) (c.in-Ok-Answered.is ∙ ap (λ o. Ok o) c.in-Ok-Answered.field-0-is))) batches.AnswersDown.none

pub returns-in-Ok-Answered-clause-gone : goal.returns-in-Ok-Answered-clause-gone
returns-in-Ok-Answered-clause-gone c = gone_down c.args.errands.now.items c.take-to.new.self.items c.args.at _ (c.take-to.ensures.left) refl

pub returns-in-Ok-Answered-clause-others : goal.returns-in-Ok-Answered-clause-others
returns-in-Ok-Answered-clause-others c = others_stay c.args.errands.now.items c.take-to.new.self.items c.args.at _ (c.take-to.ensures.left)

pub returns-in-Ok-Late-clause-event : goal.returns-in-Ok-Late-clause-event
returns-in-Ok-Late-clause-event c =
    batches.AnswersDown.settle c.args.at c.in-Reply.settled c.settle.result
    (stood _ c.take-to.result (value.Reply c.in-Reply.settled) c.take-to.ensures.value c.in-Reply.is)
    c.settle.ensures.event c.settle.ensures.none (c.take-to.ensures.left ∙ sym (ap (λ r. slice_set c.args.errands.now.items c.args.at (after_settle r)) (c.in-Ok-Late.is ∙ ap (λ o. Ok o) c.in-Ok-Late.field-0-is))) batches.AnswersDown.none

pub returns-in-Ok-Late-clause-gone : goal.returns-in-Ok-Late-clause-gone
returns-in-Ok-Late-clause-gone c = gone_down c.args.errands.now.items c.take-to.new.self.items c.args.at _ (c.take-to.ensures.left) refl

pub returns-in-Ok-Late-clause-others : goal.returns-in-Ok-Late-clause-others
returns-in-Ok-Late-clause-others c = others_stay c.args.errands.now.items c.take-to.new.self.items c.args.at _ (c.take-to.ensures.left)

pub returns-in-Err-settle-clause-event : goal.returns-in-Err-settle-clause-event
returns-in-Err-settle-clause-event c =
    batches.AnswersDown.settle c.args.at c.in-Reply.settled c.settle.result
    (stood _ c.take-to.result (value.Reply c.in-Reply.settled) c.take-to.ensures.value c.in-Reply.is)
    c.settle.ensures.event c.settle.ensures.none (c.take-to.ensures.left ∙ sym (ap (λ r. slice_set c.args.errands.now.items c.args.at (after_settle r)) c.in-Err-settle.is)) batches.AnswersDown.none

pub returns-in-Err-settle-clause-gone : goal.returns-in-Err-settle-clause-gone
returns-in-Err-settle-clause-gone c = gone_down c.args.errands.now.items c.take-to.new.self.items c.args.at _ (c.take-to.ensures.left) refl

pub returns-in-Err-settle-clause-others : goal.returns-in-Err-settle-clause-others
returns-in-Err-settle-clause-others c = others_stay c.args.errands.now.items c.take-to.new.self.items c.args.at _ (c.take-to.ensures.left)

pub returns-in-Unplaced-clause-event : goal.returns-in-Unplaced-clause-event
returns-in-Unplaced-clause-event c =
    batches.AnswersDown.nack c.args.at c.in-Unplaced.ticket c.nack-answer.result
    (stood _ c.take-to.result (value.Unplaced c.in-Unplaced.ticket) c.take-to.ensures.value c.in-Unplaced.is)
    c.nack-answer.ensures.event c.nack-answer.ensures.none c.take-to.ensures.left batches.AnswersDown.none

pub returns-in-Unplaced-clause-gone : goal.returns-in-Unplaced-clause-gone
returns-in-Unplaced-clause-gone c = gone_down c.args.errands.now.items c.take-to.new.self.items c.args.at _ c.take-to.ensures.left refl

pub returns-in-Unplaced-clause-others : goal.returns-in-Unplaced-clause-others
returns-in-Unplaced-clause-others c = others_stay c.args.errands.now.items c.take-to.new.self.items c.args.at _ c.take-to.ensures.left

pub returns-in-Unrouted-clause-event : goal.returns-in-Unrouted-clause-event
returns-in-Unrouted-clause-event c =
    batches.AnswersDown.unroute c.args.at c.in-Unrouted.ticket c.unroute-answer.result
    (stood _ c.take-to.result (value.Unrouted c.in-Unrouted.ticket) c.take-to.ensures.value c.in-Unrouted.is)
    c.unroute-answer.ensures.event c.unroute-answer.ensures.none c.take-to.ensures.left batches.AnswersDown.none

pub returns-in-Unrouted-clause-gone : goal.returns-in-Unrouted-clause-gone
returns-in-Unrouted-clause-gone c = gone_down c.args.errands.now.items c.take-to.new.self.items c.args.at _ c.take-to.ensures.left refl

pub returns-in-Unrouted-clause-others : goal.returns-in-Unrouted-clause-others
returns-in-Unrouted-clause-others c = others_stay c.args.errands.now.items c.take-to.new.self.items c.args.at _ c.take-to.ensures.left

as_before : (c : After-put-in_default) → c.put-in_default.new.self.items ≡ c.args.errands.now.items
as_before c =
    put_back c.args.errands.now.items c.take-to.new.self.items c.put-in_default.new.self.items c.args.at c.take-to.result
    c.take-to.ensures.value c.take-to.ensures.left c.put-in_default.ensures.there

pub returns-in_default : goal.returns-in_default
returns-in_default c =
    record {
      event = subst (λ ys. AnswersDown (errand_at c.args.errands.now.items c.args.at).to c.args.slot.now c.args.errands.now.items c.args.slot.now ys) (sym (as_before c)) batches.AnswersDown.none;
      gone =
          ap (λ ys. client_at ys c.args.at) (as_before c) ∙ sym (ap (λ (e : Errand). client_of e.to e.value) c.take-to.ensures.value)
          ∙ no_down c.take-to.result.to c.take-to.result.value c.in_default.not-Placed c.in_default.not-Reply
          c.in_default.not-Unplaced c.in_default.not-Unrouted;
      others = λ i never. ap (λ ys. errand_at ys i) (as_before c);
      same = search rules;
    }
