use Rattle.std.proofs.Common.{◌≡◌, slice_set, refl, sym, ap, ◌∙◌, subst, rules}
use Rattle.hub_base.specs.Errands.{errand_at, server_at, server_of}
use Rattle.hub_base.specs.declared.errands.Errand.{Errand}
use Rattle.hub_base.specs.declared.errands.Value.TheVariants as value
use Rattle.hub_base.proofs.Places.{put_over}
use Rattle.hub_steps.specs.Batches.{ServesUp, after_offer}
use Rattle.hub_steps.specs.Batches as batches
use Rattle.hub_steps.proofs.Handing.{stood, others_stay, gone_up, no_up, put_back}
use Rattle.hub_steps.proofs.up_batch.serve_any.Goals.{After-put, After-put-in-Err, After-put-in_default}
use Rattle.hub_steps.proofs.up_batch.serve_any.Goals as goal

placed_there : (c : After-put)
    → c.put.new.self.items ≡ slice_set c.args.errands.now.items c.args.at (after_offer c.take-to.result.to c.offer.result)
placed_there c =
    put_over c.args.errands.now.items c.take-to.new.self.items c.put.new.self.items c.args.at c.placed.result _ c.take-to.ensures.left
    c.put.ensures.there (c.placed.ensures ∙ sym (ap (after_offer c.take-to.result.to) c.in-Ok.is))

refused_there : (c : After-put-in-Err)
    → c.put-in-Err.new.self.items ≡ slice_set c.args.errands.now.items c.args.at (after_offer c.take-to.result.to c.offer.result)
refused_there c =
    put_over c.args.errands.now.items c.take-to.new.self.items c.put-in-Err.new.self.items c.args.at c.refused.result _
    c.take-to.ensures.left c.put-in-Err.ensures.there (c.refused.ensures ∙ sym (ap (after_offer c.take-to.result.to) c.in-Err.is))

pub returns-in-Ok-clause-event : goal.returns-in-Ok-clause-event
returns-in-Ok-clause-event c =
    batches.ServesUp.offer c.args.at c.in-Ticket.ticket c.offer.result
    (stood _ c.take-to.result (value.Ticket c.in-Ticket.ticket) c.take-to.ensures.value c.in-Ticket.is)
    c.offer.ensures.event c.offer.ensures.none
    (placed_there c ∙ ap (λ (e : Errand). slice_set c.args.errands.now.items c.args.at (after_offer e.to c.offer.result)) c.take-to.ensures.value)
    batches.ServesUp.none

pub returns-in-Ok-clause-gone : goal.returns-in-Ok-clause-gone
returns-in-Ok-clause-gone c =
    gone_up c.args.errands.now.items c.put.new.self.items c.args.at _
    (placed_there c ∙ ap (λ r. slice_set c.args.errands.now.items c.args.at (after_offer c.take-to.result.to r)) c.in-Ok.is) refl

pub returns-in-Ok-clause-others : goal.returns-in-Ok-clause-others
returns-in-Ok-clause-others c = others_stay c.args.errands.now.items c.put.new.self.items c.args.at _ (placed_there c)

pub returns-in-Err-clause-event : goal.returns-in-Err-clause-event
returns-in-Err-clause-event c =
    batches.ServesUp.offer c.args.at c.in-Ticket.ticket c.offer.result
    (stood _ c.take-to.result (value.Ticket c.in-Ticket.ticket) c.take-to.ensures.value c.in-Ticket.is)
    c.offer.ensures.event c.offer.ensures.none
    (refused_there c ∙ ap (λ (e : Errand). slice_set c.args.errands.now.items c.args.at (after_offer e.to c.offer.result)) c.take-to.ensures.value)
    batches.ServesUp.none

pub returns-in-Err-clause-gone : goal.returns-in-Err-clause-gone
returns-in-Err-clause-gone c =
    gone_up c.args.errands.now.items c.put-in-Err.new.self.items c.args.at _
    (refused_there c ∙ ap (λ r. slice_set c.args.errands.now.items c.args.at (after_offer c.take-to.result.to r)) c.in-Err.is) refl

pub returns-in-Err-clause-others : goal.returns-in-Err-clause-others
returns-in-Err-clause-others c = others_stay c.args.errands.now.items c.put-in-Err.new.self.items c.args.at _ (refused_there c)

pub returns-in-Recall-clause-event : goal.returns-in-Recall-clause-event
returns-in-Recall-clause-event c =
    batches.ServesUp.recall c.args.at c.in-Recall.value c.recall-recalled.result
    (stood _ c.take-to.result (value.Recall c.in-Recall.value) c.take-to.ensures.value c.in-Recall.is)
    c.recall-recalled.ensures.event c.recall-recalled.ensures.none c.take-to.ensures.left batches.ServesUp.none

pub returns-in-Recall-clause-gone : goal.returns-in-Recall-clause-gone
returns-in-Recall-clause-gone c = gone_up c.args.errands.now.items c.take-to.new.self.items c.args.at _ c.take-to.ensures.left refl

pub returns-in-Recall-clause-others : goal.returns-in-Recall-clause-others
returns-in-Recall-clause-others c = others_stay c.args.errands.now.items c.take-to.new.self.items c.args.at _ c.take-to.ensures.left

as_before : (c : After-put-in_default) → c.put-in_default.new.self.items ≡ c.args.errands.now.items
as_before c =
    put_back c.args.errands.now.items c.take-to.new.self.items c.put-in_default.new.self.items c.args.at c.take-to.result
    c.take-to.ensures.value c.take-to.ensures.left c.put-in_default.ensures.there

pub returns-in_default : goal.returns-in_default
returns-in_default c =
    record {
      event = subst (λ ys. ServesUp c.args.now (errand_at c.args.errands.now.items c.args.at).to c.args.slot.now c.args.errands.now.items c.args.slot.now ys) (sym (as_before c)) batches.ServesUp.none;
      gone =
          ap (λ ys. server_at ys c.args.at) (as_before c) ∙ sym (ap (λ (e : Errand). server_of e.to e.value) c.take-to.ensures.value)
          ∙ no_up c.take-to.result.to c.take-to.result.value c.in_default.not-Ticket c.in_default.not-Recall;
      others = λ i never. ap (λ ys. errand_at ys i) (as_before c);
      same = search rules;
    }
