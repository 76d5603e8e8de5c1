use Rattle.std.proofs.Common.{◌≡◌, Bool, true, false, not, None, Err, slice_set, refl, sym, ap, ◌∙◌, subst, rules}
use Rattle.translate_book.specs.declared.refusal.OfferRefusal.TheVariants.{Closed}
use Rattle.hub_base.specs.Errands.{errand_at}
use Rattle.hub_base.specs.declared.errands.Errand.{Errand}
use Rattle.hub_base.specs.declared.errands.Value.TheVariants as value
use Rattle.hub_base.proofs.Places.{put_over}
use Rattle.hub_steps.specs.Batches.{ServesUp}
use Rattle.hub_steps.specs.Batches as batches
use Rattle.hub_steps.proofs.Handing.{is_for, stood_ticket, to_server}
use Rattle.hub_steps.proofs.up_batch.refuse_one.Goals as goal

pub returns-then-ne-clause-event : goal.returns-then-ne-clause-event
returns-then-ne-clause-event c = batches.ServesUp.none

pub returns-in-Some-clause-event : goal.returns-in-Some-clause-event
returns-in-Some-clause-event c =
    let for : (errand_at c.args.errands.now.items c.args.at).to ≡ c.args.server =
    to_server _ (errand_at c.args.errands.now.items c.args.at).value _
    (is_for _ c.server.result _ c.args.server refl (is_not_other _ (sym c.ne.ensures ∙ c.if-ne.false)) c.server.ensures) in
    batches.ServesUp.offer c.args.at c.in-Some.ticket (Err (Closed, c.in-Some.ticket))
    (stood_ticket _ c.in-Some.ticket c.in-Some.ensures.value ∙ ap (λ n. record { to = n; value = value.Ticket c.in-Some.ticket }) for)
    refl (λ none. refl)
    (put_over c.args.errands.now.items c.take_ticket.new.self.items c.put.new.self.items c.args.at c.refused.result _
    (c.in-Some.ensures.left refl) c.put.ensures.there c.refused.ensures)
    batches.ServesUp.none
  where
    is_not_other : (b : Bool) → not b ≡ false → b ≡ true
    is_not_other true is = refl
    is_not_other false is = sym is

pub returns-in_default-clause-event : goal.returns-in_default-clause-event
returns-in_default-clause-event c =
    subst (λ ys. ServesUp c.args.now c.args.server None c.args.errands.now.items None ys) (sym c.in_default.ensures.none) batches.ServesUp.none
