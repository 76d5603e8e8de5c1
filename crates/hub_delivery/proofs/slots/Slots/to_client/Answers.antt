use Rattle.std.proofs.Common.{◌∙◌, ap, subst, sym, vec_len}
use Rattle.hub_base.specs.Batching.{Batched}
use Rattle.hub_base.specs.Errands.{client_of, errand_at}
use Rattle.hub_delivery.specs.Carrying.{Answered}
use Rattle.hub_delivery.specs.Carrying as carrying
use Rattle.hub_delivery.specs.Leaving.{HasClient, offer_of, refused_of, reply_of}
use Rattle.hub_delivery.proofs.Leaving.{down_clients, down_offers, down_refused, down_replies, gone_here, same_before}
use Rattle.hub_delivery.proofs.slots.Slots.to_client.Goals as goal

pub returns-in-Some-find_down-clause-answered : goal.returns-in-Some-find_down-clause-answered
returns-in-Some-find_down-clause-answered g c = λ xs done.
    let (s, t, steps, may_s, may_t) = c.answer_all.ensures.event in
    carrying.Answered.next c.in-Some.client s t steps may_s may_t
    (subst (λ (b : Batched). Answered xs b.errands) (sym c.batch.view_is) done)

pub returns-in-Some-find_down-clause-gone : goal.returns-in-Some-find_down-clause-gone
returns-in-Some-find_down-clause-gone g c =
    gone_here client_of (HasClient (vec_len c.args.self.now.downs)) c.batch.inside.errands.items c.answer_all.new.errands.items c.args.at
    c.in-Some.client
    (down_clients c.in-Some.client c.answer_all.ensures.event.0 c.batch.inside.errands.items c.answer_all.ensures.event.1
    c.answer_all.new.errands.items c.answer_all.ensures.event.2)
    (sym c.client.ensures ∙ c.in-Some.is) (c.answer_all.ensures.gone c.args.at)

pub returns-in-Some-find_down-clause-fewer : goal.returns-in-Some-find_down-clause-fewer
returns-in-Some-find_down-clause-fewer g c =
    same_before client_of _ _ c.batch.view_is _
    (down_clients c.in-Some.client c.answer_all.ensures.event.0 c.batch.inside.errands.items c.answer_all.ensures.event.1
    c.answer_all.new.errands.items c.answer_all.ensures.event.2)

pub returns-in-Some-find_down-clause-refused : goal.returns-in-Some-find_down-clause-refused
returns-in-Some-find_down-clause-refused g c =
    same_before refused_of _ _ c.batch.view_is _
    (down_refused c.in-Some.client c.answer_all.ensures.event.0 c.batch.inside.errands.items c.answer_all.ensures.event.1
    c.answer_all.new.errands.items c.answer_all.ensures.event.2)

pub returns-in-Some-find_down-clause-replies : goal.returns-in-Some-find_down-clause-replies
returns-in-Some-find_down-clause-replies g c =
    same_before reply_of _ _ c.batch.view_is _
    (down_replies c.in-Some.client c.answer_all.ensures.event.0 c.batch.inside.errands.items c.answer_all.ensures.event.1
    c.answer_all.new.errands.items c.answer_all.ensures.event.2)

pub returns-in-Some-find_down-clause-offers : goal.returns-in-Some-find_down-clause-offers
returns-in-Some-find_down-clause-offers g c = λ none.
    same_before offer_of _ _ c.batch.view_is _
    (down_offers c.in-Some.client c.answer_all.ensures.event.0 c.batch.inside.errands.items c.answer_all.ensures.event.1
    c.answer_all.new.errands.items c.answer_all.ensures.event.2
    (λ i found. none i c.in-Some.client
    (ap (λ (b : Batched). reply_of (errand_at b.errands i).to (errand_at b.errands i).value) (sym c.batch.view_is) ∙ found)
    c.in-Some-find_down.ensures.some))
