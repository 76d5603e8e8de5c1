use Rattle.std.proofs.Common.{◌≡◌, ◌∙◌, ap, ℕ, None, Some, subst, sym, vec_len}
use Rattle.std.proofs.lemmas.Option.{none-some}
use Rattle.hub_base.specs.Batching.{Batched}
use Rattle.hub_base.specs.Errands.{client_of, errand_at, server_at, server_of}
use Rattle.hub_places.specs.Numbering.{KeepsUp}
use Rattle.hub_delivery.specs.Carrying.{Served}
use Rattle.hub_delivery.specs.Carrying as carrying
use Rattle.hub_delivery.specs.Leaving.{HasServer, NoMore, offer_of, refused_of, reply_of}
use Rattle.hub_delivery.proofs.Leaving.{gone_here, no_more_since, same_before, up_clients, up_offers, up_refused, up_replies, up_servers}
use Rattle.hub_delivery.proofs.slots.Slots.to_server.Given.{Over}
use Rattle.hub_delivery.proofs.slots.Slots.to_server.Goals.{After-serve_all}
use Rattle.hub_delivery.proofs.slots.Slots.to_server.Goals as goal

fewer_servers : (g : Over) (c : After-serve_all g) → NoMore server_of c.args.batch.now.errands c.serve_all.new.errands.items
fewer_servers g c =
    no_more_since server_of _ _ _
    (up_servers c.args.now c.in-Some.server None _ None _ c.refuse_backlogged.ensures.event)
    (same_before server_of _ _ c.batch-in-Some-find_up.view_is _
    (up_servers c.args.now c.in-Some.server c.serve_all.ensures.event.0 c.batch-in-Some-find_up.inside.errands.items c.serve_all.ensures.event.1
    c.serve_all.new.errands.items c.serve_all.ensures.event.2))

-- a slot with no session
nobody : {server : ℕ} → KeepsUp server None
nobody = (tt, λ k is. absurd (none-some k is))

pub returns-in-Some-find_up-clause-served : goal.returns-in-Some-find_up-clause-served
returns-in-Some-find_up-clause-served g c = λ xs done.
    let (s, t, steps, may_s, may_t) = c.serve_all.ensures.event in
    carrying.Served.next c.in-Some.server s t steps may_s may_t
    (subst (λ (b : Batched). Served c.args.now xs b.errands) (sym c.batch-in-Some-find_up.view_is)
    (carrying.Served.next c.in-Some.server None None c.refuse_backlogged.ensures.event nobody nobody done))

pub returns-in-Some-find_up-clause-gone : goal.returns-in-Some-find_up-clause-gone
returns-in-Some-find_up-clause-gone g c =
    gone_here server_of (HasServer (vec_len c.args.self.now.ups)) c.args.batch.now.errands c.serve_all.new.errands.items c.args.at
    c.in-Some.server (fewer_servers g c) (ap (λ (b : Batched). server_at b.errands c.args.at) (sym c.batch.view_is) ∙ sym c.server.ensures ∙ c.in-Some.is) (c.serve_all.ensures.gone c.args.at)

pub returns-in-Some-find_up-clause-fewer : goal.returns-in-Some-find_up-clause-fewer
returns-in-Some-find_up-clause-fewer g c = fewer_servers g c

pub returns-in-Some-find_up-clause-replies : goal.returns-in-Some-find_up-clause-replies
returns-in-Some-find_up-clause-replies g c =
    no_more_since reply_of _ _ _
    (up_replies c.args.now c.in-Some.server None _ None _ c.refuse_backlogged.ensures.event)
    (same_before reply_of _ _ c.batch-in-Some-find_up.view_is _
    (up_replies c.args.now c.in-Some.server c.serve_all.ensures.event.0 c.batch-in-Some-find_up.inside.errands.items c.serve_all.ensures.event.1
    c.serve_all.new.errands.items c.serve_all.ensures.event.2))

fewer_offers : (g : Over) (c : After-serve_all g) → NoMore offer_of c.args.batch.now.errands c.refuse_backlogged.new.batch.errands
fewer_offers g c = up_offers c.args.now c.in-Some.server None _ None _ c.refuse_backlogged.ensures.event

pub returns-in-Some-find_up-clause-offers : goal.returns-in-Some-find_up-clause-offers
returns-in-Some-find_up-clause-offers g c =
    no_more_since offer_of _ _ _ (fewer_offers g c)
    (same_before offer_of _ _ c.batch-in-Some-find_up.view_is _
    (up_offers c.args.now c.in-Some.server c.serve_all.ensures.event.0 c.batch-in-Some-find_up.inside.errands.items c.serve_all.ensures.event.1
    c.serve_all.new.errands.items c.serve_all.ensures.event.2))

pub returns-in-Some-find_up-clause-refused : goal.returns-in-Some-find_up-clause-refused
returns-in-Some-find_up-clause-refused g c = λ none.
    no_more_since refused_of _ _ _
    (up_refused c.args.now c.in-Some.server None _ None _ c.refuse_backlogged.ensures.event
    (λ i found. none i c.in-Some.server found c.in-Some-find_up.ensures.some))
    (same_before refused_of _ _ c.batch-in-Some-find_up.view_is _
    (up_refused c.args.now c.in-Some.server c.serve_all.ensures.event.0 c.batch-in-Some-find_up.inside.errands.items c.serve_all.ensures.event.1
    c.serve_all.new.errands.items c.serve_all.ensures.event.2
    (λ i found. none i c.in-Some.server
    (fewer_offers g c i _ (ap (λ (b : Batched). offer_of (errand_at b.errands i).to (errand_at b.errands i).value) (sym c.batch-in-Some-find_up.view_is) ∙ found))
    c.in-Some-find_up.ensures.some)))

pub returns-in-Some-find_up-clause-clients : goal.returns-in-Some-find_up-clause-clients
returns-in-Some-find_up-clause-clients g c = λ none.
    no_more_since client_of _ _ _
    (up_clients c.args.now c.in-Some.server None _ None _ c.refuse_backlogged.ensures.event
    (λ i found. none i c.in-Some.server found c.in-Some-find_up.ensures.some))
    (same_before client_of _ _ c.batch-in-Some-find_up.view_is _
    (up_clients c.args.now c.in-Some.server c.serve_all.ensures.event.0 c.batch-in-Some-find_up.inside.errands.items c.serve_all.ensures.event.1
    c.serve_all.new.errands.items c.serve_all.ensures.event.2
    (λ i found. none i c.in-Some.server
    (fewer_offers g c i _ (ap (λ (b : Batched). offer_of (errand_at b.errands i).to (errand_at b.errands i).value) (sym c.batch-in-Some-find_up.view_is) ∙ found))
    c.in-Some-find_up.ensures.some)))
