use Rattle.std.proofs.Common.{◌≡◌, ◌∙◌, ℕ, ap, refl, subst, sym, vec_len}
use Rattle.std.specs.List.{list_all}
use Rattle.hub_base.specs.Batching.{Batched}
use Rattle.hub_base.specs.Errands.{client_of, is_nothing, server_of}
use Rattle.hub_base.specs.declared.errands.Errand.{Errand}
use Rattle.hub_delivery.specs.Carrying.{Carries, place_if}
use Rattle.hub_delivery.specs.Carrying as carrying
use Rattle.hub_delivery.specs.Leaving.{HasClient, HasServer, offer_of, refused_of, reply_of}
use Rattle.hub_delivery.proofs.Aiming.{none_aimed}
use Rattle.hub_delivery.proofs.Leaving.{no_more_since, no_offer, no_reply, none_left_for, none_since}
use Rattle.hub_delivery.proofs.slots.Slots.carry.Goals.{in-None, in-Some}
use Rattle.hub_delivery.proofs.slots.Slots.carry.Goals as goal

-- nothing is left once all replies were handed on
pub returns-then-to_clients-clause-carried : goal.returns-then-to_clients-clause-carried
returns-then-to_clients-clause-carried g c = carrying.Carries.answered c.to_clients.ensures.answered carrying.Carries.none

pub returns-then-to_clients-clause-servers : goal.returns-then-to_clients-clause-servers
returns-then-to_clients-clause-servers g c =
    none_left_for server_of (HasServer (vec_len c.args.self.now.ups)) c.to_clients.new.batch.errands (λ to. refl)
    (c.to_clients.ensures.done c.if-to_clients.true)

pub returns-then-to_clients-clause-refused : goal.returns-then-to_clients-clause-refused
returns-then-to_clients-clause-refused g c =
    none_left_for refused_of (λ by. Unit {0}) c.to_clients.new.batch.errands (λ to. refl)
    (c.to_clients.ensures.done c.if-to_clients.true)

-- nor is it once all places were noted
pub returns-then-to_clients-2-clause-servers : goal.returns-then-to_clients-2-clause-servers
returns-then-to_clients-2-clause-servers g c =
    none_left_for server_of (HasServer (vec_len c.args.self.now.ups)) c.to_clients-2.new.batch.errands (λ to. refl)
    (c.to_clients-2.ensures.done c.if-to_clients-2.true)

pub returns-then-to_clients-2-clause-refused : goal.returns-then-to_clients-2-clause-refused
returns-then-to_clients-2-clause-refused g c =
    none_left_for refused_of (λ by. Unit {0}) c.to_clients-2.new.batch.errands (λ to. refl)
    (c.to_clients-2.ensures.done c.if-to_clients-2.true)

pub returns-then-to_clients-2-clause-carried : goal.returns-then-to_clients-2-clause-carried
returns-then-to_clients-2-clause-carried g c =
    let but : c.match-but.but ≡ place_if (vec_len c.args.self.now.ups) c.args.but =
    elim c.match-but.branch [
      | in-Some w ↦ w.but-is ∙ w.place_of-but.ensures ∙ ap (place_if (vec_len c.args.self.now.ups)) (sym w.in-Some.is)
      | in-None w ↦ w.but-is ∙ ap (place_if (vec_len c.args.self.now.ups)) (sym w.in-None.is)
    ] in
    subst (λ b. Carries c.args.now (vec_len c.args.self.now.ups) b c.args.routes.now c.args.batch.now.errands
    c.try_others.new.routes c.to_clients-2.new.batch.errands) but
    (carrying.Carries.answered c.to_clients-2.ensures.answered
    (carrying.Carries.retried c.try_others.ensures.retried
    (carrying.Carries.served c.plan.ensures.chosen c.to_servers.ensures.served
    (carrying.Carries.aimed c.plan.ensures.aimed
    (carrying.Carries.answered c.to_clients.ensures.answered carrying.Carries.none)))))

-- all replies are handed on at first, and all dispatches offered next; so nothing is to be sent again, or noted, at last
pub returns-clause-clients : goal.returns-clause-clients
returns-clause-clients g c =
    let Client = HasClient (vec_len c.args.self.now.downs) in
    let Server : ℕ → Type 0 = HasServer (vec_len c.args.self.now.ups) in
    let replied = c.to_clients.new.batch.errands in
    let planned = c.plan.new.batch.errands in
    let offered = c.to_servers.new.batch.errands in
    let tried = c.try_others.new.batch.errands in
    let noted = c.to_clients-2.new.batch.errands in
    let no_replies =
    none_since reply_of Client offered tried c.try_others.ensures.replies
    (none_since reply_of Client planned offered c.to_servers.ensures.replies
    (none_since reply_of Client replied planned c.plan.ensures.replies (no_reply Client replied c.to_clients.ensures.gone))) in
    let no_offers =
    none_since offer_of Server tried noted (c.to_clients-2.ensures.offers no_replies)
    (none_since offer_of Server offered tried c.try_others.ensures.offers
    (no_offer Server offered c.to_servers.ensures.gone)) in
    none_since client_of Client noted c.to_servers-2.new.batch.errands (c.to_servers-2.ensures.clients no_offers)
    c.to_clients-2.ensures.gone

pub returns-clause-carried : goal.returns-clause-carried
returns-clause-carried g c =
    let but : c.match-but.but ≡ place_if (vec_len c.args.self.now.ups) c.args.but =
    elim c.match-but.branch [
      | in-Some w ↦ w.but-is ∙ w.place_of-but.ensures ∙ ap (place_if (vec_len c.args.self.now.ups)) (sym w.in-Some.is)
      | in-None w ↦ w.but-is ∙ ap (place_if (vec_len c.args.self.now.ups)) (sym w.in-None.is)
    ] in
    let Client = HasClient (vec_len c.args.self.now.downs) in
    let Server : ℕ → Type 0 = HasServer (vec_len c.args.self.now.ups) in
    let replied = c.to_clients.new.batch.errands in
    let planned = c.plan.new.batch.errands in
    let offered = c.to_servers.new.batch.errands in
    let tried = c.try_others.new.batch.errands in
    let noted = c.to_clients-2.new.batch.errands in
    let no_replies =
    none_since reply_of Client offered tried c.try_others.ensures.replies
    (none_since reply_of Client planned offered c.to_servers.ensures.replies
    (none_since reply_of Client replied planned c.plan.ensures.replies (no_reply Client replied c.to_clients.ensures.gone))) in
    let fewer =
    no_more_since offer_of offered tried noted c.try_others.ensures.offers (c.to_clients-2.ensures.offers no_replies) in
    let chosen =
    none_aimed (vec_len c.args.self.now.ups) c.match-but.but c.args.routes.now c.plan.new.routes c.try_others.new.routes
    planned noted c.plan.ensures.chosen (no_more_since offer_of planned offered noted c.to_servers.ensures.offers fewer)
    (none_since offer_of Server offered noted fewer (no_offer Server offered c.to_servers.ensures.gone)) in
    subst (λ b. Carries c.args.now (vec_len c.args.self.now.ups) b c.args.routes.now c.args.batch.now.errands
    c.try_others.new.routes c.to_servers-2.new.batch.errands) but
    (carrying.Carries.served chosen c.to_servers-2.ensures.served
    (carrying.Carries.answered c.to_clients-2.ensures.answered
    (carrying.Carries.retried c.try_others.ensures.retried
    (carrying.Carries.served c.plan.ensures.chosen c.to_servers.ensures.served
    (carrying.Carries.aimed c.plan.ensures.aimed
    (carrying.Carries.answered c.to_clients.ensures.answered carrying.Carries.none))))))

-- those that were refused are tried at others, and nothing is offered behind that
pub returns-clause-refused : goal.returns-clause-refused
returns-clause-refused g c =
    let Server : ℕ → Type 0 = HasServer (vec_len c.args.self.now.ups) in
    let offered = c.to_servers.new.batch.errands in
    let tried = c.try_others.new.batch.errands in
    let noted = c.to_clients-2.new.batch.errands in
    let replied = c.to_clients.new.batch.errands in
    let planned = c.plan.new.batch.errands in
    let Client = HasClient (vec_len c.args.self.now.downs) in
    let no_replies =
    none_since reply_of Client offered tried c.try_others.ensures.replies
    (none_since reply_of Client planned offered c.to_servers.ensures.replies
    (none_since reply_of Client replied planned c.plan.ensures.replies (no_reply Client replied c.to_clients.ensures.gone))) in
    let no_offers =
    none_since offer_of Server tried noted (c.to_clients-2.ensures.offers no_replies)
    (none_since offer_of Server offered tried c.try_others.ensures.offers (no_offer Server offered c.to_servers.ensures.gone)) in
    none_since refused_of (λ by. Unit {0}) noted c.to_servers-2.new.batch.errands (c.to_servers-2.ensures.refused no_offers)
    (none_since refused_of (λ by. Unit {0}) tried noted c.to_clients-2.ensures.refused c.try_others.ensures.refused)
