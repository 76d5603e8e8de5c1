use Rattle.std.proofs.Common.{List, ℕ, Bor, ap, length, option_map, vec_len}
use Rattle.hub_base.specs.Batching.{Batched}
use Rattle.hub_base.specs.declared.errands.Back.TheVariants as why
use Rattle.hub_delivery.proofs.Carrying.{aims_chosen, back_no_reply, sent_no_reply}
use Rattle.hub_delivery.proofs.Claims.{back_claims, sent_claims}
use Rattle.hub_delivery.proofs.slots.Slots.aim.Goals as goal

pub returns-in-Some-choose-clause-aims : goal.returns-in-Some-choose-clause-aims
returns-in-Some-choose-clause-aims g c =
    aims_chosen (vec_len c.args.self.now.ups) (length c.deref.result.now) c.args.but _ c.in-Some.servers.now c.choose.result
    c.in-Some-choose.place c.number_at.result c.args.at c.batch.inside.errands.items c.args.batch.now.errands c.send.new.self.items
    (ap (option_map (λ (s : Bor (List ℕ)). s.now)) c.in-Some.is) c.deref.ensures.len c.choose.ensures
    c.in-Some-choose.is c.number_at.ensures (ap (λ (b : Batched). b.errands) c.batch.view_is) c.send.ensures.value

pub returns-in-Some-choose-clause-replies : goal.returns-in-Some-choose-clause-replies
returns-in-Some-choose-clause-replies g c = λ ticket is.
    sent_no_reply c.batch.inside.errands.items c.args.batch.now.errands c.send.new.self.items c.args.at c.number_at.result ticket
    (ap (λ (b : Batched). b.errands) c.batch.view_is) c.send.ensures.value is

pub returns-in-None-clause-replies : goal.returns-in-None-clause-replies
returns-in-None-clause-replies g c = λ ticket is.
    back_no_reply why.Unplaced c.batch.inside.errands.items c.args.batch.now.errands c.give_back-in-None.new.self.items c.args.at ticket
    (ap (λ (b : Batched). b.errands) c.batch.view_is) c.give_back-in-None.ensures.back is

pub returns-in-Some-choose-clause-claims : goal.returns-in-Some-choose-clause-claims
returns-in-Some-choose-clause-claims g c = λ ticket is v has.
    sent_claims c.batch.inside.errands.items c.args.batch.now.errands c.send.new.self.items c.args.at c.number_at.result ticket
    (ap (λ (b : Batched). b.errands) c.batch.view_is) c.send.ensures.value is v has

pub returns-in-None-clause-claims : goal.returns-in-None-clause-claims
returns-in-None-clause-claims g c = λ ticket is v has.
    back_claims why.Unplaced c.batch.inside.errands.items c.args.batch.now.errands c.give_back-in-None.new.self.items c.args.at
    (ap (λ (b : Batched). b.errands) c.batch.view_is) c.give_back-in-None.ensures.back v has

pub returns-in_default-clause-replies : goal.returns-in_default-clause-replies
returns-in_default-clause-replies g c = λ ticket is.
    back_no_reply why.Unrouted c.batch.inside.errands.items c.args.batch.now.errands c.give_back.new.self.items c.args.at ticket
    (ap (λ (b : Batched). b.errands) c.batch.view_is) c.give_back.ensures.back is

pub returns-in_default-clause-claims : goal.returns-in_default-clause-claims
returns-in_default-clause-claims g c = λ ticket is v has.
    back_claims why.Unrouted c.batch.inside.errands.items c.args.batch.now.errands c.give_back.new.self.items c.args.at
    (ap (λ (b : Batched). b.errands) c.batch.view_is) c.give_back.ensures.back v has
