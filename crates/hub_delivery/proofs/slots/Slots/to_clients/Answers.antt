use Rattle.std.proofs.Common.{◌<◌, ap, arith, length, refl, rules, vec_len}
use Rattle.hub_base.specs.Batching.{Batched}
use Rattle.hub_base.specs.Errands.{client_of}
use Rattle.hub_delivery.specs.Carrying as carrying
use Rattle.hub_delivery.specs.Leaving.{HasClient, offer_of, refused_of, reply_of}
use Rattle.hub_delivery.proofs.Leaving.{gone_from_all, gone_next, no_more_since, none_left_for, none_since}
use Rattle.hub_delivery.proofs.slots.Slots.to_clients.Goals as goal

pub loop-at-init : goal.loop-at-init
loop-at-init g c = (search rules, search rules, λ i (within : i < 0). absurd (omega arith), λ i n found. found, λ none i n found. found, λ i n found. found, carrying.Answered.none, search rules)

pub loop-at-preserved : goal.loop-at-preserved
loop-at-preserved g c = (
  search rules,
  search rules,
  gone_next client_of (HasClient (vec_len c.args.self.now.downs)) c.loop-at.batch.errands c.to_client.new.batch.errands c.loop-at.at
      c.loop-at.invariant.2 c.to_client.ensures.fewer c.to_client.ensures.gone,
  no_more_since reply_of _ c.loop-at.batch.errands _ c.loop-at.invariant.3 c.to_client.ensures.replies,
  λ none. no_more_since offer_of _ c.loop-at.batch.errands _ (c.loop-at.invariant.4 none)
      (c.to_client.ensures.offers (none_since reply_of (HasClient (vec_len c.args.self.now.downs)) _ c.loop-at.batch.errands
      c.loop-at.invariant.3 none)),
  no_more_since refused_of _ c.loop-at.batch.errands _ c.loop-at.invariant.5 c.to_client.ensures.refused,
  c.to_client.ensures.answered _ c.loop-at.invariant.6,
  search rules,
)

-- nothing is left
pub returns-then-to_client-clause-answered : goal.returns-then-to_client-clause-answered
returns-then-to_client-clause-answered g c = c.to_client.ensures.answered _ c.loop-at.invariant.6

pub returns-then-to_client-clause-gone : goal.returns-then-to_client-clause-gone
returns-then-to_client-clause-gone g c =
    none_left_for client_of (HasClient (vec_len c.args.self.now.downs)) c.to_client.new.batch.errands (λ to. refl)
    (c.to_client.ensures.done c.if-to_client.true)

pub returns-then-to_client-clause-replies : goal.returns-then-to_client-clause-replies
returns-then-to_client-clause-replies g c =
    no_more_since reply_of _ c.loop-at.batch.errands _ c.loop-at.invariant.3 c.to_client.ensures.replies

pub returns-then-to_client-clause-refused : goal.returns-then-to_client-clause-refused
returns-then-to_client-clause-refused g c =
    no_more_since refused_of _ c.loop-at.batch.errands _ c.loop-at.invariant.5 c.to_client.ensures.refused

pub returns-then-to_client-clause-offers : goal.returns-then-to_client-clause-offers
returns-then-to_client-clause-offers g c = λ none.
    no_more_since offer_of _ c.loop-at.batch.errands _ (c.loop-at.invariant.4 none)
    (c.to_client.ensures.offers (none_since reply_of (HasClient (vec_len c.args.self.now.downs)) _ c.loop-at.batch.errands
    c.loop-at.invariant.3 none))

pub returns-clause-answered : goal.returns-clause-answered
returns-clause-answered g c = c.loop-at.invariant.6

pub returns-clause-gone : goal.returns-clause-gone
returns-clause-gone g c =
    gone_from_all client_of (HasClient (vec_len c.args.self.now.downs)) c.loop-at.batch.errands c.loop-at.at refl
    (omega (arith, c.loop-at.invariant.0.1, ap (λ (b : Batched). length b.errands) c.batch.view_is, c.len-at-end.ensures, c.loop-at-test.false))
    c.loop-at.invariant.2
