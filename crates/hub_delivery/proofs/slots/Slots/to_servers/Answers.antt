use Rattle.std.proofs.Common.{◌<◌, ap, arith, length, refl, rules, vec_len}
use Rattle.hub_base.specs.Batching.{Batched}
use Rattle.hub_base.specs.Errands.{client_of, server_of}
use Rattle.hub_delivery.specs.Carrying as carrying
use Rattle.hub_delivery.specs.Leaving.{HasServer, offer_of, refused_of, reply_of}
use Rattle.hub_delivery.proofs.Leaving.{gone_from_all, gone_next, no_more_since, none_since}
use Rattle.hub_delivery.proofs.slots.Slots.to_servers.Goals as goal

pub loop-at-init : goal.loop-at-init
loop-at-init g c = (search rules, search rules, λ i (within : i < 0). absurd (omega arith), λ i n found. found, λ i n found. found, λ none i n found. found, λ none i n found. found, carrying.Served.none, search rules)

pub loop-at-preserved : goal.loop-at-preserved
loop-at-preserved g c = (
  search rules,
  search rules,
  gone_next server_of (HasServer (vec_len c.args.self.now.ups)) c.loop-at.batch.errands c.to_server.new.batch.errands c.loop-at.at
      c.loop-at.invariant.2 c.to_server.ensures.fewer c.to_server.ensures.gone,
  no_more_since reply_of _ c.loop-at.batch.errands _ c.loop-at.invariant.3 c.to_server.ensures.replies,
  no_more_since offer_of _ c.loop-at.batch.errands _ c.loop-at.invariant.4 c.to_server.ensures.offers,
  λ none. no_more_since client_of _ c.loop-at.batch.errands _ (c.loop-at.invariant.5 none)
      (c.to_server.ensures.clients (none_since offer_of (HasServer (vec_len c.args.self.now.ups)) _ c.loop-at.batch.errands
      c.loop-at.invariant.4 none)),
  λ none. no_more_since refused_of _ c.loop-at.batch.errands _ (c.loop-at.invariant.6 none)
      (c.to_server.ensures.refused (none_since offer_of (HasServer (vec_len c.args.self.now.ups)) _ c.loop-at.batch.errands
      c.loop-at.invariant.4 none)),
  c.to_server.ensures.served _ c.loop-at.invariant.7,
  search rules,
)

pub returns-clause-served : goal.returns-clause-served
returns-clause-served g c = c.loop-at.invariant.7

pub returns-clause-gone : goal.returns-clause-gone
returns-clause-gone g c =
    gone_from_all server_of (HasServer (vec_len c.args.self.now.ups)) c.loop-at.batch.errands c.loop-at.at refl
    (omega (arith, c.loop-at.invariant.0.1, ap (λ (b : Batched). length b.errands) c.batch.view_is, c.len-at-end.ensures, c.loop-at-test.false))
    c.loop-at.invariant.2
