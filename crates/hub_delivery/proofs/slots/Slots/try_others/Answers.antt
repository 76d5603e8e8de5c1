use Rattle.std.proofs.Common.{◌<◌, ◌+◌, ◌∙◌, ℕ, List, ap, arith, length, refl, rules, subst, subst₂, sym, vec_len}
use mathlib.Core.List.{IsPrefix}
use Rattle.published_routes.proofs.Prefixes.{prefix_self, prefix_trans}
use Rattle.route_table.specs.Routes.{Change}
use Rattle.hub_base.specs.Batching.{Batched}
use Rattle.hub_base.specs.Errands.{errand_at}
use Rattle.hub_base.specs.declared.errands.Errand.{Errand}
use Rattle.hub_base.proofs.Places.{put_over}
use Rattle.hub_log.specs.Views.{View}
use Rattle.hub_places.specs.Holding.{GoesTo, HasClaims, Holds, beside, held_of}
use Rattle.hub_delivery.specs.Carrying.{Retried}
use Rattle.hub_delivery.specs.Carrying as carrying
use Rattle.hub_delivery.proofs.Carrying.{none_refused_at, refused_by, retried_none}
use Rattle.hub_delivery.proofs.Claims.{put_beside, taken_beside}
use Rattle.hub_delivery.specs.Leaving.{NoneRefused, offer_of, refused_of, reply_of}
use Rattle.hub_delivery.proofs.Leaving.{gone_from_all, gone_next, no_more_since, put_made, same_after}
use Rattle.hub_delivery.proofs.slots.Slots.try_others.Goals.{then-is_refused, else-is_refused}
use Rattle.hub_delivery.proofs.slots.Slots.try_others.Goals as goal

pub loop-at-init : goal.loop-at-init
loop-at-init g c = (prefix_self c.args.routes.now, search rules, λ i n found. found, λ i n found. found, search rules, λ i (within : i < 0). absurd (omega arith), carrying.Retried.none, search rules)

pub try_other-left-requires : goal.try_other-left-requires
try_other-left-requires g c = record {
  claims = subst (λ (b : Batched). Holds c.loop-at.claims (beside (held_of c.take_at-errand.result.value) b.errands))
      (sym c.batch-then-is_refused.view_is)
      (taken_beside c.loop-at.claims c.loop-at.batch.errands c.take_at-errand.new.batch.errands c.loop-at.at c.take_at-errand.result
      c.take_at-errand.ensures.value c.take_at-errand.ensures.left c.loop-at.invariant.7);
}

pub loop-at-preserved : goal.loop-at-preserved
loop-at-preserved g c = elim c.if-is_refused.branch [
  | then-is_refused w ↦ (
      let made = put_made c.loop-at.batch.errands w.take_at-errand.new.batch.errands w.put_at.new.batch.errands c.loop-at.at
      w.take_at-errand.result w.try_other-left.result w.take_at-errand.ensures.value w.take_at-errand.ensures.left
      w.put_at.ensures.put w.try_other-left.ensures.less in (
        subst (λ (s : List Change). IsPrefix c.args.routes.now s) (sym w.routes-is)
            (prefix_trans _ _ _ c.loop-at.invariant.0 w.try_other-left.ensures.later),
        search rules,
        same_after reply_of _ w.put_at.new.batch _ w.batch-is
            (no_more_since reply_of _ c.loop-at.batch.errands _ c.loop-at.invariant.2 made.0),
        same_after offer_of _ w.put_at.new.batch _ w.batch-is
            (no_more_since offer_of _ c.loop-at.batch.errands _ c.loop-at.invariant.3 made.1),
        search rules,
        (let (by, ticket, is) = refused_by (errand_at c.loop-at.batch.errands c.loop-at.at).value (search rules) in
            let (fewer, here) = retried_none c.args.now (vec_len c.args.self.now.ups) c.args.but _ w.try_other-left.new.routes ticket w.try_other-left.result
            c.loop-at.batch.errands w.put_at.new.batch.errands c.loop-at.at
            (w.try_other-left.ensures.retried by ticket (ap (λ (e : Errand). e.value) w.take_at-errand.ensures.value ∙ is))
            (put_over c.loop-at.batch.errands w.take_at-errand.new.batch.errands w.put_at.new.batch.errands c.loop-at.at
            w.try_other-left.result w.try_other-left.result w.take_at-errand.ensures.left w.put_at.ensures.put refl) in
            subst (λ (b : Batched). (i : ℕ) → i < c.loop-at.at + 1 → NoneRefused b.errands i) (sym w.batch-is)
            (gone_next refused_of (λ by. Unit {0}) c.loop-at.batch.errands w.put_at.new.batch.errands c.loop-at.at
            c.loop-at.invariant.5 fewer here)),
        (let (by, ticket, is) = refused_by (errand_at c.loop-at.batch.errands c.loop-at.at).value (search rules) in
            subst₂ (λ (s : List Change) (b : Batched). Retried c.args.now (vec_len c.args.self.now.ups) c.args.but c.args.routes.now
            c.args.batch.now.errands s b.errands) (sym w.routes-is) (sym w.batch-is)
            (carrying.Retried.retry c.loop-at.at by ticket w.try_other-left.result is w.try_other-left.ensures.later
            (w.try_other-left.ensures.retried by ticket (ap (λ (e : Errand). e.value) w.take_at-errand.ensures.value ∙ is))
            (put_over c.loop-at.batch.errands w.take_at-errand.new.batch.errands w.put_at.new.batch.errands c.loop-at.at
            w.try_other-left.result w.try_other-left.result w.take_at-errand.ensures.left w.put_at.ensures.put refl)
            c.loop-at.invariant.6)),
        subst₂ (λ (v : View) (b : Batched). HasClaims v b.errands) (sym w.claims-is) (sym w.batch-is)
            (put_beside w.try_other-left.new.claims c.loop-at.batch.errands w.take_at-errand.new.batch.errands
            w.put_at.new.batch.errands c.loop-at.at w.try_other-left.result w.take_at-errand.ensures.left w.put_at.ensures.put
            c.loop-at.invariant.7.goes
            (w.try_other-left.ensures.goes (subst (λ (e : Errand). GoesTo e.to e.value) (sym w.take_at-errand.ensures.value)
            (c.loop-at.invariant.7.goes c.loop-at.at)))
            (subst (λ (b : Batched). Holds w.try_other-left.new.claims (beside (held_of w.try_other-left.result.value) b.errands))
            w.batch-then-is_refused.view_is w.try_other-left.ensures.claims)),
      )
      )
  | else-is_refused w ↦ (
    subst (λ (s : List Change). IsPrefix c.args.routes.now s) (sym w.routes-is) c.loop-at.invariant.0,
    search rules,
    same_after reply_of _ c.loop-at.batch _ w.batch-is c.loop-at.invariant.2,
    same_after offer_of _ c.loop-at.batch _ w.batch-is c.loop-at.invariant.3,
    search rules,
    subst (λ (b : Batched). (i : ℕ) → i < c.loop-at.at + 1 → NoneRefused b.errands i) (sym w.batch-is)
        (gone_next refused_of (λ by. Unit {0}) c.loop-at.batch.errands c.loop-at.batch.errands c.loop-at.at
        c.loop-at.invariant.5 (λ i n found. found)
        (none_refused_at c.loop-at.batch.errands c.loop-at.at (search rules))),
    subst₂ (λ (s : List Change) (b : Batched). Retried c.args.now (vec_len c.args.self.now.ups) c.args.but c.args.routes.now
        c.args.batch.now.errands s b.errands) (sym w.routes-is) (sym w.batch-is) c.loop-at.invariant.6,
    subst₂ (λ (v : View) (b : Batched). HasClaims v b.errands) (sym w.claims-is) (sym w.batch-is) c.loop-at.invariant.7,
  )
]

pub returns-clause-retried : goal.returns-clause-retried
returns-clause-retried g c = c.loop-at.invariant.6

pub returns-clause-refused : goal.returns-clause-refused
returns-clause-refused g c =
    gone_from_all refused_of (λ by. Unit {0}) c.loop-at.batch.errands c.loop-at.at refl
    (omega (arith, c.loop-at.invariant.1.1, ap (λ (b : Batched). length b.errands) c.batch.view_is, c.len-at-end.ensures, c.loop-at-test.false))
    c.loop-at.invariant.5

pub returns-clause-claims : goal.returns-clause-claims
returns-clause-claims g c = c.loop-at.invariant.7
