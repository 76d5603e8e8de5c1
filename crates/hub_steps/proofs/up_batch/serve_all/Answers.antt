use Rattle.std.proofs.Common.{◌≡◌, Option, List, refl, rules, subst, sym, ap, ◌∙◌, arith}
use Rattle.hub_base.specs.Errands.{server_at, server_of, errand_at}
use Rattle.hub_base.specs.Batching.{Held}
use Rattle.hub_base.specs.declared.errands.Errand.{Errand}
use Rattle.kept_session.specs.Reached.{Kept}
use Rattle.hub_steps.specs.Batches.{ServesUp}
use Rattle.hub_steps.specs.Batches as batches
use Rattle.hub_steps.proofs.Batching.{serves_on}
use Rattle.hub_steps.proofs.Handing.{gone_more, gone_all, to_server, is_for, is_not_for}
use Rattle.hub_steps.proofs.up_batch.serve_all.Goals.{then-eq, else-eq}
use Rattle.hub_steps.proofs.up_batch.serve_all.Goals as goal

pub loop-at-init : goal.loop-at-init
loop-at-init c = (batches.ServesUp.none, search rules, λ i less found. absurd (omega (arith, less)))

pub loop-at-preserved : goal.loop-at-preserved
loop-at-preserved c = elim c.if-eq.branch [
  | then-eq w ↦ (
    (let for : (errand_at c.loop-at.errands.items c.loop-at.at).to ≡ c.args.server =
        to_server _ (errand_at c.loop-at.errands.items c.loop-at.at).value _ (is_for c.eq.result c.server.result _ _ c.eq.ensures w.if-eq.true c.server.ensures) in
        subst (λ (v : Option Kept). ServesUp c.args.now c.args.server c.args.slot.now c.args.errands.now.items v c.if-eq.errands.items) (sym w.slot-is)
        (subst (λ (ys : List Errand). ServesUp c.args.now c.args.server c.args.slot.now c.args.errands.now.items w.serve_one.new.slot ys) (sym (ap (λ (e : Held). e.items) w.errands-is))
        (serves_on c.args.now c.args.server c.args.slot.now c.loop-at.slot c.args.errands.now.items c.loop-at.errands.items w.serve_one.new.slot w.serve_one.new.errands.items
        c.loop-at.invariant.0
        (subst (λ n. ServesUp c.args.now n c.loop-at.slot c.loop-at.errands.items w.serve_one.new.slot w.serve_one.new.errands.items) for w.serve_one.ensures.event)))),
    search rules,
    gone_more server_of c.loop-at.errands.items c.if-eq.errands.items c.loop-at.at c.args.server c.loop-at.invariant.2
        (λ found. absurd (let none = sym w.serve_one.ensures.gone ∙ ap (λ (e : Held). server_at e.items c.loop-at.at) (sym w.errands-is) ∙ found in cc))
        (λ i never. ap (λ (e : Held). errand_at e.items i) w.errands-is ∙ w.serve_one.ensures.others i never),
  )
  | else-eq w ↦ (
    subst (λ (v : Option Kept). ServesUp c.args.now c.args.server c.args.slot.now c.args.errands.now.items v c.if-eq.errands.items) (sym w.slot-is)
        (subst (λ (ys : List Errand). ServesUp c.args.now c.args.server c.args.slot.now c.args.errands.now.items c.loop-at.slot ys) (sym (ap (λ (e : Held). e.items) w.errands-is))
        c.loop-at.invariant.0),
    search rules,
    gone_more server_of c.loop-at.errands.items c.if-eq.errands.items c.loop-at.at c.args.server c.loop-at.invariant.2
        (λ found. is_not_for c.eq.result c.server.result _ _ c.eq.ensures w.if-eq.false c.server.ensures
        (ap (λ (e : Held). server_at e.items c.loop-at.at) (sym w.errands-is) ∙ found))
        (λ i never. ap (λ (e : Held). errand_at e.items i) w.errands-is),
  )
]

pub returns : goal.returns
returns c =
    record {
      event = c.loop-at.invariant.0;
      gone = gone_all server_of c.loop-at.errands.items c.loop-at.at c.args.server refl
          (omega (arith, c.loop-at.invariant.1.0, c.len-at-end.ensures, c.loop-at-test.false)) c.loop-at.invariant.2;
      counted = search rules;
      same = c.loop-at.invariant.1;
    }
