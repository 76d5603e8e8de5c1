use Rattle.std.proofs.Common.{◌≡◌, ℕ, ◌+◌, List, ◌∷◌, ◌++◌, Bool, Vec, Global, refl, sym, ap, ◌∙◌, subst, drop, append-nil, []}
use Rattle.router_core.specs.declared.sides.Side.{Side}
use Rattle.router_core.proofs.Running.{Ran, ran_start, ran_next, is_run, one_if, split_at}
use Rattle.router_core.proofs.runs.run.Goals.{then-branch+in_ok-push, else-branch}
use Rattle.router_core.proofs.runs.run.Goals as goal

pub loop-place-init : goal.loop-place-init
loop-place-init c =
    let limits = c.args.config.limits in
    let boot = c.args.config.boot in
    let all = c.args.events.now in
    subst (λ (l : List Side). Ran limits boot all c.open-core.result l c.new-refused.result.items 0) (sym c.new-sides.ensures.items)
    (subst (λ (l : List ℕ). Ran limits boot all c.open-core.result [] l 0) (sym c.new-refused.ensures.items)
    (ran_start limits boot all c.open-core.result c.open-core.ensures c.requires.read))

pub loop-place-preserved : goal.loop-place-preserved
loop-place-preserved c =
    let limits = c.args.config.limits in
    let boot = c.args.config.boot in
    let all = c.args.events.now in
    let k = c.loop-place.place in
    let e = c.index-events-place.result in
    let split : drop k all ≡ e ∷ drop (k + 1) all = split_at all k e e c.loop-place-test.true c.index-events-place.is refl in
    let next = ran_next limits boot all c.loop-place.core c.play.new.core c.loop-place.sides.items c.play.new.sides.items c.loop-place.refused.items k e c.in_ok-play.field-0 c.loop-place.invariant split c.in_ok-play.ensures in
    elim c.if-branch.branch [
      | then-branch+in_ok-push m ↦ subst (λ (l : List ℕ). Ran limits boot all c.play.new.core c.play.new.sides.items l (k + 1))
          (ap (λ (b : Bool). c.loop-place.refused.items ++ one_if b k) m.if-branch.true ∙ sym (ap (λ (v : Vec ℕ Global). v.items) m.refused-is ∙ m.in_ok-push.ensures.items)) next
      | else-branch m ↦ subst (λ (l : List ℕ). Ran limits boot all c.play.new.core c.play.new.sides.items l (k + 1))
          (ap (λ (b : Bool). c.loop-place.refused.items ++ one_if b k) m.if-branch.false ∙ append-nil c.loop-place.refused.items ∙ sym (ap (λ (v : Vec ℕ Global). v.items) m.refused-is)) next
    ]

pub returns : goal.returns
returns c =
    is_run c.args.config.limits c.args.config.boot c.args.events.now c.loop-place.core
    (record { sides = c.loop-place.sides; hands = c.in_ok-hands.hands; refused = c.loop-place.refused }) c.loop-place.place c.loop-place.invariant c.loop-place-test.false c.in_ok-hands.ensures
