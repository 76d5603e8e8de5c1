use Rattle.std.proofs.Common.{◌≡◌, List, Option, Some, None, refl, sym, ap, subst, ◌∙◌, set, arith}
use Rattle.std.proofs.lemmas.Option.{slice_get_within}
use Rattle.core_world.specs.declared.hands.Held.{Held}
use Rattle.router_core.specs.declared.bag.Item.{Item}
use Rattle.router_core.specs.Bags.{FoundAt, LeftBy}
use Rattle.router_core.proofs.Bagging.{left_by, same_place}
use Rattle.router_core.proofs.bag.take_out.Goals as goal

pub returns-in_default-clause-taken : goal.returns-in_default-clause-taken
returns-in_default-clause-taken c = (subst (λ (l : List Item). FoundAt c.args.number l None) c.deref.ensures.value c.in_default.ensures, refl)

pub index_mut-requires : goal.index_mut-requires
index_mut-requires c =
    let found = c.in-Some.ensures in
    let within = slice_get_within c.deref.result.now c.in-Some.place (record { number = c.args.number; held = Some found.0 }) found.1 in
    omega (arith, within, c.deref.ensures.len)

pub unreachable-requires : goal.unreachable-requires
unreachable-requires c =
    let found = subst (λ (l : List Item). FoundAt c.args.number l (Some c.in-Some.place)) c.deref.ensures.value c.in-Some.ensures in
    let item : Item = record { number = c.args.number; held = Some found.0 } in
    let same : c.index_mut.result.now ≡ item = same_place c.args.hands.now.items c.in-Some.place item c.index_mut.result.now found.1 c.index_mut.ensures.value in
    c.in_default-take.not-Some found.0 (c.take.ensures.value ∙ ap (λ (i : Item). i.held) same)

pub returns-clause-taken : goal.returns-clause-taken
returns-clause-taken c =
    let found = subst (λ (l : List Item). FoundAt c.args.number l (Some c.in-Some.place)) c.deref.ensures.value c.in-Some.ensures in
    let item : Item = record { number = c.args.number; held = Some found.0 } in
    let same : c.index_mut.result.now ≡ item = same_place c.args.hands.now.items c.in-Some.place item c.index_mut.result.now found.1 c.index_mut.ensures.value in
    let given : ◌≡◌ {A = Option Held} (Some found.0) (Some c.in-Some-take.held) = sym (c.take.ensures.value ∙ ap (λ (i : Item). i.held) same) ∙ c.in-Some-take.is in
    let mine : found.0 ≡ c.in-Some-take.held = cc in
    let left : ◌≡◌ {A = Item} (record { number = c.args.number; held = None }) (record { number = c.index_mut.result.now.number; held = c.take.new.self }) = λ j. record { number = ap (λ (i : Item). i.number) (sym same) j; held = sym c.take.ensures.after j } in
    subst (λ (x : Held). LeftBy c.args.number c.args.hands.now.items (set c.args.hands.now.items c.in-Some.place (record { number = c.index_mut.result.now.number; held = c.take.new.self })) c.in-Some.place x) mine
    (subst (λ (i : Item). LeftBy c.args.number c.args.hands.now.items (set c.args.hands.now.items c.in-Some.place i) c.in-Some.place found.0) left
    (left_by c.args.number c.in-Some.place c.args.hands.now.items found.0 c.requires found.1))
