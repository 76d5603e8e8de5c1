use Rattle.std.proofs.Common.{Ok, Err, refl, ap, ◌∙◌, length, rules}
use Rattle.std.proofs.lemmas.List.Sorted.{answers_always}
use Rattle.std.proofs.lemmas.Option.{slice_get_read}
use Rattle.router_core.specs.declared.bag.Item.{Item}
use Rattle.router_core.proofs.Bagging.{searched, there, gone}
use Rattle.router_core.proofs.bag.place_of.Goals as goal

pub returns-in_default : goal.returns-in_default
returns-in_default c =
    let by_key = c.in_default.ensures.position (λ (i : Item). i.number) (answers_always _ _ _ (λ f a r g called. search rules)) in
    (searched c.args.hands.now c.requires c.args.number (Err c.in_default.field-0) c.in_default.ensures.bound by_key).absent

pub returns-in-Some : goal.returns-in-Some
returns-in-Some c =
    let by_key = c.in-Ok.ensures.position (λ (i : Item). i.number) (answers_always _ _ _ (λ f a r g called. search rules)) in
    let got = (searched c.args.hands.now c.requires c.args.number (Ok c.in-Ok.place) c.in-Ok.ensures.bound by_key).found in
    let i = c.index-hands-place.result in
    let at = slice_get_read c.args.hands.now (length c.args.hands.now) c.in-Ok.place i refl got.0 c.index-hands-place.is in
    there c.args.number c.in-Ok.place c.args.hands.now i c.in-Some.field-0 c.requires at (ap (λ (x : Item). x.number) c.index-hands-place.is ∙ got.1 i) (ap (λ (x : Item). x.held) c.index-hands-place.is ∙ c.in-Some.is)

pub returns-in-None : goal.returns-in-None
returns-in-None c =
    let by_key = c.in-Ok.ensures.position (λ (i : Item). i.number) (answers_always _ _ _ (λ f a r g called. search rules)) in
    let got = (searched c.args.hands.now c.requires c.args.number (Ok c.in-Ok.place) c.in-Ok.ensures.bound by_key).found in
    let i = c.index-hands-place.result in
    let at = slice_get_read c.args.hands.now (length c.args.hands.now) c.in-Ok.place i refl got.0 c.index-hands-place.is in
    gone c.args.number c.in-Ok.place c.args.hands.now i c.requires at (ap (λ (x : Item). x.number) c.index-hands-place.is ∙ got.1 i) (ap (λ (x : Item). x.held) c.index-hands-place.is ∙ c.in-None.is)
