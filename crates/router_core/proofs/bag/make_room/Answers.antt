use Rattle.std.proofs.Common.{List, sym, ap, subst, ◌∙◌, rules}
use Rattle.std.proofs.lemmas.Fn.{filter_same}
use Rattle.router_core.specs.declared.bag.Item.{Item}
use Rattle.router_core.specs.Bags.{Rises, hands_of}
use Rattle.router_core.proofs.Bagging.{is_kept, filter_hands, filter_rises}
use Rattle.router_core.proofs.bag.make_room.Goals as goal

pub returns-clause-hands : goal.returns-clause-hands
returns-clause-hands c =
    let kept = filter_same _ is_kept _ (λ x b f k. search rules) _ _ c.retain.ensures.filtered in
    ap (λ (l : List Item). hands_of l) (c.reserve.ensures.items ∙ kept) ∙ filter_hands c.args.hands.now.items

pub returns-clause-rises : goal.returns-clause-rises
returns-clause-rises c = λ n rises.
    let kept = filter_same _ is_kept _ (λ x b f k. search rules) _ _ c.retain.ensures.filtered in
    subst (λ (l : List Item). Rises 0 l n) (sym (c.reserve.ensures.items ∙ kept)) (filter_rises 0 n c.args.hands.now.items rises)
