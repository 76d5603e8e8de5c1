use Rattle.std.proofs.Common.{◌++◌, ◌+◌, Option, Some, sym, ap, subst, ◌∙◌}
use Rattle.std.specs.Option.{option_to_list, option_map}
use Rattle.mux_model.specs.World.{numbered}
use Rattle.core_world.specs.declared.hands.Held.{Held}
use Rattle.core_world.specs.Hands.{held_of}
use Rattle.router_core.specs.Bags.{Rises, hands_of}
use Rattle.router_core.proofs.Bagging.{push_hands, push_rises}
use Rattle.router_core.proofs.bag.keep.Goals as goal

pub returns-clause-hands : goal.returns-clause-hands
returns-clause-hands c =
    let n = c.args.next.now in
    let old = c.args.hands.now.items in
    ap (λ l. hands_of l) c.push_reserved.ensures.items ∙ push_hands old n c.in-Some.held
    ∙ ap (λ (o : Option Held). hands_of old ++ numbered n (option_to_list (option_map held_of o))) (sym c.in-Some.is)

pub returns-clause-rises : goal.returns-clause-rises
returns-clause-rises c = λ rises.
    subst (λ l. Rises 0 l (c.args.next.now + 1)) (sym c.push_reserved.ensures.items) (push_rises 0 c.args.hands.now.items c.args.next.now (Some c.in-Some.held) rises)
