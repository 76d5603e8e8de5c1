use Rattle.std.proofs.Common.{◌≡◌, ℕ, List, Option, None, if◌then◌else◌, is_some, ap, ◌∙◌}
use Rattle.std.specs.Str.{bytes_eq}
use Rattle.route_table.specs.Routes.{servers_of}
use Rattle.route_table.proofs.Changes.{shown, after_change, found_as, follows, is_some_items, lists_after}
use Rattle.route_table.proofs.routes.Routes.remove.Goals as goal
use Rattle.route_table.proofs.routes.Routes.remove.Goals.{Joined-swap_remove}

changed : (c : Joined-swap_remove) (d : List ℕ)
    → servers_of (shown c.swap_remove.new.self.entries) d ≡ (if bytes_eq d c.args.dst.now then None else servers_of (shown c.self.inside.lists.entries) d)
changed c d =
    after_change d c.args.dst.now c.self.inside.lists.entries c.swap_remove.new.self.entries None c.swap_remove.ensures.updates.3 c.swap_remove.ensures.updates.1

pub invariant_of-self : goal.invariant_of-self
invariant_of-self c = λ d.
    lists_after d c.args.dst.now None c.self.inside.lists.entries c.swap_remove.new.self.entries tt c.self.invariant (changed c d)

pub returns-clause-found : goal.returns-clause-found
returns-clause-found c =
    c.is_some.ensures ∙ is_some_items c.swap_remove.result
    ∙ ap (λ (o : Option (List ℕ)). is_some o) (found_as c.args.dst.now c.self.inside.lists.entries c.args.self.now c.swap_remove.result c.self.view_is c.swap_remove.ensures.value)

pub returns-clause-value : goal.returns-clause-value
returns-clause-value c = λ d.
    follows (bytes_eq d c.args.dst.now) _ None _ _ (changed c d) (ap (λ rs. servers_of rs d) c.self.view_is)

pub returns-clause-after : goal.returns-clause-after
returns-clause-after c = λ past leads d.
    follows (bytes_eq d c.args.dst.now) _ None _ _ (returns-clause-value c d) (leads d)
