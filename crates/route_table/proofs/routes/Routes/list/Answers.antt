use Rattle.std.proofs.Common.{rules, ◌≡◌, ◌++◌, ℕ, List, Vec, Global, map, sym, ap, ◌∙◌, append-nil}
use Rattle.std.proofs.lemmas.Simd.{map-map}
use Rattle.std.proofs.lemmas.Map.Iter.{rest_all, rest_so_far}
use Rattle.std.specs.Map.Iter.{deref_pair}
use Rattle.route_table.proofs.routes.Routes.list.Goals as goal

pub returns : goal.returns
returns c =
    let pair : Vec ℕ Global × Vec ℕ Global → List ℕ × List ℕ = λ e. (e.0.items, e.1.items) in
    let taken = c.loop-dst.yielded in
    let begins : c.self.inside.lists.entries ≡ c.into_iter-dst-iterator.result = search rules in
    let so_far = rest_so_far deref_pair taken _ _ c.loop-dst.yielded_by in
    let none = rest_all deref_pair _ _ _ c.in-None.is c.next.ensures.steps in
    let whole : c.self.inside.lists.entries ≡ map deref_pair taken =
    begins ∙ so_far ∙ ap (λ rest. map deref_pair taken ++ rest) none ∙ append-nil (map deref_pair taken) in
    c.loop-dst.invariant ∙ sym (map-map pair deref_pair taken) ∙ sym (ap (λ es. map pair es) whole) ∙ c.self.view_is
