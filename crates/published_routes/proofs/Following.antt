-- An order more.
use Rattle.std.proofs.Common.{◌≡◌, ℕ, ◌+◌, ◌-◌, ◌<◌, List, [], ◌∷◌, ◌++◌, length, take, reverse, ap, sym, ◌∙◌, arith, drop, get_or}
use Rattle.std.proofs.Math.Seq.{take-append_seam}
use Rattle.std.proofs.lemmas.List.{reverse-append}
use mathlib.Core.List.{IsPrefix}
use Rattle.std.proofs.lemmas.List.{at_drop_more}
use Rattle.route_table.specs.Routes.{Change}
use Rattle.route_table.specs.declared.route.Route.{Route}
use Rattle.published_routes.specs.Orders.{opened, with_route}

-- the one list that follows a and ends with o
pub next_is : (a b : List Change) (o : Change) → IsPrefix a b → length b ≡ length a + 1 → take (length b - 1) b ++ o ∷ [] ≡ b → b ≡ a ++ o ∷ []
next_is a b o p len last =
    let n : length b - 1 ≡ length a = omega arith in
    let front : take (length b - 1) b ≡ a = ap (λ k. take k b) n ∙ ap (take (length a)) (sym p.1) ∙ take-append_seam a p.0 in
    sym last ∙ ap (λ (l : List Change). l ++ o ∷ []) front

pub newest_first : (a b : List Change) (o : Change) → IsPrefix a b → length b ≡ length a + 1 → take (length b - 1) b ++ o ∷ [] ≡ b → o ∷ reverse a ≡ reverse b
newest_first a b o p len last = sym (reverse-append a (o ∷ [])) ∙ ap reverse (sym (next_is a b o p len last))

-- one route of a configuration further
pub opening_more : (orders : List Change) (routes : List Route) (i : ℕ) (d : Route) → i < length routes →
    opened orders (drop i routes) ≡ opened (with_route orders (get_or routes i d)) (drop (i + 1) routes)
opening_more orders routes i d h = at_drop_more (opened orders) routes i d h
