-- A pass adds for the same slot, whatever it adds.
use Rattle.std.proofs.Common.{◌≡◌, ◌+◌, ℕ, Option, Some, ◌∙◌}
use Rattle.hub_log.specs.declared.terms.Terms.{Terms}
use Rattle.hub_log.specs.Views.{View, May}
use Rattle.hub_places.specs.Seating.{AtHome}
use Rattle.hub_places.proofs.Sitting.{bounded}

pub at_home : {t : Terms} {v : View} {P Q : View → Type 0} (home : Option ℕ) → AtHome home v → May t v (λ w. P w × Q w)
    → May t v (λ w. P w × AtHome home w × Q w)
at_home home at m =
    let n = bounded m in
    (n.0, n.1, λ w added. let r = n.2 w added in (r.0.0, (λ h is. let b = at h is in (r.1 ∙ b.0, r.2 ∙ b.1)), r.0.1))

-- what is in hand doesn't matter
pub drop_more : {t : Terms} {v : View} {P Q : View → Type 0} → May t v (λ w. P w × Q w) → May t v (λ w. P w × Unit {0})
drop_more m = (m.0, m.1, λ w added. ((m.2 w added).0, tt))
