-- What a change of one entry makes of the list.
use Rattle.std.proofs.Common.{◌≡◌, ℕ, true, false, cond, nat_eq, if◌then◌else◌, List, ◌∷◌, Some, sym, ap, ◌∙◌}
use Rattle.std.specs.Map.{lookup}
use Rattle.translate_book.specs.declared.entry.Entry.{Entry}
use Rattle.translate_book.specs.Book.{changed, kept}

module _ (seq : ℕ) (f : Entry → Entry) where
  -- the first entry of the number is the one that stands there
  pub own : (p : ℕ × Entry) (es : List (ℕ × Entry)) (e : Entry) → nat_eq seq p.0 ≡ true → lookup (nat_eq seq) (p ∷ es) ≡ Some e → p.1 ≡ e
  own p es e at is = let same : Some p.1 ≡ Some e = sym (ap (λ b. cond b (Some p.1) (lookup (nat_eq seq) es)) at) ∙ is in cc

  pub further : (p : ℕ × Entry) (es : List (ℕ × Entry)) (e : Entry) → nat_eq seq p.0 ≡ false → lookup (nat_eq seq) (p ∷ es) ≡ Some e → lookup (nat_eq seq) es ≡ Some e
  further p es e at is = sym (ap (λ b. cond b (Some p.1) (lookup (nat_eq seq) es)) at) ∙ is

  pub changed_here : (p : ℕ × Entry) (ps : List (ℕ × Entry)) → nat_eq seq p.0 ≡ true → changed seq f (p ∷ ps) ≡ kept (p.0, f p.1) ps
  changed_here p ps at = ap (λ b. if b then kept (p.0, f p.1) ps else p ∷ changed seq f ps) at

  pub changed_further : (p : ℕ × Entry) (ps : List (ℕ × Entry)) → nat_eq seq p.0 ≡ false → changed seq f (p ∷ ps) ≡ p ∷ changed seq f ps
  changed_further p ps at = ap (λ b. if b then kept (p.0, f p.1) ps else p ∷ changed seq f ps) at
