-- A final reply stays one in its normal spelling.
use Rattle.std.proofs.Common.{◌≡◌, ℤ, Bool, true, false, refl, sym, ◌∙◌, ap}
use Rattle.std.specs.Prelude.{pos, negsuc, ◌==◌, if◌then◌else◌}
use Rattle.std.proofs.lemmas.Bool.{eqb-true}
use Rattle.mux_message.specs.Kinds.{kind_of, is_final}
use Rattle.mux_message.specs.Spellings.{normal_kind}

pub normal_final : (k : ℤ) → is_final (kind_of k) ≡ true → is_final (kind_of (normal_kind k)) ≡ true
normal_final (pos n) h = by (n == 127)
  where
    by : (z : Bool) → is_final (kind_of (if z then negsuc 127 else pos n)) ≡ true
    by true = refl
    by false = h
normal_final (negsuc n) h = by (n == 61) refl
  where
    by : (z : Bool) → (n == 61) ≡ z → is_final (kind_of (if z then pos 66 else negsuc n)) ≡ true
    by true is = absurd (let clash : false ≡ true = sym (ap (λ m. is_final (kind_of (negsuc m))) (eqb-true n 61 is)) ∙ h in cc)
    by false is = h
