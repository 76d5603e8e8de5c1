-- The normal spelling of a message that has two.
use Rattle.std.proofs.Common.{◌≡◌, ℤ, Bool, true, false, refl, sym, ap, subst}
use Rattle.std.specs.Prelude.{◌==◌, pos, negsuc, if◌then◌else◌}
use Rattle.std.proofs.lemmas.Bool.{eqb-true}
use Rattle.mux_frame.specs.Spelling.{MuxFrame}
use Rattle.mux_message.specs.Content.{Content}
use Rattle.mux_message.specs.Grammar.{Spells, SpellsContent}
use Rattle.mux_message.specs.Kinds.{kind_of}
use Rattle.mux_message.specs.Spellings.{normal_kind, normal}

-- the normal spelling has the same kind
pub kind_normal : (z : ℤ) → kind_of (normal_kind z) ≡ kind_of z
kind_normal (pos n) = by_test (n == 127) (eqb-true n 127)
  where
    by_test : (b : Bool) → (b ≡ true → n ≡ 127) → kind_of (if b then negsuc 127 else pos n) ≡ kind_of (pos n)
    by_test true h = sym (ap (λ m. kind_of (pos m)) (h refl))
    by_test false h = refl
kind_normal (negsuc n) = by_test (n == 61) (eqb-true n 61)
  where
    by_test : (b : Bool) → (b ≡ true → n ≡ 61) → kind_of (if b then pos 66 else negsuc n) ≡ kind_of (negsuc n)
    by_test true h = sym (ap (λ m. kind_of (negsuc m)) (h refl))
    by_test false h = refl

-- and so the same content
pub normal_spells : (f : MuxFrame) (m : Content) → Spells f m → Spells (normal f) m
normal_spells f m s = (s.0, subst (λ k. SpellsContent k f.body m) (sym (kind_normal f.kind)) s.1)
