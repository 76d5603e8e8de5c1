-- The views after a change of one pass, and with a new one.
use Rattle.std.proofs.Common.{◌≡◌, ◌≢◌, ◌⊎◌, inl, inr, ⊎_elim, ℕ, zero, suc, List, [], ◌∷◌, ◌++◌, length, set, refl, sym, ap, ◌∙◌, subst}
use mathlib.Core.Option.{some, some-ne-none, some-injective}
use lib.ListN.{get_elem?}
use Rattle.atomic_table.proofs.Lists.{at_set}
use Rattle.mux_history.specs.declared.session.SessionId.{SessionId}
use Rattle.hub_log.specs.declared.terms.Terms.{Terms}
use Rattle.hub_log.specs.Moves.{Claim, Move}
use Rattle.hub_log.specs.Bag.{IsBag}
use Rattle.hub_log.specs.Views.{View, Owns, InHand, Fits, Kept}

at_new : {A : Type 0} (xs : List A) (a b : A) (j : ℕ) → get_elem? (xs ++ a ∷ []) j ≡ some b → (get_elem? xs j ≡ some b) ⊎ ((j ≡ length xs) × (a ≡ b))
at_new [] a b zero e = inr (refl, some-injective a b e)
at_new [] a b (suc j) e = absurd (some-ne-none b (sym e))
at_new (x ∷ xs) a b zero e = inl e
at_new (x ∷ xs) a b (suc j) e = ⊎_elim (λ h. inl h) (λ h. inr (ap suc h.0, h.1)) (at_new xs a b j e)

-- what the rule says of each pass but this one
abbrev pub Others : Terms → List View → ℕ → List Move → Type 0
Others t views id log = (j : ℕ) (u : View) → j ≢ id → get_elem? views j ≡ some u → Fits t log u

-- nobody else has this claim
abbrev pub Alone : List View → ℕ → Claim → Type 0
Alone views id c = (j : ℕ) (u : View) → j ≢ id → get_elem? views j ≡ some u → (InHand u c → ⊥)

module _ (t : Terms) (views : List View) (log log' : List Move) (id : ℕ) (v w : View) (kept : Kept t views log) (here : get_elem? views id ≡ some v)
    (bag : IsBag t log') (mine : Fits t log' w) (others : Others t views id log') (slots : (k : SessionId) → Owns t w k → Owns t v k)
    (hands : (c : Claim) → InHand w c → InHand v c ⊎ Alone views id c) where
  fits_after : (j : ℕ) (u : View) → get_elem? (set views id w) j ≡ some u → Fits t log' u
  fits_after j u e =
      ⊎_elim (λ (x : (j ≡ id) × (w ≡ u)). subst (Fits t log') x.1 mine) (λ (x : (j ≢ id) × (get_elem? views j ≡ some u)). others j u x.0 x.1) (at_set views id j w u e)

  -- a right of the new view, and that of another pass
  slot_apart : (j : ℕ) (u : View) (k : SessionId) → j ≢ id → get_elem? views j ≡ some u → Owns t w k → Owns t u k → ⊥
  slot_apart j u k n e a b = n (kept.slots j id u v e here k b (slots k a))

  hand_apart : (j : ℕ) (u : View) (c : Claim) → j ≢ id → get_elem? views j ≡ some u → InHand w c → InHand u c → ⊥
  hand_apart j u c n e a b = ⊎_elim (λ (h : InHand v c). n (kept.hands j id u v e here c b h)) (λ (alone : Alone views id c). alone j u n e b) (hands c a)

  -- a fact that two passes can't both have
  apart : (P : View → Type 0) → ((j : ℕ) (u : View) → j ≢ id → get_elem? views j ≡ some u → P w → P u → ⊥)
      → ((i j : ℕ) (a b : View) → get_elem? views i ≡ some a → get_elem? views j ≡ some b → P a → P b → i ≡ j)
      → (i j : ℕ) (a b : View) → get_elem? (set views id w) i ≡ some a → get_elem? (set views id w) j ≡ some b → P a → P b → i ≡ j
  apart P new old i j a b ei ej pa pb = by_both (at_set views id i w a ei) (at_set views id j w b ej)
    where
      by_both : ((i ≡ id) × (w ≡ a)) ⊎ ((i ≢ id) × (get_elem? views i ≡ some a)) → ((j ≡ id) × (w ≡ b)) ⊎ ((j ≢ id) × (get_elem? views j ≡ some b)) → i ≡ j
      by_both (inl x) (inl y) = x.0 ∙ sym y.0
      by_both (inl x) (inr y) = absurd (new j b y.0 y.1 (subst P (sym x.1) pa) pb)
      by_both (inr x) (inl y) = absurd (new i a x.0 x.1 (subst P (sym y.1) pb) pa)
      by_both (inr x) (inr y) = old i j a b x.1 y.1 pa pb

  pub change : Kept t (set views id w) log'
  change = record {
    legal = bag;
    fits = fits_after;
    slots = λ i j a b ei ej k oa ob. apart (λ u. Owns t u k) (λ j' u n e x y. slot_apart j' u k n e x y) (λ i' j' a' b' e f x y. kept.slots i' j' a' b' e f k x y) i j a b ei ej oa ob;
    hands = λ i j a b ei ej c oa ob. apart (λ u. InHand u c) (λ j' u n e x y. hand_apart j' u c n e x y) (λ i' j' a' b' e f x y. kept.hands i' j' a' b' e f c x y) i j a b ei ej oa ob;
  }

-- a new pass, whose rights are nobody's
pub newcomer : (t : Terms) (views : List View) (log : List Move) (w : View) → Kept t views log → Fits t log w
    → ((j : ℕ) (u : View) → get_elem? views j ≡ some u → (k : SessionId) → Owns t u k → Owns t w k → ⊥)
    → ((j : ℕ) (u : View) → get_elem? views j ≡ some u → (c : Claim) → InHand u c → InHand w c → ⊥)
    → Kept t (views ++ w ∷ []) log
newcomer t views log w kept fits slots hands = record {
  legal = kept.legal;
  fits = λ j u e. ⊎_elim (λ (x : get_elem? views j ≡ some u). kept.fits j u x) (λ (x : (j ≡ length views) × (w ≡ u)). subst (Fits t log) x.1 fits) (at_new views w u j e);
  slots = λ i j a b ei ej k oa ob. joint (λ u. Owns t u k) (λ j' u e x y. slots j' u e k x y) (λ i' j' a' b' e f x y. kept.slots i' j' a' b' e f k x y) i j a b ei ej oa ob;
  hands = λ i j a b ei ej c oa ob. joint (λ u. InHand u c) (λ j' u e x y. hands j' u e c x y) (λ i' j' a' b' e f x y. kept.hands i' j' a' b' e f c x y) i j a b ei ej oa ob;
}
  where
    joint : (P : View → Type 0) → ((j : ℕ) (u : View) → get_elem? views j ≡ some u → P u → P w → ⊥)
        → ((i j : ℕ) (a b : View) → get_elem? views i ≡ some a → get_elem? views j ≡ some b → P a → P b → i ≡ j)
        → (i j : ℕ) (a b : View) → get_elem? (views ++ w ∷ []) i ≡ some a → get_elem? (views ++ w ∷ []) j ≡ some b → P a → P b → i ≡ j
    joint P new old i j a b ei ej pa pb = by_both (at_new views w a i ei) (at_new views w b j ej)
      where
        by_both : (get_elem? views i ≡ some a) ⊎ ((i ≡ length views) × (w ≡ a)) → (get_elem? views j ≡ some b) ⊎ ((j ≡ length views) × (w ≡ b)) → i ≡ j
        by_both (inl x) (inl y) = old i j a b x y pa pb
        by_both (inl x) (inr y) = absurd (new i a x pa (subst P (sym y.1) pb))
        by_both (inr x) (inl y) = absurd (new j b y pb (subst P (sym x.1) pa))
        by_both (inr x) (inr y) = x.0 ∙ sym y.0
