-- One epoch more.
use Rattle.std.proofs.Common.{◌≡◌, ℕ, zero, suc, ◌<◌, ◌≤◌, ◌++◌, ◌∷◌, [], List, map, length, get_or, slice_set, arith, ap, sym, refl, ◌∙◌, append-nil, add-one}
use Rattle.std.proofs.lemmas.Grind.{flat_map-append}
use Rattle.std.proofs.lemmas.List.{length-map}
use Rattle.std.proofs.Math.ListN.{set}
use Rattle.mux_history.specs.declared.record.Record.{Record}
use Rattle.mux_history.specs.Log.{Log}
use Rattle.mux_agree.specs.Walk.{Kept, joined}
use Rattle.replay_script.specs.Judged.{with_epoch, with_epoch_at}

pub joined_more : (epochs : List Log) (epoch : Log) → joined (epochs ++ epoch ∷ []) ≡ joined epochs ++ epoch.records
joined_more epochs epoch =
    flat_map-append (λ (h : Log). h.records) epochs (epoch ∷ []) ∙ ap (λ rs. joined epochs ++ rs) (append-nil epoch.records)

-- there is no such session
pub at_none : (place : ℕ) (rs : List Record) (ks : List Kept) → length ks ≤ place → ks ≡ with_epoch_at place rs ks
at_none place rs [] beyond = refl
at_none zero rs (k ∷ ks) beyond = absurd (omega (arith, beyond))
at_none (suc place) rs (k ∷ ks) beyond = ap (λ rest. k ∷ rest) (at_none place rs ks (omega (arith, beyond)))

-- the session at a place has the epoch behind its others
pub at_place : {A : Type 0} (f : A → Kept) (xs : List A) (place : ℕ) (old new : A) (rs : List Record) → place < length xs → old ≡ get_or xs place old
    → f new ≡ with_epoch rs (f old) → map f (set xs place new) ≡ with_epoch_at place rs (map f xs)
at_place f [] place old new rs within here more = absurd (omega (arith, within))
at_place f (x ∷ xs) zero old new rs within here more =
    ap (λ k. k ∷ map f xs) (more ∙ ap (λ a. with_epoch rs (f a)) here)
at_place f (x ∷ xs) (suc place) old new rs within here more =
    ap (λ rest. f x ∷ rest) (at_place f xs place old new rs (omega (arith, within)) here more)

pub not_below : (i n : ℕ) → (i < n → 1 ≤ 0) → n ≤ i
not_below i n off = grind (arith, off)
