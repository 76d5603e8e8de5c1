-- Receipts in two lists.
use Rattle.std.proofs.Common.{ℕ, zero, suc, List, [], ◌∷◌, ◌++◌, ◌≡◌, ◌<◌, ◌≤◌, ◌+◌, ◌∙◌, Bool, true, false, Some, add-one, ap, arith, cond, drop, get_or, if◌then◌else◌, length, refl, sym, take}
use Rattle.std.specs.Prelude.{count_by, option_map, slice_get, unwrap_or}
use Rattle.std.proofs.lemmas.List.{get_or-drop, length-append, length-drop}
use Rattle.std.proofs.lemmas.List.Sums.{count_by-le-length, count_by_more_yes, sum_by-cons, sum_by-take-drop, sum_by-take-le, sum_by_more, sum_by_push}
use Rattle.std.proofs.lemmas.Option.{slice_get-get_or}
use Rattle.std.proofs.Math.Seq.{drop-nil, take-length}
use Rattle.hub_close.specs.declared.packed.Packed.{Packed}
use Rattle.hub_close.specs.declared.receipt.Stub.{Stub}
use Rattle.hub_close.specs.Packing.{behind, is_mark, missing, stub_in, stubs, unpack}

pub stubs_length : (boot : ℕ) (ps : List Packed) (whole : List Stub) → length (stubs boot ps whole) ≡ length ps
stubs_length boot [] whole = refl
stubs_length boot (p ∷ ps) whole = ap suc (stubs_length boot ps (behind p whole))

marks_cons : (p : Packed) (ps : List Packed) → count_by is_mark ps + cond (is_mark p) 1 0 ≡ count_by is_mark (p ∷ ps)
marks_cons p ps = omega (arith, sum_by-cons (λ x. cond (is_mark x) 1 0) p ps)

pub marks_push : (ps : List Packed) (p : Packed)
    → count_by is_mark (ps ++ p ∷ []) ≡ count_by is_mark ps + cond (is_mark p) 1 0
marks_push ps p = sum_by_push (λ x. cond (is_mark x) 1 0) ps p

pub marks_more : (ps : List Packed) (i : ℕ) (d : Packed) → i < length ps
    → count_by is_mark (take (i + 1) ps) ≡ count_by is_mark (take i ps) + cond (is_mark (get_or ps i d)) 1 0
marks_more ps i d lt = sum_by_more (λ x. cond (is_mark x) 1 0) ps i d lt

pub marks_few : (ps : List Packed) (i : ℕ) → count_by is_mark (take i ps) ≤ count_by is_mark ps
marks_few ps i = sum_by-take-le (λ x. cond (is_mark x) 1 0) ps i

pub marks_at_most : (ps : List Packed) → count_by is_mark ps ≤ length ps
marks_at_most ps = count_by-le-length is_mark ps

pub marks_last : (ps : List Packed) (i : ℕ) (d : Packed) → i + 1 ≡ length ps
    → count_by is_mark ps ≡ count_by is_mark (take i ps) + cond (is_mark (get_or ps i d)) 1 0
marks_last ps i d end =
    sym (ap (count_by is_mark) (ap (λ (n : ℕ). take n ps) end ∙ take-length ps)) ∙ marks_more ps i d (omega (arith, end))

pub marks_left : (ps : List Packed) (whole : List Stub) (n m : ℕ) → m ≡ count_by is_mark (take n ps) → count_by is_mark ps ≡ length whole
    → count_by is_mark (drop n ps) ≡ length (drop m whole)
marks_left ps whole n m is all =
    omega (arith, is, all, sum_by-take-drop (λ x. cond (is_mark x) 1 0) ps n, length-drop m whole)

-- the whole ones that are left behind a mark, or another, and so many marks
left : (b : Bool) (n : ℕ) (whole : List Stub) → drop n (if b then drop 1 whole else whole) ≡ drop (n + cond b 1 0) whole
left true n [] = drop-nil n ∙ sym (drop-nil (n + 1))
left true n (w ∷ whole) = ap (λ (k : ℕ). drop k (w ∷ whole)) (sym (add-one n))
left false n whole = ap (λ (k : ℕ). drop k whole) (omega arith)

left_behind : (p : Packed) (ps : List Packed) (whole : List Stub)
    → drop (count_by is_mark ps) (behind p whole) ≡ drop (count_by is_mark (p ∷ ps)) whole
left_behind p ps whole =
    left (is_mark p) (count_by is_mark ps) whole ∙ ap (λ (n : ℕ). drop n whole) (marks_cons p ps)

pub stubs_drop : (boot n : ℕ) (ps : List Packed) (whole : List Stub)
    → drop n (stubs boot ps whole) ≡ stubs boot (drop n ps) (drop (count_by is_mark (take n ps)) whole)
stubs_drop boot zero ps whole = refl
stubs_drop boot (suc n) [] whole = refl
stubs_drop boot (suc n) (p ∷ ps) whole =
    stubs_drop boot n ps (behind p whole) ∙ ap (stubs boot (drop n ps)) (left_behind p (take n ps) whole)

pub stubs_found : (boot n : ℕ) (ps : List Packed) (whole : List Stub) (p : Packed) → slice_get ps n ≡ Some p
    → slice_get (stubs boot ps whole) n ≡ Some (stub_in boot p (drop (count_by is_mark (take n ps)) whole))
stubs_found boot zero [] whole p found = absurd (cc)
stubs_found boot zero (q ∷ ps) whole p found = ap (option_map (λ x. stub_in boot x whole)) found
stubs_found boot (suc n) [] whole p found = absurd (cc)
stubs_found boot (suc n) (q ∷ ps) whole p found =
    stubs_found boot n ps (behind q whole) p found
    ∙ ap (λ (ws : List Stub). Some (stub_in boot p ws)) (left_behind q (take n ps) whole)

pub stubs_push : (boot : ℕ) (ps : List Packed) (whole : List Stub) (p : Packed) → is_mark p ≡ false
    → stubs boot (ps ++ p ∷ []) whole ≡ stubs boot ps whole ++ unpack boot p ∷ []
stubs_push boot [] whole p is = ap (λ (b : Bool). (if b then get_or whole 0 missing else unpack boot p) ∷ []) is
stubs_push boot (q ∷ ps) whole p is = ap (λ rs. stub_in boot q whole ∷ rs) (stubs_push boot ps (behind q whole) p is)

head_same : (b : Bool) (whole : List Stub) (w u : Stub) → cond b 1 0 ≤ length whole
    → (if b then get_or (whole ++ w ∷ []) 0 missing else u) ≡ (if b then get_or whole 0 missing else u)
head_same true [] w u le = absurd (omega (arith, le))
head_same true (v ∷ whole) w u le = refl
head_same false whole w u le = refl

tail_same : (b : Bool) (whole : List Stub) (w : Stub) → cond b 1 0 ≤ length whole
    → (if b then drop 1 (whole ++ w ∷ []) else whole ++ w ∷ []) ≡ (if b then drop 1 whole else whole) ++ w ∷ []
tail_same true [] w le = absurd (omega (arith, le))
tail_same true (v ∷ whole) w le = refl
tail_same false whole w le = refl

tail_length : (b : Bool) (whole : List Stub) → cond b 1 0 ≤ length whole
    → length (if b then drop 1 whole else whole) + cond b 1 0 ≡ length whole
tail_length true [] le = absurd (omega (arith, le))
tail_length true (v ∷ whole) le = add-one (length whole)
tail_length false whole le = omega arith

pub stubs_mark : (boot : ℕ) (ps : List Packed) (whole : List Stub) (p : Packed) (w : Stub) → is_mark p ≡ true
    → count_by is_mark ps ≡ length whole
    → stubs boot (ps ++ p ∷ []) (whole ++ w ∷ []) ≡ stubs boot ps whole ++ w ∷ []
stubs_mark boot [] [] p w is all = ap (λ (b : Bool). (if b then w else unpack boot p) ∷ []) is
stubs_mark boot [] (v ∷ whole) p w is all = absurd (omega (arith, all))
stubs_mark boot (q ∷ ps) whole p w is all =
    ap (λ s. s ∷ stubs boot (ps ++ p ∷ []) (behind q (whole ++ w ∷ []))) (head_same (is_mark q) whole w (unpack boot q) le)
    ∙ ap (λ rs. stub_in boot q whole ∷ rs)
    (ap (stubs boot (ps ++ p ∷ [])) (tail_same (is_mark q) whole w le)
    ∙ stubs_mark boot ps (behind q whole) p w is (omega (arith, cons, all, tail_length (is_mark q) whole le)))
  where
    cons : count_by is_mark ps + cond (is_mark q) 1 0 ≡ count_by is_mark (q ∷ ps)
    cons = marks_cons q ps

    le : cond (is_mark q) 1 0 ≤ length whole
    le = omega (arith, cons, all)

-- beside marks alone the boot doesn't matter
marked : (b : Bool) (n m : ℕ) → n + cond b 1 0 ≡ m + 1 → n ≤ m → b ≡ true
marked true n m is le = refl
marked false n m is le = absurd (omega (arith, is, le))

pub stubs_of_marks : (a b : ℕ) (ps : List Packed) (whole : List Stub) → count_by is_mark ps ≡ length ps
    → stubs a ps whole ≡ stubs b ps whole
stubs_of_marks a b [] whole all = refl
stubs_of_marks a b (p ∷ ps) whole all =
    ap (λ s. s ∷ stubs a ps (behind p whole))
    (ap (λ (c : Bool). if c then get_or whole 0 missing else unpack a p) is
    ∙ sym (ap (λ (c : Bool). if c then get_or whole 0 missing else unpack b p) is))
    ∙ ap (λ rs. stub_in b p whole ∷ rs) (stubs_of_marks a b ps (behind p whole) rest)
  where
    cons : count_by is_mark ps + cond (is_mark p) 1 0 ≡ count_by is_mark (p ∷ ps)
    cons = marks_cons p ps

    few : count_by is_mark ps ≤ length ps
    few = count_by-le-length is_mark ps

    is : is_mark p ≡ true
    is = marked (is_mark p) (count_by is_mark ps) (length ps) (omega (arith, cons, all)) few

    rest : count_by is_mark ps ≡ length ps
    rest = omega (arith, cons, all, ap {B = ℕ} (λ (c : Bool). cond c 1 0) is)

pub found_mark : (boot n : ℕ) (ps : List Packed) (whole : List Stub) (d : Packed) (m : ℕ) (w : Stub) → n < length ps
    → m ≡ count_by is_mark (take n ps) → count_by is_mark ps ≡ length whole → is_mark (get_or ps n d) ≡ true
    → w ≡ get_or whole m w → slice_get (stubs boot ps whole) n ≡ Some w
found_mark boot n ps whole d m w lt is all mark at =
    stubs_found boot n ps whole (get_or ps n d) (slice_get-get_or ps n d lt)
    ∙ ap (λ (b : Bool). Some (if b then get_or (drop k whole) 0 missing else unpack boot (get_or ps n d))) mark
    ∙ ap (λ (x : Stub). Some x) (get_or-drop k whole 0 missing ∙ ap (λ (j : ℕ). get_or whole j missing) (omega arith))
    ∙ sym (slice_get-get_or whole k missing less)
    ∙ slice_get-get_or whole k w less
    ∙ ap (λ (x : Stub). Some x) (ap (λ (j : ℕ). get_or whole j w) (sym is) ∙ sym at)
  where
    k : ℕ
    k = count_by is_mark (take n ps)

    less : k < length whole
    less = omega (arith, all, count_by_more_yes is_mark ps n d lt mark, marks_few ps (n + 1))

pub found_packed : (boot n : ℕ) (ps : List Packed) (whole : List Stub) (d : Packed) → n < length ps → is_mark (get_or ps n d) ≡ false
    → slice_get (stubs boot ps whole) n ≡ Some (unpack boot (get_or ps n d))
found_packed boot n ps whole d lt mark =
    stubs_found boot n ps whole (get_or ps n d) (slice_get-get_or ps n d lt)
    ∙ ap (λ (b : Bool). Some (if b then get_or (drop (count_by is_mark (take n ps)) whole) 0 missing else unpack boot (get_or ps n d))) mark

seam : (rs : List Stub) (r : Stub) → slice_get (rs ++ r ∷ []) (length rs) ≡ Some r
seam [] r = refl
seam (x ∷ rs) r = seam rs r

-- the one at the last place is the last one
pub last_is : (xs rs : List Stub) (r s : Stub) (n : ℕ) → xs ≡ rs ++ r ∷ [] → n + 1 ≡ length xs → slice_get xs n ≡ Some s → s ≡ r
last_is xs rs r s n is end found =
    ap (λ o. unwrap_or o s) (sym found ∙ ap (λ ys. slice_get ys n) is ∙ ap (λ k. slice_get (rs ++ r ∷ []) k) at ∙ seam rs r)
  where
    at : n ≡ length rs
    at = omega (arith, end, ap (λ ys. length ys) is, length-append rs (r ∷ []))
