-- The open dispatches of a list, and the map that a session keeps of them.
use Rattle.std.proofs.Common.{◌≡◌, ◌≢◌, ◌⊎◌, inl, inr, ℕ, Bool, true, false, cond, List, [], ◌∷◌, length, Option, None, Some, refl, sym, ◌∙◌, ap, arith}
use Rattle.std.proofs.Common.{Equal}
use Rattle.std.specs.Prelude.{count_by, not, filter, ◌==◌, if◌then◌else◌}
use Rattle.std.specs.Ordering.{nat_cmp, eq_by_cmp}
use Rattle.std.specs.Cmp.{nat_cmp_total}
use Rattle.std.specs.FinMap.{find, get, insert, get-insert, remove, len, entries, from_entries, get-from_entries, get-remove, same_map, nat_cmp-IsAntisymmetric}
use Rattle.std.specs.FinMap as map
use Rattle.std.specs.FinMap.Entries.{find-where_key}
use Rattle.std.proofs.lemmas.List.Sums.{sum_by-cons}
use Rattle.std.proofs.lemmas.Bool.Decides.{nat_tests}
use Rattle.std.specs.Prelude.{map as map_list}
use Rattle.mux_history.specs.declared.delays.Delays.{Delays}
use Rattle.mux_history.specs.declared.session.InitMode.{InitMode}
use Rattle.mux_history.specs.declared.session.InitMode.TheVariants as modes
use Rattle.mux_history.specs.Delaying.{no_delay}
use Rattle.mux_model.specs.World.{first_step}
use Rattle.client_session.specs.Past.{Dispatch, delays_of, dispatch_on}
use Rattle.client_session.specs.State.{fresh_in, is_fresh}
use Rattle.client_session.specs.Belonging.{HasDistinctTags}
use Rattle.client_session.proofs.Entries.{ties, no_tie, same_or, len-insert_new, fresh_in-insert}

pub eq_true : (a b : ℕ) → a ≡ b → (a == b) ≡ true
eq_true a b e = grind (arith, nat_tests)

pub eq_false : (a b : ℕ) → a ≢ b → (a == b) ≡ false
eq_false a b e = grind (arith, nat_tests)

pub tied : (a b : ℕ) → eq_by_cmp nat_cmp a b ≡ (a == b)
tied a b = elim (same_or a b) [ inl e ↦ ties a b e ∙ sym (eq_true a b e) | inr n ↦ no_tie a b n ∙ sym (eq_false a b n) ]

pub find-dispatch_on : (tag : ℕ) (hs : List (ℕ × Dispatch)) → find nat_cmp tag hs ≡ dispatch_on tag hs
find-dispatch_on tag [] = refl
find-dispatch_on tag (h ∷ hs) = rw (tied tag h.0, find-dispatch_on tag hs) refl

pub get-dispatch_on : (tag : ℕ) (hs : List (ℕ × Dispatch)) → get (from_entries {R = nat_cmp} hs) tag ≡ dispatch_on tag hs
get-dispatch_on tag hs = get-from_entries nat_cmp_total hs tag ∙ find-dispatch_on tag hs

pub len-from_entries : (hs : List (ℕ × Dispatch)) → HasDistinctTags hs → len (from_entries {R = nat_cmp} hs) ≡ length hs
len-from_entries [] d = map.len-empty nat_cmp Dispatch
len-from_entries (h ∷ hs) d =
    let one = len-insert_new (from_entries hs) h.0 h.1 (get-from_entries nat_cmp_total hs h.0 ∙ d.0) in
    let rest = len-from_entries hs d.1 in
    omega arith

empty_sum : (es : List (ℕ × Dispatch)) → length es ≡ 0 → count_by is_fresh es ≡ 0
empty_sum [] e = refl
empty_sum (x ∷ es) e = absurd (omega arith)

pub none_fresh : (m : map.FinMap nat_cmp Dispatch) → len m ≡ 0 → fresh_in m ≡ 0
none_fresh m e = empty_sum (map.entries m) (sym (map.len-entries m) ∙ e)

pub fresh_in-from_entries : (hs : List (ℕ × Dispatch)) → HasDistinctTags hs → fresh_in (from_entries {R = nat_cmp} hs) ≡ count_by is_fresh hs
fresh_in-from_entries [] d = empty_sum (map.entries (map.empty {K = ℕ} {X = Dispatch} {R = nat_cmp})) (sym (map.len-entries (map.empty {K = ℕ} {X = Dispatch} {R = nat_cmp})) ∙ map.len-empty nat_cmp Dispatch)
fresh_in-from_entries (h ∷ hs) d =
    let one = fresh_in-insert (from_entries hs) h.0 h.1 (get-from_entries nat_cmp_total hs h.0 ∙ d.0) in
    let rest = fresh_in-from_entries hs d.1 in
    let here = sum_by-cons (λ (e : ℕ × Dispatch). cond (is_fresh e) 1 0) h hs in
    omega arith

-- WHAT A STEP LEAVES OPEN

-- no dispatch was ended
pub filter_all : {X : Type 0} (xs : List X) → filter (λ (x : X). true) xs ≡ xs
filter_all [] = refl
filter_all (x ∷ xs) = ap (λ ys. x ∷ ys) (filter_all xs)

-- the dispatches on other tags
abbrev pub others : ℕ → List (ℕ × Dispatch) → List (ℕ × Dispatch)
others tag hs = filter (λ h. not (h.0 == tag)) hs

is_other : (x tag : ℕ) → x ≢ tag → not (x == tag) ≡ true
is_other x tag n = ap (λ (b : Bool). not b) (eq_false x tag n)

not_other : (x tag : ℕ) → x ≡ tag → not (x == tag) ≡ false
not_other x tag e = ap (λ (b : Bool). not b) (eq_true x tag e)

-- nothing was open on the tag
pub others-none : (tag : ℕ) (hs : List (ℕ × Dispatch)) → dispatch_on tag hs ≡ None → others tag hs ≡ hs
others-none tag [] none = refl
others-none tag (h ∷ hs) none = elim (same_or h.0 tag) [
  | inl e ↦ absurd (let is : ◌≡◌ {A = Option Dispatch} (Some h.1) None = sym (ap (λ (b : Bool). cond b (Some h.1) (dispatch_on tag hs)) (eq_true tag h.0 (sym e))) ∙ none in cc)
  | inr n ↦
      let rest : dispatch_on tag hs ≡ None = sym (ap (λ (b : Bool). cond b (Some h.1) (dispatch_on tag hs)) (eq_false tag h.0 (λ e. n (sym e)))) ∙ none in
      ap (λ (b : Bool). cond b (h ∷ others tag hs) (others tag hs)) (is_other h.0 tag n) ∙ ap (λ ys. h ∷ ys) (others-none tag hs rest)
]

alike : (tag q x : ℕ) → nat_cmp q x ≡ Equal → not (x == tag) ≡ not (q == tag)
alike tag q x e = ap (λ (n : ℕ). not (n == tag)) (sym (nat_cmp-IsAntisymmetric q x e))

pub find-others : (tag q : ℕ) (hs : List (ℕ × Dispatch)) → find nat_cmp q (others tag hs) ≡ cond (not (q == tag)) (find nat_cmp q hs) None
find-others tag q hs = find-where_key nat_cmp (λ (x : ℕ). not (x == tag)) q (alike tag q) hs

pub distinct-others : (tag : ℕ) (hs : List (ℕ × Dispatch)) → HasDistinctTags hs → HasDistinctTags (others tag hs)
distinct-others tag [] d = tt
distinct-others tag (h ∷ hs) d =
    let rest = distinct-others tag hs d.1 in
    elim (not (h.0 == tag)) as (λ b. HasDistinctTags (cond b (h ∷ others tag hs) (others tag hs))) [
      | true ↦ (find-others tag h.0 hs ∙ none (not (h.0 == tag)), rest)
      | false ↦ rest
    ]
  where
    none : (b : Bool) → cond b (find nat_cmp h.0 hs) None ≡ None
    none true = d.0
    none false = refl

pub from_entries-others : (tag : ℕ) (hs : List (ℕ × Dispatch)) → from_entries {R = nat_cmp} (others tag hs) ≡ remove (from_entries hs) tag
from_entries-others tag hs =
    same_map nat_cmp_total nat_cmp-IsAntisymmetric _ _
    (λ q. get-from_entries nat_cmp_total (others tag hs) q ∙ find-others tag q hs ∙ turn q ∙ sym (get-remove nat_cmp_total (from_entries hs) tag q ∙ ap (cond (eq_by_cmp nat_cmp q tag) None) (get-from_entries nat_cmp_total hs q)))
  where
    turn : (q : ℕ) → cond (not (q == tag)) (find nat_cmp q hs) None ≡ cond (eq_by_cmp nat_cmp q tag) None (find nat_cmp q hs)
    turn q = elim (same_or q tag) [
      | inl e ↦ ap (λ (b : Bool). cond b (find nat_cmp q hs) None) (not_other q tag e) ∙ sym (ap (λ (b : Bool). cond b None (find nat_cmp q hs)) (ties q tag e))
      | inr n ↦ ap (λ (b : Bool). cond b (find nat_cmp q hs) None) (is_other q tag n) ∙ sym (ap (λ (b : Bool). cond b None (find nat_cmp q hs)) (no_tie q tag n))
    ]

-- WHERE A DISPATCH IS RECALLED

-- the dispatch on a tag, recalled
abbrev pub recalled_if : ℕ → ℕ × Dispatch → ℕ × Dispatch
recalled_if tag h = if h.0 == tag then (h.0, record h.1 { recalled = true }) else h

abbrev pub recalled_option : Bool → Option Dispatch → Option Dispatch
recalled_option true None = None
recalled_option true (Some h) = Some (record h { recalled = true })
recalled_option false o = o

key_same : (tag : ℕ) (h : ℕ × Dispatch) → (recalled_if tag h).0 ≡ h.0
key_same tag h = elim (h.0 == tag) as (λ z. (let r : ℕ × Dispatch = cond z (h.0, record h.1 { recalled = true }) h in r).0 ≡ h.0) [ true ↦ refl | false ↦ refl ]

pub find-recalling : (tag q : ℕ) (hs : List (ℕ × Dispatch)) → find nat_cmp q (map_list (recalled_if tag) hs) ≡ recalled_option (q == tag) (find nat_cmp q hs)
find-recalling tag q [] = elim (q == tag) as (λ z. None ≡ recalled_option z None) [ true ↦ refl | false ↦ refl ]
find-recalling tag q (h ∷ hs) = elim (same_or h.0 tag) [
  | inl e ↦ elim (same_or q h.0) [
    | inl f ↦ rw (eq_true h.0 tag e, ties q h.0 f, eq_true q tag (f ∙ e)) refl
    | inr n ↦ rw (eq_true h.0 tag e, no_tie q h.0 n) (find-recalling tag q hs)
  ]
  | inr m ↦ elim (same_or q h.0) [
    | inl f ↦ rw (eq_false h.0 tag m, ties q h.0 f, eq_false q tag (λ g. m (sym f ∙ g))) refl
    | inr n ↦ rw (eq_false h.0 tag m, no_tie q h.0 n) (find-recalling tag q hs)
  ]
]

still_none : (b : Bool) (o : Option Dispatch) → o ≡ None → recalled_option b o ≡ None
still_none true None e = refl
still_none true (Some x) e = cc
still_none false o e = e

pub distinct-recalling : (tag : ℕ) (hs : List (ℕ × Dispatch)) → HasDistinctTags hs → HasDistinctTags (map_list (recalled_if tag) hs)
distinct-recalling tag [] d = tt
distinct-recalling tag (h ∷ hs) d =
    (ap (λ (k : ℕ). find nat_cmp k (map_list (recalled_if tag) hs)) (key_same tag h) ∙ find-recalling tag h.0 hs ∙ still_none (h.0 == tag) _ d.0, distinct-recalling tag hs d.1)

pub from_entries-recalling : (tag : ℕ) (hs : List (ℕ × Dispatch)) (h : Dispatch) → dispatch_on tag hs ≡ Some h
    → from_entries {R = nat_cmp} (map_list (recalled_if tag) hs) ≡ insert (from_entries hs) tag (record h { recalled = true })
from_entries-recalling tag hs h there =
    same_map nat_cmp_total nat_cmp-IsAntisymmetric _ _
    (λ q. get-from_entries nat_cmp_total (map_list (recalled_if tag) hs) q ∙ find-recalling tag q hs ∙ turn q
    ∙ sym (get-insert nat_cmp_total (from_entries hs) tag (record h { recalled = true }) q ∙ ap (λ (o : Option Dispatch). cond (eq_by_cmp nat_cmp q tag) (Some (record h { recalled = true })) o) (get-from_entries nat_cmp_total hs q)))
  where
    turn : (q : ℕ) → recalled_option (q == tag) (find nat_cmp q hs) ≡ cond (eq_by_cmp nat_cmp q tag) (Some (record h { recalled = true })) (find nat_cmp q hs)
    turn q = elim (same_or q tag) [
      | inl e ↦ ap (λ (b : Bool). recalled_option b (find nat_cmp q hs)) (eq_true q tag e)
          ∙ ap (λ (o : Option Dispatch). recalled_option true o) (ap (λ (k : ℕ). find nat_cmp k hs) e ∙ find-dispatch_on tag hs ∙ there)
          ∙ sym (ap (λ (b : Bool). cond b (Some (record h { recalled = true })) (find nat_cmp q hs)) (ties q tag e))
      | inr n ↦ ap (λ (b : Bool). recalled_option b (find nat_cmp q hs)) (eq_false q tag n)
          ∙ sym (ap (λ (b : Bool). cond b (Some (record h { recalled = true })) (find nat_cmp q hs)) (no_tie q tag n))
    ]

-- THE HEAD OF A LIST

pub on_head : (t k : ℕ) (x : Dispatch) (o : Option Dispatch) (d : Dispatch) → cond (t == k) (Some x) o ≡ Some d → ((t ≡ k) × (x ≡ d)) ⊎ ((t ≢ k) × (o ≡ Some d))
on_head t k x o d h = elim (same_or t k) [
  | inl e ↦
      let is : ◌≡◌ {A = Option Dispatch} (Some x) (Some d) = sym (ap (λ (b : Bool). cond b (Some x) o) (eq_true t k e)) ∙ h in
      inl (e, cc)
  | inr n ↦ inr (n, sym (ap (λ (b : Bool). cond b (Some x) o) (eq_false t k n)) ∙ h)
]

pub off_head : (t k : ℕ) (x : Dispatch) (o : Option Dispatch) → cond (t == k) (Some x) o ≡ None → (t ≢ k) × (o ≡ None)
off_head t k x o h = elim (same_or t k) [
  | inl e ↦ absurd (let is : ◌≡◌ {A = Option Dispatch} (Some x) None = sym (ap (λ (b : Bool). cond b (Some x) o) (eq_true t k e)) ∙ h in cc)
  | inr n ↦ (n, sym (ap (λ (b : Bool). cond b (Some x) o) (eq_false t k n)) ∙ h)
]

-- nothing was answered before the first step
pub none_delayed : (mode : InitMode) (d : Delays) → d ≡ no_delay → d ≡ delays_of (first_step mode)
none_delayed modes.Plain d none = none
none_delayed modes.Probe d none = none
