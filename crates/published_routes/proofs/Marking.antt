-- Names in the order of their marks.
use Rattle.std.proofs.Common.{◌≡◌, ℕ, ◌+◌, ◌<◌, ◌≤◌, nat_le, List, [], ◌∷◌, ◌++◌, Vec, Global, length, map, position, Bool, true, false, Option, Some, option_map, if◌then◌else◌, refl, sym, ap, ◌∙◌, arith}
use Rattle.std.specs.List.{list_any}
use Rattle.std.specs.Str.{bytes_eq}
use Rattle.std.proofs.lemmas.List.{length-map, map-append}
use Rattle.route_table.proofs.Values.{list_any_map, position_map}
use Rattle.published_routes.specs.Marks.{noted}

abbrev pub Name : Type 0
Name = Vec ℕ Global

abbrev pub names_of : List Name → List (List ℕ)
names_of ks = map (λ k. k.items) ks

-- the place of a key is that of its bytes
pub placed_as : (dst : List ℕ) (ks : List Name) (names : List (List ℕ)) (o : Option ℕ) → names_of ks ≡ names
    → o ≡ position (λ k. bytes_eq dst k.items) ks → o ≡ position (bytes_eq dst) names
placed_as dst ks names o view is =
    is ∙ sym (position_map (bytes_eq dst) (λ (k : Name). k.items) ks) ∙ ap (position (bytes_eq dst)) view

full_if : (b k : Bool) (names other : List (List ℕ)) → b ≡ true → names ≡ (if b then names else (if k then names else other))
full_if true k names other is = refl
full_if false k names other is = absurd (cc is)

known_if : (b k : Bool) (names other : List (List ℕ)) → k ≡ true → names ≡ (if b then names else (if k then names else other))
known_if true k names other is = refl
known_if false true names other is = refl
known_if false false names other is = absurd (cc is)

new_if : (b k : Bool) (names other : List (List ℕ)) → b ≡ false → k ≡ false → other ≡ (if b then names else (if k then names else other))
new_if true k names other is not_known = absurd (cc is)
new_if false true names other is not_known = absurd (cc not_known)
new_if false false names other is not_known = refl

is_full : (n : ℕ) → 256 ≤ n → nat_le 256 n ≡ true
is_full n le = grind arith

is_not_full : (n : ℕ) → n < 256 → nat_le 256 n ≡ false
is_not_full n less = grind arith

pub noted_full : (ks : List Name) (names : List (List ℕ)) (dst : List ℕ) → names_of ks ≡ names → 256 ≤ length ks
    → names ≡ noted names (Some dst)
noted_full ks names dst view le =
    full_if (nat_le 256 (length names)) (list_any (bytes_eq dst) names) names (names ++ dst ∷ [])
    (ap (nat_le 256) (ap length (sym view) ∙ length-map ks (λ (k : Name). k.items)) ∙ is_full (length ks) le)

-- a key is there if its bytes are
there_as : (ks : List Name) (names : List (List ℕ)) (dst : List ℕ) (b : Bool) → names_of ks ≡ names
    → b ≡ list_any (λ k. bytes_eq dst k.items) ks → list_any (bytes_eq dst) names ≡ b
there_as ks names dst b view is =
    ap (list_any (bytes_eq dst)) (sym view) ∙ list_any_map (bytes_eq dst) (λ (k : Name). k.items) ks ∙ sym is

pub noted_known : (ks : List Name) (names : List (List ℕ)) (dst : List ℕ) (b : Bool) → names_of ks ≡ names
    → b ≡ list_any (λ k. bytes_eq dst k.items) ks → b ≡ true → names ≡ noted names (Some dst)
noted_known ks names dst b view is known =
    known_if (nat_le 256 (length names)) (list_any (bytes_eq dst) names) names (names ++ dst ∷ [])
    (there_as ks names dst b view is ∙ known)

kept_if : (k : Bool) (ks : List Name) (dst : Name) → k ≡ false → (if k then ks else ks ++ dst ∷ []) ≡ ks ++ dst ∷ []
kept_if true ks dst is = absurd (cc is)
kept_if false ks dst is = refl

-- one more key
pub noted_new : (ks new : List Name) (names : List (List ℕ)) (dst : Name) (b : Bool) → names_of ks ≡ names
    → b ≡ list_any (λ k. bytes_eq dst.items k.items) ks → b ≡ false → length ks < 256
    → new ≡ (if list_any (λ k. bytes_eq dst.items k.items) ks then ks else ks ++ dst ∷ [])
    → names_of new ≡ noted names (Some dst.items)
noted_new ks new names dst b view is not_known less inserted =
    ap names_of (inserted ∙ kept_if (list_any (λ k. bytes_eq dst.items k.items) ks) ks dst (sym is ∙ not_known))
    ∙ map-append (λ (k : Name). k.items) ks (dst ∷ []) ∙ ap (λ ns. ns ++ dst.items ∷ []) view
    ∙ new_if (nat_le 256 (length names)) (list_any (bytes_eq dst.items) names) names (names ++ dst.items ∷ [])
    (ap (nat_le 256) (ap length (sym view) ∙ length-map ks (λ (k : Name). k.items)) ∙ is_not_full (length ks) less)
    (there_as ks names dst.items b view is ∙ not_known)

-- a key more, where there was a place
pub room_left : (n s m t : ℕ) (r : Bool) → r ≡ true → n < 256 → 256 ≤ n + s → m ≡ n + (if r then 1 else 0) → s ≤ t + 1
    → (m ≤ 256) × (256 ≤ m + t)
room_left n s m t true is less room more spare = (omega arith, omega arith)
room_left n s m t false is less room more spare = absurd (cc is)

pub noted_next : (old names new : List (List ℕ)) (dst : Option Name) (given : Option (List ℕ)) → old ≡ names
    → option_map (λ (d : Name). d.items) dst ≡ given → new ≡ noted old (option_map (λ (d : Name). d.items) dst) → new ≡ noted names given
noted_next old names new dst given were is noted_is =
    noted_is ∙ ap (λ ns. noted ns (option_map (λ (d : Name). d.items) dst)) were ∙ ap (noted names) is
