-- Texts of lines, as they are put together.
use Rattle.std.proofs.Common.{◌≡◌, ℕ, ◌+◌, ◌<◌, ◌≤◌, List, [], ◌∷◌, ◌++◌, length, map, flat_map, take, take_all, get_or, refl, sym, ap, ◌∙◌, append_assoc, append-nil}
use Rattle.std.proofs.lemmas.Grind.{flat_map-append}
use Rattle.std.proofs.lemmas.List.{map_more, take_more}
use Rattle.std.specs.List.{join_by}
use Rattle.operator_port.specs.Texts.{text_of}

pub text_of_append : (xs ys : List (List ℕ)) → text_of (xs ++ ys) ≡ text_of xs ++ text_of ys
text_of_append [] ys = refl
text_of_append (x ∷ xs) ys =
    ap (λ t. x ++ (10 ∷ t)) (text_of_append xs ys) ∙ sym (append_assoc x (10 ∷ text_of xs) (text_of ys))

-- lines behind lines
pub further : (old : List ℕ) (xs ys : List (List ℕ)) (t u : List ℕ) → t ≡ old ++ text_of xs → u ≡ t ++ text_of ys
    → u ≡ old ++ text_of (xs ++ ys)
further old xs ys t u told pushed =
    pushed ∙ ap (λ l. l ++ text_of ys) told ∙ append_assoc old (text_of xs) (text_of ys)
    ∙ ap (λ l. old ++ l) (sym (text_of_append xs ys))

-- one more row, of one line
pub row_pushed : {T : Type 0} (line : T → List ℕ) (old : List ℕ) (rows : List T) (i : ℕ) (row : T) (t u : List ℕ)
    → i < length rows → row ≡ get_or rows i row → t ≡ old ++ text_of (map line (take i rows))
    → u ≡ t ++ (line row ++ (10 ∷ [])) → u ≡ old ++ text_of (map line (take (i + 1) rows))
row_pushed line old rows i row t u within here told pushed =
    further old (map line (take i rows)) (line row ∷ []) t u told pushed
    ∙ ap (λ r. old ++ text_of (map line (take i rows) ++ (line r ∷ []))) here
    ∙ ap (λ ls. old ++ text_of ls) (sym (map_more line rows i row within))

-- one more row, of several
pub block_pushed : {T : Type 0} (lines : T → List (List ℕ)) (old : List ℕ) (rows : List T) (i : ℕ) (d : T) (t u : List ℕ)
    → i < length rows → t ≡ old ++ text_of (flat_map lines (take i rows))
    → u ≡ t ++ text_of (lines (get_or rows i d)) → u ≡ old ++ text_of (flat_map lines (take (i + 1) rows))
block_pushed lines old rows i d t u within told pushed =
    further old (flat_map lines (take i rows)) (lines (get_or rows i d)) t u told pushed
    ∙ ap (λ ls. old ++ text_of (flat_map lines (take i rows) ++ ls)) (sym (append-nil (lines (get_or rows i d))))
    ∙ ap (λ ls. old ++ text_of ls) (sym (flat_map-append lines (take i rows) (get_or rows i d ∷ [])))
    ∙ ap (λ rs. old ++ text_of (flat_map lines rs)) (sym (take_more rows i d within))

-- all rows
pub blocks_whole : {T : Type 0} (lines : T → List (List ℕ)) (old : List ℕ) (rows : List T) (i : ℕ) (t : List ℕ)
    → length rows ≤ i → t ≡ old ++ text_of (flat_map lines (take i rows)) → t ≡ old ++ text_of (flat_map lines rows)
blocks_whole lines old rows i t done told = told ∙ ap (λ rs. old ++ text_of (flat_map lines rs)) (take_all i rows done)

-- lines and the last one
pub text_ended : (xs : List (List ℕ)) (end t0 t u : List ℕ) → t0 ≡ [] → t ≡ t0 ++ text_of xs → u ≡ t ++ (end ++ (10 ∷ []))
    → u ≡ text_of (xs ++ (end ∷ []))
text_ended xs end t0 t u none told pushed =
    further t0 xs (end ∷ []) t u told pushed ∙ ap (λ l. l ++ text_of (xs ++ (end ∷ []))) none

-- a first line and a run of lines
pub headed : (head : List ℕ) (xs : List (List ℕ)) (t0 t1 t2 : List ℕ) → t1 ≡ t0 ++ (head ++ (10 ∷ []))
    → t2 ≡ t1 ++ text_of xs → t2 ≡ t0 ++ text_of (head ∷ xs)
headed head xs t0 t1 t2 first more = further t0 (head ∷ []) xs t1 t2 first more

-- a first line and two runs of lines
pub block_whole : (head : List ℕ) (xs ys : List (List ℕ)) (t0 t1 t2 t3 : List ℕ) → t1 ≡ t0 ++ (head ++ (10 ∷ []))
    → t2 ≡ t1 ++ text_of xs → t3 ≡ t2 ++ text_of ys → t3 ≡ t0 ++ text_of (head ∷ (xs ++ ys))
block_whole head xs ys t0 t1 t2 t3 first one two =
    further t0 (head ∷ xs) ys t2 t3 (further t0 (head ∷ []) xs t1 t2 first one) two

-- a first line, two runs of lines, and the last one
pub page_whole : (head : List ℕ) (cs ss : List (List ℕ)) (end t0 t1 t2 t3 u : List ℕ) → t0 ≡ [] → t1 ≡ t0 ++ (head ++ (10 ∷ []))
    → t2 ≡ t1 ++ text_of cs → t3 ≡ t2 ++ text_of ss → u ≡ t3 ++ (end ++ (10 ∷ []))
    → u ≡ text_of (head ∷ (cs ++ (ss ++ (end ∷ []))))
page_whole head cs ss end t0 t1 t2 t3 u none first clients servers last =
    let two = block_whole head cs ss t0 t1 t2 t3 first clients servers in
    further t0 (head ∷ (cs ++ ss)) (end ∷ []) t3 u two last
    ∙ ap (λ l. l ++ text_of (head ∷ ((cs ++ ss) ++ (end ∷ [])))) none
    ∙ ap (λ ls. text_of (head ∷ ls)) (append_assoc cs ss (end ∷ []))

further_parts : {X : Type 0} (f : X → List ℕ) (sep : List ℕ) (xs : List X)
    → flat_map (λ x. sep ++ f x) xs ≡ flat_map (λ l. sep ++ l) (map f xs)
further_parts f sep [] = refl
further_parts f sep (x ∷ xs) = ap (λ t. (sep ++ f x) ++ t) (further_parts f sep xs)

joined : {X : Type 0} (f : X → List ℕ) (sep : List ℕ) (xs : List X) → join_by f sep xs ≡ join_by (λ l. l) sep (map f xs)
joined f sep [] = refl
joined f sep (x ∷ xs) = ap (λ t. f x ++ t) (further_parts f sep xs)

-- the same texts are joined to the same text
pub joined_same : {X Y : Type 0} (f : X → List ℕ) (g : Y → List ℕ) (sep : List ℕ) (xs : List X) (ys : List Y)
    → map f xs ≡ map g ys → join_by f sep xs ≡ join_by g sep ys
joined_same f g sep xs ys same = joined f sep xs ∙ ap (join_by (λ l. l) sep) same ∙ sym (joined g sep ys)

-- three runs of lines, and the last one
pub runs_whole : (xs ys zs : List (List ℕ)) (end t0 t1 t2 t3 u : List ℕ) → t0 ≡ [] → t1 ≡ t0 ++ text_of xs
    → t2 ≡ t1 ++ text_of ys → t3 ≡ t2 ++ text_of zs → u ≡ t3 ++ (end ++ (10 ∷ []))
    → u ≡ text_of (xs ++ (ys ++ (zs ++ (end ∷ []))))
runs_whole xs ys zs end t0 t1 t2 t3 u none one two three last =
    let all = further t0 (xs ++ ys) zs t2 t3 (further t0 xs ys t1 t2 one two) three in
    text_ended ((xs ++ ys) ++ zs) end t0 t3 u none all last
    ∙ ap text_of (append_assoc (xs ++ ys) zs (end ∷ []) ∙ append_assoc xs ys (zs ++ (end ∷ [])))

-- a line in three parts
pub parts_whole : (a b c t0 t1 t2 u : List ℕ) → t1 ≡ t0 ++ a → t2 ≡ t1 ++ b → u ≡ t2 ++ (c ++ (10 ∷ []))
    → u ≡ t0 ++ ((a ++ (b ++ c)) ++ (10 ∷ []))
parts_whole a b c t0 t1 t2 u first second third =
    third ∙ ap (λ t. t ++ (c ++ (10 ∷ []))) (second ∙ ap (λ t. t ++ b) first)
    ∙ append_assoc (t0 ++ a) b (c ++ (10 ∷ [])) ∙ append_assoc t0 a (b ++ (c ++ (10 ∷ [])))
    ∙ ap (λ t. t0 ++ t) (ap (λ t. a ++ t) (sym (append_assoc b c (10 ∷ []))) ∙ sym (append_assoc a (b ++ c) (10 ∷ [])))
