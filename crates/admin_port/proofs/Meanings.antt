-- What a line can spell, by its first word.
use Rattle.std.proofs.Common.{◌≡◌, ◌⊎◌, inl, inr, ◌==◌, ℕ, nat_le, List, [], ◌∷◌, ◌++◌, length, drop, get_or, true, false, ◌&&◌, codes, refl, sym, ap, subst, ◌∙◌}
use Rattle.std.specs.List.{list_all, slice_split, join_with_byte}
use Rattle.std.specs.Str.Parse.{digits_value}
use Rattle.std.proofs.lemmas.Bool.{and_parts, both_ways, eqb-false, false≢true}
use Rattle.std.proofs.lemmas.List.Splits.{join_with_byte-slice_split}
use Rattle.admin_port.specs.Orders.{Order, status, drain_client, retire, route, unroute, quit, Spells, SpellsOne, are_names, none_twice}
use Rattle.line_session.specs.Words.{Writes, lacks, is_name}
use Rattle.line_session.proofs.Cuts.{cut_once, lacks_no}
use Rattle.admin_port.proofs.Joined.{split_joined}

-- no two orders' lines have one second byte
abbrev second : Order → ℕ
second status = 116
second (drain_client number) = 114
second (retire name) = 101
second (route dst names) = 111
second (unroute dst) = 110
second quit = 117

second_of : (o : Order) (line : List ℕ) → Spells o line → get_or line 1 0 ≡ second o
second_of status line h = ap (λ l. get_or l 1 0) h
second_of (drain_client number) line h = ap (λ l. get_or l 1 0) h.1
second_of (retire name) line h = ap (λ l. get_or l 1 0) h.0
second_of (route dst names) line h = ap (λ l. get_or l 1 0) h.0
second_of (unroute dst) line h = ap (λ l. get_or l 1 0) h.0
second_of quit line h = ap (λ l. get_or l 1 0) h

-- the names of a route come apart again
pub names_split : (names : List (List ℕ)) → are_names names ≡ true
    → slice_split (λ b. b == 44) (join_with_byte 44 names) ≡ names
names_split [] h = absurd (false≢true h)
names_split (name ∷ names) h =
    split_joined name names
    (and_parts (list_all is_name (name ∷ names)) (none_twice (name ∷ names))
    (and_parts (nat_le 1 (length (name ∷ names)) && nat_le (length (name ∷ names)) 64)
    (list_all is_name (name ∷ names) && none_twice (name ∷ names)) h).1).0

-- two orders of one kind
route_one : (dst : List ℕ) (names : List (List ℕ)) (dst2 : List ℕ) (names2 : List (List ℕ)) (line : List ℕ)
    → Spells (route dst names) line → Spells (route dst2 names2) line → route dst names ≡ route dst2 names2
route_one dst names dst2 names2 line h k =
    let same = cut_once 32 dst (join_with_byte 44 names) dst2 (join_with_byte 44 names2) h.1 k.1
    (ap (λ l. drop 6 l) (sym h.0 ∙ k.0)) in
    ap (λ d. route d names) same.0
    ∙ ap (λ ns. route dst2 ns)
    (sym (names_split names h.2) ∙ ap (λ l. slice_split (λ b. b == 44) l) same.1 ∙ names_split names2 k.2)

drain_one : (n m : ℕ) (line : List ℕ) → Spells (drain_client n) line → Spells (drain_client m) line
    → drain_client n ≡ drain_client m
drain_one n m line h k =
    ap drain_client (sym h.2.1 ∙ ap (λ l. digits_value 10 (drop 13 l)) (sym h.1 ∙ k.1) ∙ k.2.1)

apart : {P : Type 0} (o p : Order) (line : List ℕ) → Spells o line → Spells p line → (second o == second p) ≡ false → P
apart o p line h k e = absurd (eqb-false (second o) (second p) e (sym (second_of o line h) ∙ second_of p line k))

pub spells_one : (line : List ℕ) → SpellsOne line
spells_one line status status h k = refl
spells_one line (drain_client n) (drain_client m) h k = drain_one n m line h k
spells_one line (retire a) (retire b) h k = ap retire (ap (λ l. drop 7 l) (sym h.0 ∙ k.0))
spells_one line (route a x) (route b y) h k = route_one a x b y line h k
spells_one line (unroute a) (unroute b) h k = ap unroute (ap (λ l. drop 8 l) (sym h.0 ∙ k.0))
spells_one line quit quit h k = refl
spells_one line status (drain_client m) h k = apart status (drain_client m) line h k refl
spells_one line status (retire b) h k = apart status (retire b) line h k refl
spells_one line status (route b y) h k = apart status (route b y) line h k refl
spells_one line status (unroute b) h k = apart status (unroute b) line h k refl
spells_one line status quit h k = apart status quit line h k refl
spells_one line (drain_client n) status h k = apart (drain_client n) status line h k refl
spells_one line (drain_client n) (retire b) h k = apart (drain_client n) (retire b) line h k refl
spells_one line (drain_client n) (route b y) h k = apart (drain_client n) (route b y) line h k refl
spells_one line (drain_client n) (unroute b) h k = apart (drain_client n) (unroute b) line h k refl
spells_one line (drain_client n) quit h k = apart (drain_client n) quit line h k refl
spells_one line (retire a) status h k = apart (retire a) status line h k refl
spells_one line (retire a) (drain_client m) h k = apart (retire a) (drain_client m) line h k refl
spells_one line (retire a) (route b y) h k = apart (retire a) (route b y) line h k refl
spells_one line (retire a) (unroute b) h k = apart (retire a) (unroute b) line h k refl
spells_one line (retire a) quit h k = apart (retire a) quit line h k refl
spells_one line (route a x) status h k = apart (route a x) status line h k refl
spells_one line (route a x) (drain_client m) h k = apart (route a x) (drain_client m) line h k refl
spells_one line (route a x) (retire b) h k = apart (route a x) (retire b) line h k refl
spells_one line (route a x) (unroute b) h k = apart (route a x) (unroute b) line h k refl
spells_one line (route a x) quit h k = apart (route a x) quit line h k refl
spells_one line (unroute a) status h k = apart (unroute a) status line h k refl
spells_one line (unroute a) (drain_client m) h k = apart (unroute a) (drain_client m) line h k refl
spells_one line (unroute a) (retire b) h k = apart (unroute a) (retire b) line h k refl
spells_one line (unroute a) (route b y) h k = apart (unroute a) (route b y) line h k refl
spells_one line (unroute a) quit h k = apart (unroute a) quit line h k refl
spells_one line quit status h k = apart quit status line h k refl
spells_one line quit (drain_client m) h k = apart quit (drain_client m) line h k refl
spells_one line quit (retire b) h k = apart quit (retire b) line h k refl
spells_one line quit (route b y) h k = apart quit (route b y) line h k refl
spells_one line quit (unroute b) h k = apart quit (unroute b) line h k refl

-- a line of one word
pub one_word : (o : Order) (line : List ℕ) → lacks 32 line ≡ true → Spells o line
    → (line ≡ codes "status") ⊎ (line ≡ codes "quit")
one_word status line h k = inl k
one_word quit line h k = inr k
one_word (drain_client n) line h k = absurd (lacks_no 32 (codes "drain") (codes "client " ++ k.0) (subst (λ l. lacks 32 l ≡ true) k.1 h))
one_word (retire name) line h k = absurd (lacks_no 32 (codes "retire") name (subst (λ l. lacks 32 l ≡ true) k.0 h))
one_word (route dst names) line h k =
    absurd (lacks_no 32 (codes "route") (dst ++ (32 ∷ join_with_byte 44 names)) (subst (λ l. lacks 32 l ≡ true) k.0 h))
one_word (unroute dst) line h k = absurd (lacks_no 32 (codes "unroute") dst (subst (λ l. lacks 32 l ≡ true) k.0 h))

-- a line of more words begins with one of four
pub four_words : (o : Order) (word rest : List ℕ) → lacks 32 word ≡ true → Spells o (word ++ (32 ∷ rest))
    → (word ≡ codes "drain") ⊎ ((word ≡ codes "retire") ⊎ ((word ≡ codes "route") ⊎ (word ≡ codes "unroute")))
four_words status word rest h k = absurd (lacks_no 32 word rest (subst (λ l. lacks 32 l ≡ true) (sym k) refl))
four_words quit word rest h k = absurd (lacks_no 32 word rest (subst (λ l. lacks 32 l ≡ true) (sym k) refl))
four_words (drain_client n) word rest h k = inl (cut_once 32 word rest (codes "drain") (codes "client " ++ k.0) h refl k.1).0
four_words (retire name) word rest h k = inr (inl (cut_once 32 word rest (codes "retire") name h refl k.0).0)
four_words (route dst names) word rest h k =
    inr (inr (inl (cut_once 32 word rest (codes "route") (dst ++ (32 ∷ join_with_byte 44 names)) h refl k.0).0))
four_words (unroute dst) word rest h k = inr (inr (inr (cut_once 32 word rest (codes "unroute") dst h refl k.0).0))

-- what each of the four says of the rest
pub drain_rest : (o : Order) (rest : List ℕ) → Spells o (codes "drain " ++ rest)
    → (number : ℕ) × (digits : List ℕ) × (rest ≡ codes "client " ++ digits) × Writes digits number
drain_rest (drain_client n) rest k = (n, k.0, ap (λ l. drop 6 l) k.1, k.2)
drain_rest status rest k = absurd (eqb-false 114 116 refl (second_of status _ k))
drain_rest (retire name) rest k = absurd (eqb-false 114 101 refl (second_of (retire name) _ k))
drain_rest (route dst names) rest k = absurd (eqb-false 114 111 refl (second_of (route dst names) _ k))
drain_rest (unroute dst) rest k = absurd (eqb-false 114 110 refl (second_of (unroute dst) _ k))
drain_rest quit rest k = absurd (eqb-false 114 117 refl (second_of quit _ k))

pub retire_rest : (o : Order) (rest : List ℕ) → Spells o (codes "retire " ++ rest) → is_name rest ≡ true
retire_rest (retire name) rest k = subst (λ l. is_name l ≡ true) (sym (ap (λ l. drop 7 l) k.0)) k.1
retire_rest status rest k = absurd (eqb-false 101 116 refl (second_of status _ k))
retire_rest (drain_client n) rest k = absurd (eqb-false 101 114 refl (second_of (drain_client n) _ k))
retire_rest (route dst names) rest k = absurd (eqb-false 101 111 refl (second_of (route dst names) _ k))
retire_rest (unroute dst) rest k = absurd (eqb-false 101 110 refl (second_of (unroute dst) _ k))
retire_rest quit rest k = absurd (eqb-false 101 117 refl (second_of quit _ k))

pub unroute_rest : (o : Order) (rest : List ℕ) → Spells o (codes "unroute " ++ rest) → lacks 32 rest ≡ true
unroute_rest (unroute dst) rest k = subst (λ l. lacks 32 l ≡ true) (sym (ap (λ l. drop 8 l) k.0)) k.1
unroute_rest status rest k = absurd (eqb-false 110 116 refl (second_of status _ k))
unroute_rest (drain_client n) rest k = absurd (eqb-false 110 114 refl (second_of (drain_client n) _ k))
unroute_rest (retire name) rest k = absurd (eqb-false 110 101 refl (second_of (retire name) _ k))
unroute_rest (route dst names) rest k = absurd (eqb-false 110 111 refl (second_of (route dst names) _ k))
unroute_rest quit rest k = absurd (eqb-false 110 117 refl (second_of quit _ k))

route_rest : (o : Order) (rest : List ℕ) → Spells o (codes "route " ++ rest)
    → (dst : List ℕ) × (names : List (List ℕ)) × (rest ≡ dst ++ (32 ∷ join_with_byte 44 names))
    × (lacks 32 dst ≡ true) × (are_names names ≡ true)
route_rest (route dst names) rest k = (dst, names, ap (λ l. drop 6 l) k.0, k.1, k.2)
route_rest status rest k = absurd (eqb-false 111 116 refl (second_of status _ k))
route_rest (drain_client n) rest k = absurd (eqb-false 111 114 refl (second_of (drain_client n) _ k))
route_rest (retire name) rest k = absurd (eqb-false 111 101 refl (second_of (retire name) _ k))
route_rest (unroute dst) rest k = absurd (eqb-false 111 110 refl (second_of (unroute dst) _ k))
route_rest quit rest k = absurd (eqb-false 111 117 refl (second_of quit _ k))

-- a route's rest with no space
pub route_lacks : (rest : List ℕ) → lacks 32 rest ≡ true → (o : Order) → Spells o (codes "route " ++ rest) → ⊥
route_lacks rest h o k =
    let r = route_rest o rest k in
    lacks_no 32 r.0 (join_with_byte 44 r.1) (subst (λ l. lacks 32 l ≡ true) r.2 h)

-- and one whose names do not serve
pub route_bad : (rest dst list : List ℕ) → rest ≡ dst ++ (32 ∷ list) → lacks 32 dst ≡ true
    → are_names (slice_split (λ b. b == 44) list) ≡ false → (o : Order) → Spells o (codes "route " ++ rest) → ⊥
route_bad rest dst list e h bad o k =
    let r = route_rest o rest k in
    let same = cut_once 32 dst list r.0 (join_with_byte 44 r.1) h r.3 (sym e ∙ r.2) in
    let parts : slice_split (λ b. b == 44) list ≡ r.1 =
    ap (λ l. slice_split (λ b. b == 44) l) same.1 ∙ names_split r.1 r.4 in
    both_ways (are_names r.1) (subst (λ ns. are_names ns ≡ false) parts bad) r.4

-- one whose names serve
pub route_good : (rest dst list : List ℕ) (names : List (List ℕ)) → rest ≡ dst ++ (32 ∷ list) → lacks 32 dst ≡ true
    → names ≡ slice_split (λ b. b == 44) list → are_names names ≡ true → Spells (route dst names) (codes "route " ++ rest)
route_good rest dst list names e h parts good = (
  ap (λ l. codes "route " ++ l) (e ∙ ap (λ l. dst ++ (32 ∷ l))
      (sym (ap (λ ns. join_with_byte 44 ns) parts ∙ join_with_byte-slice_split 44 list))),
  h,
  good,
)

-- a first word that is none of the four
pub no_word : (word rest : List ℕ) → lacks 32 word ≡ true → (word ≡ codes "drain" → ⊥) → (word ≡ codes "retire" → ⊥)
    → (word ≡ codes "route" → ⊥) → (word ≡ codes "unroute" → ⊥) → (o : Order) → Spells o (word ++ (32 ∷ rest)) → ⊥
no_word word rest h a b c d o k = elim (four_words o word rest h k) [
  | inl e ↦ a e
  | inr others ↦ elim others [
    | inl e ↦ b e
    | inr more ↦ elim more [ inl e ↦ c e | inr e ↦ d e ]
  ]
]

pub no_line : (line : List ℕ) → lacks 32 line ≡ true → (line ≡ codes "status" → ⊥) → (line ≡ codes "quit" → ⊥)
    → (o : Order) → Spells o line → ⊥
no_line line h a b o k = elim (one_word o line h k) [ inl e ↦ a e | inr e ↦ b e ]
