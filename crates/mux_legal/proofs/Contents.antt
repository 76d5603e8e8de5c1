-- A frame's reading has the kind of its type, an Rerr's text is the body, and an Rdrain is no dispatch.
use Rattle.std.proofs.Common.{ℕ, ◌^◌, List, [], ◌∷◌, length, drop, ◌≡◌, Bool, true, false, cond, ltb, Result, Ok, Err, refl, ap, subst}
use Rattle.std.specs.Int.{w16, w32, w64, from_be_bytes, cast_signed}
use Rattle.mux_frame.specs.Spelling.{MuxFrame}
use Rattle.mux_message.specs.declared.kind.MessageKind.{MessageKind}
use Rattle.mux_message.specs.declared.kind.MessageKind.TheVariants.{Treq, Rreq, Tdispatch, Rdispatch, Tdrain, Rdrain, Tping, Rping, Tdiscarded, Rdiscarded, Tlease, Tinit, Rinit, Rerr, Other}
use Rattle.mux_message.specs.declared.fault.MessageFault.TheVariants.{Fragment}
use Rattle.mux_message.specs.Content.{Content, tdispatch, rdispatch, tdrain, rdrain, tdiscarded, rdiscarded, tlease, tinit, rinit, tping, rping, rerr}
use Rattle.mux_message.specs.Kinds.{kind_of, is_dispatch}
use Rattle.mux_message.specs.Parts.{kind_in}
use Rattle.mux_message.specs.Reading.{◌>>=◌, before, after_text, after_pairs, after_all, at_end, tdispatch_at, rdispatch_at, tdiscarded_at, tlease_at, init_at, content_at, placed, message_of}
use Rattle.std.proofs.lemmas.Bool.{false_from_ne_true}
use Rattle.mux_model.specs.Up.{is_rdrain}

-- an Rerr says its whole body
abbrev pub SaysBody : List ℕ → Content → Type 0
SaysBody xs (rerr why) = why ≡ xs
SaysBody xs _ = Unit {0}

abbrev pub Says : MessageKind → List ℕ → Content → Type 0
Says k xs m = (kind_in m ≡ k) × SaysBody xs m

read_as : (P : Content → Type 0) (m n : Content) → P m → ◌≡◌ {A = Result Content (List ℕ)} (Ok m) (Ok n) → P n
read_as P m n p e = (let same : m ≡ n = cc in subst P same p)

to_its_end : (P : Content → Type 0) (m : Content) (xs : List ℕ) → P m → (n : Content) → at_end m xs ≡ Ok n → P n
to_its_end P m [] p n e = read_as P m n p e
to_its_end P m (x ∷ xs) p n e = absurd cc

after : (P : Content → Type 0) {A : Type 0} (r : Result A (List ℕ)) (next : A → Result Content (List ℕ)) → ((a : A) (n : Content) → next a ≡ Ok n → P n) →
    (n : Content) → (r >>= next) ≡ Ok n → P n
after P (Ok a) next h n e = h a n e
after P (Err xs) next h n e = absurd cc

unless : (P : Content → Type 0) (b : Bool) (xs : List ℕ) (r : Result Content (List ℕ)) → ((n : Content) → r ≡ Ok n → P n) → (n : Content) → cond b (Err xs) r ≡ Ok n → P n
unless P true xs r h n e = absurd cc
unless P false xs r h n e = h n e

tdispatch_says : (xs : List ℕ) (m : Content) → tdispatch_at xs ≡ Ok m → Says Tdispatch xs m
unfolding tdispatch_at
tdispatch_says xs =
    let P = Says Tdispatch xs in
    after P (after_pairs xs) (λ c. after_text w16 c >>= λ d. after_pairs d >>= λ t. Ok (tdispatch (before xs c) (drop 2 (before c d)) (before d t) t))
    (λ c. after P (after_text w16 c) (λ d. after_pairs d >>= λ t. Ok (tdispatch (before xs c) (drop 2 (before c d)) (before d t) t))
    (λ d. after P (after_pairs d) (λ t. Ok (tdispatch (before xs c) (drop 2 (before c d)) (before d t) t))
    (λ t n e. read_as P (tdispatch (before xs c) (drop 2 (before c d)) (before d t) t) n (refl, tt) e)))

rdispatch_says : (xs : List ℕ) (m : Content) → rdispatch_at xs ≡ Ok m → Says Rdispatch xs m
unfolding rdispatch_at
rdispatch_says [] m e = absurd cc
rdispatch_says (status ∷ xs) m e =
    after (Says Rdispatch (status ∷ xs)) (after_pairs xs) (λ body. Ok (rdispatch status (before xs body) body))
    (λ body n h. read_as (Says Rdispatch (status ∷ xs)) (rdispatch status (before xs body) body) n (refl, tt) h) m e

tdiscarded_says : (xs : List ℕ) (m : Content) → tdiscarded_at xs ≡ Ok m → Says Tdiscarded xs m
unfolding tdiscarded_at
tdiscarded_says xs =
    unless (Says Tdiscarded xs) (ltb (length xs) 3) xs (Ok (tdiscarded (from_be_bytes w32 (0 ∷ xs)) (drop 3 xs)))
    (λ n e. read_as (Says Tdiscarded xs) (tdiscarded (from_be_bytes w32 (0 ∷ xs)) (drop 3 xs)) n (refl, tt) e)

tlease_says : (xs : List ℕ) (m : Content) → tlease_at xs ≡ Ok m → Says Tlease xs m
unfolding tlease_at
tlease_says [] m e = absurd cc
tlease_says (unit ∷ xs) m e =
    unless (Says Tlease (unit ∷ xs)) (ltb (length xs) 8) xs (at_end (tlease unit (cast_signed w64 (from_be_bytes w64 xs))) (drop 8 xs))
    (to_its_end (Says Tlease (unit ∷ xs)) (tlease unit (cast_signed w64 (from_be_bytes w64 xs))) (drop 8 xs) (refl, tt)) m e

init_says : (P : Content → Type 0) (make : ℕ → List ℕ → Content) (xs : List ℕ) → ((v : ℕ) (h : List ℕ) → P (make v h)) → (m : Content) → init_at make xs ≡ Ok m → P m
unfolding init_at
init_says P make xs p =
    unless P (ltb (length xs) 2) xs (after_all (length xs) (drop 2 xs) >>= λ _. Ok (make (from_be_bytes w16 xs) (drop 2 xs)))
    (after P (after_all (length xs) (drop 2 xs)) (λ _. Ok (make (from_be_bytes w16 xs) (drop 2 xs)))
    (λ _ n e. read_as P (make (from_be_bytes w16 xs) (drop 2 xs)) n (p _ _) e))

content_says : (k : MessageKind) (xs : List ℕ) (m : Content) → content_at k xs ≡ Ok m → Says k xs m
content_says Tdispatch xs m e = tdispatch_says xs m e
content_says Rdispatch xs m e = rdispatch_says xs m e
content_says Rdiscarded xs m e = to_its_end (Says Rdiscarded xs) rdiscarded xs (refl, tt) m e
content_says Tdrain xs m e = to_its_end (Says Tdrain xs) tdrain xs (refl, tt) m e
content_says Rdrain xs m e = to_its_end (Says Rdrain xs) rdrain xs (refl, tt) m e
content_says Tdiscarded xs m e = tdiscarded_says xs m e
content_says Tlease xs m e = tlease_says xs m e
content_says Tinit xs m e = init_says (Says Tinit xs) tinit xs (λ v h. (refl, tt)) m e
content_says Rinit xs m e = init_says (Says Rinit xs) rinit xs (λ v h. (refl, tt)) m e
content_says Tping xs m e = to_its_end (Says Tping xs) tping xs (refl, tt) m e
content_says Rping xs m e = to_its_end (Says Rping xs) rping xs (refl, tt) m e
content_says Treq xs m e = read_as (Says Treq xs) _ m (refl, tt) e
content_says Rreq xs m e = read_as (Says Rreq xs) _ m (refl, tt) e
content_says Rerr xs m e = read_as (Says Rerr xs) (rerr xs) m (refl, refl) e
content_says (Other k) xs m e = read_as (Says (Other k) xs) _ m (refl, tt) e

place_ok : (body : List ℕ) (r : Result Content (List ℕ)) (m : Content) → placed body r ≡ Ok m → r ≡ Ok m
place_ok body (Ok n) m e = (let same : n ≡ m = cc in ap (λ (x : Content). read x) same)
  where
    read : Content → Result Content (List ℕ)
    read x = Ok x
place_ok body (Err xs) m e = absurd cc

pub message_says : (f : MuxFrame) (m : Content) → message_of f ≡ Ok m → Says (kind_of f.kind) f.body m
unfolding message_of
message_says f m e = by_test (ltb f.tag (2 ^ 23)) e
  where
    by_test : (b : Bool) → cond b (placed f.body (content_at (kind_of f.kind) f.body)) (Err Fragment) ≡ Ok m → Says (kind_of f.kind) f.body m
    by_test true e = content_says (kind_of f.kind) f.body m (place_ok f.body (content_at (kind_of f.kind) f.body) m e)
    by_test false e = absurd cc

-- an Rdrain is no dispatch
pub rdrain_kind : (k : MessageKind) → is_rdrain k ≡ true → is_dispatch k ≡ true → ⊥
rdrain_kind Treq a b = absurd (cc)
rdrain_kind Rreq a b = absurd (cc)
rdrain_kind Tdispatch a b = absurd (cc)
rdrain_kind Rdispatch a b = absurd (cc)
rdrain_kind Tdrain a b = absurd (cc)
rdrain_kind Rdrain a b = absurd (cc)
rdrain_kind Tping a b = absurd (cc)
rdrain_kind Rping a b = absurd (cc)
rdrain_kind Tdiscarded a b = absurd (cc)
rdrain_kind Rdiscarded a b = absurd (cc)
rdrain_kind Tlease a b = absurd (cc)
rdrain_kind Tinit a b = absurd (cc)
rdrain_kind Rinit a b = absurd (cc)
rdrain_kind Rerr a b = absurd (cc)
rdrain_kind (Other z) a b = absurd (cc)

pub dispatch_no_rdrain : (k : MessageKind) → is_dispatch k ≡ true → is_rdrain k ≡ false
dispatch_no_rdrain k d = false_from_ne_true (is_rdrain k) (λ r. rdrain_kind k r d)
