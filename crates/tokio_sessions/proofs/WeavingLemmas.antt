-- Own bytes with bodies among them: what joins behind, and what is dropped in front.
use Rattle.std.proofs.Common.{◌≡◌, ℕ, zero, suc, ◌+◌, ◌-◌, ◌<◌, ◌≤◌, ◌==◌, ◌&&◌, true, false, List, [], ◌∷◌, ◌++◌, length, take, drop, sym, ap, refl, ◌∙◌, arith, append-nil, append_assoc, length-append, length-drop, length-take-le, take_all, drop_of_length-le}
use Rattle.std.specs.List.{list_all}
use Rattle.std.proofs.lemmas.Bool.{ne_eqb, eqb-true}
use Rattle.std.proofs.lemmas.List.{take-append-le, drop-append-le, nil_from_length}
use Rattle.std.proofs.Math.Seq.{drop-append-add}
use Rattle.tokio_sessions.specs.declared.shared_body.SharedBody.{SharedBody}
use Rattle.tokio_sessions.specs.Weaving.{count_before, woven}

some_left : (n : ℕ) → 0 < n → (n == 0) ≡ false
some_left n some = ne_eqb n 0 (λ none. omega (arith, some, none))

both_zero : (n m : ℕ) → (n == 0) && (m == 0) ≡ (n + m == 0)
both_zero zero m = ap (λ k. k == 0) (omega arith)
both_zero (suc n) m = ap (λ b. b && (m == 0)) (some_left (suc n) (omega arith)) ∙ sym (some_left (suc n + m) (omega arith))

-- more is dropped than the bytes before a list
drop_past : (own rest : List ℕ) (n count : ℕ) → n ≤ length own → n ≤ count → drop count (take n own ++ rest) ≡ drop (count - n) rest
drop_past own rest n count within less =
    let long : length (take n own) ≡ n = length-take-le n own within in
    let split : count ≡ length (take n own) + (count - n) = omega (arith, long) in
    ap (λ k. drop k (take n own ++ rest)) split ∙ drop-append-add (take n own) rest (count - n)

-- own bytes join behind all
pub woven-own : (own more : List ℕ) (bs : List SharedBody) → count_before bs ≤ length own → woven (own ++ more) bs ≡ woven own bs ++ more
woven-own own more [] within = refl
woven-own own more (b ∷ bs) within =
    let front : b.behind ≤ length own = omega (arith, within) in
    let rest : count_before bs ≤ length (drop b.behind own) = omega (arith, within, length-drop b.behind own) in
    let on : woven (drop b.behind (own ++ more)) bs ≡ woven (drop b.behind own) bs ++ more =
    ap (λ xs. woven xs bs) (drop-append-le b.behind own more front) ∙ woven-own (drop b.behind own) more bs rest in
    (λ i. take-append-le b.behind own more front i ++ (b.body ++ on i))
    ∙ ap (λ xs. take b.behind own ++ xs) (sym (append_assoc b.body (woven (drop b.behind own) bs) more))
    ∙ sym (append_assoc (take b.behind own) (b.body ++ woven (drop b.behind own) bs) more)

-- the same where the first own bytes were written
pub woven-rest : (own more : List ℕ) (bs : List SharedBody) (sent : ℕ) → sent + count_before bs ≤ length own
    → woven (drop sent (own ++ more)) bs ≡ woven (drop sent own) bs ++ more
woven-rest own more bs sent within =
    ap (λ xs. woven xs bs) (drop-append-le sent own more (omega (arith, within)))
    ∙ woven-own (drop sent own) more bs (omega (arith, within, length-drop sent own))

-- a body joins behind all
pub woven-body : (own : List ℕ) (bs : List SharedBody) (b : SharedBody) → count_before bs + b.behind ≡ length own → woven own (bs ++ b ∷ []) ≡ woven own bs ++ b.body
woven-body own [] b whole =
    (λ i. take_all b.behind own (omega (arith, whole)) i ++ (b.body ++ drop_of_length-le own {i = b.behind} (omega (arith, whole)) i))
    ∙ ap (λ xs. own ++ xs) (append-nil b.body)
woven-body own (c ∷ bs) b whole =
    let rest : count_before bs + b.behind ≡ length (drop c.behind own) = omega (arith, whole, length-drop c.behind own) in
    ap (λ xs. take c.behind own ++ (c.body ++ xs)) (woven-body (drop c.behind own) bs b rest)
    ∙ ap (λ xs. take c.behind own ++ xs) (sym (append_assoc c.body (woven (drop c.behind own) bs) b.body))
    ∙ sym (append_assoc (take c.behind own) (c.body ++ woven (drop c.behind own) bs) b.body)

pub count_before-body : (bs : List SharedBody) (b : SharedBody) → count_before (bs ++ b ∷ []) ≡ count_before bs + b.behind
count_before-body [] b = omega arith
count_before-body (c ∷ bs) b = omega (arith, count_before-body bs b)

-- how many bytes there are
pub length-woven : (own : List ℕ) (b : SharedBody) (bs : List SharedBody) → b.behind ≤ length own
    → length (woven own (b ∷ bs)) ≡ b.behind + (length b.body + length (woven (drop b.behind own) bs))
length-woven own b bs within =
    omega (arith, length-take-le b.behind own within, length-append (take b.behind own) (b.body ++ woven (drop b.behind own) bs), length-append b.body (woven (drop b.behind own) bs))

-- how many bytes the bodies have
body_length : List SharedBody → ℕ
body_length [] = 0
body_length (b ∷ bs) = length b.body + body_length bs

length-all : (own : List ℕ) (bs : List SharedBody) → count_before bs ≤ length own → length (woven own bs) ≡ length own + body_length bs
unfolding body_length
length-all own [] within = omega arith
length-all own (b ∷ bs) within =
    let front : b.behind ≤ length own = omega (arith, within) in
    let rest : count_before bs ≤ length (drop b.behind own) = omega (arith, within, length-drop b.behind own) in
    omega (arith, front, length-woven own b bs front, length-all (drop b.behind own) bs rest, length-drop b.behind own)

all_written : (bs : List SharedBody) → list_all (λ b. length b.body == 0) bs ≡ (body_length bs == 0)
unfolding body_length
all_written [] = refl
all_written (b ∷ bs) = ap (λ w. (length b.body == 0) && w) (all_written bs) ∙ both_zero (length b.body) (body_length bs)

-- where no own byte is left, all is written if each body is
pub woven-written : (own : List ℕ) (bs : List SharedBody) → count_before bs ≤ length own → length own ≡ 0
    → list_all (λ b. length b.body == 0) bs ≡ (length (woven own bs) == 0)
woven-written own bs within none =
    let same : body_length bs ≡ length (woven own bs) = omega (arith, none, length-all own bs within) in
    all_written bs ∙ ap (λ n. n == 0) same

pub woven-none : (own : List ℕ) (bs : List SharedBody) → count_before bs ≤ length own → length own ≡ 0
    → true ≡ list_all (λ b. length b.body == 0) bs → woven own bs ≡ []
woven-none own bs within none all =
    nil_from_length (woven own bs) (eqb-true _ _ (sym (all ∙ woven-written own bs within none)))

-- where own bytes are left, not all is written
pub woven-unwritten : (own : List ℕ) (bs : List SharedBody) → count_before bs ≤ length own → 0 < length own → false ≡ (length (woven own bs) == 0)
woven-unwritten own bs within some = sym (some_left (length (woven own bs)) (omega (arith, some, length-all own bs within)))

-- bytes up to a place in the first body are dropped
pub drop-in_body : (own : List ℕ) (b : SharedBody) (bs : List SharedBody) (count : ℕ) → b.behind ≤ length own → b.behind ≤ count → count - b.behind ≤ length b.body
    → drop (count - b.behind) b.body ++ woven (drop b.behind own) bs ≡ drop count (woven own (b ∷ bs))
drop-in_body own b bs count within before less =
    sym (drop-append-le (count - b.behind) b.body (woven (drop b.behind own) bs) less)
    ∙ sym (drop_past own (b.body ++ woven (drop b.behind own) bs) b.behind count within before)

-- bytes past the first body are dropped
pub drop-past_body : (own : List ℕ) (b : SharedBody) (bs : List SharedBody) (count left : ℕ) → b.behind ≤ length own → b.behind + (length b.body + left) ≡ count
    → drop left (woven (drop b.behind own) bs) ≡ drop count (woven own (b ∷ bs))
drop-past_body own b bs count left within whole =
    let less : b.behind ≤ count = omega (arith, whole) in
    let rest : count - b.behind ≡ length b.body + left = omega (arith, whole) in
    sym (drop-append-add b.body (woven (drop b.behind own) bs) left)
    ∙ ap (λ n. drop n (b.body ++ woven (drop b.behind own) bs)) (sym rest)
    ∙ sym (drop_past own (b.body ++ woven (drop b.behind own) bs) b.behind count within less)

-- how long bytes are that joined in three pieces
pub three_joined : (own first second third head kind piece : List ℕ) → first ≡ own ++ head → second ≡ first ++ kind → third ≡ second ++ piece
    → length third ≡ length own + (length head + (length kind + length piece))
three_joined own first second third head kind piece one two three =
    omega (arith, ap length one, ap length two, ap length three, length-append own head, length-append first kind, length-append second piece)

-- what a frame's head and a piece of its body become behind the bytes that are there
pub pushed : (own first second third head kind piece bytes : List ℕ) (bs : List SharedBody) (sent : ℕ)
    → first ≡ own ++ head → second ≡ first ++ kind → third ≡ second ++ piece → sent + count_before bs ≤ length own → woven (drop sent own) bs ≡ bytes
    → woven (drop sent third) bs ≡ bytes ++ (head ++ (kind ++ piece))
pushed own first second third head kind piece bytes bs sent one two three within same =
    let all : third ≡ own ++ (head ++ (kind ++ piece)) =
    three ∙ ap (λ xs. xs ++ piece) (two ∙ ap (λ xs. xs ++ kind) one) ∙ append_assoc (own ++ head) kind piece ∙ append_assoc own head (kind ++ piece) in
    ap (λ xs. woven (drop sent xs) bs) all ∙ woven-rest own (head ++ (kind ++ piece)) bs sent within ∙ ap (λ xs. xs ++ (head ++ (kind ++ piece))) same

-- the same where the rest of the body joins as it is
pub pushed-body : (new head kind lead bytes : List ℕ) (bs : List SharedBody) (b : SharedBody) (sent : ℕ)
    → woven (drop sent new) bs ≡ bytes ++ (head ++ (kind ++ lead)) → count_before bs + b.behind ≡ length (drop sent new)
    → woven (drop sent new) (bs ++ b ∷ []) ≡ bytes ++ (head ++ (kind ++ (lead ++ b.body)))
pushed-body new head kind lead bytes bs b sent same whole =
    woven-body (drop sent new) bs b whole ∙ ap (λ xs. xs ++ b.body) same ∙ append_assoc bytes (head ++ (kind ++ lead)) b.body
    ∙ ap (λ xs. bytes ++ xs) (append_assoc head (kind ++ lead) b.body ∙ ap (λ xs. head ++ xs) (append_assoc kind lead b.body))
