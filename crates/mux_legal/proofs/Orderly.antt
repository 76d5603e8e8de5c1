-- Each end by itself: lawful ends, and the router's own lists, ask and answer in turn.
use Rattle.std.proofs.Common.{length, ℕ, List, [], ◌∷◌, ◌+◌, ◌≡◌, ◌≤◌, inl, inr, Bool, true, false, Option, Some, None, refl, sym, ◌∙◌, ap, arith}
use Rattle.std.specs.Prelude.{if◌then◌else◌, is_some}
use Rattle.std.proofs.lemmas.Bool.{cases_Bool, and_parts, and_from, eqb-true, or_left}
use Rattle.mux_frame.specs.Spelling.{MuxFrame}
use Rattle.mux_message.specs.Kinds.{kind_of, is_dispatch, is_final, is_asking}
use Rattle.mux_message.specs.declared.kind.MessageKind.{MessageKind}
use Rattle.mux_message.specs.declared.kind.MessageKind.TheVariants.{Treq, Rreq, Tdispatch, Rdispatch, Tdrain, Rdrain, Tping, Rping, Tdiscarded, Rdiscarded, Tlease, Tinit, Rinit, Rerr, Other}
use Rattle.mux_history.specs.declared.session.SessionId.TheVariants.{Client, Server}
use Rattle.mux_model.specs.Entries.{Exchange}
use Rattle.mux_model.specs.Tags.{Holder, holder, is_open, asked, answered, name_in}
use Rattle.mux_model.specs.Lawful.{ToServer, ToClient, Said, with_said, passed, is_dispatch_on, is_final_on, asks_on, ends_on, count, open_on, ArePaired, is_answering, is_asking_message, is_asking_on, is_answering_on, is_asked, is_answered, IsLawfulClient, IsLawfulServer}
use Rattle.mux_model.specs.Legal.{Each, OnDispatch}
use Rattle.mux_legal.proofs.Turns.{AsksInTurn, AnswersInTurn}
use Rattle.mux_legal.proofs.Basics.{one_if}

-- kinds
dispatch_asks : (k : MessageKind) → is_dispatch k ≡ true → is_asking k ≡ true
dispatch_asks Tdispatch e = refl
dispatch_asks Treq e = absurd (cc)
dispatch_asks Rreq e = absurd (cc)
dispatch_asks Rdispatch e = absurd (cc)
dispatch_asks Tdrain e = absurd (cc)
dispatch_asks Rdrain e = absurd (cc)
dispatch_asks Tping e = absurd (cc)
dispatch_asks Rping e = absurd (cc)
dispatch_asks Tdiscarded e = absurd (cc)
dispatch_asks Rdiscarded e = absurd (cc)
dispatch_asks Tlease e = absurd (cc)
dispatch_asks Tinit e = absurd (cc)
dispatch_asks Rinit e = absurd (cc)
dispatch_asks Rerr e = absurd (cc)
dispatch_asks (Other z) e = absurd (cc)

final_answers : (k : MessageKind) → is_final k ≡ true → is_answering k ≡ true
final_answers Rdispatch e = refl
final_answers Rdiscarded e = refl
final_answers Rerr e = refl
final_answers Tdispatch e = absurd (cc)
final_answers Treq e = absurd (cc)
final_answers Rreq e = absurd (cc)
final_answers Tdrain e = absurd (cc)
final_answers Rdrain e = absurd (cc)
final_answers Tping e = absurd (cc)
final_answers Rping e = absurd (cc)
final_answers Tdiscarded e = absurd (cc)
final_answers Tlease e = absurd (cc)
final_answers Tinit e = absurd (cc)
final_answers Rinit e = absurd (cc)
final_answers (Other z) e = absurd (cc)

pub dispatch_asking : (f : MuxFrame) → is_dispatch (kind_of f.kind) ≡ true → is_asking_message f ≡ true
dispatch_asking f d = or_left _ _ (dispatch_asks (kind_of f.kind) d)

pub all_asks : (t : ℕ) (f : MuxFrame) → is_dispatch_on t f ≡ true → is_asking_on t f ≡ true
all_asks t f h = (let p = and_parts _ _ h in and_from _ _ (dispatch_asking f p.0) p.1)

pub all_answers : (t : ℕ) (f : MuxFrame) → is_final_on t f ≡ true → is_answering_on t f ≡ true
all_answers t f h = (let p = and_parts _ _ h in and_from _ _ (final_answers (kind_of f.kind) p.0) p.1)

-- a lawful client
pub client_turns : (t : ℕ) → 1 ≤ t → (ss : List Said) → IsLawfulClient ss → AsksInTurn (is_asking_on t) (is_answering_on t) ss
client_turns t one [] l = tt
client_turns t one (s ∷ old) l = ((λ h. omega (arith, l.0.0 t one h)), client_turns t one old l.1)

-- without a dispatch on the tag nothing is paired
abbrev pub NoneOn : ℕ → List Said → Type 0
NoneOn t [] = Unit {0}
NoneOn t (s ∷ old) = (asks_on t s ≡ false) × NoneOn t old

none_open : (t : ℕ) (ss : List Said) → NoneOn t ss → open_on t ss ≡ None
none_open t [] h = refl
none_open t (s ∷ old) h = by_test (none_open t old h.1) (asks_on t s) (ends_on t s) h.0
  where
    by_test : open_on t old ≡ None → (a b : Bool) → a ≡ false → (if a then Some (count (asks_on t) old) else if b then None else open_on t old) ≡ None
    by_test o true b e = absurd (cc)
    by_test o false true e = refl
    by_test o false false e = o

pub none_paired : (t i j : ℕ) (ss : List Said) → NoneOn t ss → ArePaired t i j ss → ⊥
none_paired t i j [] h p = p
none_paired t i j (s ∷ old) h (inl p) = (let x : None ≡ Some i = sym (none_open t old h.1) ∙ p.2 in absurd (cc))
none_paired t i j (s ∷ old) h (inr p) = none_paired t i j old h.1 p

pub client_none : (ss : List Said) → IsLawfulClient ss → NoneOn 0 ss
client_none [] l = tt
client_none (s ∷ old) l = (l.0.1, client_none old l.1)

-- a lawful server
answers_step : (asks ends : ℕ) (o : Option ℕ) (i : ℕ) → ends + one_if (is_some o) ≤ asks → (a b : Bool) → (b ≡ true → is_some o ≡ true) →
    (if b then ends + 1 else ends) + one_if (is_some (if a then Some i else if b then None else o)) ≤ (if a then asks + 1 else asks)
answers_step asks ends o i h true true g = omega (arith, h, ap one_if (g refl))
answers_step asks ends o i h true false g = omega (arith, h)
answers_step asks ends o i h false true g = omega (arith, h, ap one_if (g refl))
answers_step asks ends o i h false false g = h

server_balance : (t : ℕ) → 2 ≤ t → (ss : List Said) → IsLawfulServer ss → count (ends_on t) ss + one_if (is_some (open_on t ss)) ≤ count (asks_on t) ss
server_balance t two [] l = omega arith
server_balance t two (s ∷ old) l =
    answers_step (count (asks_on t) old) (count (ends_on t) old) (open_on t old) (count (asks_on t) old) (server_balance t two old l.1) (asks_on t s) (ends_on t s) (l.0 t two)

pub server_turns : (t : ℕ) → 2 ≤ t → (ss : List Said) → IsLawfulServer ss → AnswersInTurn (is_dispatch_on t) (is_final_on t) ss
server_turns t two [] l = tt
server_turns t two (s ∷ old) l = ((λ h. omega (arith, server_balance t two old l.1, ap one_if (l.0 t two h))), server_turns t two old l.1)

-- an end that sends a dispatch only on a tag that isn't open
abbrev pub SendsFree : ℕ → List Said → Type 0
SendsFree t [] = Unit {0}
SendsFree t (s ∷ old) = (asks_on t s ≡ true → is_some (open_on t old) ≡ false) × SendsFree t old

asks_step : (asks ends : ℕ) (o : Option ℕ) (i : ℕ) → asks ≤ ends + one_if (is_some o) → (a b : Bool) → (a ≡ true → is_some o ≡ false) →
    (if a then asks + 1 else asks) ≤ (if b then ends + 1 else ends) + one_if (is_some (if a then Some i else if b then None else o))
asks_step asks ends o i h true true g = omega (arith, h, ap one_if (g refl))
asks_step asks ends o i h true false g = omega (arith, h, ap one_if (g refl))
asks_step asks ends o i h false true g = omega (arith, h, few (is_some o))
  where
    few : (b : Bool) → one_if b ≤ 1
    few true = omega arith
    few false = omega arith
asks_step asks ends o i h false false g = h

free_balance : (t : ℕ) (ss : List Said) → SendsFree t ss → count (asks_on t) ss ≤ count (ends_on t) ss + one_if (is_some (open_on t ss))
free_balance t [] l = omega arith
free_balance t (s ∷ old) l =
    asks_step (count (asks_on t) old) (count (ends_on t) old) (open_on t old) (count (asks_on t) old) (free_balance t old l.1) (asks_on t s) (ends_on t s) l.0

pub free_turns : (t : ℕ) (ss : List Said) → SendsFree t ss → AsksInTurn (is_dispatch_on t) (is_final_on t) ss
free_turns t [] l = tt
free_turns t (s ∷ old) l = ((λ h. omega (arith, free_balance t old l.1, ap one_if (l.0 h))), free_turns t old l.1)

-- the router's list of a server: each dispatch is sent on a tag from 2 that isn't open
abbrev pub SendsNew : ℕ → Exchange → List Exchange → Type 0
SendsNew k e old = OnDispatch e.sent (λ f. (2 ≤ f.tag) × (is_open (Server k) f.tag old ≡ false))

-- the open tags by entries are those by messages
taken_open : (t : ℕ) (taken : Option MuxFrame) (o : Option Holder) (p : List Said) → is_some o ≡ is_some (open_on t p) →
    is_some (answered t taken o) ≡ is_some (open_on t (with_said ToClient taken p))
taken_open t None o p e = e
taken_open t (Some f) o p e = by_test (is_final_on t f)
  where
    by_test : (b : Bool) → is_some (if b then None else o) ≡ is_some (if b then None else open_on t p)
    by_test true = refl
    by_test false = e

sent_open : (t : ℕ) (who : Holder) (sent : Option MuxFrame) (o : Option Holder) (p : List Said) → is_some o ≡ is_some (open_on t p) →
    is_some (asked t who sent o) ≡ is_some (open_on t (with_said ToServer sent p))
sent_open t who None o p e = e
sent_open t who (Some f) o p e = by_test (is_dispatch_on t f)
  where
    by_test : (b : Bool) → is_some (if b then Some who else o) ≡ is_some (if b then Some (count (asks_on t) p) else open_on t p)
    by_test true = refl
    by_test false = e

server_open : (k t : ℕ) (es : List Exchange) → is_open (Server k) t es ≡ is_some (open_on t (passed (Server k) es))
server_open k t [] = refl
server_open k t (e ∷ old) =
    sent_open t (record { place = length old; name = name_in e.rec }) e.sent (answered t e.taken (holder (Server k) t old)) (with_said ToClient e.taken (passed (Server k) old))
    (taken_open t e.taken (holder (Server k) t old) (passed (Server k) old) (server_open k t old))

freed : (t : ℕ) (taken : Option MuxFrame) (p : List Said) → is_some (open_on t p) ≡ false → is_some (open_on t (with_said ToClient taken p)) ≡ false
freed t None p e = e
freed t (Some f) p e = by_test (is_final_on t f)
  where
    by_test : (b : Bool) → is_some (if b then None else open_on t p) ≡ false
    by_test true = refl
    by_test false = e

taken_free : (t : ℕ) (taken : Option MuxFrame) (p : List Said) → SendsFree t p → SendsFree t (with_said ToClient taken p)
taken_free t None p h = h
taken_free t (Some f) p h = ((λ x. absurd (cc)), h)

sent_free : (k t : ℕ) (old : List Exchange) (sent : Option MuxFrame) (p : List Said) → OnDispatch sent (λ f. (2 ≤ f.tag) × (is_open (Server k) f.tag old ≡ false)) →
    (is_open (Server k) t old ≡ false → is_some (open_on t p) ≡ false) → SendsFree t p → SendsFree t (with_said ToServer sent p)
sent_free k t old None p new shut h = h
sent_free k t old (Some f) p new shut h =
    ((λ x. (let q = and_parts _ _ x in let o = new q.0 in shut (sym (ap (λ u. is_open (Server k) u old) (eqb-true f.tag t q.1)) ∙ o.1))), h)

pub new_free : (k t : ℕ) (es : List Exchange) → Each (SendsNew k) es → SendsFree t (passed (Server k) es)
new_free k t [] h = tt
new_free k t (e ∷ old) h =
    sent_free k t old e.sent (with_said ToClient e.taken (passed (Server k) old)) h.0
    (λ x. freed t e.taken (passed (Server k) old) (sym (server_open k t old) ∙ x)) (taken_free t e.taken (passed (Server k) old) (new_free k t old h.1))

sent_none : (k t : ℕ) → t + 1 ≤ 2 → (old : List Exchange) (sent : Option MuxFrame) (p : List Said) → OnDispatch sent (λ f. (2 ≤ f.tag) × (is_open (Server k) f.tag old ≡ false)) →
    NoneOn t p → NoneOn t (with_said ToServer sent p)
sent_none k t few old None p new h = h
sent_none k t few old (Some f) p new h = elim (cases_Bool (is_dispatch_on t f)) [
  | inl e ↦ absurd (let q = and_parts _ _ e in let o = new q.0 in omega (arith, o.0, eqb-true f.tag t q.1, few))
  | inr e ↦ (e, h)
]

taken_none : (t : ℕ) (taken : Option MuxFrame) (p : List Said) → NoneOn t p → NoneOn t (with_said ToClient taken p)
taken_none t None p h = h
taken_none t (Some f) p h = (refl, h)

pub new_none : (k t : ℕ) → t + 1 ≤ 2 → (es : List Exchange) → Each (SendsNew k) es → NoneOn t (passed (Server k) es)
new_none k t few [] h = tt
new_none k t few (e ∷ old) h =
    sent_none k t few old e.sent (with_said ToClient e.taken (passed (Server k) old)) h.0 (taken_none t e.taken (passed (Server k) old) (new_none k t few old h.1))

-- the router's list of a client: each answering message, and each use of the tag that begins, is paid for by an asking message
abbrev pub asked_in : ℕ → Option MuxFrame → ℕ
asked_in t None = 0
asked_in t (Some f) = one_if (is_asking_on t f)

abbrev pub answered_in : ℕ → Option MuxFrame → ℕ
answered_in t None = 0
answered_in t (Some f) = one_if (is_answering_on t f)

abbrev pub IsPaid : ℕ → ℕ → Exchange → List Exchange → Type 0
IsPaid k t e old = answered_in t e.sent + one_if (is_open (Client k) t (e ∷ old)) ≤ asked_in t e.taken + one_if (is_open (Client k) t old)

asked_count : (t : ℕ) (taken sent : Option MuxFrame) (p : List Said) → count (is_asked t) (with_said ToClient sent (with_said ToServer taken p)) ≡ asked_in t taken + count (is_asked t) p
asked_count t None None p = omega arith
asked_count t None (Some g) p = omega arith
asked_count t (Some f) None p = by_test (is_asking_on t f)
  where
    by_test : (b : Bool) → (if b then count (is_asked t) p + 1 else count (is_asked t) p) ≡ one_if b + count (is_asked t) p
    by_test true = omega arith
    by_test false = omega arith
asked_count t (Some f) (Some g) p = by_test (is_asking_on t f)
  where
    by_test : (b : Bool) → (if b then count (is_asked t) p + 1 else count (is_asked t) p) ≡ one_if b + count (is_asked t) p
    by_test true = omega arith
    by_test false = omega arith

answered_before : (t : ℕ) (taken : Option MuxFrame) (p : List Said) → count (is_answered t) (with_said ToServer taken p) ≡ count (is_answered t) p
answered_before t None p = refl
answered_before t (Some f) p = refl

answered_count : (t : ℕ) (sent : Option MuxFrame) (p : List Said) → count (is_answered t) (with_said ToClient sent p) ≡ answered_in t sent + count (is_answered t) p
answered_count t None p = omega arith
answered_count t (Some f) p = by_test (is_answering_on t f)
  where
    by_test : (b : Bool) → (if b then count (is_answered t) p + 1 else count (is_answered t) p) ≡ one_if b + count (is_answered t) p
    by_test true = omega arith
    by_test false = omega arith

paid_balance : (k t : ℕ) (es : List Exchange) → Each (IsPaid k t) es →
    count (is_answered t) (passed (Client k) es) + one_if (is_open (Client k) t es) ≤ count (is_asked t) (passed (Client k) es)
paid_balance k t [] h = omega arith
paid_balance k t (e ∷ old) h =
    omega (
      arith,
      h.0,
      paid_balance k t old h.1,
      asked_count t e.taken e.sent (passed (Client k) old),
      answered_count t e.sent (with_said ToServer e.taken (passed (Client k) old)),
      answered_before t e.taken (passed (Client k) old),
    )

taken_turn : (t : ℕ) (taken : Option MuxFrame) (p : List Said) → AnswersInTurn (is_asking_on t) (is_answering_on t) p → AnswersInTurn (is_asking_on t) (is_answering_on t) (with_said ToServer taken p)
taken_turn t None p h = h
taken_turn t (Some f) p h = ((λ x. absurd (cc)), h)

sent_turn : (t : ℕ) (sent : Option MuxFrame) (p : List Said) → (answered_in t sent + count (is_answered t) p ≤ count (is_asked t) p) →
    AnswersInTurn (is_asking_on t) (is_answering_on t) p → AnswersInTurn (is_asking_on t) (is_answering_on t) (with_said ToClient sent p)
sent_turn t None p few h = h
sent_turn t (Some f) p few h = ((λ x. omega (arith, few, ap one_if x)), h)

asked_after : (t : ℕ) (sent : Option MuxFrame) (p : List Said) → count (is_asked t) (with_said ToClient sent p) ≡ count (is_asked t) p
asked_after t None p = refl
asked_after t (Some f) p = refl

pub paid_turns : (k t : ℕ) (es : List Exchange) → Each (IsPaid k t) es → AnswersInTurn (is_asking_on t) (is_answering_on t) (passed (Client k) es)
paid_turns k t [] h = tt
paid_turns k t (e ∷ old) h =
    sent_turn t e.sent (with_said ToServer e.taken (passed (Client k) old))
    (omega (
      arith,
      paid_balance k t (e ∷ old) h,
      answered_count t e.sent (with_said ToServer e.taken (passed (Client k) old)),
      asked_after t e.sent (with_said ToServer e.taken (passed (Client k) old)),
    )) (taken_turn t e.taken (passed (Client k) old) (paid_turns k t old h.1))
