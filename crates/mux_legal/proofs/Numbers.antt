-- The open dispatch by number is the one by place.
use Rattle.std.proofs.Common.{length, ℕ, List, [], ◌∷◌, ◌≡◌, ◌<◌, ◌⊎◌, inl, inr, Bool, true, false, Option, Some, None, refl, sym, ◌∙◌, ap, arith}
use Rattle.std.specs.Prelude.{if◌then◌else◌, ◌==◌}
use Rattle.std.proofs.lemmas.Bool.{eqb-true, eq-eqb, cases_Bool}
use Rattle.mux_frame.specs.Spelling.{MuxFrame}
use Rattle.mux_history.specs.declared.session.SessionId.{SessionId}
use Rattle.mux_history.specs.declared.session.SessionId.TheVariants.{Client, Server}
use Rattle.mux_model.specs.Entries.{Exchange}
use Rattle.mux_model.specs.Tags.{Holder, holder, asked, answered, name_in}
use Rattle.mux_model.specs.Lawful.{ToServer, ToClient, Said, with_said, passed, is_dispatch_on, is_final_on, asks_on, count, open_on, before, number_held, NumbersTellPlaces}

module _ (id : SessionId) (t : ℕ) where
  -- a holder of the tag is at a place of the list, and this is its number
  abbrev pub Matches : List Exchange → Option Holder → Option ℕ → Type 0
  Matches es None x = x ≡ None
  Matches es (Some h) x = (h.place < length es) × (x ≡ Some (count (asks_on t) (passed id (before h.place es))))

  pub before_same : (e : Exchange) (old : List Exchange) (place : ℕ) → place < length old → before place (e ∷ old) ≡ before place old
  before_same e old place less = by_test (cases_Bool (length old == place))
    where
      by_test : ((length old == place) ≡ true) ⊎ ((length old == place) ≡ false) → before place (e ∷ old) ≡ before place old
      by_test (inl same) = absurd (omega (arith, less, eqb-true (length old) place same))
      by_test (inr other) = ap (λ b. if b then old else before place old) other

  pub longer : (e : Exchange) (old : List Exchange) (o : Option Holder) (x : Option ℕ) → Matches old o x → Matches (e ∷ old) o x
  longer e old None x m = m
  longer e old (Some h) x m = (omega (arith, m.0), m.1 ∙ ap (λ es. Some (count (asks_on t) (passed id es))) (sym (before_same e old h.place m.0)))

  pub before_last : (e : Exchange) (old : List Exchange) → before (length old) (e ∷ old) ≡ old
  before_last e old = ap (λ b. if b then old else before (length old) old) (eq-eqb (length old) (length old) refl)

  pub to_server : (e : Exchange) (old : List Exchange) (who : Holder) (m : Option MuxFrame) (o : Option Holder) (p : List Said) → who.place ≡ length old →
      count (asks_on t) p ≡ count (asks_on t) (passed id old) → Matches (e ∷ old) o (open_on t p) → Matches (e ∷ old) (asked t who m o) (open_on t (with_said ToServer m p))
  to_server e old who None o p last same h = h
  to_server e old who (Some f) o p last same h = by_test (is_dispatch_on t f)
    where
      by_test : (b : Bool) → Matches (e ∷ old) (if b then Some who else o) (if b then Some (count (asks_on t) p) else open_on t p)
      by_test true = (omega (arith, last), ap Some (same ∙ ap (λ es. count (asks_on t) (passed id es)) (sym (ap (λ n. before n (e ∷ old)) last ∙ before_last e old))))
      by_test false = h

  to_client : (es : List Exchange) (m : Option MuxFrame) (o : Option Holder) (p : List Said) → Matches es o (open_on t p) → Matches es (answered t m o) (open_on t (with_said ToClient m p))
  to_client es None o p h = h
  to_client es (Some f) o p h = by_test (is_final_on t f)
    where
      by_test : (b : Bool) → Matches es (if b then None else o) (if b then None else open_on t p)
      by_test true = refl
      by_test false = h

  none_asked : (m : Option MuxFrame) (p : List Said) → count (asks_on t) (with_said ToClient m p) ≡ count (asks_on t) p
  none_asked None p = refl
  none_asked (Some f) p = refl

  told : (es : List Exchange) (o : Option Holder) (x : Option ℕ) → Matches es o x → x ≡ number_held id t es o
  told es None x m = m
  told es (Some h) x m = m.1

pub matches : (id : SessionId) (t : ℕ) (es : List Exchange) → Matches id t es (holder id t es) (open_on t (passed id es))
matches id t [] = refl
matches (Client k) t (e ∷ old) =
    to_client (Client k) t (e ∷ old) e.sent (asked t (record { place = length old; name = name_in e.rec }) e.taken (holder (Client k) t old)) (with_said ToServer e.taken (passed (Client k) old))
    (to_server (Client k) t e old (record { place = length old; name = name_in e.rec }) e.taken (holder (Client k) t old) (passed (Client k) old) refl refl
    (longer (Client k) t e old (holder (Client k) t old) (open_on t (passed (Client k) old)) (matches (Client k) t old)))
matches (Server k) t (e ∷ old) =
    to_server (Server k) t e old (record { place = length old; name = name_in e.rec }) e.sent (answered t e.taken (holder (Server k) t old)) (with_said ToClient e.taken (passed (Server k) old)) refl
    (none_asked (Server k) t e.taken (passed (Server k) old))
    (to_client (Server k) t (e ∷ old) e.taken (holder (Server k) t old) (passed (Server k) old)
    (longer (Server k) t e old (holder (Server k) t old) (open_on t (passed (Server k) old)) (matches (Server k) t old)))

pub numbers_tell_places : NumbersTellPlaces
numbers_tell_places id t es = told id t es (holder id t es) (open_on t (passed id es)) (matches id t es)
