-- The first law: of each log that meets the rule.
use Rattle.std.proofs.Common.{ℕ, List, [], ◌∷◌, ◌≡◌, ◌≢◌, ◌+◌, ◌&&◌, ◌==◌, ◌⊎◌, inl, inr, ⊎_elim, Bool, true, false, Option, Some, None, refl, sym, ap, ◌∙◌, subst, length, zero, suc}
use Rattle.std.specs.Prelude.{if◌then◌else◌, slice_get, is_some}
use Rattle.std.specs.List.{AllByRecursion}
use Rattle.std.proofs.lemmas.Bool.{eqb-true}
use Rattle.mux_frame.specs.Spelling.{MuxFrame}
use Rattle.mux_history.specs.Readings.{has_ended}
use Rattle.mux_history.specs.declared.session.SessionId.{SessionId}
use Rattle.mux_history.specs.declared.session.SessionId.TheVariants.{Client}
use Rattle.mux_model.specs.Entries.{Exchange}
use Rattle.mux_model.specs.Steps.{Held, Call, Step, entries, records, sent_at, sent_count}
use Rattle.mux_model.specs.World.{Connection, first_step, next_out, stepped}
use Rattle.mux_model.proofs.Happens.{same_sessions}
use Rattle.mux_legal.proofs.Basics.{OnRecorded}
use Rattle.hub_log.specs.declared.terms.Terms.{Terms}
use Rattle.hub_log.specs.Moves.{Claim, Deed, Opened, Did, Quiet, TookOut, Move, EachMove, gives_of, move_at, value_in, value_of, IsUnused, is_by, limits_of, begun, after, connection_in}
use Rattle.hub_log.specs.Bag.{IsGiven, IsHanded, IsFirst, IsOwn, GivesOut}
use Rattle.hub_log.specs.Sources.{Gave, WasGiven, EachValueHasItsSource, IsBacked, Sent, StandsFor, AreSent, EveryFrameStands, EachValueIsUsedOnce}
use Rattle.hub_log.proofs.Giving.{AreSources, Makes, step_tells}
use Rattle.hub_log.proofs.Logs.{in_move, connection_here, connection_past}

-- a fact of each move at one
each_at : (P : Move → List Move → Type 0) (log : List Move) → EachMove P log → (place : ℕ) (m : Move) → move_at place log ≡ Some m → (old : List Move) × P m old
each_at P [] each place m h = absurd cc
each_at P (x ∷ old) each place m h = by_test (length old == place) h (each_at P old each.1 place m)
  where
    by_test : (b : Bool) → (if b then Some x else move_at place old) ≡ Some m → (move_at place old ≡ Some m → (older : List Move) × P m older) → (older : List Move) × P m older
    by_test true e further = (old, subst (λ y. P y old) (let same : x ≡ m = cc in same) each.0)
    by_test false e further = further e

all_at : {A : Type 0} (P : A → Type 0) (xs : List A) (k : ℕ) (x : A) → AllByRecursion P xs → slice_get xs k ≡ Some x → P x
all_at P [] k x all h = absurd cc
all_at P (y ∷ xs) zero x all h = subst P (let same : y ≡ x = cc in same) all.0
all_at P (y ∷ xs) (suc k) x all h = all_at P xs k x all.1 h

-- the sources of values
told : (t : Terms) (id : SessionId) (call : Call) (entry : Exchange) (gives : List Held) (c : Connection) → IsOwn t id (Did call entry gives) (Some c) → AreSources id call gives × Makes id call entry.sent
told t id call entry gives c own = subst (λ o. OnRecorded o (λ e gs. AreSources id call gs × Makes id call e.sent)) own.2 (step_tells (limits_of t id) c id own.0 call).told

gave : (t : Terms) (id : SessionId) (deed : Deed) (o : Option Connection) → IsOwn t id deed o → (which : ℕ) (h : Held) → slice_get (gives_of deed) which ≡ Some h → Gave which h id deed
gave t id (Opened mode) o own which h e = absurd cc
gave t id (Did call entry gives) None own which h e = absurd own
gave t id (Did call entry gives) (Some c) own which h e = (e, all_at _ gives which h (told t id call entry gives c own).0 e)
gave t id (Quiet call) o own which h e = absurd cc
gave t id (TookOut frames) o own which h e = absurd cc

abbrev Own : Terms → Move → List Move → Type 0
Own t m old = IsOwn t m.session m.deed (connection_in t m.session old)

given_by : (t : Terms) (log : List Move) → EachMove (Own t) log → (c : Claim) (h : Held) → value_of c log ≡ Some h → WasGiven c h log
given_by t log own c h e =
    let m = in_move c.which (move_at c.place log) h e in
    let at = each_at (Own t) log own c.place m.0 m.1 in
    (m.0, m.1, gave t m.0.session m.0.deed (connection_in t m.0.session at.0) at.1 c.which h (sym (ap (value_in c.which) m.1) ∙ e))

pub each_value_has_its_source : EachValueHasItsSource
each_value_has_its_source t log bag c h e = given_by t log bag.own c h e

-- values used once
unused_at : (c : Claim) (log : List Move) → IsUnused c log → (place : ℕ) (m : Move) → move_at place log ≡ Some m → m.uses ≡ Some c → ⊥
unused_at c log un place m h used = (each_at (λ x old. x.uses ≢ Some c) log un place m h).1 used

first_use : (c : Claim) (uses : Option Claim) (log : List Move) → uses ≡ Some c → IsFirst uses log → IsUnused c log
first_use c None log e h = absurd cc
first_use c (Some d) log e h = subst (λ x. IsUnused x log) (let same : d ≡ c = cc in same) h

once_in : (log : List Move) → EachMove (λ m old. IsFirst m.uses old) log → (i j : ℕ) (m n : Move) (c : Claim) → move_at i log ≡ Some m → move_at j log ≡ Some n → m.uses ≡ Some c → n.uses ≡ Some c → i ≡ j
once_in [] once i j m n c hi hj um un = absurd cc
once_in (x ∷ old) once i j m n c hi hj um un = by_test (length old == i) (length old == j) refl refl hi hj (once_in old once.1 i j m n c)
  where
    same_use : (y : Move) → x ≡ y → y.uses ≡ Some c → x.uses ≡ Some c
    same_use y e u = ap (λ (z : Move). z.uses) e ∙ u

    by_test : (a b : Bool) → (length old == i) ≡ a → (length old == j) ≡ b → (if a then Some x else move_at i old) ≡ Some m → (if b then Some x else move_at j old) ≡ Some n
        → (move_at i old ≡ Some m → move_at j old ≡ Some n → m.uses ≡ Some c → n.uses ≡ Some c → i ≡ j) → i ≡ j
    by_test true true ea eb fi fj further = sym (eqb-true (length old) i ea) ∙ eqb-true (length old) j eb
    by_test true false ea eb fi fj further = absurd (unused_at c old (first_use c x.uses old (same_use m (let same : x ≡ m = cc in same) um) once.0) j n fj un)
    by_test false true ea eb fi fj further = absurd (unused_at c old (first_use c x.uses old (same_use n (let same : x ≡ n = cc in same) un) once.0) i m fi um)
    by_test false false ea eb fi fj further = further fi fj um un

pub each_value_is_used_once : EachValueIsUsedOnce
each_value_is_used_once t log bag i j m n c hi hj um un = once_in log bag.once i j m n c hi hj um un

-- frames that went out
abbrev HasSent : MuxFrame → List Step → Type 0
HasSent f [] = ⊥
HasSent f (s ∷ old) = (s.entry.sent ≡ Some f) ⊎ HasSent f old

sent_has : (steps : List Step) (place : ℕ) (f : MuxFrame) → sent_at place (entries steps) ≡ Some f → HasSent f steps
sent_has [] place f h = absurd cc
sent_has (s ∷ old) place f h = by_test (is_some s.entry.sent && sent_count (entries old) == place) h (sent_has old place f)
  where
    by_test : (b : Bool) → (if b then s.entry.sent else sent_at place (entries old)) ≡ Some f → (sent_at place (entries old) ≡ Some f → HasSent f old) → HasSent f (s ∷ old)
    by_test true e further = inl e
    by_test false e further = inr (further e)

next_sent : (c : Connection) (f : MuxFrame) → next_out c ≡ Some f → HasSent f c.steps
next_sent c f h = by_test (has_ended (records c.steps)) h
  where
    by_test : (b : Bool) → (if b then None else sent_at c.out (entries c.steps)) ≡ Some f → HasSent f c.steps
    by_test true e = absurd cc
    by_test false e = sent_has c.steps c.out f e

frames_sent : (S : MuxFrame → Type 0) (frames : List MuxFrame) (c : Connection) → ((f : MuxFrame) → HasSent f c.steps → S f) → GivesOut c frames → AllByRecursion S frames
frames_sent S [] c go out = tt
frames_sent S (f ∷ fs) c go out = (go f (next_sent c f out.0), frames_sent S fs (record c { out = c.out + 1 }) go out.1)

module _ (t : Terms) (k : ℕ) where
  abbrev Given : Move → List Move → Type 0
  Given m old = IsGiven m.session m.deed m.uses old

  backed : (log : List Move) → EachMove (Own t) log → (call : Call) (uses : Option Claim) → IsHanded (Client k) call uses log → IsBacked (Client k) call uses log
  backed log own call None h = h
  backed log own call (Some c) h = (h.0, given_by t log own c h.0 h.1, h.2)

  -- what the session's last move sent, or what those before it did
  here : (old : List Move) → EachMove (Own t) old → (m : Move) → m.session ≡ Client k → (deed : Deed) → m.deed ≡ deed → (o : Option Connection) → connection_in t (Client k) old ≡ o
      → IsOwn t (Client k) deed o → IsGiven (Client k) deed m.uses old → (c : Connection) → after t (Client k) deed o ≡ Some c → (f : MuxFrame) → HasSent f c.steps
      → ((d : Connection) → o ≡ Some d → HasSent f d.steps → StandsFor k old f) → StandsFor k (m ∷ old) f
  here old all m by (Opened mode) is None at own given c e f sent further =
      absurd (subst (λ x. HasSent f (first_step x)) own (subst (λ (d : Connection). HasSent f d.steps) (let same : c ≡ begun t (Client k) mode = cc in same) sent))
  here old all m by (Opened mode) is (Some d) at own given c e f sent further = absurd own
  here old all m by (Did call entry gives) is None at own given c e f sent further = absurd own
  here old all m by (Did call entry gives) is (Some d) at own given c e f sent further = ⊎_elim
      (λ (x : entry.sent ≡ Some f). inl (by, subst (λ id. Sent f id m.deed m.uses old) (sym by) (subst (λ y. Sent f (Client k) y m.uses old) (sym is) (x, (told t (Client k) call entry gives d own).1 f x, backed old all call m.uses given))))
      (λ (x : HasSent f d.steps). inr (further d refl x))
      (subst (λ (y : Connection). HasSent f y.steps) (let same : c ≡ stepped d call entry = cc in same) sent)
  here old all m by (Quiet call) is None at own given c e f sent further = absurd own
  here old all m by (Quiet call) is (Some d) at own given c e f sent further = inr (further d refl (subst (λ (y : Connection). HasSent f y.steps) (let same : c ≡ d = cc in same) sent))
  here old all m by (TookOut frames) is None at own given c e f sent further = absurd own
  here old all m by (TookOut frames) is (Some d) at own given c e f sent further =
      inr (further d refl (subst (λ (y : Connection). HasSent f y.steps) (let same : c ≡ record d { out = d.out + length frames } = cc in same) sent))

  stands : (log : List Move) → EachMove (Own t) log → EachMove Given log → (c : Connection) → connection_in t (Client k) log ≡ Some c → (f : MuxFrame) → HasSent f c.steps → StandsFor k log f
  stands [] own given c e f sent = absurd cc
  stands (m ∷ old) own given c e f sent = by_test (is_by (Client k) m) refl (λ d at x. stands old own.1 given.1 d at f x)
    where
      by_test : (b : Bool) → is_by (Client k) m ≡ b → ((d : Connection) → connection_in t (Client k) old ≡ Some d → HasSent f d.steps → StandsFor k old f) → StandsFor k (m ∷ old) f
      by_test true is further =
          let by = same_sessions m.session (Client k) is in
          here old own.1 m by m.deed refl (connection_in t (Client k) old) refl (subst (λ id. IsOwn t id m.deed (connection_in t id old)) by own.0) (subst (λ id. IsGiven id m.deed m.uses old) by given.0)
          c (sym (connection_here t (Client k) m old is) ∙ e) f sent further
      by_test false is further = inr (further c (sym (connection_past t (Client k) m old is) ∙ e) sent)

are_sent : (t : Terms) (log : List Move) → EachMove (Own t) log → EachMove (λ m old. IsGiven m.session m.deed m.uses old) log → (id : SessionId) (deed : Deed) (o : Option Connection) → connection_in t id log ≡ o
    → IsOwn t id deed o → AreSent id deed log
are_sent t log all given (Client k) (TookOut frames) None at own = absurd own
are_sent t log all given (Client k) (TookOut frames) (Some c) at own = frames_sent (StandsFor k log) frames c (λ f sent. stands t k log all given c at f sent) own
are_sent t log all given _ _ o at own = tt

frames_stand : (t : Terms) (log : List Move) → EachMove (Own t) log → EachMove (λ m old. IsGiven m.session m.deed m.uses old) log → EachMove (λ m old. AreSent m.session m.deed old) log
frames_stand t [] own given = tt
frames_stand t (m ∷ old) own given = (are_sent t old own.1 given.1 m.session m.deed (connection_in t m.session old) refl own.0, frames_stand t old own.1 given.1)

pub every_frame_stands : EveryFrameStands
every_frame_stands t log bag = frames_stand t log bag.own bag.given
