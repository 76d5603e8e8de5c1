-- Sessions that belong to connections by their numbers: what a step of one, or one more, makes of all. Once for both sides.
use Rattle.std.proofs.Common.{◌≡◌, ◌++◌, ◌<◌, ℕ, zero, suc, List, [], ◌∷◌, Bool, Option, Some, None, refl, sym, ◌∙◌, ap, subst, length, true, false, arith, set}
use Rattle.std.specs.Prelude.{◌==◌}
use Rattle.std.specs.List.{slice_get}
use Rattle.std.proofs.lemmas.Bool.{eqb-true, eqb-false, and_parts}
use Rattle.std.proofs.lemmas.Option.{slice_get_past}
use Rattle.mux_history.specs.declared.session.SessionId.{SessionId}
use Rattle.mux_model.specs.World.{Connection, same_session}
use Rattle.mux_model.specs.Events.{connection_at, replaced}
use Rattle.core_world.specs.Sides.{session_at, put_at, At, Pointwise}
use Rattle.mux_model.proofs.Happens.{same_sessions}
use Rattle.core_world.proofs.Connections.{replaced_here, replaced_off, pushed_here, pushed_off, elsewhere, not_yet, at_here}

-- one place of a list of sessions

set_same : {S : Type 0} (xs : List S) (i : ℕ) (t s : S) → slice_get xs i ≡ Some s → slice_get (set xs i t) i ≡ Some t
set_same [] i t s e = absurd (cc)
set_same (x ∷ xs) zero t s e = refl
set_same (x ∷ xs) (suc i) t s e = set_same xs i t s e

set_other : {S : Type 0} (xs : List S) (i j : ℕ) (t : S) → (i ≡ j → ⊥) → slice_get (set xs i t) j ≡ slice_get xs j
set_other [] i j t ne = refl
set_other (x ∷ xs) zero zero t ne = absurd (ne refl)
set_other (x ∷ xs) zero (suc j) t ne = refl
set_other (x ∷ xs) (suc i) zero t ne = refl
set_other (x ∷ xs) (suc i) (suc j) t ne = set_other xs i j t (λ e. ne (ap suc e))

put_same : {S : Type 0} (xs : List S) (n : ℕ) (t s : S) → session_at xs n ≡ Some s → session_at (put_at xs n t) n ≡ Some t
put_same xs zero t s e = absurd (cc)
put_same xs (suc i) t s e = set_same xs i t s e

put_other : {S : Type 0} (xs : List S) (n k : ℕ) (t : S) → (n ≡ k → ⊥) → session_at (put_at xs n t) k ≡ session_at xs k
put_other xs zero k t ne = refl
put_other xs (suc i) zero t ne = refl
put_other xs (suc i) (suc j) t ne = set_other xs i j t (λ e. ne (ap suc e))

length-set : {S : Type 0} (xs : List S) (i : ℕ) (t : S) → length (set xs i t) ≡ length xs
length-set [] i t = refl
length-set (x ∷ xs) zero t = refl
length-set (x ∷ xs) (suc i) t = ap suc (length-set xs i t)

pub length-put : {S : Type 0} (xs : List S) (n : ℕ) (t : S) → length (put_at xs n t) ≡ length xs
length-put xs zero t = refl
length-put xs (suc i) t = length-set xs i t

slice_end : {S : Type 0} (xs : List S) (s : S) → slice_get (xs ++ s ∷ []) (length xs) ≡ Some s
slice_end [] s = refl
slice_end (x ∷ xs) s = slice_end xs s

slice_before : {S : Type 0} (xs : List S) (s : S) (k : ℕ) → (k ≡ length xs → ⊥) → slice_get (xs ++ s ∷ []) k ≡ slice_get xs k
slice_before [] s zero ne = absurd (ne refl)
slice_before [] s (suc k) ne = refl
slice_before (x ∷ xs) s zero ne = refl
slice_before (x ∷ xs) s (suc k) ne = slice_before xs s k (λ e. ne (ap suc e))

-- what one step changes: the connection at one place, and no look-up of another
pub record Changed (b : ℕ) (id : SessionId) (new : Connection) (cs ds : List Connection) : Type 0 where
  pub here : connection_at b id ds ≡ Some new
  pub others : (id2 : SessionId) → same_session id id2 ≡ false → connection_at b id2 ds ≡ connection_at b id2 cs
  pub later : (b2 : ℕ) (id2 : SessionId) → b < b2 → connection_at b2 id2 ds ≡ connection_at b2 id2 cs

-- a step with a record
pub replaces : (b : ℕ) (id : SessionId) (new c : Connection) (cs : List Connection) → new.boot ≡ b → new.session ≡ id → connection_at b id cs ≡ Some c → Changed b id new cs (replaced b id new cs)
replaces b id new c cs boot session e = record {
  here = replaced_here b id new cs c (at_here b id new boot session) e;
  others = λ id2 ne. replaced_off b id new b id2 (λ x at. elsewhere b b id id2 x (same_sessions x.session id (and_parts _ _ at).1) ne) (elsewhere b b id id2 new session ne) cs;
  later = λ b2 id2 less. replaced_off b id new b2 id2 (λ x at. not_yet b b2 id2 x (eqb-true x.boot b (and_parts _ _ at).0) less) (not_yet b b2 id2 new boot less) cs;
}

-- a step without one
pub stays : (b : ℕ) (id : SessionId) (c : Connection) (cs : List Connection) → connection_at b id cs ≡ Some c → Changed b id c cs cs
stays b id c cs e = record { here = e; others = λ id2 ne. refl; later = λ b2 id2 less. refl }

-- one more
pub pushes : (b : ℕ) (id : SessionId) (new : Connection) (cs : List Connection) → new.boot ≡ b → new.session ≡ id → connection_at b id cs ≡ None → Changed b id new cs (cs ++ new ∷ [])
pushes b id new cs boot session e = record {
  here = pushed_here b id new cs (at_here b id new boot session) e;
  others = λ id2 ne. pushed_off b id2 new cs (elsewhere b b id id2 new session ne);
  later = λ b2 id2 less. pushed_off b2 id2 new cs (not_yet b b2 id2 new boot less);
}

at_both : {S : Type 0} (P : S → Connection → Type 0) (o p : Option S) (c d : Option Connection) → o ≡ p → c ≡ d → At P p d → At P o c
at_both P o p c d eo ec h = subst (λ x. At P x c) (sym eo) (subst (λ x. At P p x) (sym ec) h)

-- where a session is, its connection is
pub at_some : {S : Type 0} (P : S → Connection → Type 0) (s : S) (o : Option Connection) → At P (Some s) o → (c : Connection) × (o ≡ Some c) × P s c
at_some P s None h = absurd h
at_some P s (Some c) h = (c, refl, h)

pub at_none : {S : Type 0} (P : S → Connection → Type 0) (o : Option Connection) → At P None o → o ≡ None
at_none P None h = refl
at_none P (Some c) h = absurd h

-- a step of the other side, or one more there
pub other_side : {S : Type 0} (P : ℕ → S → Connection → Type 0) (side : ℕ → SessionId) (xs : List S) (b : ℕ) (cs ds : List Connection) (id : SessionId) (new : Connection) → ((k : ℕ) → same_session id (side k) ≡ false)
    → Pointwise P side xs b cs → Changed b id new cs ds → Pointwise P side xs b ds
other_side P side xs b cs ds id new off all changed k = subst (λ o. At (P k) (session_at xs k) o) (sym (changed.others (side k) (off k))) (all k)

module _ {S : Type 0} (P : ℕ → S → Connection → Type 0) (side : ℕ → SessionId) (apart : (n k : ℕ) → same_session (side n) (side k) ≡ (n == k)) where
  -- the connection of a session
  pub connection_of : (xs : List S) (b : ℕ) (cs : List Connection) (n : ℕ) (s : S) → Pointwise P side xs b cs → session_at xs n ≡ Some s
      → (c : Connection) × (connection_at b (side n) cs ≡ Some c) × P n s c
  connection_of xs b cs n s all e = at_some (P n) s (connection_at b (side n) cs) (subst (λ o. At (P n) o (connection_at b (side n) cs)) e (all n))

  pub no_connection : (xs : List S) (b : ℕ) (cs : List Connection) (n : ℕ) → Pointwise P side xs b cs → session_at xs n ≡ None → connection_at b (side n) cs ≡ None
  no_connection xs b cs n all e = at_none (P n) (connection_at b (side n) cs) (subst (λ o. At (P n) o (connection_at b (side n) cs)) e (all n))

  -- one session makes a step, and the others stay
  pub one_steps : (xs : List S) (b : ℕ) (cs ds : List Connection) (n : ℕ) (s t : S) (new : Connection) → Pointwise P side xs b cs → session_at xs n ≡ Some s
      → P n t new → Changed b (side n) new cs ds → Pointwise P side (put_at xs n t) b ds
  one_steps xs b cs ds n s t new all e belongs changed k = by_test (n == k) refl
    where
      by_test : (x : Bool) → (n == k) ≡ x → At (P k) (session_at (put_at xs n t) k) (connection_at b (side k) ds)
      by_test true same =
          (let is : n ≡ k = eqb-true n k same in
          subst (λ j. At (P j) (session_at (put_at xs n t) j) (connection_at b (side j) ds)) is
          (at_both (P n) (session_at (put_at xs n t) n) (Some t) (connection_at b (side n) ds) (Some new) (put_same xs n t s e) changed.here belongs))
      by_test false other =
          at_both (P k) (session_at (put_at xs n t) k) (session_at xs k) (connection_at b (side k) ds) (connection_at b (side k) cs)
          (put_other xs n k t (eqb-false n k other)) (changed.others (side k) (apart n k ∙ other)) (all k)

  -- one more session
  pub one_more : (xs : List S) (b : ℕ) (cs ds : List Connection) (t : S) (new : Connection) → Pointwise P side xs b cs
      → P (suc (length xs)) t new → Changed b (side (suc (length xs))) new cs ds → Pointwise P side (xs ++ t ∷ []) b ds
  one_more xs b cs ds t new all belongs changed k = by_test (suc (length xs) == k) refl
    where
      before : (j : ℕ) → (suc (length xs) ≡ j → ⊥) → session_at (xs ++ t ∷ []) j ≡ session_at xs j
      before zero ne = refl
      before (suc j) ne = slice_before xs t j (λ e. ne (ap suc (sym e)))

      by_test : (x : Bool) → (suc (length xs) == k) ≡ x → At (P k) (session_at (xs ++ t ∷ []) k) (connection_at b (side k) ds)
      by_test true same =
          (let is : suc (length xs) ≡ k = eqb-true (suc (length xs)) k same in
          subst (λ j. At (P j) (session_at (xs ++ t ∷ []) j) (connection_at b (side j) ds)) is
          (at_both (P (suc (length xs))) (session_at (xs ++ t ∷ []) (suc (length xs))) (Some t) (connection_at b (side (suc (length xs))) ds) (Some new) (slice_end xs t) changed.here belongs))
      by_test false other =
          at_both (P k) (session_at (xs ++ t ∷ []) k) (session_at xs k) (connection_at b (side k) ds) (connection_at b (side k) cs)
          (before k (eqb-false (suc (length xs)) k other)) (changed.others (side k) (apart (suc (length xs)) k ∙ other)) (all k)

  -- where no session is, the next one has no connection
  pub next_free : (xs : List S) (b : ℕ) (cs : List Connection) → Pointwise P side xs b cs → connection_at b (side (suc (length xs))) cs ≡ None
  next_free xs b cs all = no_connection xs b cs (suc (length xs)) all (slice_get_past xs (length xs) (omega arith))

  -- no session, no connection
  pub none_at_all : (b : ℕ) (cs : List Connection) → ((id : SessionId) → connection_at b id cs ≡ None) → Pointwise P side [] b cs
  none_at_all b cs none zero = subst (λ o. At (P zero) None o) (sym (none (side zero))) tt
  none_at_all b cs none (suc k) = subst (λ o. At (P (suc k)) None o) (sym (none (side (suc k)))) tt
