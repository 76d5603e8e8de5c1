-- Logs that go on, and what stands in them.
use Rattle.std.proofs.Common.{◌≡◌, ℕ, ◌<◌, ◌==◌, Bool, true, false, List, [], ◌∷◌, ◌++◌, length, append_assoc, Option, Some, None, refl, sym, ap, ◌∙◌, arith, if◌then◌else◌}
use Rattle.std.proofs.lemmas.Bool.{eqb-true}
use Rattle.mux_history.specs.declared.session.SessionId.{SessionId}
use Rattle.mux_model.specs.Steps.{Call, Held}
use Rattle.hub_log.specs.declared.terms.Terms.{Terms}
use Rattle.hub_log.specs.Moves.{after, connection_of, connection_in, Claim, Deed, Opened, Did, Quiet, TookOut, Move, move_at, value_in, value_of, is_by, moves_of}
use Rattle.hub_log.specs.Bag.{IsHanded, IsGiven}
use Rattle.hub_log.specs.Views.{GoesOn}

pub goes_self : (xs : List Move) → GoesOn xs xs
goes_self xs = ([], refl)

pub goes_trans : (xs ys zs : List Move) → GoesOn xs ys → GoesOn ys zs → GoesOn xs zs
goes_trans xs ys zs p q = (q.0 ++ p.0, q.1 ∙ (ap (λ w. q.0 ++ w) p.1 ∙ sym (append_assoc q.0 p.0 xs)))

pub goes_more : (xs ys : List Move) (m : Move) → GoesOn xs ys → GoesOn xs (m ∷ ys)
goes_more xs ys m p = (m ∷ p.0, ap (λ w. m ∷ w) p.1)

pub goes_empty : (xs : List Move) → GoesOn [] xs
goes_empty xs = (xs, sym (nothing_behind xs))
  where
    nothing_behind : (ys : List Move) → ys ++ [] ≡ ys
    nothing_behind [] = refl
    nothing_behind (y ∷ ys) = ap (λ w. y ∷ w) (nothing_behind ys)

-- what stands in a log stands in each longer one, at the same place
pub move_below : (log : List Move) (place : ℕ) (m : Move) → move_at place log ≡ Some m → place < length log
move_below [] place m h = absurd cc
move_below (x ∷ old) place m h = by_test (length old == place) refl h (move_below old place m)
  where
    by_test : (b : Bool) → (length old == place) ≡ b → (if b then Some x else move_at place old) ≡ Some m → (move_at place old ≡ Some m → place < length old) → place < length (x ∷ old)
    by_test true e g further = let same : length old ≡ place = eqb-true (length old) place e in omega arith
    by_test false e g further = let below = further g in omega arith

not_equal : (a b : ℕ) → b < a → (a == b) ≡ false
not_equal a b lt = by_test (a == b) refl
  where
    by_test : (c : Bool) → (a == b) ≡ c → c ≡ false
    by_test true e = let same : a ≡ b = eqb-true a b e in absurd (omega arith)
    by_test false e = refl

move_more : (log : List Move) (x : Move) (place : ℕ) (m : Move) → move_at place log ≡ Some m → move_at place (x ∷ log) ≡ Some m
move_more log x place m h = ap (λ b. if b then Some x else move_at place log) (not_equal (length log) place (move_below log place m h)) ∙ h

pub move_later : (log later : List Move) (place : ℕ) (m : Move) → move_at place log ≡ Some m → move_at place (later ++ log) ≡ Some m
move_later log [] place m h = h
move_later log (x ∷ later) place m h = move_more (later ++ log) x place m (move_later log later place m h)

pub in_move : (which : ℕ) (o : Option Move) (h : Held) → value_in which o ≡ Some h → (m : Move) × (o ≡ Some m)
in_move which None h e = absurd cc
in_move which (Some m) h e = (m, refl)

pub value_below : (log : List Move) (c : Claim) (h : Held) → value_of c log ≡ Some h → c.place < length log
value_below log c h e = let m = in_move c.which (move_at c.place log) h e in move_below log c.place m.0 m.1

pub value_later : (xs ys : List Move) (c : Claim) (h : Held) → GoesOn xs ys → value_of c xs ≡ Some h → value_of c ys ≡ Some h
value_later xs ys c h p e =
    let m = in_move c.which (move_at c.place xs) h e in
    let there : move_at c.place ys ≡ Some m.0 = ap (move_at c.place) p.1 ∙ move_later xs p.0 c.place m.0 m.1 in
    ap (value_in c.which) (there ∙ sym m.1) ∙ e

-- what was given once is given in each longer log
handed_later : (xs ys : List Move) (id : SessionId) (call : Call) (uses : Option Claim) → GoesOn xs ys → IsHanded id call uses xs → IsHanded id call uses ys
handed_later xs ys id call None p h = h
handed_later xs ys id call (Some c) p h = (h.0, value_later xs ys c h.0 p h.1, h.2)

pub given_later : (xs ys : List Move) (id : SessionId) (deed : Deed) (uses : Option Claim) → GoesOn xs ys → IsGiven id deed uses xs → IsGiven id deed uses ys
given_later xs ys id (Opened mode) uses p h = h
given_later xs ys id (Did call entry gives) uses p h = handed_later xs ys id call uses p h
given_later xs ys id (Quiet call) uses p h = handed_later xs ys id call uses p h
given_later xs ys id (TookOut frames) uses p h = h

-- a move of another session isn't a session's own
pub of_other : (id : SessionId) (m : Move) (log : List Move) → is_by id m ≡ false → moves_of id (m ∷ log) ≡ moves_of id log
of_other id m log e = ap (λ b. if b then m ∷ moves_of id log else moves_of id log) e

-- a session's connection after a move of its own, and of another's
pub connection_here : (t : Terms) (id : SessionId) (m : Move) (log : List Move) → is_by id m ≡ true → connection_in t id (m ∷ log) ≡ after t id m.deed (connection_in t id log)
connection_here t id m log e = ap (λ b. connection_of t id (if b then m ∷ moves_of id log else moves_of id log)) e

pub connection_past : (t : Terms) (id : SessionId) (m : Move) (log : List Move) → is_by id m ≡ false → connection_in t id (m ∷ log) ≡ connection_in t id log
connection_past t id m log e = ap (connection_of t id) (of_other id m log e)
