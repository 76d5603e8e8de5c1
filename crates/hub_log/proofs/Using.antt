-- What a user of passes needs: of moves that were added, and of claims.
use Rattle.std.proofs.Common.{◌≡◌, ℕ, ◌||◌, true, false, List, [], ◌∷◌, length, Some, refl, ap, ◌∙◌, if◌then◌else◌}
use Rattle.std.specs.Prelude.{slice_get}
use Rattle.std.proofs.lemmas.Bool.{eq-eqb}
use Rattle.mux_history.specs.declared.session.SessionId.{SessionId}
use Rattle.mux_model.specs.Steps.{Held}
use Rattle.hub_log.specs.declared.terms.Terms.{Terms}
use Rattle.hub_log.specs.Moves.{Claim, Move, gives_of, move_at, value_in, value_of, is_by, moves_of}
use Rattle.hub_log.specs.Views.{View, Owns, is_in, Added}
use Rattle.hub_log.proofs.Logs.{of_other}
use Rattle.hub_log.proofs.Claims.{claim_same}

-- a session's own moves, once one of them was added
pub own_more : (t : Terms) (m : Move) (v w : View) (id : SessionId) → Added t m v w → Owns t v id → is_by id m ≡ true → moves_of id w.seen ≡ m ∷ moves_of id v.seen
own_more t m v w id added owns by =
    ap (moves_of id) added.seen ∙ (ap (λ b. if b then m ∷ moves_of id added.before else moves_of id added.before) by ∙ ap (λ l. m ∷ l) (added.own id owns))

-- and once another session's was
pub own_same : (t : Terms) (m : Move) (v w : View) (id : SessionId) → Added t m v w → Owns t v id → is_by id m ≡ false → moves_of id w.seen ≡ moves_of id v.seen
own_same t m v w id added owns by = ap (moves_of id) added.seen ∙ (of_other id m added.before by ∙ added.own id owns)

-- what the last move gave
pub given_here : (m : Move) (old : List Move) (k : ℕ) (h : Held) → slice_get (gives_of m.deed) k ≡ Some h → value_of (record { place = length old; which = k }) (m ∷ old) ≡ Some h
given_here m old k h e = ap (λ b. value_in k (if b then Some m else move_at (length old) old)) (eq-eqb (length old) (length old) refl) ∙ e

-- the only claim in hand
pub in_one : (c : Claim) → is_in c (c ∷ []) ≡ true
in_one c = ap (λ b. b || false) (claim_same c)
