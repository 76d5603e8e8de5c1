-- What each pass knows of the log, and what it may add.
use Rattle.std.specs.Prelude.{ℕ, Bool, false, true, ◌≡◌, ◌<◌, ◌≤◌, ◌+◌, ◌==◌, ◌||◌, ◌&&◌, not, ◌⊎◌, List, [], ◌∷◌, ◌++◌, Option, None, Some, length}
use Rattle.std.specs.List.{filter}
use mathlib.Core.Option.{some}
use lib.ListN.{get_elem?}
use Rattle.mux_history.specs.declared.session.SessionId.{SessionId}
use Rattle.mux_model.specs.Steps.{Held}
use Rattle.hub_log.specs.declared.terms.Terms.{Terms}
use Rattle.hub_log.specs.Moves.{Claim, Move, gives_of, IsUnused, slot_of, moves_of, connection_in}
use Rattle.hub_log.specs.Bag.{IsBag, IsGiven, IsOwn}

-- what a pass knows: two beginnings of the log, one that it has seen and one that it was told of; the slots, from `low`
-- on and below `high`, for whose sessions it alone adds; and the claims that it alone may use
pub record View : Type 0 where
  pub seen : List Move
  pub told : List Move
  pub low : ℕ
  pub high : ℕ
  pub hands : List Claim

-- a log has gone on from another
abbrev pub GoesOn : (old new : List Move) → Type 0
GoesOn old new = (later : List Move) × (new ≡ later ++ old)

abbrev pub Owns : Terms → View → SessionId → Type 0
Owns t v id = (v.low ≤ slot_of t id) × (slot_of t id < v.high)

-- claims
abbrev pub same_claim : Claim → Claim → Bool
same_claim a b = (a.place == b.place) && (a.which == b.which)

abbrev pub is_in : Claim → List Claim → Bool
is_in c [] = false
is_in c (x ∷ xs) = same_claim x c || is_in c xs

abbrev pub InHand : View → Claim → Type 0
InHand v c = is_in c v.hands ≡ true

-- no claim stands twice
abbrev pub are_apart : List Claim → Bool
are_apart [] = true
are_apart (x ∷ xs) = not (is_in x xs) && are_apart xs

abbrev pub without : Claim → List Claim → List Claim
without c hs = filter (λ x. not (same_claim x c)) hs

-- the claims to the values that a move at this place gives
abbrev pub claims_from : (place which : ℕ) → List Held → List Claim
claims_from place which [] = []
claims_from place which (h ∷ hs) = record { place = place; which = which } ∷ claims_from place (which + 1) hs

abbrev pub left_by : Option Claim → List Claim → List Claim
left_by None hs = hs
left_by (Some c) hs = without c hs

-- what is in hand once a move was made at this place
abbrev pub hands_after : Move → (place : ℕ) → List Claim → List Claim
hands_after m place hs = left_by m.uses hs ++ claims_from place 0 (gives_of m.deed)

-- what a pass knows is so: of the sessions of its slots it has seen every move
pub record Fits (t : Terms) (log : List Move) (v : View) : Type 0 where
  pub seen : GoesOn v.seen log
  pub told : GoesOn v.told log
  pub own : (id : SessionId) → Owns t v id → moves_of id v.seen ≡ moves_of id log
  pub hand : (c : Claim) → InHand v c → (c.place < length log) × IsUnused c log
  pub apart : are_apart v.hands ≡ true

-- of one log all that the passes know is so, and no right is that of two
pub record Kept (t : Terms) (views : List View) (log : List Move) : Type 0 where
  pub legal : IsBag t log
  pub fits : (i : ℕ) (v : View) → get_elem? views i ≡ some v → Fits t log v
  pub slots : (i j : ℕ) (v w : View) → get_elem? views i ≡ some v → get_elem? views j ≡ some w
      → (id : SessionId) → Owns t v id → Owns t w id → i ≡ j
  pub hands : (i j : ℕ) (v w : View) → get_elem? views i ≡ some v → get_elem? views j ≡ some w
      → (c : Claim) → InHand v c → InHand w c → i ≡ j

-- the pass may add this move: it knows who gave what the move needs, has the claim to it, and adds alone for the
-- session, which may do so by what it did before
pub record Adds (t : Terms) (v : View) (m : Move) : Type 0 where
  pub given : IsGiven m.session m.deed m.uses v.seen ⊎ IsGiven m.session m.deed m.uses v.told
  pub used : (c : Claim) → m.uses ≡ Some c → InHand v c
  pub by : Owns t v m.session
  pub own : IsOwn t m.session m.deed (connection_in t m.session v.seen)

-- the move was added behind all that there was
pub record Added (t : Terms) (m : Move) (v w : View) : Type 0 where
  pub before : List Move
  pub seen : w.seen ≡ m ∷ before
  pub later : GoesOn v.seen before
  pub told : GoesOn v.told before
  pub own : (id : SessionId) → Owns t v id → moves_of id before ≡ moves_of id v.seen
  pub legal : IsBag t w.seen
  pub low : w.low ≡ v.low
  pub high : w.high ≡ v.high
  pub hands : w.hands ≡ hands_after m (length before) v.hands
  pub apart : are_apart w.hands ≡ true

-- the pass may add these moves, the first one first, whatever stands between
abbrev pub AddsAll : Terms → View → List Move → Type 0
AddsAll t v [] = Unit {0}
AddsAll t v (m ∷ ms) = Adds t v m × ((w : View) → Added t m v w → AddsAll t w ms)

-- they were added
abbrev pub AddedAll : Terms → List Move → View → View → Type 0
AddedAll t [] v w = w ≡ v
AddedAll t (m ∷ ms) v w = (u : View) × Added t m v u × AddedAll t ms u w

-- the pass may add some moves, by which this becomes so
abbrev pub May : Terms → View → (View → Type 0) → Type 0
May t v P = (ms : List Move) × AddsAll t v ms × ((w : View) → AddedAll t ms v w → P w)

-- all that there is was seen
pub record Looked (t : Terms) (v w : View) : Type 0 where
  pub later : GoesOn v.seen w.seen
  pub told : GoesOn v.told w.seen
  pub own : (id : SessionId) → Owns t v id → moves_of id w.seen ≡ moves_of id v.seen
  pub legal : IsBag t w.seen
  pub low : w.low ≡ v.low
  pub high : w.high ≡ v.high
  pub hands : w.hands ≡ v.hands
  pub apart : are_apart w.hands ≡ true
