-- What a session does under one lock: its deeds one after another, which a pass adds by one load.
use Rattle.std.specs.Prelude.{ℕ, ◌≡◌, ◌++◌, ◌⊎◌, true, List, [], ◌∷◌, Option, None, Some, slice_get}
use Rattle.std.specs.List.{AllByRecursion}
use Rattle.mux_history.specs.declared.session.SessionId.{SessionId}
use Rattle.mux_model.specs.Steps.{Held}
use Rattle.mux_model.specs.World.{Connection}
use Rattle.hub_log.specs.declared.terms.Terms.{Terms}
use Rattle.hub_log.specs.Moves.{Claim, Deed, Move, gives_of, after, connection_in, value_of}
use Rattle.hub_log.specs.Bag.{IsGiven, IsOwn}
use Rattle.hub_log.specs.Views.{View, GoesOn, Owns, AddsAll, AddedAll, is_in, left_by, claims_from}

pub record Turn : Type 0 where
  pub deed : Deed
  pub uses : Option Claim

abbrev pub moves_by : SessionId → List Turn → List Move
moves_by id [] = []
moves_by id (x ∷ xs) = record { session = id; deed = x.deed; uses = x.uses } ∷ moves_by id xs

-- each is the session's own, and they lead from one connection to the other
abbrev pub Leads : Terms → SessionId → Connection → List Turn → Connection → Type 0
Leads t id c [] d = d ≡ c
Leads t id c (x ∷ xs) d =
    IsOwn t id x.deed (Some c) × (e : Connection) × (after t id x.deed (Some c) ≡ Some e) × Leads t id e xs d

-- what each uses is known
abbrev pub AreGiven : SessionId → View → List Turn → Type 0
AreGiven id v xs =
    AllByRecursion (λ x. IsGiven id x.deed x.uses v.seen ⊎ IsGiven id x.deed x.uses v.told) xs

-- and in hand, none twice
abbrev pub IsHeld : Option Claim → List Claim → Type 0
IsHeld None hs = Unit {0}
IsHeld (Some c) hs = is_in c hs ≡ true

abbrev pub AreHeld : List Turn → List Claim → Type 0
AreHeld [] hs = Unit {0}
AreHeld (x ∷ xs) hs = IsHeld x.uses hs × AreHeld xs (left_by x.uses hs)

abbrev pub left_after : List Turn → List Claim → List Claim
left_after [] hs = hs
left_after (x ∷ xs) hs = left_after xs (left_by x.uses hs)

-- a session that a pass adds for, and its connection
pub record Knows (t : Terms) (v : View) (id : SessionId) (c : Connection) : Type 0 where
  pub owns : Owns t v id
  pub seen : connection_in t id v.seen ≡ Some c

-- the claims in hand once each was added at its place
abbrev pub hands_by : List Turn → List ℕ → List Claim → List Claim
hands_by (x ∷ xs) (n ∷ ns) hs = hands_by xs ns (left_by x.uses hs ++ claims_from n 0 (gives_of x.deed))
hands_by _ _ hs = hs

-- what each gave stands in the log, at its place
abbrev pub Stand : List Turn → List ℕ → List Move → Type 0
Stand [] [] log = Unit {0}
Stand (x ∷ xs) (n ∷ ns) log =
    ((k : ℕ) (h : Held) → slice_get (gives_of x.deed) k ≡ Some h
    → value_of (record { place = n; which = k }) log ≡ Some h)
    × Stand xs ns log
Stand _ _ log = ⊥

pub record Went (t : Terms) (id : SessionId) (xs : List Turn) (d : Connection) (v w : View) : Type 0 where
  pub knows : Knows t w id d
  pub later : GoesOn v.seen w.seen
  pub low : w.low ≡ v.low
  pub high : w.high ≡ v.high
  pub places : List ℕ
  pub hands : w.hands ≡ hands_by xs places v.hands
  pub stand : Stand xs places w.seen

-- a pass may add what its session did, and knows then where the session is, and what is in hand
abbrev pub TurnsAreAdded : Type 0
TurnsAreAdded =
    (t : Terms) (id : SessionId) (c d : Connection) (xs : List Turn) (v : View) → Knows t v id c → Leads t id c xs d
    → (AreGiven id v xs → AreHeld xs v.hands → AddsAll t v (moves_by id xs))
    × ((w : View) → AddedAll t (moves_by id xs) v w → Went t id xs d v w)
