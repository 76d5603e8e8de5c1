-- The values in hand as the code keeps them. A value that is used up leaves its place behind.
use Rattle.std.specs.Prelude.{◌≡◌, ◌<◌, ◌≤◌, ◌+◌, ℕ, List, [], ◌∷◌, length, set, Option, Some, None}
use Rattle.std.specs.List.{slice_get}
use Rattle.mux_model.specs.World as world
use Rattle.mux_model.specs.Events.{hand_at, without_hand}
use Rattle.core_world.specs.declared.hands.Held.{Held}
use Rattle.core_world.specs.Hands.{held_of}
use Rattle.router_core.specs.declared.bag.Item.{Item}

abbrev pub hand_of : ℕ → Held → world.Hand
hand_of n h = record { number = n; held = held_of h }

abbrev pub in_hand : ℕ → Option Held → List world.Hand → List world.Hand
in_hand n None hs = hs
in_hand n (Some h) hs = hand_of n h ∷ hs

abbrev pub hands_of : List Item → List world.Hand
hands_of [] = []
hands_of (i ∷ is) = in_hand i.number i.held (hands_of is)

-- the numbers rise from this one on, and the next is above them
abbrev pub Rises : ℕ → List Item → ℕ → Type 0
Rises low [] next = low ≤ next
Rises low (i ∷ is) next = (low ≤ i.number) × Rises (i.number + 1) is next

abbrev pub IsRising : List Item → Type 0
IsRising is = (next : ℕ) × Rises 0 is next

-- where the value of a number is
abbrev pub FoundAt : ℕ → List Item → Option ℕ → Type 0
FoundAt n is None = hand_at n (hands_of is) ≡ None
FoundAt n is (Some k) =
    (h : Held) × (slice_get is k ≡ Some (record { number = n; held = Some h }))
    × (hand_at n (hands_of is) ≡ Some (hand_of n h))

-- the value of a number is taken out, and leaves its place
pub record LeftBy (n : ℕ) (old new : List Item) (k : ℕ) (h : Held) : Type 0 where
  pub within : k < length new
  pub hand : hand_at n (hands_of old) ≡ Some (hand_of n h)
  pub rest : hands_of new ≡ without_hand n (hands_of old)
  pub back : set new k (record { number = n; held = Some h }) ≡ old
  pub rises : (next : ℕ) → Rises 0 old next → Rises 0 new next

abbrev pub TakenOut : ℕ → (old new : List Item) → Option (ℕ × Held) → Type 0
TakenOut n old new None = (hand_at n (hands_of old) ≡ None) × (new ≡ old)
TakenOut n old new (Some x) = LeftBy n old new x.0 x.1
