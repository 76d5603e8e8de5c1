-- The rule of the table, what its steps tell, and how passes are cut and joined.
use Rattle.std.specs.Prelude.{ℕ, Bool, not, ◌≡◌, ◌+◌, ◌++◌, List, []}
use Rattle.std.specs.List.{filter}
use Rattle.atomic_table.specs.Table.{State, Me, Step}
use Rattle.hub_log.specs.declared.terms.Terms.{Terms}
use Rattle.hub_log.specs.Moves.{Claim, Move}
use Rattle.hub_log.specs.Views.{View, Kept, Added, AddedAll, Looked}

-- there is one log, of which all that the passes know is so
abbrev pub Holds : Terms → State (Unit {0}) View → Type 0
Holds t s = (log : List Move) × Kept t s.views log

-- a move of which this is so was added, or moves
abbrev pub AddsOne : Terms → (Move → Type 0) → Step (Unit {0}) → Me (Unit {0}) View → ℕ → Me (Unit {0}) View → Type 0
AddsOne t is st old found new = ((m : Move) × is m × Added t m old.0 new.0) × (new.1 ≡ old.1)

abbrev pub AddsMany : Terms → (List Move → Type 0) → Step (Unit {0}) → Me (Unit {0}) View → ℕ → Me (Unit {0}) View
    → Type 0
AddsMany t are st old found new = ((ms : List Move) × are ms × AddedAll t ms old.0 new.0) × (new.1 ≡ old.1)

abbrev pub Looks : Terms → Step (Unit {0}) → Me (Unit {0}) View → ℕ → Me (Unit {0}) View → Type 0
Looks t st old found new = Looked t old.0 new.0 × (new.1 ≡ old.1)

-- the first pass of a hub
abbrev pub first_view : Terms → View
first_view t = record { seen = []; told = []; low = 0; high = t.clients + t.servers; hands = [] }

-- a pass that has seen so much, with these claims
abbrev pub with_hands : List Move → List Claim → View
with_hands seen hs = record { seen = seen; told = []; low = 0; high = 0; hands = hs }

-- one that has seen as much, and has no right
abbrev pub note_of : View → View
note_of v = with_hands v.seen []

-- all that a pass has in hand, cut off
abbrev pub values_of : View → View
values_of v = with_hands v.seen v.hands

abbrev pub empty_handed : View → View
empty_handed v = record { seen = v.seen; told = v.told; low = v.low; high = v.high; hands = [] }

-- the claims that a test picks, cut off
abbrev pub picked_of : (Claim → Bool) → View → View
picked_of picks v = with_hands v.seen (filter picks v.hands)

abbrev pub unpicked_of : (Claim → Bool) → View → View
unpicked_of picks v =
    record { seen = v.seen; told = v.told; low = v.low; high = v.high; hands = filter (λ c. not (picks c)) v.hands }

-- the first of its slots, cut off
abbrev pub first_of : View → View
first_of v = record { seen = v.seen; told = []; low = v.low; high = v.low + 1; hands = [] }

abbrev pub others_of : View → View
others_of v = record { seen = v.seen; told = v.told; low = v.low + 1; high = v.high; hands = v.hands }

-- what another pass has seen and has in hand, taken in
abbrev pub joined : View → View → View
joined v w = record { seen = v.seen; told = w.seen; low = v.low; high = v.high; hands = v.hands ++ w.hands }

-- what is left of that pass
abbrev pub spent : View
spent = with_hands [] []
