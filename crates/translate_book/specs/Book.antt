-- The book of one client: its entries by rising number.
use Rattle.std.specs.Prelude.{◌≡◌, ℕ, ◌+◌, ◌<◌, ◌≤◌, ◌==◌, ◌&&◌, true, List, [], ◌∷◌, Option, Some, None, if◌then◌else◌, filter, find, nat_eq}
use Rattle.std.specs.Option.{option_map}
use Rattle.std.specs.Map.{lookup}
use Rattle.translate_book.specs.declared.entry.Entry.{Entry}
use Rattle.translate_book.specs.Entries.{is_open, is_held, owes_recall}

-- for how many entries there is room, the greatest number that was added, and the entries by rising number
pub record BookView : Type 0 where
  pub room : ℕ
  pub last : ℕ
  pub entries : List (ℕ × Entry)

-- the entry of a number
abbrev pub entry_at : ℕ → List (ℕ × Entry) → Option Entry
entry_at seq ps = lookup (nat_eq seq) ps

-- those whose note or answer is due, in their order
abbrev pub held_in : List (ℕ × Entry) → List (ℕ × Entry)
held_in ps = filter (λ p. is_held p.1) ps

-- the number of the entry that is open on a tag
abbrev pub open_at : ℕ → List (ℕ × Entry) → Option ℕ
open_at t [] = None
open_at t (p ∷ ps) = if is_open p.1 && p.1.tag == t then Some p.0 else open_at t ps

-- no two entries are open on one tag
abbrev pub IsOnce : List (ℕ × Entry) → Type 0
IsOnce [] = Unit {0}
IsOnce (p ∷ ps) = (is_open p.1 ≡ true → open_at p.1.tag ps ≡ None) × IsOnce ps

-- how many entries are open
abbrev pub open_count : List (ℕ × Entry) → ℕ
open_count [] = 0
open_count (p ∷ ps) = if is_open p.1 then open_count ps + 1 else open_count ps

-- an entry before others, which stays in the book while its note or its answer is due
abbrev pub kept : ℕ × Entry → List (ℕ × Entry) → List (ℕ × Entry)
kept p ps = if is_held p.1 then p ∷ ps else ps

-- the entries after a change of the one with this number; all others stay, in their order
abbrev pub changed : ℕ → (Entry → Entry) → List (ℕ × Entry) → List (ℕ × Entry)
changed seq f [] = []
changed seq f (p ∷ ps) = if seq == p.0 then kept (p.0, f p.1) ps else p ∷ changed seq f ps

-- the number of the first entry that owes a recall
abbrev pub first_owing : List (ℕ × Entry) → Option ℕ
first_owing ps = option_map (λ p. p.0) (find (λ p. owes_recall p.1) ps)

-- the numbers rise, from above `low` up to `high`
abbrev pub Rises : (low : ℕ) → List (ℕ × Entry) → (high : ℕ) → Type 0
Rises low [] high = low ≤ high
Rises low (p ∷ ps) high = (low < p.0) × Rises p.0 ps high
