-- Which destinations have a mark: the first 256 that were given servers.
use Rattle.std.specs.Prelude.{ℕ, nat_le, List, [], ◌∷◌, ◌++◌, length, position, reverse, Option, Some, None, if◌then◌else◌}
use Rattle.std.specs.List.{list_any}
use Rattle.std.specs.Str.{bytes_eq}
use Rattle.route_table.specs.Routes.{Change, set, remove}

-- the destination that a change gives servers
abbrev pub given_by : Change → Option (List ℕ)
given_by (set dst servers) = Some dst
given_by (remove dst) = None

-- the destinations that have a mark, after this one was given servers
abbrev pub noted : List (List ℕ) → Option (List ℕ) → List (List ℕ)
noted names None = names
noted names (Some dst) =
    if nat_le 256 (length names) then names
    else (if list_any (bytes_eq dst) names then names else names ++ dst ∷ [])

-- after these changes, the newest in front
abbrev pub marked_by : List Change → List (List ℕ)
marked_by [] = []
marked_by (change ∷ past) = noted (marked_by past) (given_by change)

-- after these orders, the oldest in front
abbrev pub marked : List Change → List (List ℕ)
marked orders = marked_by (reverse orders)

-- the mark of a destination is its place among them
abbrev pub mark_in : List ℕ → List Change → Option ℕ
mark_in dst orders = position (bytes_eq dst) (marked orders)
