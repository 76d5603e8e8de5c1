-- The servers of names, as an order gives them.
use Rattle.std.specs.Prelude.{◌≡◌, ℕ, Contains, List, None, Option, Some, String, map, string_bytes}
use Rattle.std.specs.List.{position}
use Rattle.std.specs.Str.{bytes_eq}
use Rattle.std.specs.declared.alloc.Global.{Global}
use Rattle.hub.specs.declared.hub.Known.{Known}

-- the server of a name: the first one that has it
abbrev pub place_of : List Known → (name : List ℕ) → Option ℕ
place_of known name = position (λ (server : Known). bytes_eq (string_bytes server.name) name) known

-- each of these servers is the one of its name
abbrev pub AreNamed : List Known → (names : List (String Global)) → (servers : List ℕ) → Type 0
AreNamed known names servers =
    map (λ (name : String Global). place_of known (string_bytes name)) names ≡ map Some servers

-- one of these names is no server's
abbrev pub HasUnknown : List Known → (names : List (String Global)) → Type 0
HasUnknown known names =
    (name : String Global) × Contains names name × (place_of known (string_bytes name) ≡ None)
