-- Lines that no operator sends.
use Rattle.std.specs.Prelude.{ℕ, ◌==◌, List, Bool, codes}
use Rattle.std.specs.List.{ends_with}

-- the first line of a request over HTTP/1.1
abbrev pub is_request : List ℕ → Bool
is_request line = ends_with ◌==◌ line (codes " HTTP/1.1")
