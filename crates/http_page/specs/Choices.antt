-- What a request asks for.
use Rattle.std.specs.Prelude.{ℕ, ◌==◌, List, Option, Some, None, take, Bool, ◌||◌, not, codes, if◌then◌else◌}
use Rattle.std.specs.List.{position}
use Rattle.std.specs.Str.{bytes_eq}
use Rattle.http_page.specs.declared.choice.Choice.{Choice}
use Rattle.http_page.specs.declared.choice.Choice.TheVariants.{Metrics, Health, Alive, NotFound, NotAllowed}

abbrev pub up_to : Option ℕ → List ℕ → List ℕ
up_to None target = target
up_to (Some end) target = take end target

-- a target up to its first `?`
abbrev pub path_of : List ℕ → List ℕ
path_of target = up_to (position (λ b. b == 63) target) target

abbrev pub is_read : List ℕ → Bool
is_read method = bytes_eq method (codes "GET") || bytes_eq method (codes "HEAD")

abbrev pub choice_of : (method target : List ℕ) → Choice
choice_of method target =
    if not (is_read method) then NotAllowed
    else if bytes_eq (path_of target) (codes "/metrics") then Metrics
    else if bytes_eq (path_of target) (codes "/health") then Health
    else if bytes_eq (path_of target) (codes "/alive") then Alive
    else NotFound
