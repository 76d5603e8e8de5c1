-- When a reader wakes its own session's writer.
use Rattle.std.specs.Prelude.{ℕ, Bool, true, Option, Some, None, cond, nat_eq}

-- frames wait to be sent, as far as is known; or the router lets its clients go, and a client may have all its answers
abbrev pub wakes_by : (queued : Option ℕ) → (lets_go : Bool) → Bool
wakes_by None lets_go = true
wakes_by (Some queued) lets_go = cond (nat_eq queued 0) lets_go true
