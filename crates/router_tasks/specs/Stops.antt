-- When a router that lets its clients go ends.
use Rattle.std.specs.Prelude.{ℕ, Bool, not, ◌&&◌, ◌||◌, nat_eq, nat_le}

-- nobody comes in any more and no client is left, or the time is over
abbrev pub ends_by : (is_listening : Bool) → (clients now deadline : ℕ) → Bool
ends_by is_listening clients now deadline = (not is_listening && nat_eq clients 0) || nat_le deadline now
