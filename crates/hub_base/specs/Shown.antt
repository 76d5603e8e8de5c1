-- What is shown of a session without its lock.
use Rattle.std.specs.Prelude.{ℕ, Bool, ◌+◌, ◌-◌, ◌^◌, ◌==◌, min, nat_lt, if◌then◌else◌}

-- the load by which a session is chosen: more than any session holds, if it is asked last
abbrev pub asked_load : (load until now : ℕ) → ℕ
asked_load load until now = if nat_lt now until then min (load + 2 ^ 30) (2 ^ 32 - 1) else load

-- how many bytes wait in a queue of so many frames, to which bodies of so many came: none in an empty one
abbrev pub waiting_bytes : (before frames more : ℕ) → ℕ
waiting_bytes before frames more = if frames == 0 then 0 else min (before + more) (2 ^ 64 - 1)

-- so many bytes wait that no more is taken: more than a session may have queued
abbrev pub is_too_much : (bytes most : ℕ) → Bool
is_too_much bytes most = nat_lt most bytes
