-- Which dispatches are counted, and where.
use Rattle.std.specs.Prelude.{ℕ, ◌+◌, ◌^◌, ◌%◌, Option, Some, None}
use Rattle.hub_delivery.specs.declared.counts.Run.{Run}

-- a dispatch is counted where it goes to a server for the first time
abbrev pub counted : (sent_to : Option ℕ) → Run → Run
counted None run = record run { count = (run.count + 1) % (2 ^ 64) }
counted (Some server) run = run

-- each mark has a counter, and all destinations without one share the last
abbrev pub counter_of : Option ℕ → ℕ
counter_of (Some mark) = mark
counter_of None = 256
