use Rattle.std.proofs.Common.{◌≡◌, ◌+◌, length, take}
use Rattle.std.specs.Prelude.{map}
use Rattle.mux_history.specs.Counting.{capped}
use Rattle.mux_agree.specs.Walk.{all_records, kept_down, kept_up}
use Rattle.hub_close.proofs.lengths.record_count.Given as goal

abbrev pub invariant-loop-down : goal.invariant-loop-down
invariant-loop-down l = l.records ≡ capped (length (all_records (map kept_down (take l.down-index l.downs))))

abbrev pub invariant-loop-up : goal.invariant-loop-up
invariant-loop-up l =
    l.records ≡ capped (length (all_records (map kept_down l.downs)) + length (all_records (map kept_up (take l.up-index l.ups))))
