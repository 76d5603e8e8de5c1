use Rattle.std.proofs.Common.{◌≡◌, ℕ, ◌+◌, ◌≤◌, nat_eq, drop, length}
use Rattle.indexmap.specs.IndexMap.{get, spare, index_map_len}
use Rattle.translate_book.specs.Book.{held_in, open_at, open_count}
use Rattle.translate_book.proofs.opens.list_open.Given as goal

abbrev pub invariant-loop-i : goal.invariant-loop-i
invariant-loop-i l = record {
  within : l.i ≤ length l.entries;
  found : (t : ℕ) → get nat_eq l.tags t ≡ open_at t (held_in (drop l.i l.entries));
  count : index_map_len l.tags ≤ open_count (held_in (drop l.i l.entries));
  room : index_map_len l.fn.tags + spare l.fn.tags ≤ index_map_len l.tags + spare l.tags;
}

abbrev pub decreases-loop-i : goal.decreases-loop-i
decreases-loop-i l = l.i
