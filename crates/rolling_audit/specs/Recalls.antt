-- Recalls and their ends.
use Rattle.std.specs.Prelude.{List, ◌||◌, Bool, IsTrue, false, not, nat_lt}
use Rattle.std.specs.List.{list_all}
use Rattle.mux_history.specs.declared.name.Name.{Name}
use Rattle.mux_history.specs.declared.record.Record.{Record}
use Rattle.mux_history.specs.declared.kind.RecordKind.{RecordKind}
use Rattle.mux_history.specs.Holders.{of_named}
use Rattle.mux_history.specs.Readings.{is_retried, recall_kind}
use Rattle.mux_agree.specs.Agree.{has, times, is_settled, is_settled_nack, is_lost_one}
use Rattle.mux_agree.specs.Facts.{is_discarding}

-- a step gave a recall
abbrev pub gives_recall : RecordKind → Bool
gives_recall kind = recall_kind kind false

-- a recall of the dispatch was sent, or it has an end: a reply that isn't a nack to be sent again, or a loss
abbrev pub has_end : List Record → Name → Bool
has_end rs n =
    has is_discarding n rs || has is_settled n rs || has is_lost_one n rs
    || nat_lt (times is_retried n rs) (times is_settled_nack n rs)

-- a record gave no recall, or one whose dispatch is so
abbrev pub is_ended : List Record → Record → Bool
is_ended rs r = not (gives_recall r.kind) || of_named (has_end rs) r.name

-- each record did
abbrev pub AreEnded : List Record → Type 0
AreEnded rs = IsTrue (list_all (is_ended rs) rs)
