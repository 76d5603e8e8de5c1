-- The outline of a session is read from the present epoch alone.
use Rattle.std.proofs.Common.{List, ◌≡◌, ◌||◌, ◌-◌, false, ◌∙◌}
use Rattle.std.specs.Prelude.{if◌then◌else◌, filter, map}
use Rattle.mux_history.specs.declared.name.Name.{Name}
use Rattle.mux_history.specs.declared.record.Record.{Record}
use Rattle.mux_history.specs.declared.session.InitMode.{InitMode}
use Rattle.mux_history.specs.Bounds.{Bounds}
use Rattle.mux_history.specs.Readings.{present, book, note_kind, answer_kind, noted_kind, recall_kind, is_named, tag_of, has_ended, is_took}
use Rattle.mux_history.specs.Holders.{name_on}
use Rattle.mux_history.proofs.Present.{ended_present, since_present, names_present, tag_present, tries_present, reading_present, epoch_present, sendings_present, holder_present, down_present, up_present}
use Rattle.mux_model.specs.Replay.{down_outline, up_outline, down_entry, is_open_entry}

pub open_present : (rs : List Record) (n : Name) → is_open_entry (present rs) n ≡ is_open_entry rs n
open_present rs n =
    (λ i. if ended_present rs i then false else is_named n (name_on (tag_present n rs i) (present rs)))
    ∙ (λ i. if has_ended rs then false else is_named n (holder_present (tag_of n rs) rs i))

entry_present : (limits : Bounds) (rs : List Record) (n : Name) → down_entry limits (present rs) n ≡ down_entry limits rs n
entry_present limits rs n = λ i. record {
  name = n;
  tag = tag_present n rs i;
  is_open = open_present rs n i;
  noted = since_present noted_kind n rs i;
  note_due = since_present note_kind n rs i;
  answer_due = since_present answer_kind n rs i;
  recalled = since_present recall_kind n rs i;
  left = limits.retries - tries_present n rs i;
}

pub book_present : (rs : List Record) → book (present rs) ≡ book rs
book_present rs = λ i. filter (λ n. since_present note_kind n rs i || since_present answer_kind n rs i) (names_present is_took rs i)

pub down_outline_present : (limits : Bounds) (rs : List Record) → down_outline limits (present rs) ≡ down_outline limits rs
down_outline_present limits rs = λ i. record {
  standing = down_present rs i;
  book = map (λ n. entry_present limits rs n i) (book_present rs i);
  ended = ended_present rs i;
  reading = reading_present rs i;
  epoch = epoch_present rs i;
}

pub up_outline_present : (mode : InitMode) (rs : List Record) → up_outline mode (present rs) ≡ up_outline mode rs
up_outline_present mode rs = λ i. record {
  standing = up_present mode rs i;
  entries = sendings_present rs i;
  ended = ended_present rs i;
  reading = reading_present rs i;
  epoch = epoch_present rs i;
}
