-- A state of a session towards a client that is what its records say.
use Rattle.std.specs.Prelude.{◌≡◌, ◌++◌, ℕ, List, true, false, map, reverse}
use Rattle.mux_history.specs.Log.{Log}
use Rattle.mux_history.specs.Readings.{present}
use Rattle.mux_history.specs.declared.record.Record.{Record}
use Rattle.mux_history.specs.declared.session.InitMode.{InitMode}
use Rattle.mux_history.specs.declared.session.SessionId.TheVariants.{Client}
use Rattle.mux_model.specs.Steps.{records}
use Rattle.mux_model.specs.Replay.{DownEntry, DownOutline, down_outline, is_down_history, is_joined}
use Rattle.mux_legal.specs.KeptHistories.{AreFaultlessAlone}
use Rattle.translate_book.specs.declared.entry.Entry.{Entry}
use Rattle.translate_book.specs.Entries.{is_open, is_note_due, is_answer_due, is_noted_in}
use Rattle.server_session.specs.Past.{Past}
use Rattle.server_session.specs.State.{State, naming, standing_in}
use Rattle.server_session.specs.Belonging.{Belongs}
use Rattle.kept_session.specs.Beginning.{has_rolled}
use Rattle.kept_session.specs.Histories.{AreBehind, all_of}
use Rattle.kept_session.specs.ReachedDown.{IsLedDown, KeptDown}

-- the session may have given up these histories: with them it has all records of a past that its calls led to
abbrev pub HasGivenUpDown : KeptDown → List Log → Type 0
HasGivenUpDown k gone =
    (p : Past) × IsLedDown p × Belongs k.state p × AreBehind gone k.ended k.state.records k.state.epoch p.steps

-- the records of all histories, with those that it gave up
abbrev pub all_with_down : KeptDown → (gone : List Log) → List Record
all_with_down k gone = reverse (all_of (gone ++ k.ended) k.state.records)

-- an entry of the book, as records tell it: they say neither the place that is noted, nor the reason
abbrev pub told_of : State → ℕ × Entry → DownEntry
told_of s x = record {
  name = naming s x.0;
  tag = x.1.tag;
  is_open = is_open x.1;
  noted = is_noted_in x.1.note;
  note_due = is_note_due x.1;
  answer_due = is_answer_due x.1;
  recalled = x.1.recalled;
  left = x.1.left;
}

-- the state holds what the outline tells
pub record ShowsDown (s : State) (o : DownOutline) : Type 0 where
  -- the book has the oldest first
  pub book : map (told_of s) s.book ≡ reverse o.book
  pub standing : standing_in s ≡ o.standing
  pub closed : s.closed ≡ o.ended
  pub reading : s.reading ≡ o.reading
  pub epoch : s.epoch ≡ o.epoch

-- the state is what the records of all its histories say, which are those of any past that it may have; where no roll
-- began the present history, its records say it by themselves
pub record IsOutlinedDown (k : KeptDown) : Type 0 where
  pub whole : (gone : List Log) → HasGivenUpDown k gone
      → ShowsDown k.state (down_outline k.state.limits (all_with_down k gone))
  pub joined : (p : Past) → IsLedDown p → Belongs k.state p
      → ShowsDown k.state (down_outline k.state.limits (records p.steps))
  pub alone : has_rolled (reverse k.state.records) ≡ false
      → ShowsDown k.state (down_outline k.state.limits (reverse k.state.records))

-- each of its records may follow those before it, and so may each of the present history by itself, if no roll began it
pub record IsHistoryDown (k : KeptDown) : Type 0 where
  pub whole : (gone : List Log) → HasGivenUpDown k gone → (mode : InitMode)
      → is_joined k.state.limits k.state.boot mode (Client k.state.client) (all_with_down k gone) ≡ true
  pub joined : (p : Past) → IsLedDown p → Belongs k.state p → (mode : InitMode)
      → is_joined p.session.limits p.session.boot mode (Client p.session.number) (records p.steps) ≡ true
  pub alone : has_rolled (reverse k.state.records) ≡ false
      → is_down_history (record { limits = k.state.limits; boot = k.state.boot; number = k.state.client })
      (reverse k.state.records) ≡ true

-- its records since it was last at rest show no fault by themselves, nor do those of the present history, if no roll
-- began it
pub record IsFaultlessDown (k : KeptDown) : Type 0 where
  pub whole : (gone : List Log) → HasGivenUpDown k gone → AreFaultlessAlone (present (all_with_down k gone))
  pub joined : (p : Past) → IsLedDown p → Belongs k.state p → AreFaultlessAlone (present (records p.steps))
  pub alone : has_rolled (reverse k.state.records) ≡ false → AreFaultlessAlone (reverse k.state.records)
