-- A state that is what its records say.
use Rattle.std.specs.Prelude.{◌≡◌, ◌++◌, ℕ, Bool, List, true, false, length, reverse, Option}
use Rattle.std.specs.Option.{option_map}
use Rattle.std.specs.FinMap as finite
use Rattle.mux_history.specs.Log.{Log}
use Rattle.mux_history.specs.declared.name.Name.{Name}
use Rattle.mux_history.specs.declared.record.Record.{Record}
use Rattle.mux_history.specs.Readings.{Sending, sending_on, present}
use Rattle.mux_history.specs.declared.session.SessionId.TheVariants.{Server}
use Rattle.mux_model.specs.Steps.{records}
use Rattle.mux_model.specs.Replay.{UpOutline, up_outline, is_up_history, is_joined}
use Rattle.mux_legal.specs.KeptHistories.{AreFaultlessAlone}
use Rattle.client_session.specs.Past.{Past, Dispatch}
use Rattle.client_session.specs.State.{State, standing_in}
use Rattle.client_session.specs.Belonging.{Belongs}
use Rattle.kept_session.specs.Beginning.{has_rolled}
use Rattle.kept_session.specs.Histories.{AreBehind, all_of}
use Rattle.kept_session.specs.Reached.{Kept, IsReached}

-- the session may have given up these histories: with them it has all records of a past that its calls led to
abbrev pub HasGivenUp : Kept → List Log → Type 0
HasGivenUp k gone =
    (p : Past) × IsReached k.mode p × Belongs k.state p × AreBehind gone k.ended k.state.records k.state.epoch p.steps

-- the records of all histories, with those that it gave up
abbrev pub all_with : Kept → (gone : List Log) → List Record
all_with k gone = reverse (all_of (gone ++ k.ended) k.state.records)

-- the dispatch on a tag, as records tell it: they don't say what may be sent again
abbrev pub kept_on : Option Dispatch → Option (Option Name × Bool)
kept_on o = option_map (λ d. (d.name, d.recalled)) o

abbrev pub told_on : Option Sending → Option (Option Name × Bool)
told_on o = option_map (λ e. (e.name, e.recalled)) o

-- the state holds what the outline tells
pub record Shows (s : State) (o : UpOutline) : Type 0 where
  pub entries : (t : ℕ) → kept_on (finite.get s.entries t) ≡ told_on (sending_on t o.entries)
  pub load : finite.len s.entries ≡ length o.entries
  pub standing : standing_in s ≡ o.standing
  pub closed : s.closed ≡ o.ended
  pub reading : s.reading ≡ o.reading
  pub epoch : s.epoch ≡ o.epoch

-- the state is what the records of all its histories say, which are those of any past that it may have; where no roll
-- began the present history, its records say it by themselves
pub record IsOutlined (k : Kept) : Type 0 where
  pub whole : (gone : List Log) → HasGivenUp k gone → Shows k.state (up_outline k.mode (all_with k gone))
  pub joined : (p : Past) → p.session.mode ≡ k.mode → Belongs k.state p
      → Shows k.state (up_outline k.mode (records p.steps))
  pub alone : has_rolled (reverse k.state.records) ≡ false
      → Shows k.state (up_outline k.mode (reverse k.state.records))

-- each of its records may follow those before it, and so may each of the present history by itself, if no roll began it
pub record IsHistory (k : Kept) : Type 0 where
  pub whole : (gone : List Log) → HasGivenUp k gone → (boot : ℕ)
      → is_joined k.state.limits boot k.mode (Server k.state.server) (all_with k gone) ≡ true
  pub joined : (p : Past) → IsReached k.mode p → Belongs k.state p → (boot : ℕ)
      → is_joined p.session.limits boot p.session.mode (Server p.session.number) (records p.steps) ≡ true
  pub alone : has_rolled (reverse k.state.records) ≡ false
      → is_up_history (record { limits = k.state.limits; number = k.state.server; mode = k.mode })
      (reverse k.state.records) ≡ true

-- its records since it was last at rest show no fault by themselves, nor do those of the present history, if no roll
-- began it
pub record IsFaultless (k : Kept) : Type 0 where
  pub whole : (gone : List Log) → HasGivenUp k gone → AreFaultlessAlone (present (all_with k gone))
  pub joined : (p : Past) → IsReached k.mode p → Belongs k.state p → AreFaultlessAlone (present (records p.steps))
  pub alone : has_rolled (reverse k.state.records) ≡ false → AreFaultlessAlone (reverse k.state.records)
