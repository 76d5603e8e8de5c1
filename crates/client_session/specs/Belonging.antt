-- When a state is that of a session with this past.
use Rattle.std.specs.Prelude.{◌≡◌, ℕ, ◌+◌, false, if◌then◌else◌, List, [], ◌∷◌, ◌++◌, reverse, Option, Some, None}
use Rattle.std.specs.Ordering.{nat_cmp}
use Rattle.std.specs.FinMap as map
use Rattle.mux_history.specs.declared.session.SessionId.TheVariants.{Server}
use Rattle.mux_history.specs.Readings.{has_ended, reading as reading_of, stands, is_retiring, is_drained_kind, is_ping_sent, is_ping_done, count_kind, written, epoch_of}
use Rattle.mux_history.specs.Lapse.{lease_of}
use Rattle.mux_model.specs.Steps.{entries as entries_of, records as records_of}
use Rattle.mux_model.specs.Tags.{Holder, holder}
use Rattle.mux_model.specs.Up.{init_of, is_drained, lease_end}
use Rattle.client_session.specs.Past.{Past, Dispatch, delays_of, open_of, dispatch_on, sent_of}
use Rattle.client_session.specs.State.{State}

-- no tag stands in the list twice
abbrev pub HasDistinctTags : List (ℕ × Dispatch) → Type 0
HasDistinctTags [] = Unit {0}
HasDistinctTags (h ∷ hs) = (map.find nat_cmp h.0 hs ≡ None) × HasDistinctTags hs

-- who holds a tag is the dispatch that is held on it
abbrev pub IsHeldBy : Option Holder → Option Dispatch → Type 0
IsHeldBy None None = Unit {0}
IsHeldBy (Some h) (Some d) = h.name ≡ d.name
IsHeldBy _ _ = ⊥

pub record Belongs (s : State) (p : Past) : Type 0 where
  pub server : s.server ≡ p.session.number
  pub limits : s.limits ≡ p.session.limits
  -- the records are those of the present history
  pub epoch : s.epoch ≡ epoch_of (records_of p.steps)
  pub records : s.records ≡ reverse (written (records_of p.steps))
  -- the messages sent are those that were taken out, and then those in the queue
  pub queue : p.out ++ s.queue ≡ sent_of (entries_of p.steps)
  pub entries : s.entries ≡ map.from_entries (open_of p.steps)
  pub delays : s.delays ≡ delays_of p.steps
  pub distinct : HasDistinctTags (open_of p.steps)
  -- until the end each open tag is held by the dispatch that the session keeps on it
  pub held : has_ended (records_of p.steps) ≡ false → (t : ℕ)
      → IsHeldBy (holder (Server p.session.number) t (entries_of p.steps)) (dispatch_on t (open_of p.steps))
  -- the lease and the draining are what the messages say, and what the records say
  pub lapse : s.lapse ≡ lease_end (entries_of p.steps)
  pub lease : s.lapse ≡ lease_of (records_of p.steps)
  pub drained : s.drained ≡ is_drained (entries_of p.steps)
  pub drains : s.drained ≡ stands is_drained_kind (records_of p.steps)
  pub reading : s.reading ≡ reading_of (records_of p.steps)
  pub init : s.init ≡ init_of p.session (records_of p.steps)
  pub retired : s.retired ≡ stands is_retiring (records_of p.steps)
  -- a ping is out where one more was sent than answered
  pub pings : count_kind is_ping_sent (records_of p.steps)
      ≡ count_kind is_ping_done (records_of p.steps) + (if s.ping then 1 else 0)
  pub closed : s.closed ≡ has_ended (records_of p.steps)

-- Whatever past the old state belongs to, a step leads from it to one that the new state belongs to.
abbrev pub StepsBy : (old new : State) → (Past → Past → Type 0) → Type 0
StepsBy old new Step = (p : Past) → Belongs old p → (q : Past) × Step p q × Belongs new q
