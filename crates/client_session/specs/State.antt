-- What contracts see of a session, and what its steps make of it.
use Rattle.std.specs.Prelude.{◌≡◌, ℕ, ◌+◌, ◌-◌, max, Bool, true, false, not, List, [], ◌∷◌, ◌++◌, length, count_by, Option, Some, None, codes}
use Rattle.std.specs.Option.{option_to_list}
use Rattle.std.specs.Ordering.{nat_cmp}
use Rattle.std.specs.FinMap as map
use Rattle.mux_frame.specs.Spelling.{MuxFrame}
use Rattle.mux_history.specs.declared.delays.Delays.{Delays}
use Rattle.mux_history.specs.declared.record.Record.{Record}
use Rattle.mux_history.specs.declared.kind.RecordKind.{RecordKind}
use Rattle.mux_history.specs.declared.kind.RecordKind.TheVariants as kinds
use Rattle.mux_history.specs.declared.name.Name.{Name}
use Rattle.mux_history.specs.Bounds.{Bounds}
use Rattle.mux_history.specs.Delaying.{answered}
use Rattle.mux_history.specs.Lapse.{leased}
use Rattle.mux_history.specs.declared.kind.Standing.{Standing}
use Rattle.mux_history.specs.Standings.{up_with}
use Rattle.mux_history.specs.declared.session.InitState.{InitState}
use Rattle.mux_history.specs.declared.session.InitState.TheVariants as inits
use Rattle.mux_message.specs.Content.{MessageView}
use Rattle.mux_message.specs.Made.{rping_on, rdrain_on, rerr_on, tinit_on}
use Rattle.mux_model.specs.Up.{Reaction, Pongs, Drains, Leases, Ignores, Unsupports, AsksInit, EndsInit, EndsPing}
use Rattle.client_session.specs.Past.{Figures, Dispatch}

pub record State : Type 0 where
  pub server : ℕ
  pub limits : Bounds
  -- the number of the present epoch, and the records of the present history, the oldest first
  pub epoch : ℕ
  pub records : List Record
  -- the frames to be taken out, the oldest first
  pub queue : List MuxFrame
  pub entries : map.FinMap nat_cmp Dispatch
  -- how long the dispatches took that were answered
  pub delays : Delays
  pub lapse : Option ℕ
  pub reading : ℕ
  pub init : InitState
  pub drained : Bool
  pub retired : Bool
  pub ping : Bool
  pub closed : Bool

abbrev pub is_fresh : ℕ × Dispatch → Bool
is_fresh h = not h.1.recalled

-- how many dispatches of the map were not recalled
abbrev pub fresh_in : map.FinMap nat_cmp Dispatch → ℕ
fresh_in m = count_by is_fresh (map.entries m)

abbrev pub figures_in : State → Figures
figures_in s = record {
  limits = s.limits;
  closed = s.closed;
  init = s.init;
  drained = s.drained;
  retired = s.retired;
  ping = s.ping;
  lapse = s.lapse;
  reading = s.reading;
  epoch = s.epoch;
  records = length s.records;
  queued = length s.queue;
  load = map.len s.entries;
  fresh = fresh_in s.entries;
  kept = map.len s.entries + fresh_in s.entries;
}

-- the state with one more record, and with the frame queued, if there is one
abbrev pub noted : State → (now : ℕ) → RecordKind → (tag : ℕ) → Option Name → Option MuxFrame → State
noted s now kind tag name sent = record s {
  records = s.records ++ record { kind = kind; tag = tag; name = name; reading = max s.reading now } ∷ [];
  reading = max s.reading now;
  queue = s.queue ++ option_to_list sent;
}

-- the frame of the dispatch that is kept to be sent again
abbrev pub frame_in : Option MessageView → Option MuxFrame
frame_in None = None
frame_in (Some m) = Some m.frame

-- a dispatch that was sent at this reading
abbrev pub beginning : Name → (since : ℕ) → Option MuxFrame → Dispatch
beginning name since again = record { name = Some name; since = since; again = again; recalled = false }

-- the state with a dispatch held on a tag
abbrev pub holding : State → (tag : ℕ) → Dispatch → State
holding s tag d = record s { entries = map.insert s.entries tag d }

-- the state with nothing held on a tag
abbrev pub releasing : State → (tag : ℕ) → State
releasing s tag = record s { entries = map.remove s.entries tag }

abbrev pub since_in : Option Dispatch → ℕ
since_in None = 0
since_in (Some d) = d.since

-- the state once the dispatch on a tag is answered, by a nack or not
abbrev pub answering : State → (now tag : ℕ) → (is_nack : Bool) → State
answering s now tag is_nack = record (releasing s tag) {
  delays = answered is_nack (max s.reading now - since_in (map.get s.entries tag)) s.delays;
}

-- the state with the dispatch on a tag recalled
abbrev pub marked_in : map.FinMap nat_cmp Dispatch → (tag : ℕ) → Option Dispatch → map.FinMap nat_cmp Dispatch
marked_in m tag None = m
marked_in m tag (Some d) = map.insert m tag (record d { recalled = true })

abbrev pub marking : State → (tag : ℕ) → State
marking s tag = record s { entries = marked_in s.entries tag (map.get s.entries tag) }

-- there is an entry, and it was not recalled
abbrev pub IsFreshEntry : Option Dispatch → Type 0
IsFreshEntry None = ⊥
IsFreshEntry (Some d) = d.recalled ≡ false

-- what a session leaves to the next epoch
abbrev pub standing_in : State → Standing
standing_in s = up_with s.init s.drained s.retired s.ping s.lapse

-- the state where the next history begins
abbrev pub emptied : State → State
emptied s = record s { epoch = s.epoch + 1; records = [] }

abbrev pub sealed_in : State → State
sealed_in s = noted (emptied s) 0 (kinds.Epoch (s.epoch + 1) (standing_in s)) 0 None None

-- all that is held, queued and leased goes on
abbrev pub rolled_in : State → State
rolled_in s = noted (emptied s) 0 (kinds.Rolled (s.epoch + 1)) 0 None None

-- THE TABLE of the reactions to a message that closes nothing and settles nothing

-- what changes beside record and frame
abbrev pub flagged : State → (now : ℕ) → Reaction → State
flagged s now Drains = record s { drained = true }
flagged s now (Leases ms) = record s { lapse = leased (max s.reading now) (Some ms) s.lapse }
flagged s now AsksInit = record s { init = inits.Asked }
flagged s now EndsInit = record s { init = inits.Open }
flagged s now EndsPing = record s { ping = false }
flagged s now _ = s

abbrev pub kind_by : Reaction → RecordKind
kind_by Pongs = kinds.Ponged
kind_by Drains = kinds.Drained
kind_by (Leases ms) = kinds.Leased ms
kind_by Ignores = kinds.Ignored
kind_by Unsupports = kinds.Unsupported
kind_by AsksInit = kinds.InitAsked
kind_by EndsInit = kinds.InitDone
kind_by EndsPing = kinds.PingDone
kind_by _ = kinds.Dropped

abbrev pub sends_by : Reaction → (tag : ℕ) → Option MuxFrame
sends_by Pongs tag = Some (rping_on tag)
sends_by Drains tag = Some (rdrain_on tag)
sends_by Unsupports tag = Some (rerr_on tag (codes "unsupported"))
sends_by AsksInit tag = Some (tinit_on 1)
sends_by _ tag = None

-- the state after such a message on a tag
abbrev pub reacted_in : State → (now tag : ℕ) → Reaction → State
reacted_in s now tag r = noted (flagged s now r) now (kind_by r) tag None (sends_by r tag)
