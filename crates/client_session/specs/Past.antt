-- A session so far, as its list of steps tells it. No table, queue or flag is kept here.
use Rattle.std.specs.Prelude.{ℕ, ◌-◌, ◌==◌, Bool, true, false, if◌then◌else◌, List, [], ◌∷◌, ◌++◌, length, map, count_by, sum_by, Option, Some, None, is_some}
use Rattle.std.specs.Option.{option_to_list}
use Rattle.mux_frame.specs.Spelling.{MuxFrame}
use Rattle.mux_history.specs.declared.delays.Delays.{Delays}
use Rattle.mux_history.specs.declared.kind.RecordKind.{RecordKind}
use Rattle.mux_history.specs.declared.kind.RecordKind.TheVariants.{Settled, SettledNack}
use Rattle.mux_history.specs.declared.name.Name.{Name}
use Rattle.mux_history.specs.declared.record.Record.{Record}
use Rattle.mux_history.specs.declared.session.InitState.{InitState}
use Rattle.mux_history.specs.Bounds.{Bounds}
use Rattle.mux_history.specs.Delaying.{answered, no_delay}
use Rattle.mux_history.specs.Readings.{has_ended, reading, stands, is_retiring, ping_outstanding, Sending, sendings, written, epoch_of}
use Rattle.mux_model.specs.Entries.{Exchange}
use Rattle.mux_model.specs.Steps.{Call, Step, entries, records, sent_count}
use Rattle.mux_model.specs.Up.{UpSession, init_of, is_drained, lease_end, copy_on, is_offer_on, reading_in, was_not_recalled, kept_for}
use Rattle.mux_model.specs.World.{first_step}

-- the session, its steps, the newest first, and the frames that were taken out of it, the oldest first
pub record Past : Type 0 where
  pub session : UpSession
  pub steps : List Step
  pub out : List MuxFrame

-- a session that is opened: in mode Probe the probe is the first thing sent
abbrev pub begun : UpSession → Past
begun session = record { session = session; steps = first_step session.mode; out = [] }

-- the session after one more recorded call
abbrev pub add : Past → Call → Exchange → Past
add p call entry = record p { steps = record { call = call; entry = entry } ∷ p.steps }

-- the messages that a list has sent, the oldest first
abbrev pub sent_of : List Exchange → List MuxFrame
sent_of [] = []
sent_of (e ∷ old) = sent_of old ++ option_to_list e.sent

-- the message that a list sent last
abbrev pub last_sent : List Exchange → Option MuxFrame
last_sent [] = None
last_sent (e ∷ old) = if is_some e.sent then e.sent else last_sent old

-- a dispatch that was sent and not answered, at which reading, and the same as it was taken, where it may be sent again
pub record Dispatch : Type 0 where
  pub name : Option Name
  pub since : ℕ
  pub again : Option MuxFrame
  pub recalled : Bool

-- the reading of the last offer on a tag
abbrev pub since_on : ℕ → List Step → ℕ
since_on t [] = 0
since_on t (s ∷ old) = if is_offer_on t s.entry.rec then reading_in s.entry.rec else since_on t old

-- the dispatches that a session holds, by their tags
abbrev pub dispatch_of : List Step → Sending → ℕ × Dispatch
dispatch_of steps e =
    (e.tag, record { name = e.name; since = since_on e.tag steps; again = copy_on e.tag steps; recalled = e.recalled })

abbrev pub open_of : List Step → List (ℕ × Dispatch)
open_of steps = map (dispatch_of steps) (sendings (records steps))

abbrev pub dispatch_on : ℕ → List (ℕ × Dispatch) → Option Dispatch
dispatch_on tag [] = None
dispatch_on tag (h ∷ hs) = if tag == h.0 then Some h.1 else dispatch_on tag hs

-- HOW LONG dispatches took: from the reading of the last offer on a tag to that of the reply there

-- behind a record of this kind, by what came before
abbrev pub delayed : Record → RecordKind → List Step → Delays → Delays
delayed r (Settled type) old d = answered false (r.reading - since_on r.tag old) d
delayed r SettledNack old d = answered true (r.reading - since_on r.tag old) d
delayed r _ old d = d

abbrev pub delayed_by : Option Record → List Step → Delays → Delays
delayed_by None old d = d
delayed_by (Some r) old d = delayed r r.kind old d

abbrev pub delays_of : List Step → Delays
delays_of [] = no_delay
delays_of (s ∷ old) = delayed_by s.entry.rec old (delays_of old)

-- THE FIGURES by which a session decides
pub record Figures : Type 0 where
  pub limits : Bounds
  pub closed : Bool
  pub init : InitState
  pub drained : Bool
  pub retired : Bool
  pub ping : Bool
  pub lapse : Option ℕ
  pub reading : ℕ
  -- the number of the present epoch, and the records of the present history
  pub epoch : ℕ
  pub records : ℕ
  pub queued : ℕ
  -- the dispatches held, those of them that were not recalled, and the records that are kept for all of them
  pub load : ℕ
  pub fresh : ℕ
  pub kept : ℕ

abbrev pub figures_of : Past → Figures
figures_of p = record {
  limits = p.session.limits;
  closed = has_ended (records p.steps);
  init = init_of p.session (records p.steps);
  drained = is_drained (entries p.steps);
  retired = stands is_retiring (records p.steps);
  ping = ping_outstanding (records p.steps);
  lapse = lease_end (entries p.steps);
  reading = reading (records p.steps);
  epoch = epoch_of (records p.steps);
  records = length (written (records p.steps));
  queued = sent_count (entries p.steps) - length p.out;
  load = length (sendings (records p.steps));
  fresh = count_by was_not_recalled (sendings (records p.steps));
  kept = sum_by kept_for (sendings (records p.steps));
}

-- the last of the frames that are queued
abbrev pub last_queued : Past → Option MuxFrame
last_queued p = if sent_count (entries p.steps) - length p.out == 0 then None else last_sent (entries p.steps)
