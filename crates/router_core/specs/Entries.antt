-- What a step left in its session's list, read from the session before and after it.
use Rattle.std.specs.Prelude.{◌≡◌, ◌+◌, ◌-◌, ◌==◌, ◌||◌, ℕ, Bool, true, false, not, nat_lt, if◌then◌else◌, List, [], ◌∷◌, length, Option, Some, None}
use Rattle.mux_frame.specs.Spelling.{MuxFrame}
use Rattle.mux_history.specs.declared.record.Record.{Record}
use Rattle.mux_history.specs.declared.kind.RecordKind.{RecordKind}
use Rattle.mux_history.specs.declared.kind.RecordKind.TheVariants.{Closed}
use Rattle.mux_history.specs.declared.session.InitMode.TheVariants.{Probe}
use Rattle.mux_message.specs.Made.{probe}
use Rattle.mux_history.specs.Bounds.{Bounds}
use Rattle.mux_history.specs.declared.session.SessionId.{SessionId}
use Rattle.mux_history.specs.declared.session.SessionId.TheVariants.{Client, Server}
use Rattle.core_world.specs.declared.hands.Hand.{Hand}
use Rattle.core_world.specs.Sides.{session_at}
use Rattle.mux_history.specs.Readings.{epoch_of, written}
use Rattle.mux_model.specs.Entries.{Exchange}
use Rattle.mux_model.specs.Steps.{Call, FrameCall, entries, records, sent_count, sent_at, Outcome, Recorded}
use Rattle.mux_model.specs.World.{Connection}
use Rattle.mux_model.specs.Events as model
use Rattle.router_core.specs.declared.entering.Look.{Look}

abbrev pub newest : List Record → Option Record
newest [] = None
newest (r ∷ old) = Some r

-- what is read of a connection's session
pub record IsLook (l : Look) (c : Connection) : Type 0 where
  pub epoch : l.epoch ≡ epoch_of (records c.steps)
  pub count : l.count ≡ length (written (records c.steps))
  pub last : l.last ≡ newest (records c.steps)
  -- what was sent is queued, or was taken out
  pub sent : l.queued + c.out ≡ sent_count (entries c.steps)

-- the last of the frames that are queued
abbrev pub last_out : Connection → Option MuxFrame
last_out c =
    if sent_count (entries c.steps) - c.out == 0 then None
    else sent_at (sent_count (entries c.steps) - 1) (entries c.steps)

abbrev pub has_grown : (before after : Look) → Bool
has_grown before after = not (after.epoch == before.epoch) || not (after.count == before.count)

abbrev pub was_sent : (before after : Look) → Bool
was_sent before after = nat_lt before.queued after.queued

-- a frame that closes the session counts as no message
abbrev pub closes : RecordKind → Bool
closes (Closed cause) = true
closes _ = false

abbrev pub closes_by : Option Record → Bool
closes_by None = true
closes_by (Some r) = closes r.kind

-- the entry of a step, by the frame that was handed in and the last frame queued
abbrev pub entry_by : (before after : Look) → (handed out : Option MuxFrame) → Option Exchange
entry_by before after handed out =
    if has_grown before after
    then Some (record {
      rec = after.last;
      taken = if closes_by after.last then None else handed;
      sent = if was_sent before after then out else None;
    })
    else None

-- the frame that a call, or an event, hands in
abbrev pub frame_of : Call → Option MuxFrame
frame_of (FrameCall f now) = Some f
frame_of _ = None

abbrev pub frame_of_bare : model.Bare → Option MuxFrame
frame_of_bare (model.Frame f now) = Some f
frame_of_bare _ = None

abbrev pub frame_in : model.Event → Option MuxFrame
frame_in (model.On id step) = frame_of_bare step
frame_in _ = None

abbrev pub entry_in : Outcome → Option Exchange
entry_in (Recorded e gives) = Some e
entry_in _ = None

-- the first message of a session that is opened, and its list
abbrev pub first_sent : model.Event → Option MuxFrame
first_sent (model.OpenServer Probe) = Some probe
first_sent _ = None

abbrev pub first_entries : Option MuxFrame → List Exchange
first_entries None = []
first_entries (Some f) = record { rec = None; taken = None; sent = Some f } ∷ []

-- what is read of a session of a list
abbrev pub LooksAt : {S : Type 0} → (Bounds → ℕ → S → Connection → Type 0) → List S → ℕ → Option Look → Type 0
LooksAt {S} P xs number None = session_at xs number ≡ None
LooksAt {S} P xs number (Some l) =
    (s : S) × (session_at xs number ≡ Some s) × ((limits : Bounds) (c : Connection) → P limits number s c → IsLook l c)

abbrev pub OutAt : {S : Type 0} → (Bounds → ℕ → S → Connection → Type 0) → List S → ℕ → Option MuxFrame → Type 0
OutAt {S} P xs number frame =
    (s : S) → session_at xs number ≡ Some s → (limits : Bounds) (c : Connection) → P limits number s c
    → frame ≡ last_out c

-- the session that a value in hand goes to
abbrev pub recalled_at : Option ℕ → Option SessionId
recalled_at None = None
recalled_at (Some server) = Some (Server server)

abbrev pub goes_to : Hand → model.Use → Option SessionId
goes_to h (model.Offer server now) = Some (Server server)
goes_to h (model.Recall now) = recalled_at h.server
goes_to h _ = Some (Client h.name.client)
