-- What a call with many frames leaves at its seat.
use Rattle.std.specs.Prelude.{◌≡◌, ◌+◌, ◌-◌, ◌≤◌, ℕ, List, ◌++◌, length, Option, Some, None, true}
use Rattle.mux_frame.specs.Spelling.{MuxFrame}
use Rattle.mux_frame.specs.Views.{FrameView}
use Rattle.mux_history.specs.declared.record.Record.{Record}
use Rattle.kept_session.specs.Recorded.{IsRecordOf}
use Rattle.kept_session.specs.RecordedDown.{IsRecordOfDown}
use Rattle.hub_close.specs.declared.receipt.Stub.{Stub}
use Rattle.hub_base.specs.declared.errands.Errand.{Errand}
use Rattle.hub_steps.specs.Batches.{AreOf, StepsDown, StepsUp}
use Rattle.kept_session.specs.ReachedDown.{KeptDown}
use Rattle.hub_places.specs.Numbering.{KeepsDown, KeepsUp}
use Rattle.kept_session.specs.Reached.{Kept}
use Rattle.route_table.specs.Routes.{Change}
use Rattle.hub_base.specs.Errands.{client_of, errand_at, is_closing, server_of}
use Rattle.hub_delivery.specs.Carrying.{Carries, place_if}
use Rattle.hub_delivery.specs.Leaving.{HasClient, HasServer, NoneAt, NoneRefused}
use Rattle.hub_delivery.specs.Losing.{FailsAll, RecallsAll}
use Rattle.hub.specs.Seats.{Seat}

-- frames were taken off the front, the seat has the receipt of each, and its share at least as many records more
abbrev pub TakesCounted : (MuxFrame → Record → Type 0) → (before after : List FrameView) → (s t : Seat)
    → Type 0
TakesCounted Of before after s t =
    (fs : List FrameView) × (rs : List Stub)
    × (before ≡ fs ++ after) × (t.receipts ≡ s.receipts ++ rs) × AreOf Of fs rs × (s.amount + length rs ≤ t.amount)

-- in states of this client's session that its own calls led to, frames were taken off the front by its own steps on
-- these very frames, all at this reading and one after another; the receipts of these steps stand behind the others,
-- and so do the values that they gave
abbrev pub StepsTakenDown : (now client : ℕ) → (before after : List FrameView) → (old new : List Stub)
    → (had has : List Errand) → Type 0
StepsTakenDown now client before after old new had has =
    (s : Option KeptDown) × (t : Option KeptDown) × (fs : List FrameView) × (rs : List Stub) × (es : List Errand)
    × KeepsDown client s × KeepsDown client t × (before ≡ fs ++ after) × (new ≡ old ++ rs) × (has ≡ had ++ es)
    × AreOf IsRecordOfDown fs rs × StepsDown now s fs rs es t

-- the same of a session towards a server
abbrev pub StepsTakenUp : (now server : ℕ) → (before after : List FrameView) → (old new : List Stub)
    → (had has : List Errand) → Type 0
StepsTakenUp now server before after old new had has =
    (s : Option Kept) × (t : Option Kept) × (fs : List FrameView) × (rs : List Stub) × (es : List Errand)
    × KeepsUp server s × KeepsUp server t × (before ≡ fs ++ after) × (new ≡ old ++ rs) × (has ≡ had ++ es)
    × AreOf IsRecordOf fs rs × StepsUp now s fs rs es t

-- in a hub with so many slots for clients and for servers, values were handed to the sessions for which they are, each
-- by that session's own step at this reading, and so was what came of them; dispatches went by routes that were known,
-- or were learned meanwhile, and to no server of this session's slot. None is left for a session of the hub, and none
-- that a server refused. Where the last step ended the session, what it held went to others in this way
abbrev pub HandsOn : (now downs ups : ℕ) → (but : Option ℕ) → (known learned : List Change) → (has : List Errand)
    → (Ends : Type 0) → Type 0
HandsOn now downs ups but known learned has Ends =
    (left : List Errand) × Carries now ups (place_if ups but) known has learned left
    × ((i : ℕ) → NoneAt client_of (HasClient downs) left i) × ((i : ℕ) → NoneAt server_of (HasServer ups) left i)
    × ((i : ℕ) → NoneRefused left i) × (is_closing (errand_at left (length left - 1)).value ≡ true → Ends)

-- the steps of frames that came from a client, and what they led to
abbrev pub RunsDown : (now downs ups window client : ℕ) → (before after : List FrameView) → (old new : List Stub)
    → (had : List Errand) → (known learned : List Change) → Type 0
RunsDown now downs ups window client before after old new had known learned =
    (has : List Errand) × StepsTakenDown now client before after old new had has
    × HandsOn now downs ups None known learned has (RecallsAll now downs ups window client)

-- the same of frames that came from this server
abbrev pub RunsUp : (now downs ups window server : ℕ) → (before after : List FrameView) → (old new : List Stub)
    → (had : List Errand) → (known learned : List Change) → Type 0
RunsUp now downs ups window server before after old new had known learned =
    (has : List Errand) × StepsTakenUp now server before after old new had has
    × HandsOn now downs ups (Some server) known learned has (FailsAll downs ups window server)
