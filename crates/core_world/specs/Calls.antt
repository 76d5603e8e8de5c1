-- Calls of a session and what they answer, in one form for both kinds of session.
use Rattle.std.specs.Prelude.{◌≡◌, ℕ, Bool, true, false, IsTrue, List, [], Option, Some, None}
use Rattle.std.specs.Option.{option_to_list, option_map}
use Rattle.mux_history.specs.Bounds.{Bounds}
use Rattle.mux_history.specs.declared.name.Name.{Name}
use Rattle.mux_history.specs.declared.record.Record.{Record}
use Rattle.mux_history.specs.declared.kind.RecordKind.{RecordKind}
use Rattle.mux_history.specs.declared.kind.RecordKind.TheVariants as kinds
use Rattle.translate_book.specs.Values.{reason_in}
use Rattle.mux_model.specs.Steps as model
use Rattle.mux_model.specs.Steps.{Call, FrameCall, NoteCall, SettleCall, NackCall, UnrouteCall, FailCall, OfferCall, RecallCall, LoseNextCall, SealCall, RollCall, Outcome, Refused, Unrecorded, Recorded}
use Rattle.mux_model.specs.World.{Connection, outcome, stepped, MayChooseAt}
use Rattle.mux_model.specs.Events.{Bare, plain_call}
use Rattle.mux_model.specs.Events as events
use Rattle.core_world.specs.declared.calls.Told.{Told}
use Rattle.core_world.specs.declared.calls.Told.TheVariants as told
use Rattle.core_world.specs.declared.calls.Gave.{Gave}
use Rattle.core_world.specs.declared.calls.ServerStep.{ServerStep}
use Rattle.core_world.specs.declared.calls.ServerStep.TheVariants as up
use Rattle.core_world.specs.declared.calls.ClientStep.{ClientStep}
use Rattle.core_world.specs.declared.calls.ClientStep.TheVariants as down
use Rattle.core_world.specs.declared.calls.ServerCall.{ServerCall}
use Rattle.core_world.specs.declared.calls.ServerCall.TheVariants as servers
use Rattle.core_world.specs.declared.calls.ClientCall.{ClientCall}
use Rattle.core_world.specs.declared.calls.ClientCall.TheVariants as clients
use Rattle.core_world.specs.declared.refusal.EventRefusal.{EventRefusal}
use Rattle.core_world.specs.declared.refusal.EventRefusal.TheVariants as refusals
use Rattle.core_world.specs.Hands.{held_of, frame_in}
use Rattle.core_world.specs.Refusals.{refusal_of}

-- the steps that need no value
abbrev pub bare_up : ServerStep → Bare
bare_up (up.Frame f now) = events.Frame f.frame now
bare_up (up.Clock now) = events.Clock now
bare_up (up.Ping now) = events.Ping now
bare_up (up.Retire now) = events.Retire now
bare_up (up.Lose now) = events.Lose now
bare_up up.LoseNext = events.LoseNext
bare_up up.Seal = events.Seal
bare_up up.Roll = events.Roll

abbrev pub bare_down : ClientStep → Bare
bare_down (down.Frame f now) = events.Frame f.frame now
bare_down down.Drain = events.Drain
bare_down (down.Lose now) = events.Lose now
bare_down down.LoseNext = events.LoseNext
bare_down down.Seal = events.Seal
bare_down down.Roll = events.Roll

abbrev pub server_call : ServerCall → Call
server_call (servers.Step step) = plain_call (bare_up step)
server_call (servers.Offer x now) = OfferCall x.name x.frame x.left now
server_call (servers.Recall x now) = RecallCall x.name x.tag (reason_in x.why) now

abbrev pub client_call : ClientCall → Call
client_call (clients.Step step) = plain_call (bare_down step)
client_call (clients.Note x) = NoteCall x.name x.server x.tag
client_call (clients.Settle x) = SettleCall x.name x.reply.frame (frame_in x.again)
client_call (clients.Nack x) = NackCall x.name
client_call (clients.Unroute x) = UnrouteCall x.name
client_call (clients.Fail x) = FailCall x.name

-- frames are handed in as a decoder gives them
abbrev pub IsReadServer : ServerStep → Type 0
IsReadServer (up.Frame f now) = IsTrue f.as_read
IsReadServer _ = Unit {0}

abbrev pub IsReadClient : ClientStep → Type 0
IsReadClient (down.Frame f now) = IsTrue f.as_read
IsReadClient _ = Unit {0}

abbrev pub IsReadServerCall : ServerCall → Type 0
IsReadServerCall (servers.Step step) = IsReadServer step
IsReadServerCall _ = Unit {0}

abbrev pub IsReadClientCall : ClientCall → Type 0
IsReadClientCall (clients.Step step) = IsReadClient step
IsReadClientCall _ = Unit {0}

-- WHAT AN ACCEPTED CALL TELLS, by the record that it made

abbrev pub told_frame : RecordKind → Told
told_frame (kinds.Closed cause) = told.Closing cause
told_frame kinds.Dropped = told.Dropped
told_frame _ = told.Nothing

-- whether an answer to a name went out
abbrev pub told_answer : Name → RecordKind → Told
told_answer n (kinds.Late whole) = told.Late n
told_answer n kinds.Retried = told.Again n
told_answer n _ = told.Answered n

abbrev pub told_seal : RecordKind → Told
told_seal (kinds.Epoch number standing) = told.Sealed number
told_seal _ = told.Nothing

abbrev pub told_roll : RecordKind → Told
told_roll (kinds.Rolled number) = told.Rolled number
told_roll _ = told.Nothing

abbrev pub on_record : (RecordKind → Told) → Option Record → Told
on_record tell None = told.Nothing
on_record tell (Some r) = tell r.kind

abbrev pub told_by : Call → Option Record → Told
told_by (FrameCall f now) rec = on_record told_frame rec
told_by (NoteCall n server tag) rec = told.Noted n
told_by (SettleCall n reply again) rec = on_record (told_answer n) rec
told_by (NackCall n) rec = on_record (told_answer n) rec
told_by (UnrouteCall n) rec = on_record (told_answer n) rec
told_by (FailCall n) rec = on_record (told_answer n) rec
told_by (RecallCall n tag why now) rec = told.Recalled n
told_by SealCall rec = on_record told_seal rec
told_by RollCall rec = on_record told_roll rec
told_by _ rec = told.Nothing

-- what a call without a record tells
abbrev pub told_still : Call → Told
told_still (RecallCall n tag why now) = told.Stale n
told_still LoseNextCall = told.NoMore
told_still _ = told.Nothing

-- what an outcome tells, and the values that it gives
abbrev pub told_of : Call → Outcome → Told
told_of call (Refused why) = told.Nothing
told_of call Unrecorded = told_still call
told_of call (Recorded e gives) = told_by call e.rec

abbrev pub gives_in : Outcome → List model.Held
gives_in (Recorded e gives) = gives
gives_in _ = []

-- a call that may give a value, or needs a history: it may find no memory, or the last number given
abbrev pub grows_by : Call → Bool
grows_by (FrameCall f now) = true
grows_by (NoteCall n server tag) = true
grows_by (SettleCall n reply again) = true
grows_by (OfferCall n f left now) = true
grows_by LoseNextCall = true
grows_by SealCall = true
grows_by RollCall = true
grows_by _ = false

-- the values given, as the world has them
abbrev pub held_in : Gave → List model.Held
held_in g = option_to_list (option_map held_of g.given)

-- what was given and told is what the outcome says
abbrev pub Gives : Call → Outcome → Gave → Type 0
Gives call (Refused why) g = ⊥
Gives call o g = (gives_in o ≡ held_in g) × (g.told ≡ told_of call o)

-- the connection after a call that was answered so
abbrev pub after : Connection → Call → Outcome → Connection
after c call (Recorded e gives) = stepped c call e
after c call _ = c

-- the connection's relation answers the call so, and what follows is a session of the connection after it
pub record Led (limits : Bounds) (c : Connection) (call : Call) (g : Gave) (New : Connection → Type 0) : Type 0 where
  pub tag : ℕ
  pub answer : Outcome
  pub is : outcome limits c tag call ≡ answer
  pub gives : Gives call answer g
  pub may : MayChooseAt limits c c.session tag call
  pub new : New (after c call answer)

-- `P limits number` is to be a session, by its number, of a connection
abbrev pub Leads : {S : Type 0} → (Bounds → ℕ → S → Connection → Type 0) → (old new : S) → Call → Gave → Type 0
Leads {S} P old new call g =
    (limits : Bounds) (number : ℕ) (c : Connection) → P limits number old c → Led limits c call g (P limits number new)

-- why a session turned a call away
abbrev pub TurnsAway : {S : Type 0} → (Bounds → ℕ → S → Connection → Type 0) → S → Call → EventRefusal → Type 0
TurnsAway {S} P s call (refusals.Session why) =
    (limits : Bounds) (number : ℕ) (c : Connection) → P limits number s c
    → (t : ℕ) × (outcome limits c t call ≡ Refused (refusal_of why))
TurnsAway {S} P s call refusals.Memory = grows_by call ≡ true
TurnsAway {S} P s call _ = ⊥
