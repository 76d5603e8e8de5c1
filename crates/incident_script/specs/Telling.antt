-- That a record tells its step: each record that a session's call writes leads back to a command that makes this call.
use Rattle.std.specs.Prelude.{ℕ, List, ◌≡◌, Bool, true, false, Option, Some, None}
use Rattle.std.specs.List.{AllByRecursion}
use Rattle.mux_history.specs.declared.record.Record.{Record}
use Rattle.mux_history.specs.declared.kind.RecordKind.{RecordKind}
use Rattle.mux_model.specs.Steps.{Held, TicketOf, PlacedAt, SettledBy, RecallOf, LostOf, Call, FrameCall, NoteCall, SettleCall, NackCall, UnrouteCall, FailCall, DrainCall, OfferCall, RecallCall, ClockCall, PingCall, RetireCall, LoseCall, LoseNextCall, SealCall, RollCall, Step, Outcome, Refused, Unrecorded, Recorded, now_of, is_nack}
use Rattle.mux_model.specs.Down.{DownSession, down}
use Rattle.mux_model.specs.Up.{UpSession, up}
use Rattle.incident_script.specs.declared.command.Command.{Command}
use Rattle.incident_script.specs.declared.command.Command.TheVariants.{Frame, Spend, Obey}
use Rattle.incident_script.specs.declared.command.Purpose.TheVariants as purposes
use Rattle.incident_script.specs.declared.command.Order.TheVariants as orders
use Rattle.incident_script.specs.declared.command.ValueKind.{ValueKind}
use Rattle.incident_script.specs.declared.command.ValueKind.TheVariants as kinds
use Rattle.incident_script.specs.Commands.{command_down, command_up, given_by, reads}

-- a line with this command makes this call
abbrev pub makes : Command → Call → Bool
makes Frame (FrameCall _ _) = true
makes (Spend purposes.Offer) (OfferCall _ _ _ _) = true
makes (Spend purposes.Note) (NoteCall _ _ _) = true
makes (Spend purposes.Settle) (SettleCall _ _ _) = true
makes (Spend purposes.Retry) (SettleCall _ reply _) = is_nack reply
makes (Spend purposes.Nack) (NackCall _) = true
makes (Spend purposes.Unroute) (UnrouteCall _) = true
makes (Spend purposes.Fail) (FailCall _) = true
makes (Spend purposes.LateTicket) (NackCall _) = true
makes (Spend purposes.LateTicket) (UnrouteCall _) = true
makes (Spend purposes.LateReply) (SettleCall _ _ _) = true
makes (Spend purposes.LateReply) (FailCall _) = true
makes (Spend purposes.Recall) (RecallCall _ _ _ _) = true
makes (Obey orders.Drain) DrainCall = true
makes (Obey orders.Clock) (ClockCall _) = true
makes (Obey orders.Ping) (PingCall _) = true
makes (Obey orders.Retire) (RetireCall _) = true
makes (Obey orders.Next) LoseNextCall = true
makes (Obey orders.Lose) (LoseCall _) = true
makes (Obey orders.Seal) SealCall = true
makes (Obey orders.Roll) RollCall = true
makes _ _ = false

abbrev pub is_made : Option Command → Call → Bool
is_made None call = false
is_made (Some command) call = makes command call

abbrev pub tells : (RecordKind → Option Command) → Option Record → Call → Bool
tells command None call = false
tells command (Some r) call = is_made (command r.kind) call

-- the kind of a value
abbrev pub held_kind : Held → ValueKind
held_kind (TicketOf _ _ _) = kinds.Ticket
held_kind (PlacedAt _ _ _) = kinds.Placed
held_kind (SettledBy _ reply _) = kinds.Settled (is_nack reply)
held_kind (RecallOf _ _ _ _) = kinds.Recall
held_kind (LostOf _) = kinds.Lost

abbrev pub told_kind : Option Record → Option ValueKind
told_kind None = None
told_kind (Some r) = given_by r.kind

-- the reading of the clock is written in front of the command
abbrev pub reads_at : Option Command → Bool
reads_at None = false
reads_at (Some command) = reads command

abbrev pub reading_told : (RecordKind → Option Command) → Option Record → Bool
reading_told command None = false
reading_told command (Some r) = reads_at (command r.kind)

-- what is written down leads back to the call, and tells the kind of each value that the call gives; where no reading is
-- written, the call takes none
abbrev pub TellsCall : (RecordKind → Option Command) → Call → Outcome → Type 0
TellsCall command call (Recorded entry gives) =
    (tells command entry.rec call ≡ true) × AllByRecursion (λ h. told_kind entry.rec ≡ Some (held_kind h)) gives
    × (reading_told command entry.rec ≡ false → now_of call ≡ 0)
TellsCall command call (Refused _) = Unit {0}
TellsCall command call Unrecorded = Unit {0}

abbrev pub RecordsTellDown : Type 0
RecordsTellDown = (c : DownSession) (past : List Step) (out : ℕ) (call : Call) → TellsCall command_down call (down c past out call)

abbrev pub RecordsTellUp : Type 0
RecordsTellUp = (s : UpSession) (past : List Step) (out t : ℕ) (call : Call) → TellsCall command_up call (up s past out t call)
