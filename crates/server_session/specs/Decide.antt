-- What a session answers by its figures alone: the order of the refusals, and what a message leads to.
use Rattle.std.specs.Prelude.{ℕ, pos, ◌+◌, ◌-◌, ◌*◌, Bool, true, false, not, ◌&&◌, ◌||◌, ◌==◌, if◌then◌else◌, Option, Some, None, nat_lt, nat_le}
use Rattle.mux_message.specs.Content.{Content, tdrain, rdrain, tlease, tinit, tping, treq, rerr, other}
use Rattle.mux_message.specs.Made.{is_probe}
use Rattle.mux_message.specs.Kinds.{is_asking, is_dispatch}
use Rattle.mux_message.specs.declared.kind.MessageKind.{MessageKind}
use Rattle.mux_message.specs.declared.kind.MessageKind.TheVariants.{Tdispatch, Tdiscarded}
use Rattle.mux_history.specs.declared.kind.Cause.{Cause}
use Rattle.mux_history.specs.declared.kind.Cause.TheVariants.{TagZero, TagInUse}
use Rattle.mux_history.specs.Readings.{is_acked, is_running}
use Rattle.mux_model.specs.Steps.{Refusal, IsClosed, IsBusy, IsSpent, AlreadyDraining, NotQuiet, NotFull, LastEpoch, NoRoom, last_epoch}
use Rattle.mux_model.specs.Down.{Reaction, Pongs, Inits, Misplaced, Echoes, Acks, Ignores, asks_other, for_taking, last_seq}
use Rattle.translate_book.specs.declared.refusal.StepRefusal.{StepRefusal}
use Rattle.translate_book.specs.declared.refusal.StepRefusal.TheVariants as steps
use Rattle.translate_book.specs.declared.refusal.SealRefusal.{SealRefusal}
use Rattle.translate_book.specs.declared.refusal.SealRefusal.TheVariants as seals
use Rattle.translate_book.specs.declared.refusal.RollRefusal.{RollRefusal}
use Rattle.translate_book.specs.declared.refusal.RollRefusal.TheVariants as rolls
use Rattle.server_session.specs.declared.answers.DrainRefusal.{DrainRefusal}
use Rattle.server_session.specs.declared.answers.DrainRefusal.TheVariants as drains
use Rattle.server_session.specs.Past.{Figures}

-- frames that may still be queued, beside the place that each open dispatch keeps for its reply
abbrev pub free_out : Figures → ℕ
free_out f = f.limits.out - f.queued - f.in_use

-- records that may still be written, beside those that are kept
abbrev pub free_records : Figures → ℕ
free_records f = f.limits.history - f.records - (if f.closed then 0 else 1) - f.kept

-- why a message closes the session, where its tag is one of an open dispatch or not
abbrev pub closing_cause : (in_use : Bool) → ℕ → MessageKind → Option Cause
closing_cause in_use t kind =
    if is_dispatch kind && t == 0 then Some TagZero
    else if is_asking kind && in_use then Some TagInUse
    else None

-- a dispatch that is to be taken, and not answered with a nack
abbrev pub is_taking : Figures → MessageKind → Bool
is_taking f kind = is_dispatch kind && not (is_acked f.drain)

-- why a message of this kind finds no room
abbrev pub room_refusal : Figures → MessageKind → Option StepRefusal
room_refusal f kind =
    if free_out f == 0 then Some steps.Busy
    else if is_taking f kind && nat_le f.limits.window f.load then Some steps.Busy
    else if nat_lt (free_records f) (if is_taking f kind then for_taking f.limits else 1) then Some steps.Spent
    else if is_dispatch kind && nat_le last_seq f.dispatches then Some steps.Spent
    else None

abbrev pub drain_refusal : Figures → Option DrainRefusal
drain_refusal f =
    if f.closed then Some drains.Closed
    else if not (is_running f.drain) then Some drains.AlreadyDraining
    else if free_out f == 0 then Some drains.Busy
    else if free_records f == 0 then Some drains.Spent
    else None

abbrev pub seal_refusal : Figures → Option SealRefusal
seal_refusal f =
    if f.closed then Some seals.Closed
    else if nat_lt 0 f.load || nat_lt 0 f.queued then Some seals.NotQuiet
    else if nat_lt f.limits.history (4 * free_records f) then Some seals.NotFull
    else if nat_le last_epoch f.epoch then Some seals.LastEpoch
    else None

abbrev pub roll_refusal : Figures → Option RollRefusal
roll_refusal f =
    if f.closed then Some rolls.Closed
    else if nat_lt f.limits.history (2 * (f.load + f.kept)) then Some rolls.NoRoom
    else if nat_le last_epoch f.epoch then Some rolls.LastEpoch
    else None

-- the refusals, as the step relation names them
abbrev pub why_step : StepRefusal → Refusal
why_step steps.Closed = IsClosed
why_step steps.Busy = IsBusy
why_step steps.Spent = IsSpent

abbrev pub why_drain : DrainRefusal → Refusal
why_drain drains.Closed = IsClosed
why_drain drains.AlreadyDraining = AlreadyDraining
why_drain drains.Busy = IsBusy
why_drain drains.Spent = IsSpent

abbrev pub why_seal : SealRefusal → Refusal
why_seal seals.Closed = IsClosed
why_seal seals.NotQuiet = NotQuiet
why_seal seals.NotFull = NotFull
why_seal seals.LastEpoch = LastEpoch

abbrev pub why_roll : RollRefusal → Refusal
why_roll rolls.Closed = IsClosed
why_roll rolls.NoRoom = NoRoom
why_roll rolls.LastEpoch = LastEpoch

-- a message that is neither a dispatch nor a Tdiscarded
abbrev pub is_plain : MessageKind → Bool
is_plain Tdispatch = false
is_plain Tdiscarded = false
is_plain _ = true

-- what such a message leads to, where an Rdrain on its tag answers the Tdrain or not
abbrev pub plainly : (fresh acks : Bool) → (tag : ℕ) → Content → Reaction
plainly fresh acks t tping = Pongs
plainly fresh acks t (tinit _ _) = if fresh then Inits else Misplaced
plainly fresh acks t (treq _) = asks_other t
plainly fresh acks t tdrain = asks_other t
plainly fresh acks t (tlease _ _) = asks_other t
plainly fresh acks t (other (pos n) _) = if n == 0 then Ignores else asks_other t
plainly fresh acks t (rerr why) = if is_probe t why && fresh then Echoes else Ignores
plainly fresh acks t rdrain = if acks then Acks else Ignores
plainly fresh acks t _ = Ignores

-- the same for a message that is none of initiation
abbrev pub otherwise : (acks : Bool) → (tag : ℕ) → Content → Reaction
otherwise acks t (tinit _ _) = Ignores
otherwise acks t (rerr why) = Ignores
otherwise acks t m = plainly false acks t m

-- no dispatch waits for anything, and none will any more
abbrev pub is_idle : Figures → Bool
is_idle f = f.load == 0 && (f.closed || is_acked f.drain)
