-- What a session answers by its figures alone: the order of the refusals, and what a message leads to.
use Rattle.std.specs.Prelude.{ℕ, ◌+◌, ◌-◌, ◌*◌, max, Bool, false, not, ◌&&◌, ◌||◌, ◌==◌, if◌then◌else◌, Option, Some, None, nat_lt, nat_le}
use Rattle.mux_message.specs.Content.{Content, rinit, rerr}
use Rattle.mux_history.specs.declared.name.Name.{Name}
use Rattle.mux_history.specs.declared.session.InitState.{InitState}
use Rattle.mux_history.specs.Lapse.{has_lapsed}
use Rattle.mux_history.specs.Readings.{is_named, is_open}
use Rattle.mux_model.specs.Steps.{Refusal, IsClosed, IsBusy, IsSpent, NotOpen, IsDrained, IsRetired, IsLapsed, IsFull, Outstanding, NotQuiet, NotFull, LastEpoch, NoRoom, last_epoch}
use Rattle.mux_model.specs.Up.{Reaction, Drops, EndsPing, plainly}
use Rattle.translate_book.specs.declared.refusal.OfferRefusal.{OfferRefusal}
use Rattle.translate_book.specs.declared.refusal.OfferRefusal.TheVariants as offers
use Rattle.translate_book.specs.declared.refusal.StepRefusal.{StepRefusal}
use Rattle.translate_book.specs.declared.refusal.StepRefusal.TheVariants as steps
use Rattle.translate_book.specs.declared.refusal.SealRefusal.{SealRefusal}
use Rattle.translate_book.specs.declared.refusal.SealRefusal.TheVariants as seals
use Rattle.translate_book.specs.declared.refusal.RollRefusal.{RollRefusal}
use Rattle.translate_book.specs.declared.refusal.RollRefusal.TheVariants as rolls
use Rattle.client_session.specs.declared.answers.PingRefusal.{PingRefusal}
use Rattle.client_session.specs.declared.answers.PingRefusal.TheVariants as pings
use Rattle.client_session.specs.Past.{Figures, Dispatch}

-- frames that may still be queued, beside the place that each dispatch keeps for its Tdiscarded
abbrev pub free_out : Figures → ℕ
free_out f = f.limits.out - f.queued - f.fresh

-- records that may still be written, beside those that are kept
abbrev pub free_records : Figures → ℕ
free_records f = f.limits.history - f.records - (if f.closed then 0 else 1) - f.kept

-- why an offer at this moment is refused: the first cause that there is
abbrev pub offer_refusal : Figures → ℕ → Option OfferRefusal
offer_refusal f now =
    if f.closed then Some offers.Closed
    else if not (is_open f.init) then Some offers.NotOpen
    else if f.drained then Some offers.Drained
    else if f.retired then Some offers.Retired
    else if has_lapsed f.lapse (max f.reading now) then Some offers.Lapsed
    else if nat_le f.limits.window f.load then Some offers.Full
    else if nat_lt (free_out f) 2 then Some offers.Full
    else if nat_lt (free_records f) 3 then Some offers.Spent
    else None

-- why a message finds no room, where the session is not closed
abbrev pub room_refusal : Figures → Option StepRefusal
room_refusal f =
    if free_out f == 0 then Some steps.Busy
    else if free_records f == 0 then Some steps.Spent
    else None

-- why a step that sends nothing is refused
abbrev pub record_refusal : Figures → Option StepRefusal
record_refusal f =
    if f.closed then Some steps.Closed
    else if free_records f == 0 then Some steps.Spent
    else None

abbrev pub ping_refusal : Figures → Option PingRefusal
ping_refusal f =
    if f.closed then Some pings.Closed
    else if not (is_open f.init) then Some pings.NotOpen
    else if f.ping then Some pings.Outstanding
    else if free_out f == 0 then Some pings.Busy
    else if free_records f == 0 then Some pings.Spent
    else None

-- why a session is not sealed
abbrev pub seal_refusal : Figures → Option SealRefusal
seal_refusal f =
    if f.closed then Some seals.Closed
    else if nat_lt 0 f.load || nat_lt 0 f.queued then Some seals.NotQuiet
    else if nat_lt f.limits.history (4 * free_records f) then Some seals.NotFull
    else if nat_le last_epoch f.epoch then Some seals.LastEpoch
    else None

-- why a session is not rolled
abbrev pub roll_refusal : Figures → Option RollRefusal
roll_refusal f =
    if f.closed then Some rolls.Closed
    else if nat_lt f.limits.history (2 * (f.load + f.kept)) then Some rolls.NoRoom
    else if nat_le last_epoch f.epoch then Some rolls.LastEpoch
    else None

-- the refusals, as the step relation names them; that no memory was found is none of them
abbrev pub why_offer : OfferRefusal → Option Refusal
why_offer offers.Closed = Some IsClosed
why_offer offers.NotOpen = Some NotOpen
why_offer offers.Drained = Some IsDrained
why_offer offers.Retired = Some IsRetired
why_offer offers.Lapsed = Some IsLapsed
why_offer offers.Full = Some IsFull
why_offer offers.Spent = Some IsSpent
why_offer offers.Memory = None

abbrev pub why_seal : SealRefusal → Refusal
why_seal seals.Closed = IsClosed
why_seal seals.NotQuiet = NotQuiet
why_seal seals.NotFull = NotFull
why_seal seals.LastEpoch = LastEpoch

abbrev pub why_roll : RollRefusal → Refusal
why_roll rolls.Closed = IsClosed
why_roll rolls.NoRoom = NoRoom
why_roll rolls.LastEpoch = LastEpoch

abbrev pub why_step : StepRefusal → Refusal
why_step steps.Closed = IsClosed
why_step steps.Busy = IsBusy
why_step steps.Spent = IsSpent

abbrev pub why_ping : PingRefusal → Refusal
why_ping pings.Closed = IsClosed
why_ping pings.NotOpen = NotOpen
why_ping pings.Outstanding = Outstanding
why_ping pings.Busy = IsBusy
why_ping pings.Spent = IsSpent

-- what a message leads to that is none of initiation: an Rerr ends nothing but a ping
abbrev pub otherwise : (init : InitState) (ping : Bool) (tag : ℕ) → Content → Reaction
otherwise init ping t (rerr why) = if is_open init && ping && t == 1 then EndsPing else Drops
otherwise init ping t (rinit _ _) = Drops
otherwise init ping t m = plainly init ping t m

-- no dispatch is held, and none will be any more
abbrev pub is_idle : Figures → Bool
is_idle f = f.load == 0 && (f.closed || f.drained || f.retired)

-- a recall of this name may go out, by the dispatch on its tag
abbrev pub can_recall : (closed : Bool) → Option Dispatch → Name → Bool
can_recall closed None n = false
can_recall closed (Some d) n = not closed && (is_named n d.name && not d.recalled)
