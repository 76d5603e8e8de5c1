-- What the answers of sessions are in the common form.
use Rattle.std.specs.Prelude.{Option, Some, None}
use Rattle.mux_history.specs.declared.name.Name.{Name}
use Rattle.client_session.specs.declared.answers.UpStep.{UpStep}
use Rattle.client_session.specs.declared.answers.UpStep.TheVariants as ups
use Rattle.client_session.specs.declared.answers.PingRefusal.{PingRefusal}
use Rattle.client_session.specs.declared.answers.PingRefusal.TheVariants as pings
use Rattle.server_session.specs.declared.answers.DownStep.{DownStep}
use Rattle.server_session.specs.declared.answers.DownStep.TheVariants as downs
use Rattle.server_session.specs.declared.answers.Answer.{Answer}
use Rattle.server_session.specs.declared.answers.Answer.TheVariants as answers
use Rattle.server_session.specs.declared.answers.DrainRefusal.{DrainRefusal}
use Rattle.server_session.specs.declared.answers.DrainRefusal.TheVariants as drains
use Rattle.translate_book.specs.declared.refusal.OfferRefusal.{OfferRefusal}
use Rattle.translate_book.specs.declared.refusal.OfferRefusal.TheVariants as offers
use Rattle.core_world.specs.declared.calls.Gave.{Gave}
use Rattle.core_world.specs.declared.calls.Told.{Told}
use Rattle.core_world.specs.declared.calls.Told.TheVariants as told
use Rattle.core_world.specs.declared.calls.ServerCall.{ServerCall}
use Rattle.core_world.specs.declared.calls.ServerCall.TheVariants as servers
use Rattle.core_world.specs.declared.calls.ClientCall.{ClientCall}
use Rattle.core_world.specs.declared.calls.ClientCall.TheVariants as clients
use Rattle.core_world.specs.declared.hands.Held.{Held}
use Rattle.core_world.specs.declared.hands.Held.TheVariants as held
use Rattle.core_world.specs.declared.refusal.Refusal.{Refusal}
use Rattle.core_world.specs.declared.refusal.Refusal.TheVariants as whys
use Rattle.core_world.specs.declared.refusal.EventRefusal.{EventRefusal}
use Rattle.core_world.specs.declared.refusal.EventRefusal.TheVariants as refusals

abbrev pub telling : Told → Gave
telling t = record { told = t; given = None }

abbrev pub giving : Held → Gave
giving h = record { told = told.Nothing; given = Some h }

-- a frame of a server
abbrev pub gave_up : UpStep → Gave
gave_up ups.Nothing = telling told.Nothing
gave_up (ups.Settled x) = giving (held.Settled x)
gave_up ups.Dropped = telling told.Dropped
gave_up (ups.Closing cause) = telling (told.Closing cause)

-- a frame of a client
abbrev pub gave_down : DownStep → Gave
gave_down downs.Nothing = telling told.Nothing
gave_down (downs.Take x) = giving (held.Ticket x)
gave_down (downs.Recall x) = giving (held.Recall x)
gave_down (downs.Closing cause) = telling (told.Closing cause)

-- an answer to a dispatch
abbrev pub gave_answer : Name → Answer → Gave
gave_answer n answers.Answered = telling (told.Answered n)
gave_answer n answers.Late = telling (told.Late n)
gave_answer n (answers.Again x) = record { told = told.Again n; given = Some (held.Ticket x) }

abbrev pub why_offer : OfferRefusal → EventRefusal
why_offer offers.Closed = refusals.Session whys.Closed
why_offer offers.NotOpen = refusals.Session whys.NotOpen
why_offer offers.Drained = refusals.Session whys.Drained
why_offer offers.Retired = refusals.Session whys.Retired
why_offer offers.Lapsed = refusals.Session whys.Lapsed
why_offer offers.Full = refusals.Session whys.Full
why_offer offers.Spent = refusals.Session whys.Spent
why_offer offers.Memory = refusals.Memory

abbrev pub why_ping : PingRefusal → Refusal
why_ping pings.Closed = whys.Closed
why_ping pings.NotOpen = whys.NotOpen
why_ping pings.Outstanding = whys.Outstanding
why_ping pings.Busy = whys.Busy
why_ping pings.Spent = whys.Spent

abbrev pub why_drain : DrainRefusal → Refusal
why_drain drains.Closed = whys.Closed
why_drain drains.AlreadyDraining = whys.AlreadyDraining
why_drain drains.Busy = whys.Busy
why_drain drains.Spent = whys.Spent

-- the value that a call is handed
abbrev pub held_by_server : ServerCall → Option Held
held_by_server (servers.Step step) = None
held_by_server (servers.Offer x now) = Some (held.Ticket x)
held_by_server (servers.Recall x now) = Some (held.Recall x)

abbrev pub held_by_client : ClientCall → Option Held
held_by_client (clients.Step step) = None
held_by_client (clients.Note x) = Some (held.Placed x)
held_by_client (clients.Settle x) = Some (held.Settled x)
held_by_client (clients.Nack x) = Some (held.Ticket x)
held_by_client (clients.Unroute x) = Some (held.Ticket x)
held_by_client (clients.Fail x) = Some (held.Lost x)

abbrev pub IsServerStep : ServerCall → Type 0
IsServerStep (servers.Step step) = Unit {0}
IsServerStep _ = ⊥

abbrev pub IsClientStep : ClientCall → Type 0
IsClientStep (clients.Step step) = Unit {0}
IsClientStep _ = ⊥
