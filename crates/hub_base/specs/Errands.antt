-- The values of a batch, each at its place.
use Rattle.std.specs.Prelude.{ℕ, List, Option, Some, None, Bool, true, false, length, slice_get, slice_set}
use Rattle.std.specs.Str.{bytes_eq}
use Rattle.mux_message.specs.Parts.{dst_of}
use Rattle.translate_book.specs.Values.{TicketView}
use Rattle.translate_book.specs.declared.placed.Placed.{Placed}
use Rattle.translate_book.specs.declared.recall.Recall.{Recall}
use Rattle.translate_book.specs.declared.sent.Settled.{Settled}
use Rattle.hub_base.specs.declared.errands.Back.{Back}
use Rattle.hub_base.specs.declared.errands.Back.TheVariants as why
use Rattle.hub_base.specs.declared.errands.Errand.{Errand}
use Rattle.hub_base.specs.declared.errands.Value.{Value}
use Rattle.hub_base.specs.declared.errands.Value.TheVariants as value
use Rattle.client_session.specs.declared.answers.UpStep.{UpStep}
use Rattle.client_session.specs.declared.answers.UpStep.TheVariants as up
use Rattle.server_session.specs.declared.answers.DownStep.{DownStep}
use Rattle.server_session.specs.declared.answers.DownStep.TheVariants as down

-- nothing is to be done
abbrev pub done : Errand
done = record { to = 0; value = value.Nothing }

-- a dispatch that is to be offered, before a server is chosen
abbrev pub unsent : TicketView → Errand
unsent ticket = record { to = 0; value = value.Ticket ticket }

-- a dispatch that goes back to its client
abbrev pub back : TicketView → Back → Errand
back ticket why.Unplaced = record { to = ticket.name.client; value = value.Unplaced ticket }
back ticket why.Unrouted = record { to = ticket.name.client; value = value.Unrouted ticket }

-- a place that is to be noted
abbrev pub placing : Placed → Errand
placing placed = record { to = placed.name.client; value = value.Placed placed }

-- a dispatch that is to be discarded at its server
abbrev pub recalling : Recall → Errand
recalling recall = record { to = recall.server; value = value.Recall recall }

-- a dispatch that this server refused
abbrev pub refused : ℕ → TicketView → Errand
refused by ticket = record { to = by; value = value.Refused by ticket }

-- what the step of a client's frame gave
abbrev pub of_down : DownStep → Errand
of_down down.Nothing = done
of_down (down.Take ticket) = unsent ticket
of_down (down.Recall recall) = recalling recall
of_down (down.Closing cause) = record { to = 0; value = value.Closing }

-- what the step of a server's frame gave
abbrev pub of_up : UpStep → Errand
of_up up.Nothing = done
of_up up.Dropped = done
of_up (up.Settled settled) = record { to = settled.name.client; value = value.Reply settled }
of_up (up.Closing cause) = record { to = 0; value = value.Closing }

-- the client to whom a value goes
abbrev pub client_of : ℕ → Value → Option ℕ
client_of to (value.Unplaced ticket) = Some to
client_of to (value.Unrouted ticket) = Some to
client_of to (value.Placed placed) = Some to
client_of to (value.Reply settled) = Some to
client_of to _ = None

-- the server to which a value goes
abbrev pub server_of : ℕ → Value → Option ℕ
server_of to (value.Ticket ticket) = Some to
server_of to (value.Recall recall) = Some to
server_of to _ = None

-- the dispatch that is to be offered
abbrev pub ticket_of : Value → Option TicketView
ticket_of (value.Ticket ticket) = Some ticket
ticket_of _ = None

-- the place that is to be noted
abbrev pub placed_of : Value → Option Placed
placed_of (value.Placed placed) = Some placed
placed_of _ = None

-- the final reply to a dispatch
abbrev pub reply_of : Value → Option Settled
reply_of (value.Reply settled) = Some settled
reply_of _ = None

-- how many bytes the body of a dispatch that is to be offered has, or that of a reply
abbrev pub body_len : Value → ℕ
body_len (value.Ticket ticket) = length ticket.frame.body
body_len (value.Reply settled) = length settled.reply.frame.body
body_len _ = 0

-- the destination of the dispatch that is to be offered at a place
abbrev pub dst_in : Option TicketView → Option (List ℕ)
dst_in None = None
dst_in (Some ticket) = dst_of ticket.content

abbrev pub is_same_dst : Option (List ℕ) → Option (List ℕ) → Bool
is_same_dst (Some a) (Some b) = bytes_eq a b
is_same_dst _ _ = false

-- a server refused the dispatch
abbrev pub is_refused : Value → Bool
is_refused (value.Refused by ticket) = true
is_refused _ = false

abbrev pub is_nothing : Value → Bool
is_nothing value.Nothing = true
is_nothing _ = false

abbrev pub is_closing : Value → Bool
is_closing value.Closing = true
is_closing _ = false

-- the value at a place, nothing past the end
abbrev pub errand_in : Option Errand → Errand
errand_in None = done
errand_in (Some errand) = errand

abbrev pub errand_at : List Errand → ℕ → Errand
errand_at errands at = errand_in (slice_get errands at)

abbrev pub client_at : List Errand → ℕ → Option ℕ
client_at errands at = client_of (errand_at errands at).to (errand_at errands at).value

abbrev pub server_at : List Errand → ℕ → Option ℕ
server_at errands at = server_of (errand_at errands at).to (errand_at errands at).value

abbrev pub ticket_at : List Errand → ℕ → Option TicketView
ticket_at errands at = ticket_of (errand_at errands at).value

abbrev pub placed_at : List Errand → ℕ → Option Placed
placed_at errands at = placed_of (errand_at errands at).value

abbrev pub reply_at : List Errand → ℕ → Option Settled
reply_at errands at = reply_of (errand_at errands at).value

abbrev pub dst_at : List Errand → ℕ → Option (List ℕ)
dst_at errands at = dst_in (ticket_at errands at)

-- the dispatches at a place, and at the other if it is given, have one destination
abbrev pub goes_with : List Errand → ℕ → Option ℕ → Bool
goes_with errands at None = false
goes_with errands at (Some other) = is_same_dst (dst_at errands at) (dst_at errands other)

-- the value at a place goes to another session
abbrev pub send_in : List Errand → ℕ → ℕ → Option Errand → List Errand
send_in errands at to None = errands
send_in errands at to (Some errand) = slice_set errands at (record errand { to = to })

abbrev pub send_at : List Errand → ℕ → ℕ → List Errand
send_at errands at to = send_in errands at to (slice_get errands at)

-- a dispatch that was to be offered goes back to its client
abbrev pub give_back_value : Back → ℕ → Value → Errand
give_back_value word to (value.Ticket ticket) = back ticket word
give_back_value word to other = record { to = to; value = other }

abbrev pub give_back : Back → Errand → Errand
give_back word errand = give_back_value word errand.to errand.value
