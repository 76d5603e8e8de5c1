-- What becomes of the lines of one connection.
use Rattle.std.specs.Prelude.{◌≡◌, ℕ, List, [], ◌∷◌, map, flat_map, All, Bool, true, false, ◌⊎◌, Result, Ok, Err}
use Rattle.line_session.specs.Answering.{Answered}
use Rattle.line_session.specs.Requests.{is_request}
use Rattle.hub.specs.declared.admin.AdminOrder.{AdminOrder}
use Rattle.hub.specs.declared.admin.AdminReply.{AdminReply}
use Rattle.hub.specs.declared.admin.AdminReply.TheVariants.{Done, Report, Bye, Failed}
use Rattle.hub.specs.declared.admin.OrderFault.{OrderFault}
use Rattle.hub.specs.declared.admin.OrderFault.TheVariants.{BadCommand, Memory}
use Rattle.admin_port.specs.Orders.{Gives}
use Rattle.admin_port.specs.Replies.{IsReport, reply_lines, text_of}
use Rattle.admin_port.specs.Serving.{Obeyed, Serves}

pub data Event : Type 0 where
  -- the text of a line, the order that it spells, how that was answered, and the reply as it is told
  obeyed : List ℕ → AdminOrder → Result AdminReply OrderFault → List ℕ → Event
  -- a line that was told its fault, and nothing was carried out for it
  faulty : List ℕ → OrderFault → Event
  -- the first line of a request over HTTP, for which nothing was carried out
  foreign : List ℕ → Event

-- what was carried out
abbrev pub done_by : Event → Obeyed
done_by (obeyed line order answer told) = (order, answer) ∷ []
done_by (faulty line fault) = []
done_by (foreign line) = []

abbrev pub reply_to : Result AdminReply OrderFault → AdminReply
reply_to (Ok reply) = reply
reply_to (Err fault) = Failed fault

abbrev pub is_bye : AdminReply → Bool
is_bye Done = false
is_bye (Report boot rows) = false
is_bye Bye = true
is_bye (Failed fault) = false

-- what the connection does
abbrev pub said_by : Event → Answered
said_by (obeyed line order answer told) =
    record { line = line; told = told; is_last = is_bye (reply_to answer) }
said_by (faulty line fault) =
    record { line = line; told = text_of (reply_lines (Failed fault)); is_last = false }
said_by (foreign line) =
    record { line = line; told = text_of (reply_lines (Failed BadCommand)); is_last = true }

-- the text of a reply, or that of a lack of memory in place of a report
abbrev pub Tells : AdminReply → List ℕ → Type 0
Tells reply told =
    (told ≡ text_of (reply_lines reply)) ⊎ (IsReport reply × (told ≡ text_of (reply_lines (Failed Memory))))

-- the line spells the order, whose answer was told; or it gives that fault; or it is a request's
abbrev pub IsRight : Event → Type 0
IsRight (obeyed line order answer told) =
    (is_request line ≡ false) × Gives line (Ok order) × Tells (reply_to answer) told
IsRight (faulty line fault) = (is_request line ≡ false) × Gives line (Err fault)
IsRight (foreign line) = is_request line ≡ true

-- what becomes of the text of a line: the order that it spells is carried out, or it is told its fault
abbrev pub CarriesOut : {O : Type 0} → Serves O → O → List ℕ → AdminReply → O → Type 0
CarriesOut obeys a line reply b =
    ((order : AdminOrder) × (answer : Result AdminReply OrderFault) × Gives line (Ok order)
    × obeys a ((order, answer) ∷ []) b × (reply ≡ reply_to answer))
    ⊎ ((fault : OrderFault) × Gives line (Err fault) × (b ≡ a) × (reply ≡ Failed fault))

-- Each line that spells an order had it carried out once, in order, and was told its answer; every other one was told
-- its fault. The connection ends behind a Bye, and at a request over HTTP, no line of which is carried out, and behind
-- nothing else.
abbrev pub AnswersBy : {O : Type 0} → Serves O → O → List Answered → O → Type 0
AnswersBy obeys a xs b =
    (events : List Event) × obeys a (flat_map done_by events) b × All IsRight events × (xs ≡ map said_by events)
