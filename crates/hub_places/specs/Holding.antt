-- Values in hand, each with a claim of its own to the move that gave it.
use Rattle.std.specs.Prelude.{ℕ, ◌≡◌, ◌==◌, ◌-◌, List, ◌∷◌, Option, Some, None, Result, Ok, Err, if◌then◌else◌}
use Rattle.mux_model.specs.Steps.{Held, PlacedAt, SettledBy, LostOf}
use Rattle.client_session.specs.State.{frame_in}
use Rattle.server_session.specs.Steps.{recall_of, ticket_of}
use Rattle.mux_frame.specs.Spelling.{MuxFrame}
use Rattle.mux_history.specs.declared.session.SessionId.{SessionId}
use Rattle.translate_book.specs.Values.{TicketView}
use Rattle.translate_book.specs.declared.placed.Placed.{Placed}
use Rattle.translate_book.specs.declared.refusal.OfferRefusal.{OfferRefusal}
use Rattle.translate_book.specs.declared.recall.Recall.{Recall}
use Rattle.translate_book.specs.declared.sent.Lost.{Lost}
use Rattle.hub_base.specs.Errands.{errand_at}
use Rattle.hub_base.specs.declared.errands.Errand.{Errand}
use Rattle.hub_base.specs.declared.errands.Value.{Value}
use Rattle.hub_base.specs.declared.errands.Value.TheVariants as value
use Rattle.hub_log.specs.declared.terms.Terms.{Terms}
use Rattle.hub_log.specs.Moves.{Claim, Move, TookOut, value_of}
use Rattle.hub_log.specs.Bag.{IsBag}
use Rattle.hub_log.specs.Views.{View, InHand}

-- a value of a batch, as the log has it
abbrev pub held_of : Value → Option Held
held_of (value.Ticket ticket) = Some (ticket_of ticket)
held_of (value.Refused by ticket) = Some (ticket_of ticket)
held_of (value.Unplaced ticket) = Some (ticket_of ticket)
held_of (value.Unrouted ticket) = Some (ticket_of ticket)
held_of (value.Placed placed) = Some (PlacedAt placed.name placed.server placed.tag)
held_of (value.Reply settled) = Some (SettledBy settled.name settled.reply.frame (frame_in settled.again))
held_of (value.Recall recall) = Some (recall_of recall)
held_of _ = None

abbrev pub held_in : List Errand → ℕ → Option Held
held_in xs i = held_of (errand_at xs i).value

-- it goes to the session that may use it
abbrev pub GoesTo : ℕ → Value → Type 0
GoesTo to (value.Unplaced ticket) = to ≡ ticket.name.client
GoesTo to (value.Unrouted ticket) = to ≡ ticket.name.client
GoesTo to (value.Placed placed) = to ≡ placed.name.client
GoesTo to (value.Reply settled) = to ≡ settled.name.client
GoesTo to (value.Recall recall) = to ≡ recall.server
GoesTo to _ = Unit {0}

-- values at places: each was given by a move that the pass has seen, and the pass alone may use it, once
pub record Holds (v : View) (f : ℕ → Option Held) : Type 0 where
  pub claim : ℕ → Claim
  pub there : (i : ℕ) (h : Held) → f i ≡ Some h → InHand v (claim i) × (value_of (claim i) v.seen ≡ Some h)
  pub apart : (i j : ℕ) (h k : Held) → f i ≡ Some h → f j ≡ Some k → claim i ≡ claim j → i ≡ j

-- the values of a batch
pub record HasClaims (v : View) (xs : List Errand) : Type 0 where
  pub holds : Holds v (held_in xs)
  pub goes : (i : ℕ) → GoesTo (errand_at xs i).to (errand_at xs i).value

-- one value alone, if there is one
abbrev pub alone : Option Held → ℕ → Option Held
alone o i = if i == 0 then o else None

abbrev pub recall_if : Option Recall → Option Held
recall_if None = None
recall_if (Some recall) = Some (recall_of recall)

abbrev pub lost_if : Option Lost → Option Held
lost_if None = None
lost_if (Some lost) = Some (LostOf lost.name)

-- one value beside those of a batch
abbrev pub beside : Option Held → List Errand → ℕ → Option Held
beside o xs i = if i == 0 then o else held_in xs (i - 1)

-- what an offer leaves in hand: a place, or the dispatch
abbrev pub left_by_offer : Result Placed (OfferRefusal × TicketView) → Option Held
left_by_offer (Ok placed) = Some (PlacedAt placed.name placed.server placed.tag)
left_by_offer (Err (why, ticket)) = Some (ticket_of ticket)

-- the last move of a log that is the hub's took these frames out of this session
abbrev pub IsGone : Terms → SessionId → List MuxFrame → View → Type 0
IsGone t id frames v =
    (before : List Move) × (v.seen ≡ record { session = id; deed = TookOut frames; uses = None } ∷ before) × IsBag t v.seen
