-- A step on a value leaves a client's session its number: the state that it leads to belongs to a past of the same session.
use Rattle.std.proofs.Common.{◌≡◌, ℕ, Option, Some, None, Bool, List, Result, Ok, Err, refl, sym, ap, subst, ◌∙◌}
use Rattle.std.proofs.lemmas.Option.{none-some, same_Some}
use Rattle.mux_history.specs.declared.kind.RecordKind.{RecordKind}
use Rattle.mux_model.specs.Steps.{Call, NackCall, UnrouteCall, Held, Outcome, Refused, Unrecorded, Recorded}
use Rattle.translate_book.specs.Values.{TicketView}
use Rattle.translate_book.specs.declared.placed.Placed.{Placed}
use Rattle.translate_book.specs.declared.sent.Settled.{Settled}
use Rattle.translate_book.specs.declared.recall.Recall.{Recall}
use Rattle.server_session.specs.declared.answers.Answer.{Answer}
use Rattle.server_session.specs.Belonging.{Belongs}
use Rattle.server_session.specs.Past.{Past}
use Rattle.server_session.specs.Steps.{Answers, Records, noting, settling, NoteStep, SettleStep, NackStep, UnrouteStep}
use Rattle.kept_session.specs.ReachedDown.{IsLedDown, KeptDown, LeadsDown}
use Rattle.hub_steps.specs.Down.{MakesDown, MayKeepDown}
use Rattle.hub_places.specs.Numbering.{IsOfDown}

-- a step is one of the same session
abbrev pub KeepsSession : (Past → Past → Type 0) → Type 0
KeepsSession R = (p q : Past) → R p q → q.session ≡ p.session

answered : (p : Past) (call : Call) (o : Outcome) (q : Past) → Answers p call o q → q.session ≡ p.session
answered p call (Recorded e gives) q a = ap (λ (x : Past). x.session) a.1
answered p call (Refused why) q a = ap (λ (x : Past). x.session) a.1
answered p call Unrecorded q a = ap (λ (x : Past). x.session) a.1

recorded : (p : Past) (call : Call) (kind : RecordKind → Bool) (gives : List Held) (q : Past) → Records p call kind gives q
    → q.session ≡ p.session
recorded p call kind gives q (e, r, some, is, answers) = answered p call (Recorded e gives) q answers

pub note_same : (placed : Placed) (result : Result (Option Recall) Placed) → KeepsSession (λ p q. NoteStep p placed result q)
note_same placed (Ok given) p q step = recorded p (noting placed) _ _ q step
note_same placed (Err back) p q step = ap (λ (x : Past). x.session) step.0.1

pub settle_same : (settled : Settled) (result : Result Answer Settled) → KeepsSession (λ p q. SettleStep p settled result q)
settle_same settled (Ok given) p q step = recorded p (settling settled) _ _ q step
settle_same settled (Err back) p q step = ap (λ (x : Past). x.session) step.0.1

pub nack_same : (ticket : TicketView) (result : Result Answer TicketView) → KeepsSession (λ p q. NackStep p ticket result q)
nack_same ticket (Ok given) p q step = recorded p (NackCall ticket.name) _ _ q step
nack_same ticket (Err back) p q step = ap (λ (x : Past). x.session) step.0.1

pub unroute_same : (ticket : TicketView) (result : Result Answer TicketView)
    → KeepsSession (λ p q. UnrouteStep p ticket result q)
unroute_same ticket (Ok given) p q step = recorded p (UnrouteCall ticket.name) _ _ q step
unroute_same ticket (Err back) p q step = ap (λ (x : Past). x.session) step.0.1

-- the session's own calls led to its state, and it is this client's
abbrev pub IsLedOf : (client : ℕ) → Option KeptDown → Type 0
IsLedOf client None = Unit {0}
IsLedOf client (Some s) = (p : Past) × IsLedDown p × Belongs s.state p × (s.state.client ≡ client)

led_of : (client : ℕ) (slot : Option KeptDown) → MayKeepDown slot → IsOfDown client slot → IsLedOf client slot
led_of client None may is = tt
led_of client (Some s) (were, kept) is = (kept.0, kept.1, kept.2, is s refl)

number_of : (client : ℕ) (slot : Option KeptDown) → IsLedOf client slot → IsOfDown client slot
number_of client None led = λ s is. absurd (none-some s is)
number_of client (Some s) (p, led, belongs, number) =
    λ t is. ap (λ (k : KeptDown). k.state.client) (sym (same_Some s t is)) ∙ number

-- by one step, and so by more
led_on : (client : ℕ) (s t : KeptDown) (R : Past → Past → Type 0) → KeepsSession R → LeadsDown s t R
    → IsLedOf client (Some s) → IsLedOf client (Some t)
led_on client s t R same leads (p, led, belongs, number) =
    let (q, step, led', belongs', behind) = leads p led belongs in
    (q, led', belongs', belongs'.client ∙ ap (λ (c : _). c.number) (same p q step) ∙ sym belongs.client ∙ number)

made_on : (client : ℕ) (s t : Option KeptDown) (R : Past → Past → Type 0) → KeepsSession R → MakesDown s t R
    → IsLedOf client s → IsLedOf client t
made_on client None t R same made led = subst (λ o. IsLedOf client o) (sym made) tt
made_on client (Some s) None R same made led = absurd made
made_on client (Some s) (Some t) R same made led = led_on client s t R same made.1 led

pub made_of : (client : ℕ) (s t : Option KeptDown) (R : Past → Past → Type 0) → KeepsSession R → MayKeepDown s
    → IsOfDown client s → MakesDown s t R → IsOfDown client t
made_of client s t R same may is made = number_of client t (made_on client s t R same made (led_of client s may is))
