-- A step on a value leaves a session towards a server its number: the state that it leads to belongs to a past of the same
-- session.
use Rattle.std.proofs.Common.{◌≡◌, ℕ, Option, Some, None, List, Result, Ok, Err, refl, sym, ap, subst, ◌∙◌}
use Rattle.std.proofs.lemmas.Option.{none-some, same_Some}
use Rattle.mux_model.specs.Steps.{Call, Held, Outcome, Refused, Unrecorded, Recorded}
use Rattle.translate_book.specs.Values.{TicketView}
use Rattle.translate_book.specs.declared.placed.Placed.{Placed}
use Rattle.translate_book.specs.declared.recall.Recall.{Recall}
use Rattle.translate_book.specs.declared.refusal.OfferRefusal.{OfferRefusal}
use Rattle.client_session.specs.declared.answers.Recalled.{Recalled}
use Rattle.client_session.specs.declared.answers.Recalled.TheVariants as recalls
use Rattle.client_session.specs.Belonging.{Belongs}
use Rattle.client_session.specs.Past.{Past}
use Rattle.client_session.specs.Steps.{Answers, Records, offering, recalling, OfferStep, RecallStep}
use Rattle.kept_session.specs.Reached.{IsReached, Kept, Leads}
use Rattle.hub_steps.specs.Up.{Makes, MayKeep}
use Rattle.hub_places.specs.Numbering.{IsOfUp}

-- a step is one of the same session
abbrev pub KeepsSession : (Past → Past → Type 0) → Type 0
KeepsSession R = (p q : Past) → R p q → q.session ≡ p.session

answered : (p : Past) (tag : ℕ) (call : Call) (o : Outcome) (q : Past) → Answers p tag call o q → q.session ≡ p.session
answered p tag call (Recorded e gives) q a = ap (λ (x : Past). x.session) a.1
answered p tag call (Refused why) q a = ap (λ (x : Past). x.session) a.1
answered p tag call Unrecorded q a = ap (λ (x : Past). x.session) a.1

recorded : (p : Past) (tag : ℕ) (call : Call) (gives : List Held) (q : Past) → Records p tag call gives q
    → q.session ≡ p.session
recorded p tag call gives q (e, answers) = answered p tag call (Recorded e gives) q answers

pub offer_same : (ticket : TicketView) (now : ℕ) (result : Result Placed (OfferRefusal × TicketView))
    → KeepsSession (λ p q. OfferStep p ticket now result q)
offer_same ticket now (Ok placed) p q (may, step) = recorded p placed.tag (offering ticket now) _ q step
offer_same ticket now (Err refused) p q step = ap (λ (x : Past). x.session) step.1

pub recall_same : (r : Recall) (now : ℕ) (result : Recalled) → KeepsSession (λ p q. RecallStep p r now result q)
recall_same r now recalls.Sent p q step = recorded p 0 (recalling r now) _ q step
recall_same r now recalls.Stale p q step = ap (λ (x : Past). x.session) step.1

-- the session's own calls led to its state, and it has this number
abbrev pub IsLedOf : (server : ℕ) → Option Kept → Type 0
IsLedOf server None = Unit {0}
IsLedOf server (Some s) = (p : Past) × IsReached s.mode p × Belongs s.state p × (s.state.server ≡ server)

led_of : (server : ℕ) (slot : Option Kept) → MayKeep slot → IsOfUp server slot → IsLedOf server slot
led_of server None may is = tt
led_of server (Some s) (were, kept) is = (kept.0, kept.1, kept.2, is s refl)

number_of : (server : ℕ) (slot : Option Kept) → IsLedOf server slot → IsOfUp server slot
number_of server None led = λ s is. absurd (none-some s is)
number_of server (Some s) (p, led, belongs, number) =
    λ t is. ap (λ (k : Kept). k.state.server) (sym (same_Some s t is)) ∙ number

-- by one step, and so by more
led_on : (server : ℕ) (s t : Kept) (R : Past → Past → Type 0) → KeepsSession R → Leads s t R
    → IsLedOf server (Some s) → IsLedOf server (Some t)
led_on server s t R same leads (p, led, belongs, number) =
    let (q, step, led', belongs', behind) = leads p led belongs in
    (q, led', belongs', belongs'.server ∙ ap (λ (c : _). c.number) (same p q step) ∙ sym belongs.server ∙ number)

made_on : (server : ℕ) (s t : Option Kept) (R : Past → Past → Type 0) → KeepsSession R → Makes s t R
    → IsLedOf server s → IsLedOf server t
made_on server None t R same made led = subst (λ o. IsLedOf server o) (sym made) tt
made_on server (Some s) None R same made led = absurd made
made_on server (Some s) (Some t) R same made led = led_on server s t R same made.2 led

pub made_of : (server : ℕ) (s t : Option Kept) (R : Past → Past → Type 0) → KeepsSession R → MayKeep s
    → IsOfUp server s → Makes s t R → IsOfUp server t
made_of server s t R same may is made = number_of server t (made_on server s t R same made (led_of server s may is))
