-- The steps of a session towards a server, over its list: each is what `up` answers to that very call.
use Rattle.std.specs.Prelude.{◌≡◌, ◌<◌, ℕ, reverse, Bool, true, false, List, [], ◌∷◌, ◌++◌, length, if◌then◌else◌, Option, Some, None, Result, Ok, Err}
use Rattle.std.specs.Option.{option_to_list}
use Rattle.mux_frame.specs.Spelling.{MuxFrame}
use Rattle.mux_frame.specs.Views.{FrameView}
use Rattle.mux_history.specs.declared.record.Record.{Record}
use Rattle.mux_history.specs.declared.kind.RecordKind.{RecordKind}
use Rattle.mux_history.specs.declared.kind.RecordKind.TheVariants as kinds
use Rattle.mux_history.specs.Readings.{has_ended, written}
use Rattle.mux_history.specs.Log.{Log}
use Rattle.translate_book.specs.Values.{TicketView, reason_in}
use Rattle.translate_book.specs.declared.refusal.OfferRefusal.{OfferRefusal}
use Rattle.translate_book.specs.declared.refusal.SealRefusal.{SealRefusal}
use Rattle.translate_book.specs.declared.refusal.RollRefusal.{RollRefusal}
use Rattle.translate_book.specs.declared.placed.Placed.{Placed}
use Rattle.translate_book.specs.declared.sent.Lost.{Lost}
use Rattle.translate_book.specs.declared.recall.Recall.{Recall}
use Rattle.translate_book.specs.declared.refusal.StepRefusal.{StepRefusal}
use Rattle.client_session.specs.declared.answers.PingRefusal.{PingRefusal}
use Rattle.client_session.specs.declared.answers.Recalled.{Recalled}
use Rattle.client_session.specs.declared.answers.Recalled.TheVariants as recalls
use Rattle.client_session.specs.declared.answers.UpStep.{UpStep}
use Rattle.client_session.specs.declared.answers.UpStep.TheVariants as answers
use Rattle.mux_model.specs.Entries.{Exchange, said_by}
use Rattle.mux_model.specs.Steps.{Held, PlacedAt, SettledBy, LostOf, Call, FrameCall, OfferCall, RecallCall, LoseCall, LoseNextCall, SealCall, RollCall, entries, records, Refusal, Outcome, Refused, Unrecorded, Recorded, sent_at}
use Rattle.mux_model.specs.Up.{up, MayChoose, Reaction, Drops, settled_kind}
use Rattle.client_session.specs.Past.{Past, add}
use Rattle.client_session.specs.State.{frame_in}
use Rattle.client_session.specs.Decide.{why_offer, why_step, why_ping, why_seal, why_roll}

-- the past after a call that was answered so: a call without a record leaves it as it was
abbrev pub next : Past → Call → Outcome → Past
next p call (Recorded entry gives) = add p call entry
next p call _ = p

-- `up` answers this to the call, if an offer chooses tag `t`, and the past becomes `q`
abbrev pub Answers : Past → (t : ℕ) → Call → Outcome → Past → Type 0
Answers p t call o q = (up p.session p.steps (length p.out) t call ≡ o) × (q ≡ next p call o)

-- the call is recorded, and gives these values
abbrev pub Records : Past → (t : ℕ) → Call → List Held → Past → Type 0
Records p t call gives q = (e : Exchange) × Answers p t call (Recorded e gives) q

abbrev pub offering : TicketView → ℕ → Call
offering ticket now = OfferCall ticket.name ticket.frame ticket.left now

-- why an offer is refused whatever tag it may choose; where the copy of a dispatch with a try left found no memory,
-- nothing else stood in its way
abbrev pub IsTurnedAway : Past → (t : ℕ) → TicketView → ℕ → Option Refusal → Type 0
IsTurnedAway p t ticket now (Some why) = up p.session p.steps (length p.out) t (offering ticket now) ≡ Refused why
IsTurnedAway p t ticket now None =
    (0 < ticket.left)
    × (e : Exchange) × (gives : List Held)
    × (up p.session p.steps (length p.out) t (offering ticket now) ≡ Recorded e gives)

-- an offer is placed on a tag that it may choose, or refused for the first cause, and handed back
abbrev pub OfferStep : Past → TicketView → ℕ → Result Placed (OfferRefusal × TicketView) → Past → Type 0
OfferStep p ticket now (Ok placed) q =
    MayChoose p.session p.steps placed.tag (offering ticket now)
    × Records p placed.tag (offering ticket now) (PlacedAt placed.name placed.server placed.tag ∷ []) q
OfferStep p ticket now (Err refused) q =
    ((t : ℕ) → IsTurnedAway p t ticket now (why_offer refused.0)) × (q ≡ p) × (refused.1 ≡ ticket)

-- the values that a frame gave
abbrev pub given_by : UpStep → List Held
given_by (answers.Settled x) = SettledBy x.name x.reply.frame (frame_in x.again) ∷ []
given_by _ = []

-- a record that tells neither of a stray, nor of a settled dispatch, nor of the end of the list or of a history
abbrev pub is_silent : RecordKind → Bool
is_silent kinds.Dropped = false
is_silent (kinds.Settled type) = false
is_silent kinds.SettledNack = false
is_silent (kinds.Closed cause) = false
is_silent (kinds.Epoch number standing) = false
is_silent (kinds.Rolled number) = false
is_silent _ = true

-- what a message that closes nothing and settles nothing is answered with
abbrev pub told_by : Reaction → UpStep
told_by Drops = answers.Dropped
told_by _ = answers.Nothing

-- the answer tells what the record says
abbrev pub Tells : UpStep → RecordKind → Type 0
Tells answers.Nothing kind = is_silent kind ≡ true
Tells (answers.Settled x) kind = kind ≡ settled_kind x.reply.frame
Tells answers.Dropped kind = kind ≡ kinds.Dropped
Tells (answers.Closing cause) kind = kind ≡ kinds.Closed cause

-- a final reply is handed on as it came
abbrev pub IsReplyAsItCame : UpStep → FrameView → Type 0
IsReplyAsItCame (answers.Settled x) f = x.reply ≡ f
IsReplyAsItCame _ f = Unit {0}

-- a frame is taken, or refused and handed back
abbrev pub FrameStep : Past → FrameView → ℕ → Result UpStep (StepRefusal × FrameView) → Past → Type 0
FrameStep p f now (Ok step) q =
    (e : Exchange) × (r : Record) × (e.rec ≡ Some r) × Tells step r.kind × IsReplyAsItCame step f
    × Answers p 0 (FrameCall f.frame now) (Recorded e (given_by step)) q
FrameStep p f now (Err refused) q =
    Answers p 0 (FrameCall f.frame now) (Refused (why_step refused.0)) q × (refused.1 ≡ f)

-- a recall sends a Tdiscarded, or is stale and changes nothing
abbrev pub recalling : Recall → ℕ → Call
recalling r now = RecallCall r.name r.tag (reason_in r.why) now

abbrev pub RecallStep : Past → Recall → ℕ → Recalled → Past → Type 0
RecallStep p r now recalls.Sent q = Records p 0 (recalling r now) [] q
RecallStep p r now recalls.Stale q = Answers p 0 (recalling r now) Unrecorded q

-- the clock and the retiring
abbrev pub NoteStep : Past → Call → Result (Unit {0}) StepRefusal → Past → Type 0
NoteStep p call (Ok done) q = Records p 0 call [] q
NoteStep p call (Err refusal) q = Answers p 0 call (Refused (why_step refusal)) q

abbrev pub PingStep : Past → Call → Result (Unit {0}) PingRefusal → Past → Type 0
PingStep p call (Ok done) q = Records p 0 call [] q
PingStep p call (Err refusal) q = Answers p 0 call (Refused (why_ping refusal)) q

-- the loss of the session, which is recorded once
abbrev pub LoseStep : Past → ℕ → Past → Type 0
LoseStep p now q = Answers p 0 (LoseCall now) (up p.session p.steps (length p.out) 0 (LoseCall now)) q

-- the loss of one dispatch
abbrev pub LoseNextStep : Past → Option Lost → Past → Type 0
LoseNextStep p (Some lost) q = Records p 0 LoseNextCall (LostOf lost.name ∷ []) q
LoseNextStep p None q = Answers p 0 LoseNextCall Unrecorded q

-- what is taken out next: the message that was sent after those taken out so far, and nothing once the list has ended
abbrev pub next_out : Past → Option MuxFrame
next_out p = if has_ended (records p.steps) then None else sent_at (length p.out) (entries p.steps)

abbrev pub TakeOutStep : Past → Option FrameView → Past → Type 0
TakeOutStep p frame q = (said_by frame ≡ next_out p) × (q ≡ record p { out = p.out ++ option_to_list (said_by frame) })

-- what one exchange takes out: each next frame, until none is left
abbrev pub TakeOutsStep : Past → List FrameView → Past → Type 0
TakeOutsStep p [] q = TakeOutStep p None q
TakeOutsStep p (f ∷ fs) q = (r : Past) × TakeOutStep p (Some f) r × TakeOutsStep r fs q

-- a session is sealed, and the history that ends is handed back, or the one that was handed in
abbrev pub SealStep : Past → (fresh : Log) → Result Log (SealRefusal × Log) → Past → Type 0
SealStep p fresh (Ok sealed) q =
    Records p 0 SealCall [] q
    × (sealed ≡ record { records = reverse (written (records p.steps)); room = p.session.limits.history })
SealStep p fresh (Err refused) q =
    Answers p 0 SealCall (Refused (why_seal refused.0)) q × (refused.1 ≡ fresh)

-- a session is rolled, and the history that ends is handed back, or the one that was handed in
abbrev pub RollStep : Past → (fresh : Log) → Result Log (RollRefusal × Log) → Past → Type 0
RollStep p fresh (Ok rolled) q =
    Records p 0 RollCall [] q
    × (rolled ≡ record { records = reverse (written (records p.steps)); room = p.session.limits.history })
RollStep p fresh (Err refused) q =
    Answers p 0 RollCall (Refused (why_roll refused.0)) q × (refused.1 ≡ fresh)
