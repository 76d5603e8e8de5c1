-- The steps of a session towards a client, over its list: each is what `down` answers to that very call.
use Rattle.std.specs.Prelude.{◌≡◌, ℕ, Bool, true, false, List, [], ◌∷◌, ◌++◌, length, drop, reverse, if◌then◌else◌, Option, Some, None, Result, Ok, Err}
use Rattle.std.specs.Option.{option_to_list}
use Rattle.mux_frame.specs.Spelling.{MuxFrame}
use Rattle.mux_frame.specs.Views.{FrameView}
use Rattle.mux_message.specs.Content.{MessageView}
use Rattle.mux_history.specs.Log.{Log}
use Rattle.mux_history.specs.declared.record.Record.{Record}
use Rattle.mux_history.specs.declared.kind.RecordKind.{RecordKind}
use Rattle.mux_history.specs.declared.kind.RecordKind.TheVariants as kinds
use Rattle.mux_history.specs.Readings.{has_ended, written, is_epoch, is_retried}
use Rattle.translate_book.specs.Values.{TicketView, reason_in}
use Rattle.translate_book.specs.declared.placed.Placed.{Placed}
use Rattle.translate_book.specs.declared.sent.Settled.{Settled}
use Rattle.translate_book.specs.declared.sent.Lost.{Lost}
use Rattle.translate_book.specs.declared.recall.Recall.{Recall}
use Rattle.translate_book.specs.declared.refusal.StepRefusal.{StepRefusal}
use Rattle.translate_book.specs.declared.refusal.SealRefusal.{SealRefusal}
use Rattle.translate_book.specs.declared.refusal.RollRefusal.{RollRefusal}
use Rattle.server_session.specs.declared.answers.DownStep.{DownStep}
use Rattle.server_session.specs.declared.answers.DownStep.TheVariants as answers
use Rattle.server_session.specs.declared.answers.Answer.{Answer}
use Rattle.server_session.specs.declared.answers.Answer.TheVariants as whether
use Rattle.server_session.specs.declared.answers.DrainRefusal.{DrainRefusal}
use Rattle.mux_model.specs.Entries.{Exchange, said_by}
use Rattle.mux_model.specs.Steps.{Held, TicketOf, RecallOf, Call, FrameCall, NoteCall, SettleCall, NackCall, UnrouteCall, FailCall, DrainCall, LoseCall, LoseNextCall, SealCall, RollCall, entries, records, NotMine, Outcome, Refused, Unrecorded, Recorded, sent_at}
use Rattle.mux_model.specs.Down.{down}
use Rattle.server_session.specs.Past.{Past, add, sent_of}
use Rattle.server_session.specs.State.{State}
use Rattle.server_session.specs.Belonging.{Belongs}
use Rattle.server_session.specs.Decide.{why_step, why_drain, why_seal, why_roll}

-- whatever past the old state belongs to, the step leads on from it to one that the new state belongs to
abbrev pub LeadsOn : (old : State) → (Past → Past → Type 0) → (new : State) → Type 0
LeadsOn old Step new = (p : Past) → Belongs old p → (q : Past) × Step p q × Belongs new q

-- the past after a call that was answered so: a call without a record leaves it as it was
abbrev pub next : Past → Call → Outcome → Past
next p call (Recorded entry gives) = add p call entry
next p call _ = p

-- `down` answers this to the call, and the past becomes `q`
abbrev pub Answers : Past → Call → Outcome → Past → Type 0
Answers p call o q = (down p.session p.steps (length p.out) call ≡ o) × (q ≡ next p call o)

-- the call is recorded as one of these kinds, and gives these values
abbrev pub Records : Past → Call → (RecordKind → Bool) → List Held → Past → Type 0
Records p call kind gives q =
    (e : Exchange) × (r : Record) × (e.rec ≡ Some r) × (kind r.kind ≡ true) × Answers p call (Recorded e gives) q

abbrev pub ticket_of : TicketView → Held
ticket_of t = TicketOf t.name t.frame t.left

abbrev pub recall_of : Recall → Held
recall_of x = RecallOf x.name x.server x.tag (reason_in x.why)

-- the values that a frame gave
abbrev pub given_by : DownStep → List Held
given_by (answers.Take t) = ticket_of t ∷ []
given_by (answers.Recall x) = recall_of x ∷ []
given_by _ = []

-- a record that tells neither of a dispatch that was taken or recalled, nor of the end
abbrev pub is_silent : RecordKind → Bool
is_silent kinds.Took = false
is_silent (kinds.Discarded recalled) = if recalled then false else true
is_silent (kinds.Closed cause) = false
is_silent _ = true

-- the answer tells what the record says
abbrev pub Tells : DownStep → RecordKind → Type 0
Tells answers.Nothing kind = is_silent kind ≡ true
Tells (answers.Take t) kind = kind ≡ kinds.Took
Tells (answers.Recall x) kind = kind ≡ kinds.Discarded true
Tells (answers.Closing cause) kind = kind ≡ kinds.Closed cause

-- a frame is taken, or refused and handed back
abbrev pub FrameStep : Past → FrameView → ℕ → Result DownStep (StepRefusal × FrameView) → Past → Type 0
FrameStep p f now (Ok step) q =
    (e : Exchange) × (r : Record) × (e.rec ≡ Some r) × Tells step r.kind
    × Answers p (FrameCall f.frame now) (Recorded e (given_by step)) q
FrameStep p f now (Err refused) q =
    Answers p (FrameCall f.frame now) (Refused (why_step refused.0)) q × (refused.1 ≡ f)

-- the place of a dispatch is noted, or isn't due here
abbrev pub noting : Placed → Call
noting x = NoteCall x.name x.server x.tag

abbrev pub recall_in : Option Recall → List Held
recall_in None = []
recall_in (Some x) = recall_of x ∷ []

abbrev pub is_noting : Option Recall → RecordKind → Bool
is_noting None (kinds.Noted recalled) = if recalled then false else true
is_noting (Some x) (kinds.Noted recalled) = recalled
is_noting _ _ = false

abbrev pub NoteStep : Past → Placed → Result (Option Recall) Placed → Past → Type 0
NoteStep p placed (Ok recall) q = Records p (noting placed) (is_noting recall) (recall_in recall) q
NoteStep p placed (Err back) q = Answers p (noting placed) (Refused NotMine) q × (back ≡ placed)

-- an answer goes out as a record of its kind, comes late, or is a nack after which the dispatch may be sent again
abbrev pub is_passed : RecordKind → Bool
is_passed kinds.Passed = true
is_passed _ = false

abbrev pub is_nacked : RecordKind → Bool
is_nacked kinds.Nacked = true
is_nacked _ = false

abbrev pub is_unrouted : RecordKind → Bool
is_unrouted kinds.Unrouted = true
is_unrouted _ = false

abbrev pub is_failed : RecordKind → Bool
is_failed kinds.Failed = true
is_failed _ = false

abbrev pub is_late : (whole : Bool) → RecordKind → Bool
is_late true (kinds.Late whole) = whole
is_late false (kinds.Late whole) = if whole then false else true
is_late _ _ = false

abbrev pub is_answer : Answer → (sent : RecordKind → Bool) → (whole : Bool) → RecordKind → Bool
is_answer whether.Answered sent whole kind = sent kind
is_answer whether.Late sent whole kind = is_late whole kind
is_answer (whether.Again t) sent whole kind = is_retried kind

abbrev pub given_again : Answer → List Held
given_again (whether.Again t) = ticket_of t ∷ []
given_again _ = []

abbrev pub frame_in : Option MessageView → Option MuxFrame
frame_in None = None
frame_in (Some m) = Some m.frame

abbrev pub settling : Settled → Call
settling x = SettleCall x.name x.reply.frame (frame_in x.again)

abbrev pub SettleStep : Past → Settled → Result Answer Settled → Past → Type 0
SettleStep p settled (Ok answer) q =
    Records p (settling settled) (is_answer answer is_passed false) (given_again answer) q
SettleStep p settled (Err back) q = Answers p (settling settled) (Refused NotMine) q × (back ≡ settled)

abbrev pub NackStep : Past → TicketView → Result Answer TicketView → Past → Type 0
NackStep p ticket (Ok answer) q = Records p (NackCall ticket.name) (is_answer answer is_nacked true) [] q
NackStep p ticket (Err back) q = Answers p (NackCall ticket.name) (Refused NotMine) q × (back ≡ ticket)

abbrev pub UnrouteStep : Past → TicketView → Result Answer TicketView → Past → Type 0
UnrouteStep p ticket (Ok answer) q = Records p (UnrouteCall ticket.name) (is_answer answer is_unrouted true) [] q
UnrouteStep p ticket (Err back) q = Answers p (UnrouteCall ticket.name) (Refused NotMine) q × (back ≡ ticket)

abbrev pub FailStep : Past → Lost → Result Answer Lost → Past → Type 0
FailStep p lost (Ok answer) q = Records p (FailCall lost.name) (is_answer answer is_failed false) [] q
FailStep p lost (Err back) q = Answers p (FailCall lost.name) (Refused NotMine) q × (back ≡ lost)

-- the client is asked to send no more, once
abbrev pub is_drain_asked : RecordKind → Bool
is_drain_asked kinds.DrainAsked = true
is_drain_asked _ = false

abbrev pub DrainStep : Past → Result (Unit {0}) DrainRefusal → Past → Type 0
DrainStep p (Ok done) q = Records p DrainCall is_drain_asked [] q
DrainStep p (Err refusal) q = Answers p DrainCall (Refused (why_drain refusal)) q

-- the session is sealed, and hands back the history that ends
abbrev pub SealStep : Past → (handed : Log) → Result Log (SealRefusal × Log) → Past → Type 0
SealStep p handed (Ok sealed) q =
    Records p SealCall is_epoch [] q
    × (sealed ≡ record { records = reverse (written (records p.steps)); room = p.session.limits.history })
SealStep p handed (Err refused) q = Answers p SealCall (Refused (why_seal refused.0)) q × (refused.1 ≡ handed)

-- the session is rolled, and hands back the history that ends
abbrev pub is_rolled : RecordKind → Bool
is_rolled (kinds.Rolled number) = true
is_rolled _ = false

abbrev pub RollStep : Past → (handed : Log) → Result Log (RollRefusal × Log) → Past → Type 0
RollStep p handed (Ok rolled) q =
    Records p RollCall is_rolled [] q
    × (rolled ≡ record { records = reverse (written (records p.steps)); room = p.session.limits.history })
RollStep p handed (Err refused) q = Answers p RollCall (Refused (why_roll refused.0)) q × (refused.1 ≡ handed)

-- the loss of the session, which is recorded once
abbrev pub LoseStep : Past → ℕ → Past → Type 0
LoseStep p now q = Answers p (LoseCall now) (down p.session p.steps (length p.out) (LoseCall now)) q

-- the recall of one dispatch of a client that is gone
abbrev pub is_recalled : RecordKind → Bool
is_recalled kinds.Recalled = true
is_recalled _ = false

abbrev pub LoseNextStep : Past → Option Recall → Past → Type 0
LoseNextStep p (Some recall) q = Records p LoseNextCall is_recalled (recall_of recall ∷ []) q
LoseNextStep p None q = Answers p LoseNextCall Unrecorded q

-- what is taken out next: the message that was sent after those taken out so far, and nothing once the list has ended
abbrev pub next_out : Past → Option MuxFrame
next_out p = if has_ended (records p.steps) then None else sent_at (length p.out) (entries p.steps)

abbrev pub TakeOutStep : Past → Option FrameView → Past → Type 0
TakeOutStep p frame q = (said_by frame ≡ next_out p) × (q ≡ record p { out = p.out ++ option_to_list (said_by frame) })

-- all that is to be sent
abbrev pub next_outs : Past → List MuxFrame
next_outs p = if has_ended (records p.steps) then [] else drop (length p.out) (sent_of (entries p.steps))

abbrev pub TakeOutsStep : Past → List MuxFrame → Past → Type 0
TakeOutsStep p frames q = (frames ≡ next_outs p) × (q ≡ record p { out = p.out ++ frames })
