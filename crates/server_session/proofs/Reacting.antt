-- What the state decides of a client's frame is what `down` answers.
use Rattle.std.proofs.Common.{◌≡◌, ℕ, Bool, true, false, cond, List, [], length, Result, Option, None, Some, Ok, Err, refl, sym, ◌∙◌, ap, arith}
use Rattle.std.specs.Prelude.{◌==◌, ◌&&◌, not, is_some, nat_le, nat_lt, pos, negsuc}
use Rattle.std.proofs.lemmas.Bool.Decides.{nat_tests}
use Rattle.mux_frame.specs.Spelling.{MuxFrame}
use Rattle.mux_message.specs.Content.{Content, tdispatch, tdiscarded, tdrain, rdrain, tlease, treq, tinit, rerr, other}
use Rattle.mux_message.specs.Kinds.{is_asking, is_dispatch}
use Rattle.mux_message.specs.Made.{is_probe}
use Rattle.mux_message.specs.Parts.{kind_in}
use Rattle.mux_message.specs.Reading.{message_of}
use Rattle.mux_message.specs.declared.fault.MessageFault.{MessageFault}
use Rattle.mux_history.specs.declared.kind.Cause.{Cause}
use Rattle.mux_history.specs.declared.kind.Cause.TheVariants.{TagZero, TagInUse}
use Rattle.mux_history.specs.declared.session.DrainState.{DrainState}
use Rattle.mux_history.specs.declared.session.DrainState.TheVariants as drains
use Rattle.mux_history.specs.declared.session.SessionId.TheVariants.{Client}
use Rattle.mux_history.specs.Readings.{has_ended, dispatches, book, drain_of, is_acked, is_draining, is_fresh}
use Rattle.mux_model.specs.Steps.{Step, FrameCall, Outcome, Recorded, records, entries, entry_of, closing, cause_of}
use Rattle.mux_model.specs.Tags.{Holder, holder, is_open}
use Rattle.mux_model.specs.Down.{DownSession, down, Reaction, Shut, Full, Short, Closes, NacksDrained, Takes, Discards, Ignores, Unsupports, Inits, Misplaced, Echoes, Acks, asks_other, reacted, by_message, by_content, with_room, for_taking, last_seq, free_out as out_left, free_records as records_left}
use Rattle.gate.specs.Drains.{answers as acks}
use Rattle.translate_book.specs.declared.refusal.StepRefusal.{StepRefusal}
use Rattle.translate_book.specs.declared.refusal.StepRefusal.TheVariants as steps
use Rattle.translate_book.specs.Book.{open_at}
use Rattle.server_session.specs.Past.{Past}
use Rattle.server_session.specs.State.{State, figures_in, is_fresh_init, asked_on_one, kind_by, sends_by}
use Rattle.server_session.specs.Belonging.{Belongs, IsHeldBy}
use Rattle.server_session.specs.Decide.{closing_cause, room_refusal, why_step, is_plain, plainly}
use Rattle.server_session.proofs.Naming.{and_false, and_true}
use Rattle.server_session.proofs.Figures.{figures_same}
use Rattle.server_session.proofs.Calls.{decided}

-- what `down` answers to a frame
abbrev pub Frames : Past → MuxFrame → ℕ → Outcome
Frames p f now = down p.session p.steps (length p.out) (FrameCall f now)

-- a cause to close, or else a reaction
abbrev pub caused : DownSession → List Step → MuxFrame → ℕ → Option Cause → Reaction → Outcome
caused c past f now None r = reacted c past f now r
caused c past f now (Some cause) r = Recorded (closing (records past) now cause) []

frame_by : (p : Past) (f : MuxFrame) (now : ℕ) (ended : Bool) → has_ended (records p.steps) ≡ ended
    → Frames p f now ≡ reacted p.session p.steps f now (cond ended Shut (by_message p.session p.steps (length p.out) f.tag (message_of f)))
frame_by p f now ended e =
    ap (λ (z : Bool). reacted p.session p.steps f now (cond z Shut (by_message p.session p.steps (length p.out) f.tag (message_of f)))) e

read_by : (p : Past) (f : MuxFrame) (now : ℕ) (r : Result Content MessageFault) → has_ended (records p.steps) ≡ false → message_of f ≡ r
    → Frames p f now ≡ reacted p.session p.steps f now (by_message p.session p.steps (length p.out) f.tag r)
read_by p f now r e read =
    frame_by p f now false e
    ∙ ap (λ (m : Result Content MessageFault). reacted p.session p.steps f now (by_message p.session p.steps (length p.out) f.tag m)) read

pub fault_told : (p : Past) (f : MuxFrame) (now : ℕ) (fault : MessageFault) → has_ended (records p.steps) ≡ false → message_of f ≡ Err fault
    → Frames p f now ≡ Recorded (closing (records p.steps) now (cause_of fault)) []
fault_told p f now fault e read = read_by p f now (Err fault) e read

-- what is open on a tag by the list is so by the entries
pub open_same : (c : DownSession) (h : Option Holder) (o : Option ℕ) → IsHeldBy c h o → is_some h ≡ is_some o
open_same c None None i = refl
open_same c None (Some seq) i = absurd i
open_same c (Some h) None i = absurd i
open_same c (Some h) (Some seq) i = refl

cause_chain : (c : DownSession) (past : List Step) (f : MuxFrame) (now : ℕ) (a b : Bool) (r : Reaction)
    → reacted c past f now (cond a (Closes TagZero) (cond b (Closes TagInUse) r)) ≡ caused c past f now (cond a (Some TagZero) (cond b (Some TagInUse) None)) r
cause_chain c past f now true b r = refl
cause_chain c past f now false true r = refl
cause_chain c past f now false false r = refl

-- a message closes the session, or leads on to what it finds room for
pub message_told : (s : State) (p : Past) (f : MuxFrame) (now : ℕ) (m : Content) → Belongs s p → s.closed ≡ false → message_of f ≡ Ok m
    → (o : Option Cause) → closing_cause (is_some (open_at f.tag s.book)) f.tag (kind_in m) ≡ o
    → Frames p f now ≡ caused p.session p.steps f now o (with_room p.session p.steps (length p.out) f.tag m)
message_told s p f now m b up read o is =
    let going = sym b.closed ∙ up in
    let next = with_room p.session p.steps (length p.out) f.tag m in
    read_by p f now (Ok m) going read
    ∙ cause_chain p.session p.steps f now (is_dispatch (kind_in m) && f.tag == 0) (is_asking (kind_in m) && is_open (Client p.session.number) f.tag (entries p.steps)) next
    ∙ ap (λ (z : Bool). caused p.session p.steps f now (closing_cause z f.tag (kind_in m)) next)
    (open_same p.session (holder (Client p.session.number) f.tag (entries p.steps)) (open_at f.tag s.book) (b.held going f.tag))
    ∙ ap (λ (x : Option Cause). caused p.session p.steps f now x next) is

room_chain : (c : DownSession) (past : List Step) (f : MuxFrame) (now : ℕ) (a b d e : Bool) (r : Reaction)
    → reacted c past f now (cond a Full (cond b Full (cond d Short (cond e Short r))))
    ≡ decided why_step (cond a (Some steps.Busy) (cond b (Some steps.Busy) (cond d (Some steps.Spent) (cond e (Some steps.Spent) None)))) (reacted c past f now r)
room_chain c past f now true b d e r = refl
room_chain c past f now false true d e r = refl
room_chain c past f now false false true e r = refl
room_chain c past f now false false false true r = refl
room_chain c past f now false false false false r = refl

-- a message that doesn't close the session is refused for want of room, or answered by its content
pub content_told : (s : State) (p : Past) (f : MuxFrame) (now : ℕ) (m : Content) → Belongs s p → s.closed ≡ false → message_of f ≡ Ok m
    → closing_cause (is_some (open_at f.tag s.book)) f.tag (kind_in m) ≡ None
    → (o : Option StepRefusal) → room_refusal (figures_in s) (kind_in m) ≡ o
    → Frames p f now ≡ decided why_step o (reacted p.session p.steps f now (by_content p.session p.steps f.tag m))
content_told s p f now m b up read none o is =
    let taking = is_dispatch (kind_in m) && not (is_acked (drain_of (records p.steps))) in
    message_told s p f now m b up read None none
    ∙ room_chain p.session p.steps f now
    (out_left p.session p.steps (length p.out) == 0)
    (taking && nat_le p.session.limits.window (length (book (records p.steps))))
    (nat_lt (records_left p.session p.steps) (cond taking (for_taking p.session.limits) 1))
    (is_dispatch (kind_in m) && nat_le last_seq (dispatches (records p.steps)))
    (by_content p.session p.steps f.tag m)
    ∙ ap (λ (x : Option StepRefusal). decided why_step x (reacted p.session p.steps f now (by_content p.session p.steps f.tag m)))
    (ap (λ z. room_refusal z (kind_in m)) (sym (figures_same s p b)) ∙ is)

-- A MESSAGE THAT IS NEITHER A DISPATCH NOR A TDISCARDED

one_same : (t : ℕ) → (1 == t) ≡ (t == 1)
one_same t = grind (arith, nat_tests)

-- an Rdrain answers the Tdrain, which went out on tag 1
acks_same : (t : ℕ) (d : DrainState) → acks t (asked_on_one d) ≡ (t == 1 && is_draining d)
acks_same t drains.Running = sym (and_false (t == 1))
acks_same t drains.Asked = one_same t ∙ sym (and_true (t == 1))
acks_same t drains.Acked = sym (and_false (t == 1))

content_plain : (c : DownSession) (past : List Step) (t : ℕ) (m : Content) → is_plain (kind_in m) ≡ true
    → by_content c past t m ≡ plainly (is_fresh (records past)) (t == 1 && is_draining (drain_of (records past))) t m
content_plain c past t (tdispatch _ _ _ _) h = cc
content_plain c past t (tdiscarded _ _) h = cc
content_plain c past t (other (pos n) _) h = refl
content_plain c past t (other (negsuc n) _) h = refl
content_plain c past t _ h = refl

-- a reaction in the table
abbrev is_row : Reaction → Bool
is_row Shut = false
is_row Full = false
is_row Short = false
is_row (Closes cause) = false
is_row NacksDrained = false
is_row Takes = false
is_row (Discards t why) = false
is_row _ = true

either : (b : Bool) (x y : Reaction) → is_row x ≡ true → is_row y ≡ true → is_row (cond b x y) ≡ true
either true x y p q = p
either false x y p q = q

plainly_row : (fresh z : Bool) (t : ℕ) (m : Content) → is_row (plainly fresh z t m) ≡ true
plainly_row fresh z t (tinit _ _) = either fresh Inits Misplaced refl refl
plainly_row fresh z t (treq _) = either (t == 0) Ignores Unsupports refl refl
plainly_row fresh z t tdrain = either (t == 0) Ignores Unsupports refl refl
plainly_row fresh z t (tlease _ _) = either (t == 0) Ignores Unsupports refl refl
plainly_row fresh z t (other (pos n) _) = either (n == 0) Ignores (asks_other t) refl (either (t == 0) Ignores Unsupports refl refl)
plainly_row fresh z t (other (negsuc n) _) = refl
plainly_row fresh z t (rerr why) = either (is_probe t why && fresh) Echoes Ignores refl refl
plainly_row fresh z t rdrain = either z Acks Ignores refl refl
plainly_row fresh z t _ = refl

row_told : (c : DownSession) (past : List Step) (f : MuxFrame) (now : ℕ) (r : Reaction) → is_row r ≡ true
    → reacted c past f now r ≡ Recorded (entry_of (records past) now (kind_by r) f.tag None (Some f) (sends_by r f)) []
row_told c past f now Shut h = cc
row_told c past f now Full h = cc
row_told c past f now Short h = cc
row_told c past f now (Closes cause) h = cc
row_told c past f now NacksDrained h = cc
row_told c past f now Takes h = cc
row_told c past f now (Discards t why) h = cc
row_told c past f now _ h = refl

-- what the state makes of a message is what the list makes of it
abbrev pub row_of : State → ℕ → Content → Reaction
row_of s t m = plainly (is_fresh_init s.init) (acks t s.drain) t m

pub row_same : (s : State) (p : Past) (t : ℕ) (m : Content) → Belongs s p → is_plain (kind_in m) ≡ true → by_content p.session p.steps t m ≡ row_of s t m
row_same s p t m b plain =
    content_plain p.session p.steps t m plain
    ∙ ap (λ (z : Bool). plainly (is_fresh (records p.steps)) z t m) (sym (ap (acks t) b.drain ∙ acks_same t (drain_of (records p.steps))))
    ∙ ap (λ (z : Bool). plainly z (acks t s.drain) t m) (sym b.init)

pub plain_told : (s : State) (p : Past) (f : MuxFrame) (now : ℕ) (m : Content) → Belongs s p → s.closed ≡ false → message_of f ≡ Ok m
    → closing_cause (is_some (open_at f.tag s.book)) f.tag (kind_in m) ≡ None
    → room_refusal (figures_in s) (kind_in m) ≡ None → is_plain (kind_in m) ≡ true
    → Frames p f now ≡ Recorded (entry_of (records p.steps) now (kind_by (row_of s f.tag m)) f.tag None (Some f) (sends_by (row_of s f.tag m) f)) []
plain_told s p f now m b up read none room plain =
    content_told s p f now m b up read none None room
    ∙ ap (reacted p.session p.steps f now) (row_same s p f.tag m b plain)
    ∙ row_told p.session p.steps f now (row_of s f.tag m) (plainly_row (is_fresh_init s.init) (acks f.tag s.drain) f.tag m)
