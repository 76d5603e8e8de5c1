-- What the figures of a list decide is what `up` answers.
use Rattle.std.proofs.Common.{◌≡◌, ℕ, ◌*◌, Bool, true, false, cond, List, [], length, ◌∷◌, Result, Option, None, Some, Ok, Err, refl, sym, ◌∙◌, ap, subst}
use Rattle.std.specs.Prelude.{◌+◌, sum_by, not, ◌==◌, ◌&&◌, ◌||◌, max, nat_le, nat_lt, pos, negsuc}
use Rattle.std.specs.FinMap as map
use Rattle.mux_frame.specs.Spelling.{MuxFrame}
use Rattle.mux_message.specs.Content.{Content, tdispatch, tlease, tinit, rinit, rping, treq, rerr, other}
use Rattle.mux_message.specs.Kinds.{is_final}
use Rattle.mux_message.specs.Made.{tping_on, retag, tdiscarded_for}
use Rattle.mux_message.specs.Parts.{kind_in}
use Rattle.mux_message.specs.Reading.{message_of}
use Rattle.mux_message.specs.declared.fault.MessageFault.{MessageFault}
use Rattle.mux_history.specs.Lapse.{granted, has_lapsed}
use Rattle.mux_history.specs.Standings.{up_standing}
use Rattle.mux_history.specs.declared.name.Name.{Name}
use Rattle.mux_history.specs.declared.kind.RecordKind.TheVariants as kinds
use Rattle.mux_history.specs.declared.session.InitState.{InitState}
use Rattle.mux_history.specs.declared.session.InitState.TheVariants.{Probing, Asked, Open}
use Rattle.mux_history.specs.declared.session.SessionId.TheVariants.{Server}
use Rattle.mux_history.specs.Readings.{has_ended, stands, is_retiring, reading, ping_outstanding, is_open as is_ready, sendings, sending_on, epoch_of}
use Rattle.mux_model.specs.Tags.{Holder, holder}
use Rattle.mux_model.specs.Steps.{Step, ClockCall, RetireCall, PingCall, OfferCall, FrameCall, RecallCall, SealCall, RollCall, Refusal, IsClosed, IsBusy, IsSpent, NotOpen, IsDrained, IsRetired, IsLapsed, IsFull, Outstanding, NotQuiet, NotFull, LastEpoch, NoRoom, last_epoch, Outcome, Refused, Unrecorded, Recorded, PlacedAt, SettledBy, entries, records, entry_of, closing, sealing, rolling, cause_of, queued}
use Rattle.mux_model.specs.Up.{UpSession, up, init_of, is_lapsed, free_out as out_left, free_records as records_left, is_drained, Reaction, Ignores, Unsupports, AsksInit, EndsInit, EndsPing, Drops, Shut, Full, Short, Closes, Settles, reacted, with_holder, held_for, by_message, by_content, asks_other, leases, plainly, settled_kind, copy_on, is_recallable, kept_for}
use Rattle.translate_book.specs.Values.{TicketView}
use Rattle.translate_book.specs.declared.refusal.OfferRefusal.{OfferRefusal}
use Rattle.translate_book.specs.declared.refusal.OfferRefusal.TheVariants as offers
use Rattle.translate_book.specs.declared.refusal.SealRefusal.TheVariants as seals
use Rattle.translate_book.specs.declared.refusal.RollRefusal.TheVariants as rolls
use Rattle.translate_book.specs.declared.refusal.StepRefusal.TheVariants as steps
use Rattle.client_session.specs.declared.answers.PingRefusal.{PingRefusal}
use Rattle.client_session.specs.declared.answers.PingRefusal.TheVariants as pings
use Rattle.client_session.specs.Past.{Past, Figures, figures_of, Dispatch, open_of, dispatch_on}
use Rattle.client_session.specs.Decide.{free_out, free_records, offer_refusal, record_refusal, ping_refusal, room_refusal, seal_refusal, roll_refusal, why_offer, why_step, why_ping, why_seal, why_roll, can_recall}
use Rattle.client_session.specs.Steps.{told_by, Tells, given_by, IsTurnedAway}
use Rattle.client_session.specs.State.{State, kind_by, sends_by}
use Rattle.client_session.specs.Belonging.{Belongs}
use Rattle.client_session.proofs.Deciding.{get_same}
use Rattle.client_session.proofs.Lists.{recallable}

-- a refusal, or else what is recorded
abbrev pub decided : {A : Type 0} → (A → Refusal) → Option A → Outcome → Outcome
decided why None rest = rest
decided why (Some r) rest = Refused (why r)

-- what a refused offer is answered
abbrev pub turned : Option Refusal → Outcome → Outcome
turned None rest = rest
turned (Some why) rest = Refused why

abbrev pub offered : Option OfferRefusal → Outcome → Outcome
offered None rest = rest
offered (Some r) rest = turned (why_offer r) rest

offer_chain : (a b c d e f g h : Bool) (rest : Outcome)
    → cond a (Refused IsClosed) (cond b (Refused NotOpen) (cond c (Refused IsDrained) (cond d (Refused IsRetired) (cond e (Refused IsLapsed) (cond f (Refused IsFull) (cond g (Refused IsFull) (cond h (Refused IsSpent) rest)))))))
    ≡ offered (cond a (Some offers.Closed) (cond b (Some offers.NotOpen) (cond c (Some offers.Drained) (cond d (Some offers.Retired) (cond e (Some offers.Lapsed) (cond f (Some offers.Full) (cond g (Some offers.Full) (cond h (Some offers.Spent) None)))))))) rest
offer_chain true b c d e f g h rest = refl
offer_chain false true c d e f g h rest = refl
offer_chain false false true d e f g h rest = refl
offer_chain false false false true e f g h rest = refl
offer_chain false false false false true f g h rest = refl
offer_chain false false false false false true g h rest = refl
offer_chain false false false false false false true h rest = refl
offer_chain false false false false false false false true rest = refl
offer_chain false false false false false false false false rest = refl

pub offer_told : (p : Past) (t : ℕ) (n : Name) (f : MuxFrame) (left now : ℕ)
    → up p.session p.steps (length p.out) t (OfferCall n f left now)
    ≡ offered (offer_refusal (figures_of p) now)
    (Recorded (entry_of (records p.steps) now kinds.Offered t (Some n) None (Some (retag t f))) (PlacedAt n p.session.number t ∷ []))
offer_told p t n f left now =
    offer_chain
    (has_ended (records p.steps))
    (not (is_ready (init_of p.session (records p.steps))))
    (is_drained (entries p.steps))
    (stands is_retiring (records p.steps))
    (is_lapsed (entries p.steps) (max (reading (records p.steps)) now))
    (nat_le p.session.limits.window (length (sendings (records p.steps))))
    (nat_lt (out_left p.session p.steps (length p.out)) 2)
    (nat_lt (records_left p.session p.steps) 3)
    (Recorded (entry_of (records p.steps) now kinds.Offered t (Some n) None (Some (retag t f))) (PlacedAt n p.session.number t ∷ []))

-- a cause that the figures give is one of the step relation's
abbrev IsCause : Option OfferRefusal → Type 0
IsCause None = Unit {0}
IsCause (Some r) = (w : Refusal) × (why_offer r ≡ Some w)

cause_chain : (a b c d e f g h : Bool)
    → IsCause (cond a (Some offers.Closed) (cond b (Some offers.NotOpen) (cond c (Some offers.Drained) (cond d (Some offers.Retired) (cond e (Some offers.Lapsed) (cond f (Some offers.Full) (cond g (Some offers.Full) (cond h (Some offers.Spent) None))))))))
cause_chain true b c d e f g h = (IsClosed, refl)
cause_chain false true c d e f g h = (NotOpen, refl)
cause_chain false false true d e f g h = (IsDrained, refl)
cause_chain false false false true e f g h = (IsRetired, refl)
cause_chain false false false false true f g h = (IsLapsed, refl)
cause_chain false false false false false true g h = (IsFull, refl)
cause_chain false false false false false false true h = (IsFull, refl)
cause_chain false false false false false false false true = (IsSpent, refl)
cause_chain false false false false false false false false = tt

is_cause : (f : Figures) (now : ℕ) → IsCause (offer_refusal f now)
is_cause f now =
    cause_chain f.closed (not (is_ready f.init)) f.drained f.retired (has_lapsed f.lapse (max f.reading now)) (nat_le f.limits.window f.load)
    (nat_lt (free_out f) 2) (nat_lt (free_records f) 3)

-- an offer that is refused by the figures is turned away, whatever tag it may choose
pub turned_away : (p : Past) (t : ℕ) (ticket : TicketView) (now : ℕ) (r : OfferRefusal) → offer_refusal (figures_of p) now ≡ Some r
    → IsTurnedAway p t ticket now (why_offer r)
turned_away p t ticket now r is =
    let cause = subst IsCause is (is_cause (figures_of p) now) in
    let rest = Recorded (entry_of (records p.steps) now kinds.Offered t (Some ticket.name) None (Some (retag t ticket.frame))) (PlacedAt ticket.name p.session.number t ∷ []) in
    subst (λ (o : Option Refusal). IsTurnedAway p t ticket now o) (sym cause.1)
    (offer_told p t ticket.name ticket.frame ticket.left now ∙ ap (λ (o : Option OfferRefusal). offered o rest) is ∙ ap (λ (o : Option Refusal). turned o rest) cause.1)

record_chain : (a b : Bool) (rest : Outcome)
    → cond a (Refused IsClosed) (cond b (Refused IsSpent) rest) ≡ decided why_step (cond a (Some steps.Closed) (cond b (Some steps.Spent) None)) rest
record_chain true b rest = refl
record_chain false true rest = refl
record_chain false false rest = refl

pub clock_told : (p : Past) (now : ℕ)
    → up p.session p.steps (length p.out) 0 (ClockCall now)
    ≡ decided why_step (record_refusal (figures_of p)) (Recorded (entry_of (records p.steps) now kinds.Clock 0 None None None) [])
clock_told p now = record_chain (has_ended (records p.steps)) (records_left p.session p.steps == 0) _

pub retire_told : (p : Past) (now : ℕ)
    → up p.session p.steps (length p.out) 0 (RetireCall now)
    ≡ decided why_step (record_refusal (figures_of p)) (Recorded (entry_of (records p.steps) now kinds.Retired 0 None None None) [])
retire_told p now = record_chain (has_ended (records p.steps)) (records_left p.session p.steps == 0) _

ping_chain : (a b c d e : Bool) (rest : Outcome)
    → cond a (Refused IsClosed) (cond b (Refused NotOpen) (cond c (Refused Outstanding) (cond d (Refused IsBusy) (cond e (Refused IsSpent) rest))))
    ≡ decided why_ping (cond a (Some pings.Closed) (cond b (Some pings.NotOpen) (cond c (Some pings.Outstanding) (cond d (Some pings.Busy) (cond e (Some pings.Spent) None))))) rest
ping_chain true b c d e rest = refl
ping_chain false true c d e rest = refl
ping_chain false false true d e rest = refl
ping_chain false false false true e rest = refl
ping_chain false false false false true rest = refl
ping_chain false false false false false rest = refl

pub ping_told : (p : Past) (now : ℕ)
    → up p.session p.steps (length p.out) 0 (PingCall now)
    ≡ decided why_ping (ping_refusal (figures_of p)) (Recorded (entry_of (records p.steps) now kinds.PingSent 1 None None (Some (tping_on 1))) [])
ping_told p now =
    ping_chain (has_ended (records p.steps)) (not (is_ready (init_of p.session (records p.steps)))) (ping_outstanding (records p.steps))
    (out_left p.session p.steps (length p.out) == 0) (records_left p.session p.steps == 0) _

seal_chain : (a b c d : Bool) (rest : Outcome)
    → cond a (Refused IsClosed) (cond b (Refused NotQuiet) (cond c (Refused NotFull) (cond d (Refused LastEpoch) rest)))
    ≡ decided why_seal (cond a (Some seals.Closed) (cond b (Some seals.NotQuiet) (cond c (Some seals.NotFull) (cond d (Some seals.LastEpoch) None)))) rest
seal_chain true b c d rest = refl
seal_chain false true c d rest = refl
seal_chain false false true d rest = refl
seal_chain false false false true rest = refl
seal_chain false false false false rest = refl

pub seal_told : (p : Past)
    → up p.session p.steps (length p.out) 0 SealCall
    ≡ decided why_seal (seal_refusal (figures_of p)) (Recorded (sealing (records p.steps) (up_standing p.session.mode (records p.steps))) [])
seal_told p =
    seal_chain (has_ended (records p.steps))
    (nat_lt 0 (length (sendings (records p.steps))) || nat_lt 0 (queued (entries p.steps) (length p.out)))
    (nat_lt p.session.limits.history (4 * records_left p.session p.steps))
    (nat_le last_epoch (epoch_of (records p.steps))) _

roll_chain : (a b c : Bool) (rest : Outcome)
    → cond a (Refused IsClosed) (cond b (Refused NoRoom) (cond c (Refused LastEpoch) rest))
    ≡ decided why_roll (cond a (Some rolls.Closed) (cond b (Some rolls.NoRoom) (cond c (Some rolls.LastEpoch) None))) rest
roll_chain true b c rest = refl
roll_chain false true c rest = refl
roll_chain false false true rest = refl
roll_chain false false false rest = refl

pub roll_told : (p : Past)
    → up p.session p.steps (length p.out) 0 RollCall
    ≡ decided why_roll (roll_refusal (figures_of p)) (Recorded (rolling (records p.steps)) [])
roll_told p =
    roll_chain (has_ended (records p.steps))
    (nat_lt p.session.limits.history (2 * (length (sendings (records p.steps)) + sum_by kept_for (sendings (records p.steps)))))
    (nat_le last_epoch (epoch_of (records p.steps))) _

-- A FRAME

abbrev Frames : Past → MuxFrame → ℕ → Outcome
Frames p f now = up p.session p.steps (length p.out) 0 (FrameCall f now)

-- by what is known of the list's end and of the reading of the body
frame_by : (p : Past) (f : MuxFrame) (now : ℕ) (ended : Bool) → has_ended (records p.steps) ≡ ended
    → Frames p f now ≡ reacted p.session p.steps f now (cond ended Shut (by_message p.session p.steps (length p.out) f.tag (message_of f)))
frame_by p f now ended e =
    ap (λ (z : Bool). reacted p.session p.steps f now (cond z Shut (by_message p.session p.steps (length p.out) f.tag (message_of f)))) e

pub shut_told : (p : Past) (f : MuxFrame) (now : ℕ) → has_ended (records p.steps) ≡ true → Frames p f now ≡ Refused IsClosed
shut_told p f now e = frame_by p f now true e

pub fault_told : (p : Past) (f : MuxFrame) (now : ℕ) (fault : MessageFault) → has_ended (records p.steps) ≡ false → message_of f ≡ Err fault
    → Frames p f now ≡ Recorded (closing (records p.steps) now (cause_of fault)) []
fault_told p f now fault e read =
    frame_by p f now false e
    ∙ ap (λ (m : Result Content MessageFault). reacted p.session p.steps f now (by_message p.session p.steps (length p.out) f.tag m)) read

message_by : (p : Past) (f : MuxFrame) (now : ℕ) (m : Content) (h : Option Holder) → has_ended (records p.steps) ≡ false → message_of f ≡ Ok m
    → held_for p.session p.steps f.tag m ≡ h
    → Frames p f now ≡ reacted p.session p.steps f now (with_holder p.session p.steps (length p.out) f.tag m h)
message_by p f now m h e read held =
    frame_by p f now false e
    ∙ ap (λ (r : Result Content MessageFault). reacted p.session p.steps f now (by_message p.session p.steps (length p.out) f.tag r)) read
    ∙ ap (λ (o : Option Holder). reacted p.session p.steps f now (with_holder p.session p.steps (length p.out) f.tag m o)) held

pub settled_told : (p : Past) (f : MuxFrame) (now : ℕ) (m : Content) (h : Holder) (n : Name) → has_ended (records p.steps) ≡ false → message_of f ≡ Ok m
    → is_final (kind_in m) ≡ true → holder (Server p.session.number) f.tag (entries p.steps) ≡ Some h → h.name ≡ Some n
    → Frames p f now ≡ Recorded (entry_of (records p.steps) now (settled_kind f) f.tag (Some n) (Some f) None) (SettledBy n f (copy_on f.tag p.steps) ∷ [])
settled_told p f now m h n e read final held name =
    message_by p f now m (Some h) e read
    (ap (λ (z : Bool). cond z (holder (Server p.session.number) f.tag (entries p.steps)) None) final ∙ held)
    ∙ ap (λ (o : Option Name). reacted p.session p.steps f now (Settles o (copy_on f.tag p.steps))) name

room_chain : (s : UpSession) (past : List Step) (f : MuxFrame) (now : ℕ) (a b : Bool) (r : Reaction)
    → reacted s past f now (cond a Full (cond b Short r)) ≡ decided why_step (cond a (Some steps.Busy) (cond b (Some steps.Spent) None)) (reacted s past f now r)
room_chain s past f now true b r = refl
room_chain s past f now false true r = refl
room_chain s past f now false false r = refl

-- a reaction in the table
abbrev pub is_plain : Reaction → Bool
is_plain Shut = false
is_plain Full = false
is_plain Short = false
is_plain (Closes cause) = false
is_plain (Settles name again) = false
is_plain _ = true

either : (b : Bool) (x y : Reaction) → is_plain x ≡ true → is_plain y ≡ true → is_plain (cond b x y) ≡ true
either true x y p q = p
either false x y p q = q

plainly_plain : (init : InitState) (ping : Bool) (t : ℕ) (m : Content) → is_plain (plainly init ping t m) ≡ true
plainly_plain init ping t (tlease unit howmuch) = by (granted unit howmuch)
  where
    by : (o : Option ℕ) → is_plain (leases o) ≡ true
    by None = refl
    by (Some ms) = refl
plainly_plain init ping t (treq _) = either (t == 0) Ignores Unsupports refl refl
plainly_plain init ping t (tdispatch _ _ _ _) = either (t == 0) Ignores Unsupports refl refl
plainly_plain init ping t (tinit _ _) = either (t == 0) Ignores Unsupports refl refl
plainly_plain init ping t (other (pos n) _) = either (n == 0) Drops (asks_other t) refl (either (t == 0) Ignores Unsupports refl refl)
plainly_plain init ping t (other (negsuc n) _) = refl
plainly_plain Probing ping t (rerr why) = either (t == 1) _ Drops (either _ AsksInit EndsInit refl refl) refl
plainly_plain Asked ping t (rerr why) = either (t == 1) EndsInit Drops refl refl
plainly_plain Open ping t (rerr why) = either (t == 1 && ping) EndsPing Drops refl refl
plainly_plain Asked ping t (rinit v h) = either (t == 1) EndsInit Drops refl refl
plainly_plain Probing ping t (rinit v h) = refl
plainly_plain Open ping t (rinit v h) = refl
plainly_plain init ping t rping = either (is_ready init && ping && t == 1) EndsPing Drops refl refl
plainly_plain init ping t _ = refl

plain_told : (s : UpSession) (past : List Step) (f : MuxFrame) (now : ℕ) (r : Reaction) → is_plain r ≡ true
    → reacted s past f now r ≡ Recorded (entry_of (records past) now (kind_by r) f.tag None (Some f) (sends_by r f.tag)) (given_by (told_by r))
plain_told s past f now Shut h = cc
plain_told s past f now Full h = cc
plain_told s past f now Short h = cc
plain_told s past f now (Closes cause) h = cc
plain_told s past f now (Settles name again) h = cc
plain_told s past f now _ h = refl

pub plainly_tells : (init : InitState) (ping : Bool) (t : ℕ) (m : Content) → Tells (told_by (plainly init ping t m)) (kind_by (plainly init ping t m))
plainly_tells init ping t m = by (plainly init ping t m) (plainly_plain init ping t m)
  where
    by : (r : Reaction) → is_plain r ≡ true → Tells (told_by r) (kind_by r)
    by Shut h = cc
    by Full h = cc
    by Short h = cc
    by (Closes cause) h = cc
    by (Settles name again) h = cc
    by _ h = refl

unheld : (final : Bool) (h : Option Holder) → (final ≡ true → h ≡ None) → cond final h None ≡ None
unheld true h free = free refl
unheld false h free = refl

-- a message that settles nothing is refused for want of room, or answered by the table
pub message_told : (p : Past) (f : MuxFrame) (now : ℕ) (m : Content) → has_ended (records p.steps) ≡ false → message_of f ≡ Ok m
    → (is_final (kind_in m) ≡ true → holder (Server p.session.number) f.tag (entries p.steps) ≡ None)
    → (r : Reaction) → r ≡ plainly (init_of p.session (records p.steps)) (ping_outstanding (records p.steps)) f.tag m
    → Frames p f now ≡ decided why_step (room_refusal (figures_of p))
    (Recorded (entry_of (records p.steps) now (kind_by r) f.tag None (Some f) (sends_by r f.tag)) (given_by (told_by r)))
message_told p f now m e read free r is =
    message_by p f now m None e read (unheld (is_final (kind_in m)) _ free)
    ∙ room_chain p.session p.steps f now (out_left p.session p.steps (length p.out) == 0) (records_left p.session p.steps == 0) (by_content p.session p.steps f.tag m)
    ∙ ap (decided why_step (room_refusal (figures_of p)))
    (ap (reacted p.session p.steps f now) (sym is)
    ∙ plain_told p.session p.steps f now r (ap is_plain is ∙ plainly_plain _ _ f.tag m))

-- A RECALL

recall_by : (ended found : Bool) (rest : Outcome) → cond ended Unrecorded (cond found rest Unrecorded) ≡ cond (not ended && found) rest Unrecorded
recall_by true found rest = refl
recall_by false found rest = refl

pub recall_told : (s : State) (p : Past) (n : Name) (t : ℕ) (why : List ℕ) (now : ℕ) → Belongs s p
    → up p.session p.steps (length p.out) 0 (RecallCall n t why now)
    ≡ cond (can_recall s.closed (map.get s.entries t) n)
    (Recorded (entry_of (records p.steps) now kinds.Discarding t (Some n) None (Some (tdiscarded_for t why))) []) Unrecorded
recall_told s p n t why now b =
    let rest : Outcome = Recorded (entry_of (records p.steps) now kinds.Discarding t (Some n) None (Some (tdiscarded_for t why))) [] in
    recall_by (has_ended (records p.steps)) (is_recallable n (sending_on t (sendings (records p.steps)))) rest
    ∙ ap (λ (z : Bool). cond z rest Unrecorded) (recallable p.steps (has_ended (records p.steps)) n t (sendings (records p.steps)))
    ∙ ap (λ (z : Bool). cond (can_recall z (dispatch_on t (open_of p.steps)) n) rest Unrecorded) (sym b.closed)
    ∙ ap (λ (o : Option Dispatch). cond (can_recall s.closed o n) rest Unrecorded) (sym (get_same s p b t))

-- WHAT A DECISION TELLS OF THE FIGURES

pub no_ping : (f : Figures) → ping_refusal f ≡ None → f.ping ≡ false
no_ping f h = by f.closed (not (is_ready f.init)) f.ping _ h
  where
    by : (a b c : Bool) (rest : Option PingRefusal) → cond a (Some pings.Closed) (cond b (Some pings.NotOpen) (cond c (Some pings.Outstanding) rest)) ≡ None → c ≡ false
    by true b c rest h = cc
    by false true c rest h = cc
    by false false true rest h = cc
    by false false false rest h = refl

pub offered_up : (f : Figures) (now : ℕ) → offer_refusal f now ≡ None → f.closed ≡ false
offered_up f now h = by f.closed _ h
  where
    by : (a : Bool) (rest : Option OfferRefusal) → cond a (Some offers.Closed) rest ≡ None → a ≡ false
    by true rest h = cc
    by false rest h = refl

pub can_recall_held : (closed : Bool) (o : Option Dispatch) (n : Name) → can_recall closed o n ≡ true → (d : Dispatch) × (o ≡ Some d) × (closed ≡ false)
can_recall_held closed None n h = cc
can_recall_held true (Some d) n h = cc
can_recall_held false (Some d) n h = (d, refl, refl)
