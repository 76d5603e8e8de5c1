-- The steps of a session towards a server, in the common form.
use Rattle.std.proofs.Common.{◌≡◌, ◌++◌, ◌+◌, ℕ, List, [], ◌∷◌, Bool, Option, Some, None, Result, Ok, Err, refl, sym, ◌∙◌, ap, subst, length, true, false, if◌then◌else◌, append-nil, length-append}
use Rattle.std.specs.Option.{option_to_list}
use Rattle.mux_frame.specs.Views.{FrameView}
use Rattle.mux_frame.specs.Spelling.{MuxFrame}
use Rattle.mux_history.specs.Bounds.{Bounds}
use Rattle.mux_history.specs.Log.{Log}
use Rattle.mux_history.specs.Readings.{has_ended, epoch_of, sendings}
use Rattle.mux_history.specs.declared.record.Record.{Record}
use Rattle.mux_history.specs.declared.kind.RecordKind.{RecordKind}
use Rattle.mux_history.specs.declared.kind.RecordKind.TheVariants as kinds
use Rattle.translate_book.specs.Values.{TicketView}
use Rattle.translate_book.specs.declared.refusal.OfferRefusal.{OfferRefusal}
use Rattle.translate_book.specs.declared.refusal.OfferRefusal.TheVariants as offers
use Rattle.translate_book.specs.declared.refusal.StepRefusal.{StepRefusal}
use Rattle.translate_book.specs.declared.refusal.StepRefusal.TheVariants as stepped
use Rattle.translate_book.specs.declared.refusal.SealRefusal.{SealRefusal}
use Rattle.translate_book.specs.declared.refusal.SealRefusal.TheVariants as seals
use Rattle.translate_book.specs.declared.refusal.RollRefusal.{RollRefusal}
use Rattle.translate_book.specs.declared.refusal.RollRefusal.TheVariants as rolls
use Rattle.translate_book.specs.declared.placed.Placed.{Placed}
use Rattle.translate_book.specs.declared.sent.Lost.{Lost}
use Rattle.translate_book.specs.declared.recall.Recall.{Recall}
use Rattle.mux_message.specs.Content.{MessageView}
use Rattle.client_session.specs.declared.answers.PingRefusal.{PingRefusal}
use Rattle.client_session.specs.declared.answers.PingRefusal.TheVariants as pings
use Rattle.client_session.specs.declared.answers.Recalled.{Recalled}
use Rattle.client_session.specs.declared.answers.Recalled.TheVariants as recalls
use Rattle.client_session.specs.declared.answers.UpStep.{UpStep}
use Rattle.client_session.specs.declared.answers.UpStep.TheVariants as steps
use Rattle.client_session.specs.State.{State, frame_in as frame_there}
use Rattle.client_session.specs.Past.{Past}
use Rattle.client_session.specs.Belonging.{Belongs, StepsBy}
use Rattle.client_session.specs.Decide as decide
use Rattle.client_session.specs.Steps.{next, Answers, Records, OfferStep, FrameStep, NoteStep, PingStep, LoseStep, LoseNextStep, RecallStep, SealStep, RollStep, TakeOutStep, recalling, given_by, Tells, is_silent}
use Rattle.mux_model.specs.Entries.{Exchange, said_by}
use Rattle.mux_model.specs.Steps.{SettledBy, Call, FrameCall, OfferCall, LoseCall, LoseNextCall, SealCall, RollCall, Outcome, Refused, Unrecorded, Recorded, Step, Refusal, records, entries, entry_of, sent_at, is_nack, sealing, rolling, queued, last_epoch, NoRoom, IsClosed, NotQuiet, NotFull, LastEpoch}
use Rattle.mux_model.specs.Up.{up, MayChoose, UpSession, free_records, kept_for}
use Rattle.mux_history.specs.Standings.{up_standing}
use Rattle.std.specs.Prelude.{◌||◌, ◌*◌, sum_by, nat_lt, nat_le}
use Rattle.mux_model.specs.World.{Connection, outcome, outcome_at, MayChooseAt, next_out}
use Rattle.core_world.specs.declared.calls.Gave.{Gave}
use Rattle.core_world.specs.declared.calls.Told.TheVariants as told
use Rattle.core_world.specs.declared.hands.Held.TheVariants as held
use Rattle.core_world.specs.declared.refusal.EventRefusal.{EventRefusal}
use Rattle.core_world.specs.declared.refusal.EventRefusal.TheVariants as refusals
use Rattle.core_world.specs.declared.refusal.Refusal.{Refusal as Why}
use Rattle.core_world.specs.Hands.{frame_in}
use Rattle.core_world.specs.Refusals.{refusal_of, why_step, why_seal, why_roll}
use Rattle.core_world.specs.Calls.{Led, Leads, TurnsAway, Gives, after, told_frame, told_seal, told_roll, told_by, on_record, held_in}
use Rattle.core_world.specs.Sides.{GivesOut, with_out}
use Rattle.router_core.specs.Gifts.{telling, giving, gave_up, why_offer, why_ping}
use Rattle.router_core.specs.Sides.{UpAt, up_past}

-- the relation of the connection is that of the session's past
up_is : (limits : Bounds) (number : ℕ) (s : State) (c : Connection) (u : UpAt limits number s c) (t : ℕ) (call : Call)
    → outcome limits c t call ≡ up (up_past limits number c u.out).session c.steps (length u.out) t call
up_is limits number s c u t call =
    ap (λ id. outcome_at limits c id t call) u.session
    ∙ ap (λ n. up (record { limits = limits; number = number; mode = c.mode }) c.steps n t call) (sym u.count)

past_after : (limits : Bounds) (number : ℕ) (c : Connection) (out : List MuxFrame) (call : Call) (o : Outcome)
    → next (up_past limits number c out) call o ≡ up_past limits number (after c call o) out
past_after limits number c out call (Recorded e gives) = refl
past_after limits number c out call Unrecorded = refl
past_after limits number c out call (Refused why) = refl

session_after : (c : Connection) (call : Call) (o : Outcome) → (after c call o).session ≡ c.session
session_after c call (Recorded e gives) = refl
session_after c call Unrecorded = refl
session_after c call (Refused why) = refl

out_after : (c : Connection) (call : Call) (o : Outcome) → (after c call o).out ≡ c.out
out_after c call (Recorded e gives) = refl
out_after c call Unrecorded = refl
out_after c call (Refused why) = refl

module _ (limits : Bounds) (number : ℕ) (s : State) (c : Connection) (u : UpAt limits number s c) where
  -- an answer over the past is one over the connection
  led : (new : State) (t : ℕ) (call : Call) (o : Outcome) (q : Past) → Answers (up_past limits number c u.out) t call o q → Belongs new q
      → (g : Gave) → Gives call o g → MayChoose (up_past limits number c u.out).session c.steps t call → Led limits c call g (UpAt limits number new)
  led new t call o q a b g gives may =
      record {
        tag = t;
        answer = o;
        is = up_is limits number s c u t call ∙ a.0;
        gives = gives;
        may = subst (λ id. MayChooseAt limits c id t call) (sym u.session) may;
        new = record {
          session = session_after c call o ∙ u.session;
          out = u.out;
          count = u.count ∙ sym (out_after c call o);
          belongs = subst (λ p. Belongs new p) (a.1 ∙ past_after limits number c u.out call o) b;
        };
      }

  turned : (call : Call) (why : Why) (w : Refusal) (q : Past) → Answers (up_past limits number c u.out) 0 call (Refused w) q → w ≡ refusal_of why → (t : ℕ) × (outcome limits c t call ≡ Refused (refusal_of why))
  turned call why w q a is = (0, up_is limits number s c u 0 call ∙ a.0 ∙ ap (λ x. Refused x) is)

-- the calls that choose no tag
abbrev pub ChoosesNone : Call → Type 0
ChoosesNone call = (s : UpSession) (past : List Step) → MayChoose s past 0 call

silent : (k : RecordKind) → is_silent k ≡ true → told_frame k ≡ told.Nothing
silent kinds.Dropped e = absurd (cc)
silent (kinds.Closed cause) e = absurd (cc)
silent _ e = refl

same_copy : (o : Option MessageView) → frame_there o ≡ frame_in o
same_copy None = refl
same_copy (Some m) = refl

gives_frame : (step : UpStep) → given_by step ≡ held_in (gave_up step)
gives_frame steps.Nothing = refl
gives_frame (steps.Settled x) = ap (λ o. SettledBy x.name x.reply.frame o ∷ []) (same_copy x.again)
gives_frame steps.Dropped = refl
gives_frame (steps.Closing cause) = refl

settled_tells : (f : MuxFrame) (b : Bool) → told_frame (if b then kinds.SettledNack else kinds.Settled f.kind) ≡ told.Nothing
settled_tells f true = refl
settled_tells f false = refl

tells_frame : (step : UpStep) (k : RecordKind) → Tells step k → (gave_up step).told ≡ told_frame k
tells_frame steps.Nothing k e = sym (silent k e)
tells_frame (steps.Settled x) k e = sym (ap told_frame e ∙ settled_tells x.reply.frame (is_nack x.reply.frame))
tells_frame steps.Dropped k e = sym (ap told_frame e)
tells_frame (steps.Closing cause) k e = sym (ap told_frame e)

same_step : (why : StepRefusal) → decide.why_step why ≡ refusal_of (why_step why)
same_step stepped.Closed = refl
same_step stepped.Busy = refl
same_step stepped.Spent = refl

same_ping : (why : PingRefusal) → decide.why_ping why ≡ refusal_of (why_ping why)
same_ping pings.Closed = refl
same_ping pings.NotOpen = refl
same_ping pings.Outstanding = refl
same_ping pings.Busy = refl
same_ping pings.Spent = refl

same_seal : (why : SealRefusal) → decide.why_seal why ≡ refusal_of (why_seal why)
same_seal seals.Closed = refl
same_seal seals.NotQuiet = refl
same_seal seals.NotFull = refl
same_seal seals.LastEpoch = refl

same_roll : (why : RollRefusal) → decide.why_roll why ≡ refusal_of (why_roll why)
same_roll rolls.Closed = refl
same_roll rolls.NoRoom = refl
same_roll rolls.LastEpoch = refl

-- A FRAME

pub frame_ok : (old new : State) (f : FrameView) (now : ℕ) (r : Result UpStep (StepRefusal × FrameView)) (step : UpStep) → r ≡ Ok step → StepsBy old new (λ p q. FrameStep p f now r q)
    → (g : Gave) → g ≡ gave_up step → Leads UpAt old new (FrameCall f.frame now) g
frame_ok old new f now r step is made g e limits number c u =
    let m = (subst (λ x. StepsBy old new (λ p q. FrameStep p f now x q)) is made) (up_past limits number c u.out) u.belongs in
    led limits number old c u new 0 (FrameCall f.frame now) _ m.0 m.1.5 m.2 g
    (gives_frame step ∙ ap held_in (sym e), ap (λ (x : Gave). x.told) e ∙ tells_frame step m.1.1.kind m.1.3 ∙ sym (ap (on_record told_frame) m.1.2)) tt

pub frame_err : (old new : State) (f : FrameView) (now : ℕ) (r : Result UpStep (StepRefusal × FrameView)) (why : StepRefusal) (back : FrameView) → r ≡ Err (why, back)
    → StepsBy old new (λ p q. FrameStep p f now r q) → (w : Why) → w ≡ why_step why → TurnsAway UpAt old (FrameCall f.frame now) (refusals.Session w)
frame_err old new f now r why back is made w e limits number c u =
    let m = (subst (λ x. StepsBy old new (λ p q. FrameStep p f now x q)) is made) (up_past limits number c u.out) u.belongs in
    turned limits number old c u (FrameCall f.frame now) w _ m.0 m.1.0 (same_step why ∙ ap refusal_of (sym e))

-- AN OFFER

pub offer_ok : (old new : State) (ticket : TicketView) (now : ℕ) (r : Result Placed (OfferRefusal × TicketView)) (placed : Placed) → r ≡ Ok placed
    → StepsBy old new (λ p q. OfferStep p ticket now r q) → (g : Gave) → g ≡ giving (held.Placed placed) → Leads UpAt old new (OfferCall ticket.name ticket.frame ticket.left now) g
offer_ok old new ticket now r placed is made g e limits number c u =
    let m = (subst (λ x. StepsBy old new (λ p q. OfferStep p ticket now x q)) is made) (up_past limits number c u.out) u.belongs in
    led limits number old c u new placed.tag (OfferCall ticket.name ticket.frame ticket.left now) _ m.0 m.1.1.1 m.2 g (ap held_in (sym e), ap (λ (x : Gave). x.told) e) m.1.0

offer_why : (old new : State) (ticket : TicketView) (now : ℕ) (why : OfferRefusal) (back : TicketView) → StepsBy old new (λ p q. OfferStep p ticket now (Err (why, back)) q)
    → TurnsAway UpAt old (OfferCall ticket.name ticket.frame ticket.left now) (why_offer why)
offer_why old new ticket now offers.Closed back made = λ limits number c u. (let m = made (up_past limits number c u.out) u.belongs in (0, up_is limits number old c u 0 _ ∙ m.1.0 0))
offer_why old new ticket now offers.NotOpen back made = λ limits number c u. (let m = made (up_past limits number c u.out) u.belongs in (0, up_is limits number old c u 0 _ ∙ m.1.0 0))
offer_why old new ticket now offers.Drained back made = λ limits number c u. (let m = made (up_past limits number c u.out) u.belongs in (0, up_is limits number old c u 0 _ ∙ m.1.0 0))
offer_why old new ticket now offers.Retired back made = λ limits number c u. (let m = made (up_past limits number c u.out) u.belongs in (0, up_is limits number old c u 0 _ ∙ m.1.0 0))
offer_why old new ticket now offers.Lapsed back made = λ limits number c u. (let m = made (up_past limits number c u.out) u.belongs in (0, up_is limits number old c u 0 _ ∙ m.1.0 0))
offer_why old new ticket now offers.Full back made = λ limits number c u. (let m = made (up_past limits number c u.out) u.belongs in (0, up_is limits number old c u 0 _ ∙ m.1.0 0))
offer_why old new ticket now offers.Spent back made = λ limits number c u. (let m = made (up_past limits number c u.out) u.belongs in (0, up_is limits number old c u 0 _ ∙ m.1.0 0))
offer_why old new ticket now offers.Memory back made = refl

pub offer_err : (old new : State) (ticket : TicketView) (now : ℕ) (r : Result Placed (OfferRefusal × TicketView)) (why : OfferRefusal) (back : TicketView) → r ≡ Err (why, back)
    → StepsBy old new (λ p q. OfferStep p ticket now r q) → (w : EventRefusal) → w ≡ why_offer why → TurnsAway UpAt old (OfferCall ticket.name ticket.frame ticket.left now) w
offer_err old new ticket now r why back is made w e =
    subst (λ x. TurnsAway UpAt old (OfferCall ticket.name ticket.frame ticket.left now) x) (sym e) (offer_why old new ticket now why back (subst (λ x. StepsBy old new (λ p q. OfferStep p ticket now x q)) is made))

-- A CALL THAT IS RECORDED, GIVES NOTHING AND TELLS NOTHING

plain_ok : (old new : State) (call : Call) → ChoosesNone call → ((e : Exchange) → told_by call e.rec ≡ told.Nothing) → StepsBy old new (λ p q. Records p 0 call [] q)
    → (g : Gave) → g ≡ telling told.Nothing → Leads UpAt old new call g
plain_ok old new call may quiet made g e limits number c u =
    let m = made (up_past limits number c u.out) u.belongs in
    led limits number old c u new 0 call _ m.0 m.1.1 m.2 g (ap held_in (sym e), ap (λ (x : Gave). x.told) e ∙ sym (quiet m.1.0)) (may (up_past limits number c u.out).session c.steps)

pub note_ok : (old new : State) (call : Call) (r : Result (Unit {0}) StepRefusal) (x : Unit {0}) → r ≡ Ok x → ChoosesNone call → ((e : Exchange) → told_by call e.rec ≡ told.Nothing)
    → StepsBy old new (λ p q. NoteStep p call r q) → (g : Gave) → g ≡ telling told.Nothing → Leads UpAt old new call g
note_ok old new call r x is may quiet made = plain_ok old new call may quiet (subst (λ y. StepsBy old new (λ p q. NoteStep p call y q)) is made)

pub note_err : (old new : State) (call : Call) (r : Result (Unit {0}) StepRefusal) (why : StepRefusal) → r ≡ Err why → StepsBy old new (λ p q. NoteStep p call r q)
    → (w : Why) → w ≡ why_step why → TurnsAway UpAt old call (refusals.Session w)
note_err old new call r why is made w e limits number c u =
    let m = (subst (λ y. StepsBy old new (λ p q. NoteStep p call y q)) is made) (up_past limits number c u.out) u.belongs in
    turned limits number old c u call w _ m.0 m.1 (same_step why ∙ ap refusal_of (sym e))

pub ping_ok : (old new : State) (call : Call) (r : Result (Unit {0}) PingRefusal) (x : Unit {0}) → r ≡ Ok x → ChoosesNone call → ((e : Exchange) → told_by call e.rec ≡ told.Nothing)
    → StepsBy old new (λ p q. PingStep p call r q) → (g : Gave) → g ≡ telling told.Nothing → Leads UpAt old new call g
ping_ok old new call r x is may quiet made = plain_ok old new call may quiet (subst (λ y. StepsBy old new (λ p q. PingStep p call y q)) is made)

pub ping_err : (old new : State) (call : Call) (r : Result (Unit {0}) PingRefusal) (why : PingRefusal) → r ≡ Err why → StepsBy old new (λ p q. PingStep p call r q)
    → (w : Why) → w ≡ why_ping why → TurnsAway UpAt old call (refusals.Session w)
ping_err old new call r why is made w e limits number c u =
    let m = (subst (λ y. StepsBy old new (λ p q. PingStep p call y q)) is made) (up_past limits number c u.out) u.belongs in
    turned limits number old c u call w _ m.0 m.1 (same_ping why ∙ ap refusal_of (sym e))

-- A LOSS, recorded or not

lost_gives : (b : Bool) (past : List Record) (now : ℕ) → Gives (LoseCall now) (if b then Unrecorded else Recorded (entry_of past now kinds.Lost 0 None None None) []) (telling told.Nothing)
lost_gives true past now = (refl, refl)
lost_gives false past now = (refl, refl)

pub lose_ok : (old new : State) (now : ℕ) → StepsBy old new (λ p q. LoseStep p now q) → (g : Gave) → g ≡ telling told.Nothing → Leads UpAt old new (LoseCall now) g
lose_ok old new now made g e limits number c u =
    let m = made (up_past limits number c u.out) u.belongs in
    led limits number old c u new 0 (LoseCall now) _ m.0 m.1 m.2 g
    (subst (λ (x : Gave). Gives (LoseCall now) (up (up_past limits number c u.out).session c.steps (length u.out) 0 (LoseCall now)) x) (sym e) (lost_gives (has_ended (records c.steps)) (records c.steps) now)) tt

pub lost_one : (old new : State) (r : Option Lost) (l : Lost) → r ≡ Some l → StepsBy old new (λ p q. LoseNextStep p r q) → (g : Gave) → g ≡ giving (held.Lost l) → Leads UpAt old new LoseNextCall g
lost_one old new r l is made g e limits number c u =
    let m = (subst (λ x. StepsBy old new (λ p q. LoseNextStep p x q)) is made) (up_past limits number c u.out) u.belongs in
    led limits number old c u new 0 LoseNextCall _ m.0 m.1.1 m.2 g (ap held_in (sym e), ap (λ (x : Gave). x.told) e) tt

pub lost_none : (old new : State) (r : Option Lost) → r ≡ None → StepsBy old new (λ p q. LoseNextStep p r q) → (g : Gave) → g ≡ telling told.NoMore → Leads UpAt old new LoseNextCall g
lost_none old new r is made g e limits number c u =
    let m = (subst (λ x. StepsBy old new (λ p q. LoseNextStep p x q)) is made) (up_past limits number c u.out) u.belongs in
    led limits number old c u new 0 LoseNextCall _ m.0 m.1 m.2 g (ap held_in (sym e), ap (λ (x : Gave). x.told) e) tt

-- A RECALL

pub recalled_sent : (old new : State) (asked : Recall) (now : ℕ) (r : Recalled) → r ≡ recalls.Sent → StepsBy old new (λ p q. RecallStep p asked now r q) → (g : Gave) → g ≡ telling (told.Recalled asked.name)
    → Leads UpAt old new (recalling asked now) g
recalled_sent old new asked now r is made g e limits number c u =
    let m = (subst (λ x. StepsBy old new (λ p q. RecallStep p asked now x q)) is made) (up_past limits number c u.out) u.belongs in
    led limits number old c u new 0 (recalling asked now) _ m.0 m.1.1 m.2 g (ap held_in (sym e), ap (λ (x : Gave). x.told) e) tt

pub recalled_stale : (old new : State) (asked : Recall) (now : ℕ) (r : Recalled) → r ≡ recalls.Stale → StepsBy old new (λ p q. RecallStep p asked now r q) → (g : Gave) → g ≡ telling (told.Stale asked.name)
    → Leads UpAt old new (recalling asked now) g
recalled_stale old new asked now r is made g e limits number c u =
    let m = (subst (λ x. StepsBy old new (λ p q. RecallStep p asked now x q)) is made) (up_past limits number c u.out) u.belongs in
    led limits number old c u new 0 (recalling asked now) _ m.0 m.1 m.2 g (ap held_in (sym e), ap (λ (x : Gave). x.told) e) tt

-- THE END OF AN EPOCH

-- what is recorded at a seal
pub sealed_as : (a b d f : Bool) (v w x y : Refusal) (made : Exchange) (e : Exchange) → (if a then Refused v else if b then Refused w else if d then Refused x else if f then Refused y else Recorded made []) ≡ Recorded e [] → made ≡ e
sealed_as true b d f v w x y made e is = absurd (cc)
sealed_as false true d f v w x y made e is = absurd (cc)
sealed_as false false true f v w x y made e is = absurd (cc)
sealed_as false false false true v w x y made e is = absurd (cc)
sealed_as false false false false v w x y made e is = cc

sealed_up : (s : UpSession) (past : List Step) (out : ℕ) (e : Exchange) → up s past out 0 SealCall ≡ Recorded e [] → sealing (records past) (up_standing s.mode (records past)) ≡ e
sealed_up s past out e is =
    sealed_as (has_ended (records past)) (nat_lt 0 (length (sendings (records past))) || nat_lt 0 (queued (entries past) out)) (nat_lt s.limits.history (4 * free_records s past)) (nat_le last_epoch (epoch_of (records past)))
    IsClosed NotQuiet NotFull LastEpoch (sealing (records past) (up_standing s.mode (records past))) e is

pub seal_ok : (old new : State) (fresh back : Log) (r : Result Log (SealRefusal × Log)) → r ≡ Ok back → StepsBy old new (λ p q. SealStep p fresh r q)
    → (n : ℕ) → ((p : Past) → Belongs new p → n ≡ epoch_of (records p.steps)) → (g : Gave) → g ≡ telling (told.Sealed n) → Leads UpAt old new SealCall g
seal_ok old new fresh back r is made n number_is g e limits number c u =
    let p = up_past limits number c u.out in
    let m = (subst (λ x. StepsBy old new (λ p q. SealStep p fresh x q)) is made) p u.belongs in
    let entry = sealed_up p.session c.steps (length u.out) m.1.0.0 m.1.0.1.0 in
    let counted : n ≡ epoch_of (records m.0.steps) = number_is m.0 m.2 in
    let now : n ≡ epoch_of (records c.steps) + 1 =
    counted ∙ ap (λ (x : Past). epoch_of (records x.steps)) m.1.0.1.1 ∙ ap (λ (x : Exchange). epoch_of (records (record { call = SealCall; entry = x } ∷ c.steps))) (sym entry) in
    led limits number old c u new 0 SealCall _ m.0 m.1.0.1 m.2 g
    (ap held_in (sym e), ap (λ (x : Gave). x.told) e ∙ ap told.Sealed now ∙ ap (λ (x : Exchange). on_record told_seal x.rec) entry) tt

pub seal_err : (old new : State) (fresh back : Log) (r : Result Log (SealRefusal × Log)) (why : SealRefusal) → r ≡ Err (why, back) → StepsBy old new (λ p q. SealStep p fresh r q)
    → (w : Why) → w ≡ why_seal why → TurnsAway UpAt old SealCall (refusals.Session w)
seal_err old new fresh back r why is made w e limits number c u =
    let m = (subst (λ x. StepsBy old new (λ p q. SealStep p fresh x q)) is made) (up_past limits number c u.out) u.belongs in
    turned limits number old c u SealCall w _ m.0 m.1.0 (same_seal why ∙ ap refusal_of (sym e))

-- what is recorded at a roll
rolled_as : (a b d : Bool) (v w x : Refusal) (made : Exchange) (e : Exchange) → (if a then Refused v else if b then Refused w else if d then Refused x else Recorded made []) ≡ Recorded e [] → made ≡ e
rolled_as true b d v w x made e is = absurd (cc)
rolled_as false true d v w x made e is = absurd (cc)
rolled_as false false true v w x made e is = absurd (cc)
rolled_as false false false v w x made e is = cc

rolled_up : (s : UpSession) (past : List Step) (out : ℕ) (e : Exchange) → up s past out 0 RollCall ≡ Recorded e [] → rolling (records past) ≡ e
rolled_up s past out e is =
    rolled_as (has_ended (records past)) (nat_lt s.limits.history (2 * (length (sendings (records past)) + sum_by kept_for (sendings (records past))))) (nat_le last_epoch (epoch_of (records past)))
    IsClosed NoRoom LastEpoch (rolling (records past)) e is

pub roll_ok : (old new : State) (fresh back : Log) (r : Result Log (RollRefusal × Log)) → r ≡ Ok back → StepsBy old new (λ p q. RollStep p fresh r q)
    → (n : ℕ) → ((p : Past) → Belongs new p → n ≡ epoch_of (records p.steps)) → (g : Gave) → g ≡ telling (told.Rolled n) → Leads UpAt old new RollCall g
roll_ok old new fresh back r is made n number_is g e limits number c u =
    let p = up_past limits number c u.out in
    let m = (subst (λ x. StepsBy old new (λ p q. RollStep p fresh x q)) is made) p u.belongs in
    let entry = rolled_up p.session c.steps (length u.out) m.1.0.0 m.1.0.1.0 in
    let counted : n ≡ epoch_of (records m.0.steps) = number_is m.0 m.2 in
    let now : n ≡ epoch_of (records c.steps) + 1 =
    counted ∙ ap (λ (x : Past). epoch_of (records x.steps)) m.1.0.1.1 ∙ ap (λ (x : Exchange). epoch_of (records (record { call = RollCall; entry = x } ∷ c.steps))) (sym entry) in
    led limits number old c u new 0 RollCall _ m.0 m.1.0.1 m.2 g
    (ap held_in (sym e), ap (λ (x : Gave). x.told) e ∙ ap told.Rolled now ∙ ap (λ (x : Exchange). on_record told_roll x.rec) entry) tt

pub roll_err : (old new : State) (fresh back : Log) (r : Result Log (RollRefusal × Log)) (why : RollRefusal) → r ≡ Err (why, back) → StepsBy old new (λ p q. RollStep p fresh r q)
    → (w : Why) → w ≡ why_roll why → TurnsAway UpAt old RollCall (refusals.Session w)
roll_err old new fresh back r why is made w e limits number c u =
    let m = (subst (λ x. StepsBy old new (λ p q. RollStep p fresh x q)) is made) (up_past limits number c u.out) u.belongs in
    turned limits number old c u RollCall w _ m.0 m.1.0 (same_roll why ∙ ap refusal_of (sym e))

-- A FRAME THAT IS TAKEN OUT

out_with : (limits : Bounds) (number : ℕ) (s new : State) (c : Connection) (u : UpAt limits number s c) (frame : Option MuxFrame)
    → Belongs new (record (up_past limits number c u.out) { out = u.out ++ option_to_list frame }) → UpAt limits number new (with_out c frame)
out_with limits number s new c u None b =
    record { session = u.session; out = u.out; count = u.count; belongs = subst (λ l. Belongs new (up_past limits number c l)) (append-nil u.out) b }
out_with limits number s new c u (Some f) b =
    record { session = u.session; out = u.out ++ f ∷ []; count = length-append u.out (f ∷ []) ∙ ap (λ n. n + 1) u.count; belongs = b }

pub gives_out : (old new : State) (frame : Option FrameView) → StepsBy old new (λ p q. TakeOutStep p frame q) → GivesOut UpAt old new (said_by frame)
gives_out old new frame made limits number c u =
    let m = made (up_past limits number c u.out) u.belongs in
    let next : next_out c ≡ said_by frame = ap (λ n. if has_ended (records c.steps) then None else sent_at n (entries c.steps)) (sym u.count) ∙ sym m.1.0 in
    (next, out_with limits number old new c u (said_by frame) (subst (λ p. Belongs new p) m.1.1 m.2))
