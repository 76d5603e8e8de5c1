-- The steps of a session towards a client, in the common form.
use Rattle.std.proofs.Common.{◌≡◌, ◌++◌, ◌+◌, ℕ, List, [], ◌∷◌, Bool, Option, Some, None, Result, Ok, Err, refl, sym, ◌∙◌, ap, subst, length, true, false, if◌then◌else◌, append-nil, length-append}
use Rattle.std.specs.Option.{option_to_list, option_map}
use Rattle.mux_frame.specs.Views.{FrameView}
use Rattle.mux_frame.specs.Spelling.{MuxFrame}
use Rattle.mux_history.specs.Bounds.{Bounds}
use Rattle.mux_history.specs.Readings.{has_ended, is_retried}
use Rattle.mux_history.specs.declared.name.Name.{Name}
use Rattle.mux_history.specs.declared.record.Record.{Record}
use Rattle.mux_history.specs.declared.kind.RecordKind.{RecordKind}
use Rattle.mux_history.specs.declared.kind.RecordKind.TheVariants as kinds
use Rattle.translate_book.specs.Values.{TicketView}
use Rattle.translate_book.specs.declared.refusal.StepRefusal.{StepRefusal}
use Rattle.translate_book.specs.declared.refusal.StepRefusal.TheVariants as stepped
use Rattle.translate_book.specs.declared.placed.Placed.{Placed}
use Rattle.translate_book.specs.declared.sent.Lost.{Lost}
use Rattle.translate_book.specs.declared.recall.Recall.{Recall}
use Rattle.server_session.specs.declared.answers.DownStep.{DownStep}
use Rattle.server_session.specs.declared.answers.DownStep.TheVariants as steps
use Rattle.server_session.specs.declared.answers.Answer.{Answer}
use Rattle.server_session.specs.declared.answers.Answer.TheVariants as whether
use Rattle.server_session.specs.declared.answers.DrainRefusal.{DrainRefusal}
use Rattle.server_session.specs.declared.answers.DrainRefusal.TheVariants as drains
use Rattle.server_session.specs.State.{State}
use Rattle.server_session.specs.Past.{Past}
use Rattle.server_session.specs.Belonging.{Belongs}
use Rattle.server_session.specs.Decide as decide
use Rattle.server_session.specs.Steps.{LeadsOn, next, Answers, FrameStep, NoteStep, NackStep, UnrouteStep, FailStep, DrainStep, LoseStep, LoseNextStep, TakeOutStep, given_by, recall_in, noting, is_answer, is_nacked, is_unrouted, is_failed, is_late, Tells, is_silent}
use Rattle.mux_model.specs.Entries.{said_by}
use Rattle.mux_model.specs.Steps.{Step, Call, FrameCall, NackCall, UnrouteCall, FailCall, DrainCall, LoseCall, LoseNextCall, Outcome, Refused, Unrecorded, Recorded, Refusal, records, entries, entry_of, sent_at}
use Rattle.mux_model.specs.Tags.{holder, name_held}
use Rattle.mux_history.specs.declared.session.SessionId.TheVariants.{Client}
use Rattle.mux_model.specs.Down.{DownSession, down, reacted, reaction, discarded, Reaction, Shut, Full, Short, Closes, NacksDrained, Takes, Discards, Pongs, Inits, Misplaced, Unsupports, Echoes, Acks, Ignores}
use Rattle.mux_model.specs.World.{Connection, outcome, outcome_at, MayChooseAt, next_out}
use Rattle.core_world.specs.declared.calls.Gave.{Gave}
use Rattle.core_world.specs.declared.calls.Told.TheVariants as told
use Rattle.core_world.specs.declared.hands.Held.TheVariants as held
use Rattle.core_world.specs.declared.refusal.EventRefusal.TheVariants as refusals
use Rattle.core_world.specs.declared.refusal.Refusal.{Refusal as Why}
use Rattle.core_world.specs.Refusals.{refusal_of, why_step}
use Rattle.core_world.specs.Calls.{Led, Leads, TurnsAway, Gives, after, told_frame, told_answer, on_record, held_in}
use Rattle.core_world.specs.Sides.{GivesOut, with_out}
use Rattle.router_core.specs.Gifts.{telling, giving, gave_down, gave_answer, why_drain}
use Rattle.router_core.specs.Sides.{DownAt, down_past}

down_is : (limits : Bounds) (number : ℕ) (s : State) (c : Connection) (u : DownAt limits number s c) (t : ℕ) (call : Call)
    → outcome limits c t call ≡ down (down_past limits number c u.out).session c.steps (length u.out) call
down_is limits number s c u t call =
    ap (λ id. outcome_at limits c id t call) u.session
    ∙ ap (λ n. down (record { limits = limits; boot = c.boot; number = number }) c.steps n call) (sym u.count)

past_after : (limits : Bounds) (number : ℕ) (c : Connection) (out : List MuxFrame) (call : Call) (o : Outcome)
    → next (down_past limits number c out) call o ≡ down_past limits number (after c call o) out
past_after limits number c out call (Recorded e gives) = refl
past_after limits number c out call Unrecorded = refl
past_after limits number c out call (Refused why) = refl

session_after : (c : Connection) (call : Call) (o : Outcome) → (after c call o).session ≡ c.session
session_after c call (Recorded e gives) = refl
session_after c call Unrecorded = refl
session_after c call (Refused why) = refl

out_after : (c : Connection) (call : Call) (o : Outcome) → (after c call o).out ≡ c.out
out_after c call (Recorded e gives) = refl
out_after c call Unrecorded = refl
out_after c call (Refused why) = refl

module _ (limits : Bounds) (number : ℕ) (s : State) (c : Connection) (u : DownAt limits number s c) where
  -- an answer over the past is one over the connection; no call of a client's session chooses a tag
  led : (new : State) (call : Call) (o : Outcome) (q : Past) → Answers (down_past limits number c u.out) call o q → Belongs new q
      → (g : Gave) → Gives call o g → Led limits c call g (DownAt limits number new)
  led new call o q a b g gives =
      record {
        tag = 0;
        answer = o;
        is = down_is limits number s c u 0 call ∙ a.0;
        gives = gives;
        may = subst (λ id. MayChooseAt limits c id 0 call) (sym u.session) tt;
        new = record {
          session = session_after c call o ∙ u.session;
          out = u.out;
          count = u.count ∙ sym (out_after c call o);
          belongs = subst (λ p. Belongs new p) (a.1 ∙ past_after limits number c u.out call o) b;
        };
      }

  turned : (call : Call) (why : Why) (w : Refusal) (q : Past) → Answers (down_past limits number c u.out) call (Refused w) q → w ≡ refusal_of why → (t : ℕ) × (outcome limits c t call ≡ Refused (refusal_of why))
  turned call why w q a is = (0, down_is limits number s c u 0 call ∙ a.0 ∙ ap (λ x. Refused x) is)

-- no frame of a client leads to a stray
abbrev is_stray : RecordKind → Bool
is_stray kinds.Dropped = true
is_stray _ = false

abbrev on_stray : Option Record → Bool
on_stray None = false
on_stray (Some r) = is_stray r.kind

abbrev HasNoStray : Outcome → Type 0
HasNoStray (Recorded e gives) = on_stray e.rec ≡ false
HasNoStray _ = Unit {0}

no_stray_discarded : (past : List Step) (now : ℕ) (f : MuxFrame) (t : ℕ) (why : List ℕ) (n : Option Name) → HasNoStray (discarded past now f t why n)
no_stray_discarded past now f t why None = refl
no_stray_discarded past now f t why (Some n) = refl

no_stray : (c : DownSession) (past : List Step) (f : MuxFrame) (now : ℕ) (r : Reaction) → HasNoStray (reacted c past f now r)
no_stray c past f now Shut = tt
no_stray c past f now Full = tt
no_stray c past f now Short = tt
no_stray c past f now (Closes cause) = refl
no_stray c past f now NacksDrained = refl
no_stray c past f now Takes = refl
no_stray c past f now (Discards t why) = no_stray_discarded past now f t why (name_held (holder (Client c.number) t (entries past)))
no_stray c past f now Pongs = refl
no_stray c past f now Inits = refl
no_stray c past f now Misplaced = refl
no_stray c past f now Unsupports = refl
no_stray c past f now Echoes = refl
no_stray c past f now Acks = refl
no_stray c past f now Ignores = refl

silent : (k : RecordKind) → is_silent k ≡ true → is_stray k ≡ false → told_frame k ≡ told.Nothing
silent kinds.Dropped e other = absurd (cc)
silent (kinds.Closed cause) e other = absurd (cc)
silent _ e other = refl

gives_frame : (step : DownStep) → given_by step ≡ held_in (gave_down step)
gives_frame steps.Nothing = refl
gives_frame (steps.Take x) = refl
gives_frame (steps.Recall x) = refl
gives_frame (steps.Closing cause) = refl

tells_frame : (step : DownStep) (k : RecordKind) → Tells step k → is_stray k ≡ false → (gave_down step).told ≡ told_frame k
tells_frame steps.Nothing k e other = sym (silent k e other)
tells_frame (steps.Take x) k e other = sym (ap told_frame e)
tells_frame (steps.Recall x) k e other = sym (ap told_frame e)
tells_frame (steps.Closing cause) k e other = sym (ap told_frame e)

same_step : (why : StepRefusal) → decide.why_step why ≡ refusal_of (why_step why)
same_step stepped.Closed = refl
same_step stepped.Busy = refl
same_step stepped.Spent = refl

same_drain : (why : DrainRefusal) → decide.why_drain why ≡ refusal_of (why_drain why)
same_drain drains.Closed = refl
same_drain drains.AlreadyDraining = refl
same_drain drains.Busy = refl
same_drain drains.Spent = refl

-- A FRAME

pub frame_ok : (old new : State) (f : FrameView) (now : ℕ) (r : Result DownStep (StepRefusal × FrameView)) (step : DownStep) → r ≡ Ok step → LeadsOn old (λ p q. FrameStep p f now r q) new
    → (g : Gave) → g ≡ gave_down step → Leads DownAt old new (FrameCall f.frame now) g
frame_ok old new f now r step is made g e limits number c u =
    let p = down_past limits number c u.out in
    let m = (subst (λ x. LeadsOn old (λ p q. FrameStep p f now x q) new) is made) p u.belongs in
    let made_so : down p.session p.steps (length p.out) (FrameCall f.frame now) ≡ Recorded m.1.0 (given_by step) = m.1.4.0 in
    let clean : on_stray m.1.0.rec ≡ false = subst (λ o. HasNoStray o) made_so (no_stray p.session p.steps f.frame now (reaction p.session p.steps (length p.out) f.frame)) in
    let other : is_stray m.1.1.kind ≡ false = ap on_stray (sym m.1.2) ∙ clean in
    led limits number old c u new (FrameCall f.frame now) _ m.0 m.1.4 m.2 g
    (gives_frame step ∙ ap held_in (sym e), ap (λ (x : Gave). x.told) e ∙ tells_frame step m.1.1.kind m.1.3 other ∙ sym (ap (on_record told_frame) m.1.2))

pub frame_err : (old new : State) (f : FrameView) (now : ℕ) (r : Result DownStep (StepRefusal × FrameView)) (why : StepRefusal) (back : FrameView) → r ≡ Err (why, back)
    → LeadsOn old (λ p q. FrameStep p f now r q) new → (w : Why) → w ≡ why_step why → TurnsAway DownAt old (FrameCall f.frame now) (refusals.Session w)
frame_err old new f now r why back is made w e limits number c u =
    let m = (subst (λ x. LeadsOn old (λ p q. FrameStep p f now x q) new) is made) (down_past limits number c u.out) u.belongs in
    turned limits number old c u (FrameCall f.frame now) w _ m.0 m.1.0 (same_step why ∙ ap refusal_of (sym e))

-- A PLACE THAT IS NOTED

gives_recall : (o : Option Recall) → recall_in o ≡ held_in (record { told = told.Nothing; given = option_map (λ x. held.Recall x) o })
gives_recall None = refl
gives_recall (Some x) = refl

pub note_ok : (old new : State) (x : Placed) (r : Result (Option Recall) Placed) (recall : Option Recall) → r ≡ Ok recall → LeadsOn old (λ p q. NoteStep p x r q) new
    → (g : Gave) → g ≡ record { told = told.Noted x.name; given = option_map (λ y. held.Recall y) recall } → Leads DownAt old new (noting x) g
note_ok old new x r recall is made g e limits number c u =
    let m = (subst (λ y. LeadsOn old (λ p q. NoteStep p x y q) new) is made) (down_past limits number c u.out) u.belongs in
    led limits number old c u new (noting x) _ m.0 m.1.4 m.2 g (gives_recall recall ∙ ap held_in (sym e), ap (λ (y : Gave). y.told) e)

-- AN ANSWER

late_tells : (n : Name) (whole : Bool) (k : RecordKind) → is_late whole k ≡ true → told_answer n k ≡ told.Late n
late_tells n true (kinds.Late w) e = refl
late_tells n true _ e = absurd (cc)
late_tells n false (kinds.Late w) e = refl
late_tells n false _ e = absurd (cc)

retried_tells : (n : Name) (k : RecordKind) → is_retried k ≡ true → told_answer n k ≡ told.Again n
retried_tells n kinds.Retried e = refl
retried_tells n _ e = absurd (cc)

nacked_tells : (n : Name) (k : RecordKind) → is_nacked k ≡ true → told_answer n k ≡ told.Answered n
nacked_tells n kinds.Nacked e = refl
nacked_tells n _ e = absurd (cc)

unrouted_tells : (n : Name) (k : RecordKind) → is_unrouted k ≡ true → told_answer n k ≡ told.Answered n
unrouted_tells n kinds.Unrouted e = refl
unrouted_tells n _ e = absurd (cc)

failed_tells : (n : Name) (k : RecordKind) → is_failed k ≡ true → told_answer n k ≡ told.Answered n
failed_tells n kinds.Failed e = refl
failed_tells n _ e = absurd (cc)

answer_tells : (n : Name) (a : Answer) (sent : RecordKind → Bool) (whole : Bool) (k : RecordKind) → (sent k ≡ true → told_answer n k ≡ told.Answered n) → is_answer a sent whole k ≡ true
    → (gave_answer n a).told ≡ told_answer n k
answer_tells n whether.Answered sent whole k tells e = sym (tells e)
answer_tells n whether.Late sent whole k tells e = sym (late_tells n whole k e)
answer_tells n (whether.Again t) sent whole k tells e = sym (retried_tells n k e)

pub nack_ok : (old new : State) (x : TicketView) (r : Result Answer TicketView) (a : Answer) → r ≡ Ok a → LeadsOn old (λ p q. NackStep p x r q) new → (g : Gave) → g ≡ telling (gave_answer x.name a).told
    → Leads DownAt old new (NackCall x.name) g
nack_ok old new x r a is made g e limits number c u =
    let m = (subst (λ y. LeadsOn old (λ p q. NackStep p x y q) new) is made) (down_past limits number c u.out) u.belongs in
    led limits number old c u new (NackCall x.name) _ m.0 m.1.4 m.2 g
    (ap held_in (sym e), ap (λ (y : Gave). y.told) e ∙ answer_tells x.name a is_nacked true m.1.1.kind (nacked_tells x.name m.1.1.kind) m.1.3 ∙ sym (ap (on_record (told_answer x.name)) m.1.2))

pub unroute_ok : (old new : State) (x : TicketView) (r : Result Answer TicketView) (a : Answer) → r ≡ Ok a → LeadsOn old (λ p q. UnrouteStep p x r q) new → (g : Gave) → g ≡ telling (gave_answer x.name a).told
    → Leads DownAt old new (UnrouteCall x.name) g
unroute_ok old new x r a is made g e limits number c u =
    let m = (subst (λ y. LeadsOn old (λ p q. UnrouteStep p x y q) new) is made) (down_past limits number c u.out) u.belongs in
    led limits number old c u new (UnrouteCall x.name) _ m.0 m.1.4 m.2 g
    (ap held_in (sym e), ap (λ (y : Gave). y.told) e ∙ answer_tells x.name a is_unrouted true m.1.1.kind (unrouted_tells x.name m.1.1.kind) m.1.3 ∙ sym (ap (on_record (told_answer x.name)) m.1.2))

pub fail_ok : (old new : State) (x : Lost) (r : Result Answer Lost) (a : Answer) → r ≡ Ok a → LeadsOn old (λ p q. FailStep p x r q) new → (g : Gave) → g ≡ telling (gave_answer x.name a).told
    → Leads DownAt old new (FailCall x.name) g
fail_ok old new x r a is made g e limits number c u =
    let m = (subst (λ y. LeadsOn old (λ p q. FailStep p x y q) new) is made) (down_past limits number c u.out) u.belongs in
    led limits number old c u new (FailCall x.name) _ m.0 m.1.4 m.2 g
    (ap held_in (sym e), ap (λ (y : Gave). y.told) e ∙ answer_tells x.name a is_failed false m.1.1.kind (failed_tells x.name m.1.1.kind) m.1.3 ∙ sym (ap (on_record (told_answer x.name)) m.1.2))

-- DRAINING

pub drain_ok : (old new : State) (r : Result (Unit {0}) DrainRefusal) (x : Unit {0}) → r ≡ Ok x → LeadsOn old (λ p q. DrainStep p r q) new → (g : Gave) → g ≡ telling told.Nothing → Leads DownAt old new DrainCall g
drain_ok old new r x is made g e limits number c u =
    let m = (subst (λ y. LeadsOn old (λ p q. DrainStep p y q) new) is made) (down_past limits number c u.out) u.belongs in
    led limits number old c u new DrainCall _ m.0 m.1.4 m.2 g (ap held_in (sym e), ap (λ (y : Gave). y.told) e)

pub drain_err : (old new : State) (r : Result (Unit {0}) DrainRefusal) (why : DrainRefusal) → r ≡ Err why → LeadsOn old (λ p q. DrainStep p r q) new → (w : Why) → w ≡ why_drain why
    → TurnsAway DownAt old DrainCall (refusals.Session w)
drain_err old new r why is made w e limits number c u =
    let m = (subst (λ y. LeadsOn old (λ p q. DrainStep p y q) new) is made) (down_past limits number c u.out) u.belongs in
    turned limits number old c u DrainCall w _ m.0 m.1 (same_drain why ∙ ap refusal_of (sym e))

-- A LOSS, recorded or not

lost_gives : (b : Bool) (past : List Record) (now : ℕ) → Gives (LoseCall now) (if b then Unrecorded else Recorded (entry_of past now kinds.Lost 0 None None None) []) (telling told.Nothing)
lost_gives true past now = (refl, refl)
lost_gives false past now = (refl, refl)

pub lose_ok : (old new : State) (now : ℕ) → LeadsOn old (λ p q. LoseStep p now q) new → (g : Gave) → g ≡ telling told.Nothing → Leads DownAt old new (LoseCall now) g
lose_ok old new now made g e limits number c u =
    let m = made (down_past limits number c u.out) u.belongs in
    led limits number old c u new (LoseCall now) _ m.0 m.1 m.2 g
    (subst (λ (x : Gave). Gives (LoseCall now) (down (down_past limits number c u.out).session c.steps (length u.out) (LoseCall now)) x) (sym e) (lost_gives (has_ended (records c.steps)) (records c.steps) now))

pub lost_one : (old new : State) (r : Option Recall) (x : Recall) → r ≡ Some x → LeadsOn old (λ p q. LoseNextStep p r q) new → (g : Gave) → g ≡ giving (held.Recall x) → Leads DownAt old new LoseNextCall g
lost_one old new r x is made g e limits number c u =
    let m = (subst (λ y. LeadsOn old (λ p q. LoseNextStep p y q) new) is made) (down_past limits number c u.out) u.belongs in
    led limits number old c u new LoseNextCall _ m.0 m.1.4 m.2 g (ap held_in (sym e), ap (λ (y : Gave). y.told) e)

pub lost_none : (old new : State) (r : Option Recall) → r ≡ None → LeadsOn old (λ p q. LoseNextStep p r q) new → (g : Gave) → g ≡ telling told.NoMore → Leads DownAt old new LoseNextCall g
lost_none old new r is made g e limits number c u =
    let m = (subst (λ y. LeadsOn old (λ p q. LoseNextStep p y q) new) is made) (down_past limits number c u.out) u.belongs in
    led limits number old c u new LoseNextCall _ m.0 m.1 m.2 g (ap held_in (sym e), ap (λ (y : Gave). y.told) e)

-- A FRAME THAT IS TAKEN OUT

out_with : (limits : Bounds) (number : ℕ) (s new : State) (c : Connection) (u : DownAt limits number s c) (frame : Option MuxFrame)
    → Belongs new (record (down_past limits number c u.out) { out = u.out ++ option_to_list frame }) → DownAt limits number new (with_out c frame)
out_with limits number s new c u None b =
    record { session = u.session; out = u.out; count = u.count; belongs = subst (λ l. Belongs new (down_past limits number c l)) (append-nil u.out) b }
out_with limits number s new c u (Some f) b =
    record { session = u.session; out = u.out ++ f ∷ []; count = length-append u.out (f ∷ []) ∙ ap (λ n. n + 1) u.count; belongs = b }

pub gives_out : (old new : State) (frame : Option FrameView) → LeadsOn old (λ p q. TakeOutStep p frame q) new → GivesOut DownAt old new (said_by frame)
gives_out old new frame made limits number c u =
    let m = made (down_past limits number c u.out) u.belongs in
    let next : next_out c ≡ said_by frame = ap (λ n. if has_ended (records c.steps) then None else sent_at n (entries c.steps)) (sym u.count) ∙ sym m.1.0 in
    (next, out_with limits number old new c u (said_by frame) (subst (λ p. Belongs new p) m.1.1 m.2))
