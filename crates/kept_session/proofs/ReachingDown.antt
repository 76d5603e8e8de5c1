-- Each step of a session towards a client leads from a past that its calls led to, to another.
use Rattle.std.proofs.Common.{ℕ, ◌≡◌, false, Option, Some, None, Result, Ok, Err, IfSome, refl, sym, ◌∙◌, ap, subst, length, inl}
use Rattle.std.specs.Prelude.{List, [], ◌∷◌, ◌++◌, Bool, reverse}
use Rattle.mux_frame.specs.Spelling.{MuxFrame}
use Rattle.mux_frame.specs.Views.{FrameView}
use Rattle.mux_message.specs.Content.{MessageView}
use Rattle.mux_message.specs.Grammar.{Spells}
use Rattle.mux_message.specs.Kinds.{is_dispatch}
use Rattle.mux_message.specs.Parts.{kind_in}
use Rattle.mux_message.specs.declared.kind.MessageKind.TheVariants.{Tdispatch}
use Rattle.mux_history.specs.Log.{Log}
use Rattle.mux_history.specs.Readings.{written}
use Rattle.mux_history.specs.declared.kind.RecordKind.{RecordKind}
use Rattle.mux_legal.specs.Sessions.{HandsIn, IsDispatchBack}
use Rattle.mux_legal.specs.Sessions as sessions
use Rattle.mux_legal.proofs.Basics.{OnRecorded}
use Rattle.mux_model.specs.Steps.{Held, records, Call, FrameCall, NackCall, UnrouteCall, FailCall, DrainCall, LoseCall, LoseNextCall, SealCall, RollCall, Outcome, Refused, Unrecorded, Recorded}
use Rattle.mux_model.specs.Down.{down}
use Rattle.translate_book.specs.Values.{TicketView}
use Rattle.translate_book.specs.declared.placed.Placed.{Placed}
use Rattle.translate_book.specs.declared.sent.Settled.{Settled}
use Rattle.translate_book.specs.declared.sent.Lost.{Lost}
use Rattle.translate_book.specs.declared.recall.Recall.{Recall}
use Rattle.translate_book.specs.declared.refusal.StepRefusal.{StepRefusal}
use Rattle.client_session.proofs.Stepping.{kind_spelled}
use Rattle.server_session.specs.declared.answers.Answer.{Answer}
use Rattle.server_session.specs.declared.answers.DownStep.{DownStep}
use Rattle.server_session.specs.declared.answers.DrainRefusal.{DrainRefusal}
use Rattle.server_session.specs.Past.{Past}
use Rattle.server_session.specs.State.{State}
use Rattle.server_session.specs.Steps.{next, Answers, Records, LeadsOn, noting, settling, frame_in, FrameStep, NoteStep, SettleStep, NackStep, UnrouteStep, FailStep, DrainStep, SealStep, RollStep, LoseStep, LoseNextStep, TakeOutStep, TakeOutsStep}
use Rattle.kept_session.specs.declared.ending.EpochEnd.{EpochEnd}
use Rattle.kept_session.specs.declared.ending.EpochEnd.TheVariants as how
use Rattle.kept_session.specs.declared.ending.EpochRefusal.{EpochRefusal}
use Rattle.kept_session.specs.declared.ending.EpochRefusal.TheVariants as why
use Rattle.kept_session.specs.declared.ending.EpochRefused.{EpochRefused}
use Rattle.kept_session.specs.Ending.{EndStepDown, RefuseStepDown, RefusesEndDown}
use Rattle.kept_session.specs.ReachedDown.{IsLedDown, KeptDown, IsKeptDown, LeadsDown, StepsDown, EndsDown}
use Rattle.kept_session.proofs.Going.{GoesOn, GoesOver, EndsNone, EndsOne, ends, goes_on, goes_over, down_stays, seal_ends_down, roll_ends_down}
use Rattle.kept_session.proofs.Records.{behind_on, behind_over, given_up}

by_answer : (p : Past) (call : Call) (o : Outcome) → HandsIn call → down p.session p.steps (length p.out) call ≡ o → IsLedDown p → IsLedDown (next p call o)
by_answer p call (Recorded e gives) hands is r = sessions.IsReachedDown.goes_on (length p.out) call e gives hands is r
by_answer p call (Refused why) hands is r = r
by_answer p call Unrecorded hands is r = r

-- the step's past was reached, and no history ended, or one did
abbrev pub Onward : Past → Past → Type 0
Onward p q = IsLedDown q × GoesOn p.steps q.steps

abbrev pub Over : Past → Past → Type 0
Over p q = IsLedDown q × GoesOver p.steps q.steps

stays : (p : Past) (call : Call) (o : Outcome) → ends call ≡ false → down p.session p.steps (length p.out) call ≡ o → GoesOn p.steps (next p call o).steps
stays p call (Recorded e gives) h is =
    goes_on p.steps call e (subst (λ (o : Outcome). OnRecorded o (λ e gives. EndsNone e.rec)) is (down_stays p.session p.steps (length p.out) call h).none)
stays p call (Refused why) h is = inl refl
stays p call Unrecorded h is = inl refl

module _ (p q : Past) where
  reaches : (call : Call) (o : Outcome) → HandsIn call → Answers p call o q → IsLedDown p → IsLedDown q
  reaches call o hands a r = subst (λ (x : Past). IsLedDown x) (sym a.1) (by_answer p call o hands a.0 r)

  goes : (call : Call) (o : Outcome) → HandsIn call → ends call ≡ false → Answers p call o q → IsLedDown p → Onward p q
  goes call o hands h a r = (reaches call o hands a r, subst (λ (x : Past). GoesOn p.steps x.steps) (sym a.1) (stays p call o h a.0))

  writes : (call : Call) (kind : RecordKind → Bool) (gives : List Held) → HandsIn call → ends call ≡ false → Records p call kind gives q → IsLedDown p → Onward p q
  writes call kind gives hands h s r = goes call _ hands h s.4 r

  over : (call : Call) (kind : RecordKind → Bool) (gives : List Held) → HandsIn call
      → OnRecorded (down p.session p.steps (length p.out) call) (λ e gives. EndsOne (records p.steps) e.rec) → Records p call kind gives q → IsLedDown p → Over p q
  over call kind gives hands h s r = (
    reaches call _ hands s.4 r,
    subst (λ (x : Past). GoesOver p.steps x.steps) (sym s.4.1) (goes_over p.steps call s.0 (subst (λ (o : Outcome). OnRecorded o (λ e gives. EndsOne (records p.steps) e.rec)) s.4.0 h)),
  )

  pub same : q ≡ p → IsLedDown p → Onward p q
  same is r = subst (λ (x : Past). Onward p x) (sym is) (r, inl refl)

  pub framed : (f : FrameView) (now : ℕ) (result : Result DownStep (StepRefusal × FrameView)) → FrameStep p f now result q → IsLedDown p → Onward p q
  framed f now (Ok step) s r = goes (FrameCall f.frame now) _ tt refl s.4 r
  framed f now (Err refused) s r = goes (FrameCall f.frame now) _ tt refl s.0 r

  pub noted : (placed : Placed) (result : Result (Option Recall) Placed) → NoteStep p placed result q → IsLedDown p → Onward p q
  noted placed (Ok recall) s r = writes (noting placed) _ _ tt refl s r
  noted placed (Err back) s r = goes (noting placed) _ tt refl s.0 r

  pub settled : (x : Settled) (result : Result Answer Settled) → IsDispatchBack (frame_in x.again) → SettleStep p x result q → IsLedDown p → Onward p q
  settled x (Ok gone) back s r = writes (settling x) _ _ (x.last, back) refl s r
  settled x (Err refused) back s r = goes (settling x) _ (x.last, back) refl s.0 r

  pub nacked : (ticket : TicketView) (result : Result Answer TicketView) → NackStep p ticket result q → IsLedDown p → Onward p q
  nacked ticket (Ok gone) s r = writes (NackCall ticket.name) _ _ tt refl s r
  nacked ticket (Err back) s r = goes (NackCall ticket.name) _ tt refl s.0 r

  pub unrouted : (ticket : TicketView) (result : Result Answer TicketView) → UnrouteStep p ticket result q → IsLedDown p → Onward p q
  unrouted ticket (Ok gone) s r = writes (UnrouteCall ticket.name) _ _ tt refl s r
  unrouted ticket (Err back) s r = goes (UnrouteCall ticket.name) _ tt refl s.0 r

  pub failed : (lost : Lost) (result : Result Answer Lost) → FailStep p lost result q → IsLedDown p → Onward p q
  failed lost (Ok gone) s r = writes (FailCall lost.name) _ _ tt refl s r
  failed lost (Err back) s r = goes (FailCall lost.name) _ tt refl s.0 r

  pub drained : (result : Result (Unit {0}) DrainRefusal) → DrainStep p result q → IsLedDown p → Onward p q
  drained (Ok done) s r = writes DrainCall _ _ tt refl s r
  drained (Err refusal) s r = goes DrainCall _ tt refl s r

  pub sealed : (fresh log : Log) → SealStep p fresh (Ok log) q → IsLedDown p → Over p q
  sealed fresh log s r = over SealCall _ _ tt (seal_ends_down p.session p.steps (length p.out)).one s.0 r

  pub rolled : (fresh log : Log) → RollStep p fresh (Ok log) q → IsLedDown p → Over p q
  rolled fresh log s r = over RollCall _ _ tt (roll_ends_down p.session p.steps (length p.out)).one s.0 r

  pub over_by : (way : EpochEnd) (fresh log : Log) → EndStepDown way p fresh (Ok log) q → IsLedDown p → Over p q
  over_by how.Seal fresh log s r = sealed fresh log s r
  over_by how.Roll fresh log s r = rolled fresh log s r

  pub refused_by : (way : EpochEnd) (refusal : EpochRefusal) (fresh back : Log) → RefuseStepDown way p fresh refusal back q → IsLedDown p → Onward p q
  refused_by how.Seal (why.Seal refusal) fresh back s r = same s.0.1 r
  refused_by how.Roll (why.Roll refusal) fresh back s r = same s.0.1 r
  refused_by _ _ fresh back s r = absurd s

  pub lost : (now : ℕ) → LoseStep p now q → IsLedDown p → Onward p q
  lost now s r = goes (LoseCall now) _ tt refl s r

  pub lost_one : (result : Option Recall) → LoseNextStep p result q → IsLedDown p → Onward p q
  lost_one (Some recall) s r = writes LoseNextCall _ _ tt refl s r
  lost_one None s r = goes LoseNextCall _ tt refl s r

  pub took_out : (result : Option FrameView) → TakeOutStep p result q → IsLedDown p → Onward p q
  took_out result s r = subst (λ (x : Past). Onward p x) (sym s.1) (r, inl refl)

  pub took_all : (fs : List MuxFrame) → TakeOutsStep p fs q → IsLedDown p → Onward p q
  took_all fs s r = subst (λ (x : Past). Onward p x) (sym s.1) (r, inl refl)

-- a step of the session is one of the session that is kept
pub advanced : (ended : List Log) (old new : State) (R : Past → Past → Type 0) → ((p q : Past) → R p q → IsLedDown p → Onward p q) → LeadsOn old R new
    → StepsDown (record { ended = ended; state = old }) (record { ended = ended; state = new }) R
advanced ended old new R onward steps = (
  refl,
  λ p r b.
      (let n = steps p b in
      let on = onward p n.0 n.1 r in
      (n.0, n.1, on.0, n.2, λ gone. behind_on p.steps n.0.steps old.records new.records b.records n.2.records b.epoch n.2.epoch gone ended on.1)),
)

-- and so is one by which a history ends
pub closed_over : (ended : List Log) (log : Log) (old new : State) (R : Past → Past → Type 0)
    → ((p q : Past) → R p q → IsLedDown p → Over p q) → ((p q : Past) → R p q → log.records ≡ reverse (written (records p.steps))) → LeadsOn old R new
    → EndsDown log (record { ended = ended; state = old }) (record { ended = ended ++ log ∷ []; state = new }) R
closed_over ended log old new R over told steps = (
  refl,
  λ p r b.
      (let n = steps p b in
      let on = over p n.0 n.1 r in
      (n.0, n.1, on.0, n.2, λ gone. behind_over p.steps n.0.steps old.records new.records b.records n.2.records b.epoch n.2.epoch gone ended log on.1 (told p n.0 n.1))),
)

pub still_kept : (old new : KeptDown) (R : Past → Past → Type 0) → LeadsDown old new R → IsKeptDown old → IsKeptDown new
still_kept old new R leads k = (let n = leads k.0 k.1 k.2 in (n.0, n.2, n.3, k.3, n.4 k.3 k.4))

pub keeps_on : (ended : List Log) (old new : State) (R : Past → Past → Type 0) → ((p q : Past) → R p q → IsLedDown p → Onward p q) → LeadsOn old R new
    → IsKeptDown (record { ended = ended; state = old }) → IsKeptDown (record { ended = ended; state = new })
keeps_on ended old new R onward steps k =
    still_kept (record { ended = ended; state = old }) (record { ended = ended; state = new }) R (advanced ended old new R onward steps).1 k

pub keeps_over : (ended : List Log) (log : Log) (old new : State) (R : Past → Past → Type 0)
    → ((p q : Past) → R p q → IsLedDown p → Over p q) → ((p q : Past) → R p q → log.records ≡ reverse (written (records p.steps))) → LeadsOn old R new
    → IsKeptDown (record { ended = ended; state = old }) → IsKeptDown (record { ended = ended ++ log ∷ []; state = new })
keeps_over ended log old new R over told steps k =
    still_kept (record { ended = ended; state = old }) (record { ended = ended ++ log ∷ []; state = new }) R (closed_over ended log old new R over told steps).1 k

-- a session that gave its histories up is kept, without them
pub keeps_none : (ended : List Log) (s : State) → IsKeptDown (record { ended = ended; state = s })
    → IsKeptDown (record { ended = []; state = s })
keeps_none ended s (p, led, b, gone, behind) = (p, led, b, gone ++ ended, given_up gone ended s.records s.epoch p.steps behind)

-- what may be sent again is a dispatch
pub comes_back : (o : Option MessageView) → IfSome o (λ m. Spells m.frame m.content × (kind_in m.content ≡ Tdispatch)) → IsDispatchBack (frame_in o)
comes_back None h = tt
comes_back (Some m) h = ap is_dispatch (kind_spelled m.frame m.content h.0 ∙ h.1)

-- a refusal that changes nothing is one of memory, or the session's own
pub refuses : (refusal : EpochRefusal) (way : EpochEnd) (fresh : Log) (old new : KeptDown) (e : EpochRefused) → new ≡ old
    → StepsDown old new (λ p q. EndStepDown way p fresh (Err e) q) → RefusesEndDown refusal way fresh old new e
refuses why.Memory way fresh old new e is steps = is
refuses _ way fresh old new e is steps = steps
