-- Each step of a session leads from a past that its calls led to, to another.
use Rattle.std.proofs.Common.{ℕ, ◌≡◌, List, [], ◌∷◌, ◌++◌, false, Option, Some, None, Result, Ok, Err, refl, sym, ap, subst, length, inl}
use Rattle.std.specs.Prelude.{reverse}
use Rattle.mux_frame.specs.Views.{FrameView}
use Rattle.mux_message.specs.Kinds.{kind_of, is_dispatch}
use Rattle.mux_message.specs.declared.kind.MessageKind.TheVariants.{Tdispatch}
use Rattle.mux_history.specs.Log.{Log}
use Rattle.mux_history.specs.Readings.{written}
use Rattle.mux_history.specs.declared.session.InitMode.{InitMode}
use Rattle.mux_legal.specs.Sessions.{HandsIn, IsReachedUp}
use Rattle.mux_legal.specs.Sessions as sessions
use Rattle.mux_legal.proofs.Basics.{OnRecorded}
use Rattle.mux_model.specs.Entries.{Exchange}
use Rattle.mux_model.specs.Steps.{Held, records, Call, FrameCall, LoseCall, LoseNextCall, SealCall, RollCall, Outcome, Refused, Unrecorded, Recorded}
use Rattle.mux_model.specs.Up.{up, MayChoose}
use Rattle.translate_book.specs.Values.{TicketView}
use Rattle.translate_book.specs.declared.refusal.OfferRefusal.{OfferRefusal}
use Rattle.translate_book.specs.declared.refusal.StepRefusal.{StepRefusal}
use Rattle.translate_book.specs.declared.placed.Placed.{Placed}
use Rattle.translate_book.specs.declared.sent.Lost.{Lost}
use Rattle.translate_book.specs.declared.recall.Recall.{Recall}
use Rattle.client_session.specs.declared.answers.PingRefusal.{PingRefusal}
use Rattle.client_session.specs.declared.answers.Recalled.{Recalled}
use Rattle.client_session.specs.declared.answers.Recalled.TheVariants as recalls
use Rattle.client_session.specs.declared.answers.UpStep.{UpStep}
use Rattle.client_session.specs.Past.{Past}
use Rattle.client_session.specs.State.{State}
use Rattle.client_session.specs.Belonging.{Belongs}
use Rattle.client_session.specs.Belonging as belonging
use Rattle.client_session.specs.Steps.{next, Answers, offering, recalling, OfferStep, FrameStep, RecallStep, NoteStep, PingStep, LoseStep, LoseNextStep, TakeOutStep, TakeOutsStep, SealStep, RollStep}
use Rattle.kept_session.specs.declared.ending.EpochEnd.{EpochEnd}
use Rattle.kept_session.specs.declared.ending.EpochEnd.TheVariants as how
use Rattle.kept_session.specs.declared.ending.EpochRefusal.{EpochRefusal}
use Rattle.kept_session.specs.declared.ending.EpochRefusal.TheVariants as why
use Rattle.kept_session.specs.declared.ending.EpochRefused.{EpochRefused}
use Rattle.kept_session.specs.Ending.{EndStep, RefuseStep, RefusesEnd}
use Rattle.kept_session.specs.Reached.{IsReached, Kept, IsKept, Leads, StepsBy, EndsBy}
use Rattle.kept_session.proofs.Going.{GoesOn, GoesOver, EndsNone, EndsOne, ends, goes_on, goes_over, up_stays, seal_ends, roll_ends}
use Rattle.kept_session.proofs.Records.{behind_on, behind_over, given_up}

by_answer : (mode : InitMode) (p : Past) (t : ℕ) (call : Call) (o : Outcome) → MayChoose p.session p.steps t call → HandsIn call
    → up p.session p.steps (length p.out) t call ≡ o → IsReached mode p → IsReached mode (next p call o)
by_answer mode p t call (Recorded e gives) may hands is r = (r.0, sessions.IsReachedUp.goes_on (length p.out) t call e gives may hands is r.1)
by_answer mode p t call (Refused why) may hands is r = r
by_answer mode p t call Unrecorded may hands is r = r

-- the step's past was reached, and no history ended, or one did
abbrev pub Onward : InitMode → Past → Past → Type 0
Onward mode p q = IsReached mode q × GoesOn p.steps q.steps

abbrev pub Over : InitMode → Past → Past → Type 0
Over mode p q = IsReached mode q × GoesOver p.steps q.steps

stays : (p : Past) (t : ℕ) (call : Call) (o : Outcome) → ends call ≡ false
    → up p.session p.steps (length p.out) t call ≡ o → GoesOn p.steps (next p call o).steps
stays p t call (Recorded e gives) h is =
    goes_on p.steps call e (subst (λ (o : Outcome). OnRecorded o (λ e gives. EndsNone e.rec)) is (up_stays p.session p.steps (length p.out) t call h).none)
stays p t call (Refused why) h is = inl refl
stays p t call Unrecorded h is = inl refl

module _ {mode : InitMode} (p q : Past) where
  reaches : (t : ℕ) (call : Call) (o : Outcome) → MayChoose p.session p.steps t call → HandsIn call → Answers p t call o q → IsReached mode p → IsReached mode q
  reaches t call o may hands a r = subst (λ (x : Past). IsReached mode x) (sym a.1) (by_answer mode p t call o may hands a.0 r)

  goes : (t : ℕ) (call : Call) (o : Outcome) → MayChoose p.session p.steps t call → HandsIn call → ends call ≡ false → Answers p t call o q → IsReached mode p → Onward mode p q
  goes t call o may hands h a r = (reaches t call o may hands a r, subst (λ (x : Past). GoesOn p.steps x.steps) (sym a.1) (stays p t call o h a.0))

  pub same : q ≡ p → IsReached mode p → Onward mode p q
  same is r = subst (λ (x : Past). Onward mode p x) (sym is) (r, inl refl)

  pub offered : (ticket : TicketView) (now : ℕ) (result : Result Placed (OfferRefusal × TicketView)) → kind_of ticket.frame.kind ≡ Tdispatch
      → OfferStep p ticket now result q → IsReached mode p → Onward mode p q
  offered ticket now (Ok placed) d s r = goes placed.tag (offering ticket now) _ s.0 (ap is_dispatch d) refl s.1.1 r
  offered ticket now (Err refused) d s r = same s.1 r

  pub framed : (f : FrameView) (now : ℕ) (result : Result UpStep (StepRefusal × FrameView)) → FrameStep p f now result q → IsReached mode p → Onward mode p q
  framed f now (Ok step) s r = goes 0 (FrameCall f.frame now) _ tt tt refl s.5 r
  framed f now (Err refused) s r = goes 0 (FrameCall f.frame now) _ tt tt refl s.0 r

  pub recalled : (recall : Recall) (now : ℕ) (result : Recalled) → RecallStep p recall now result q → IsReached mode p → Onward mode p q
  recalled recall now recalls.Sent s r = goes 0 (recalling recall now) _ tt tt refl s.1 r
  recalled recall now recalls.Stale s r = goes 0 (recalling recall now) _ tt tt refl s r

  pub noted : (call : Call) (result : Result (Unit {0}) StepRefusal) → MayChoose p.session p.steps 0 call → HandsIn call → ends call ≡ false → NoteStep p call result q → IsReached mode p → Onward mode p q
  noted call (Ok done) may hands h s r = goes 0 call _ may hands h s.1 r
  noted call (Err refusal) may hands h s r = goes 0 call _ may hands h s r

  pub pinged : (call : Call) (result : Result (Unit {0}) PingRefusal) → MayChoose p.session p.steps 0 call → HandsIn call → ends call ≡ false → PingStep p call result q → IsReached mode p → Onward mode p q
  pinged call (Ok done) may hands h s r = goes 0 call _ may hands h s.1 r
  pinged call (Err refusal) may hands h s r = goes 0 call _ may hands h s r

  pub lost : (now : ℕ) → LoseStep p now q → IsReached mode p → Onward mode p q
  lost now s r = goes 0 (LoseCall now) _ tt tt refl s r

  pub lost_one : (result : Option Lost) → LoseNextStep p result q → IsReached mode p → Onward mode p q
  lost_one (Some _) s r = goes 0 LoseNextCall _ tt tt refl s.1 r
  lost_one None s r = goes 0 LoseNextCall _ tt tt refl s r

  over : (call : Call) (e : Exchange) (gives : List Held) → MayChoose p.session p.steps 0 call → HandsIn call
      → OnRecorded (up p.session p.steps (length p.out) 0 call) (λ e gives. EndsOne (records p.steps) e.rec) → Answers p 0 call (Recorded e gives) q → IsReached mode p → Over mode p q
  over call e gives may hands h a r = (
    reaches 0 call _ may hands a r,
    subst (λ (x : Past). GoesOver p.steps x.steps) (sym a.1) (goes_over p.steps call e (subst (λ (o : Outcome). OnRecorded o (λ e gives. EndsOne (records p.steps) e.rec)) a.0 h)),
  )

  pub sealed : (fresh log : Log) → SealStep p fresh (Ok log) q → IsReached mode p → Over mode p q
  sealed fresh log s r = over SealCall s.0.0 [] tt tt (seal_ends p.session p.steps (length p.out) 0).one s.0.1 r

  pub rolled : (fresh log : Log) → RollStep p fresh (Ok log) q → IsReached mode p → Over mode p q
  rolled fresh log s r = over RollCall s.0.0 [] tt tt (roll_ends p.session p.steps (length p.out) 0).one s.0.1 r

  pub over_by : (way : EpochEnd) (fresh log : Log) → EndStep way p fresh (Ok log) q → IsReached mode p → Over mode p q
  over_by how.Seal fresh log s r = sealed fresh log s r
  over_by how.Roll fresh log s r = rolled fresh log s r

  pub refused_by : (way : EpochEnd) (refusal : EpochRefusal) (fresh back : Log) → RefuseStep way p fresh refusal back q → IsReached mode p → Onward mode p q
  refused_by how.Seal (why.Seal refusal) fresh back s r = same s.0.1 r
  refused_by how.Roll (why.Roll refusal) fresh back s r = same s.0.1 r
  refused_by _ _ fresh back s r = absurd s

  pub took_out : (result : Option FrameView) → TakeOutStep p result q → IsReached mode p → Onward mode p q
  took_out result s r = subst (λ (x : Past). Onward mode p x) (sym s.1) (r, inl refl)

pub took_all : {mode : InitMode} (p q : Past) (fs : List FrameView) → TakeOutsStep p fs q → IsReached mode p → Onward mode p q
took_all p q [] s r = took_out p q None s r
took_all {mode} p q (f ∷ fs) s r =
    let first = took_out p s.0 (Some f) s.1 r in
    let rest = took_all s.0 q fs s.2 first.0 in
    (rest.0, subst (λ (x : Past). GoesOn x.steps q.steps) s.1.1 rest.1)

-- a step of the session is one of the session that is kept
pub advanced : (mode : InitMode) (ended : List Log) (old new : State) (R : Past → Past → Type 0)
    → ((p q : Past) → R p q → IsReached mode p → Onward mode p q) → belonging.StepsBy old new R
    → StepsBy (record { mode = mode; ended = ended; state = old }) (record { mode = mode; ended = ended; state = new }) R
advanced mode ended old new R onward steps = (
  refl,
  refl,
  λ p r b.
      (let n = steps p b in
      let on = onward p n.0 n.1 r in
      (n.0, n.1, on.0, n.2, λ gone. behind_on p.steps n.0.steps old.records new.records b.records n.2.records b.epoch n.2.epoch gone ended on.1)),
)

-- and so is one by which a history ends
pub closed_over : (mode : InitMode) (ended : List Log) (log : Log) (old new : State) (R : Past → Past → Type 0)
    → ((p q : Past) → R p q → IsReached mode p → Over mode p q) → ((p q : Past) → R p q → log.records ≡ reverse (written (records p.steps)))
    → belonging.StepsBy old new R
    → EndsBy log (record { mode = mode; ended = ended; state = old }) (record { mode = mode; ended = ended ++ log ∷ []; state = new }) R
closed_over mode ended log old new R over told steps = (
  refl,
  refl,
  λ p r b.
      (let n = steps p b in
      let on = over p n.0 n.1 r in
      (n.0, n.1, on.0, n.2, λ gone. behind_over p.steps n.0.steps old.records new.records b.records n.2.records b.epoch n.2.epoch gone ended log on.1 (told p n.0 n.1))),
)

pub still_kept : (old new : Kept) (R : Past → Past → Type 0) → Leads old new R → IsKept old → IsKept new
still_kept old new R leads k = (let n = leads k.0 k.1 k.2 in (n.0, n.2, n.3, k.3, n.4 k.3 k.4))

pub keeps_on : (mode : InitMode) (ended : List Log) (old new : State) (R : Past → Past → Type 0)
    → ((p q : Past) → R p q → IsReached mode p → Onward mode p q) → belonging.StepsBy old new R
    → IsKept (record { mode = mode; ended = ended; state = old }) → IsKept (record { mode = mode; ended = ended; state = new })
keeps_on mode ended old new R onward steps k =
    still_kept (record { mode = mode; ended = ended; state = old }) (record { mode = mode; ended = ended; state = new }) R (advanced mode ended old new R onward steps).2 k

pub keeps_over : (mode : InitMode) (ended : List Log) (log : Log) (old new : State) (R : Past → Past → Type 0)
    → ((p q : Past) → R p q → IsReached mode p → Over mode p q) → ((p q : Past) → R p q → log.records ≡ reverse (written (records p.steps)))
    → belonging.StepsBy old new R
    → IsKept (record { mode = mode; ended = ended; state = old }) → IsKept (record { mode = mode; ended = ended ++ log ∷ []; state = new })
keeps_over mode ended log old new R over told steps k =
    still_kept (record { mode = mode; ended = ended; state = old }) (record { mode = mode; ended = ended ++ log ∷ []; state = new }) R
    (closed_over mode ended log old new R over told steps).2 k

-- a session that gave its histories up is kept, without them
pub keeps_none : (mode : InitMode) (ended : List Log) (s : State) → IsKept (record { mode = mode; ended = ended; state = s })
    → IsKept (record { mode = mode; ended = []; state = s })
keeps_none mode ended s (p, r, b, gone, behind) = (p, r, b, gone ++ ended, given_up gone ended s.records s.epoch p.steps behind)

-- a refusal that changes nothing is one of memory, or the session's own
pub refuses : (refusal : EpochRefusal) (way : EpochEnd) (fresh : Log) (old new : Kept) (e : EpochRefused) → new ≡ old
    → StepsBy old new (λ p q. EndStep way p fresh (Err e) q) → RefusesEnd refusal way fresh old new e
refuses why.Memory way fresh old new e is steps = is
refuses _ way fresh old new e is steps = steps
