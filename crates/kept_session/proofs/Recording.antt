-- What the step of a frame adds to the records of a session towards a server.
use Rattle.std.proofs.Common.{ℕ, ◌≡◌, ◌+◌, false, Some, Result, Ok, Err, OnOk, refl, sym, ◌∙◌, ap, length}
use Rattle.std.specs.Prelude.{reverse, slice_get}
use Rattle.mux_frame.specs.Views.{FrameView}
use Rattle.mux_history.specs.Log.{Log}
use Rattle.mux_history.specs.Readings.{written, is_cut}
use Rattle.mux_history.specs.declared.record.Record.{Record}
use Rattle.mux_history.specs.declared.kind.RecordKind.{RecordKind}
use Rattle.mux_history.specs.declared.kind.RecordKind.TheVariants as kinds
use Rattle.translate_book.specs.declared.refusal.StepRefusal.{StepRefusal}
use Rattle.client_session.specs.declared.answers.UpStep.{UpStep}
use Rattle.client_session.specs.declared.answers.UpStep.TheVariants as answers
use Rattle.mux_model.specs.Steps.{FrameCall, records}
use Rattle.client_session.specs.Past.{Past}
use Rattle.client_session.specs.Steps.{FrameStep, Tells, given_by}
use Rattle.client_session.specs.State.{State}
use Rattle.mux_history.specs.Bounds.{Bounds}
use Rattle.client_session.specs.Belonging.{Belongs}
use Rattle.client_session.specs.Belonging as belonging
use Rattle.client_session.proofs.Lists.{settling}
use Rattle.kept_session.specs.declared.ending.EpochEnd.{EpochEnd}
use Rattle.kept_session.specs.declared.ending.EpochEnd.TheVariants as how
use Rattle.kept_session.specs.Ending.{EndStep}
use Rattle.kept_session.specs.Reached.{Kept, IsKept, WasKept, StepsBy}
use Rattle.kept_session.specs.Recorded.{IsRecordOf}
use Rattle.kept_session.proofs.Records.{Adds, one_more, grown, last_is}

-- no frame seals or rolls a session
ends_none : (step : UpStep) (kind : RecordKind) → Tells step kind → is_cut kind ≡ false
ends_none answers.Nothing (kinds.Epoch number standing) h = absurd (cc)
ends_none answers.Nothing (kinds.Rolled number) h = absurd (cc)
ends_none answers.Nothing _ h = refl
ends_none (answers.Settled x) kind h = ap is_cut h ∙ settling (λ (k : RecordKind). is_cut k ≡ false) refl (λ type. refl) x.reply.frame
ends_none answers.Dropped kind h = ap is_cut h
ends_none (answers.Closing cause) kind h = ap is_cut h

module _ (old new : Kept) (f : FrameView) (now : ℕ) (k : IsKept old) where
  -- the frame's record is the last one, and all others stay
  recorded : (result : Result UpStep (StepRefusal × FrameView)) → StepsBy old new (λ p q. FrameStep p f now result q)
      → Adds old.state.records new.state.records (IsRecordOf f.frame) result
  recorded (Ok step) steps =
      let n = steps.2 k.0 k.1 k.2 in
      let s = n.1 in (
        s.1,
        one_more old.state.records new.state.records k.0.steps (FrameCall f.frame now) s.0 s.1 k.2.records (n.3.records ∙ ap (λ (q : Past). reverse (written (records q.steps))) s.5.1) s.2
            (ends_none step s.1.kind s.3),
        (k.0, now, s.0, given_by step, s.5.0, s.2),
      )
  recorded (Err refused) steps = tt

  pub frame_grown : (result : Result UpStep (StepRefusal × FrameView)) → StepsBy old new (λ p q. FrameStep p f now result q)
      → OnOk result (length new.state.records ≡ length old.state.records + 1)
  frame_grown result steps = grown old.state.records new.state.records (IsRecordOf f.frame) result (recorded result steps)

  pub frame_last : (result : Result UpStep (StepRefusal × FrameView)) → StepsBy old new (λ p q. FrameStep p f now result q)
      → OnOk result ((x : Record) → slice_get new.state.records (length old.state.records) ≡ Some x → IsRecordOf f.frame x)
  frame_last result steps = last_is old.state.records new.state.records (IsRecordOf f.frame) result (recorded result steps)

-- the history that ends is that of the session before
pub ends_with : (way : EpochEnd) (p q : Past) (fresh log : Log) → EndStep way p fresh (Ok log) q → log.records ≡ reverse (written (records p.steps))
ends_with how.Seal p q fresh log s = ap (λ (x : Log). x.records) s.1
ends_with how.Roll p q fresh log s = ap (λ (x : Log). x.records) s.1

pub ended_kept : (way : EpochEnd) (old : Kept) (new : State) (fresh log : Log) → IsKept old → belonging.StepsBy old.state new (λ p q. EndStep way p fresh (Ok log) q) → WasKept log.records
ended_kept way old new fresh log k steps = (let n = steps k.0 k.2 in (old, k, k.2.records ∙ sym (ends_with way k.0 n.0 fresh log n.1)))

-- what is left at the end is the present history
pub left_is : (s : State) (p : Past) (h : Log) → Belongs s p → h ≡ record { records = reverse (written (records p.steps)); room = p.session.limits.history }
    → h ≡ record { records = s.records; room = s.limits.history }
left_is s p h b is = is ∙ (λ i. record { records = sym b.records i; room = ap (λ (l : Bounds). l.history) (sym b.limits) i })

pub left_kept : (k : Kept) (h : Log) → IsKept k → h ≡ record { records = k.state.records; room = k.state.limits.history } → WasKept h.records
left_kept k h kept is = (k, kept, ap (λ (x : Log). x.records) (sym is))
