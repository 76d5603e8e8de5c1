-- What the step of a frame adds to the records of a session towards a client.
use Rattle.std.proofs.Common.{ℕ, ◌≡◌, ◌+◌, false, Some, Result, Ok, Err, OnOk, refl, sym, ◌∙◌, ap, subst, length}
use Rattle.std.specs.Prelude.{List, reverse, slice_get}
use Rattle.mux_frame.specs.Spelling.{MuxFrame}
use Rattle.mux_frame.specs.Views.{FrameView}
use Rattle.mux_history.specs.Log.{Log}
use Rattle.mux_history.specs.Readings.{written, is_cut}
use Rattle.mux_history.specs.declared.record.Record.{Record}
use Rattle.mux_model.specs.Entries.{Exchange}
use Rattle.mux_model.specs.Steps.{Held, FrameCall, Recorded, records}
use Rattle.mux_model.specs.Down.{down}
use Rattle.mux_legal.proofs.Basics.{OnRecorded}
use Rattle.translate_book.specs.declared.refusal.StepRefusal.{StepRefusal}
use Rattle.server_session.specs.declared.answers.DownStep.{DownStep}
use Rattle.server_session.specs.Past.{Past}
use Rattle.mux_history.specs.Bounds.{Bounds}
use Rattle.server_session.specs.State.{State}
use Rattle.server_session.specs.Belonging.{Belongs}
use Rattle.server_session.specs.Steps.{LeadsOn, FrameStep, given_by}
use Rattle.kept_session.specs.declared.ending.EpochEnd.{EpochEnd}
use Rattle.kept_session.specs.declared.ending.EpochEnd.TheVariants as how
use Rattle.kept_session.specs.Ending.{EndStepDown}
use Rattle.kept_session.specs.ReachedDown.{KeptDown, IsKeptDown, WasKeptDown, StepsDown}
use Rattle.kept_session.specs.RecordedDown.{IsRecordOfDown}
use Rattle.kept_session.proofs.Going.{EndsNone, down_stays}
use Rattle.kept_session.proofs.Records.{Adds, one_more, grown, last_is}

-- no frame seals or rolls a session
ends_none : (p : Past) (f : MuxFrame) (now : ℕ) (e : Exchange) (gives : List Held) (r : Record)
    → down p.session p.steps (length p.out) (FrameCall f now) ≡ Recorded e gives → e.rec ≡ Some r → is_cut r.kind ≡ false
ends_none p f now e gives r does rec =
    subst EndsNone rec (subst (λ o. OnRecorded o (λ e gives. EndsNone e.rec)) does (down_stays p.session p.steps (length p.out) (FrameCall f now) refl).none)

module _ (old new : KeptDown) (f : FrameView) (now : ℕ) (k : IsKeptDown old) where
  -- the frame's record is the last one, and all others stay
  recorded : (result : Result DownStep (StepRefusal × FrameView)) → StepsDown old new (λ p q. FrameStep p f now result q)
      → Adds old.state.records new.state.records (IsRecordOfDown f.frame) result
  recorded (Ok step) steps =
      let n = steps.1 k.0 k.1 k.2 in
      let s = n.1 in (
        s.1,
        one_more old.state.records new.state.records k.0.steps (FrameCall f.frame now) s.0 s.1 k.2.records (n.3.records ∙ ap (λ (q : Past). reverse (written (records q.steps))) s.4.1) s.2
            (ends_none k.0 f.frame now s.0 (given_by step) s.1 s.4.0 s.2),
        (k.0, now, s.0, given_by step, s.4.0, s.2),
      )
  recorded (Err refused) steps = tt

  pub frame_grown : (result : Result DownStep (StepRefusal × FrameView)) → StepsDown old new (λ p q. FrameStep p f now result q)
      → OnOk result (length new.state.records ≡ length old.state.records + 1)
  frame_grown result steps = grown old.state.records new.state.records (IsRecordOfDown f.frame) result (recorded result steps)

  pub frame_last : (result : Result DownStep (StepRefusal × FrameView)) → StepsDown old new (λ p q. FrameStep p f now result q)
      → OnOk result ((x : Record) → slice_get new.state.records (length old.state.records) ≡ Some x → IsRecordOfDown f.frame x)
  frame_last result steps = last_is old.state.records new.state.records (IsRecordOfDown f.frame) result (recorded result steps)

-- the history that ends is that of the session before
pub ends_with : (way : EpochEnd) (p q : Past) (fresh log : Log) → EndStepDown way p fresh (Ok log) q → log.records ≡ reverse (written (records p.steps))
ends_with how.Seal p q fresh log s = ap (λ (x : Log). x.records) s.1
ends_with how.Roll p q fresh log s = ap (λ (x : Log). x.records) s.1

pub ended_kept : (way : EpochEnd) (old : KeptDown) (new : State) (fresh log : Log) → IsKeptDown old → LeadsOn old.state (λ p q. EndStepDown way p fresh (Ok log) q) new → WasKeptDown log.records
ended_kept way old new fresh log k steps = (let n = steps k.0 k.2 in (old, k, k.2.records ∙ sym (ends_with way k.0 n.0 fresh log n.1)))

-- what is left at the end is the present history
pub left_is : (s : State) (p : Past) (h : Log) → Belongs s p → h ≡ record { records = reverse (written (records p.steps)); room = p.session.limits.history }
    → h ≡ record { records = s.records; room = s.limits.history }
left_is s p h b is = is ∙ (λ i. record { records = sym b.records i; room = ap (λ (l : Bounds). l.history) (sym b.limits) i })

pub left_kept : (k : KeptDown) (h : Log) → IsKeptDown k → h ≡ record { records = k.state.records; room = k.state.limits.history } → WasKeptDown h.records
left_kept k h kept is = (k, kept, ap (λ (x : Log). x.records) (sym is))
