-- The end of a session's present history.
use Rattle.std.specs.Prelude.{◌≡◌, Result, Ok, Err}
use Rattle.mux_history.specs.Log.{Log}
use Rattle.client_session.specs.Past as up_past
use Rattle.client_session.specs.Steps as up
use Rattle.server_session.specs.Past as down_past
use Rattle.server_session.specs.Steps as down
use Rattle.kept_session.specs.declared.ending.EpochEnd.{EpochEnd}
use Rattle.kept_session.specs.declared.ending.EpochEnd.TheVariants as how
use Rattle.kept_session.specs.declared.ending.EpochRefusal.{EpochRefusal}
use Rattle.kept_session.specs.declared.ending.EpochRefusal.TheVariants as why
use Rattle.kept_session.specs.declared.ending.EpochRefused.{EpochRefused}
use Rattle.kept_session.specs.Reached.{Kept, StepsBy, EndsBy}
use Rattle.kept_session.specs.ReachedDown.{KeptDown, StepsDown, EndsDown}

-- the session refuses to be sealed, or rolled, and this history comes back
abbrev pub RefuseStep : EpochEnd → up_past.Past → (fresh : Log) → EpochRefusal → (back : Log) → up_past.Past → Type 0
RefuseStep how.Seal p fresh (why.Seal refusal) back q = up.SealStep p fresh (Err (refusal, back)) q
RefuseStep how.Roll p fresh (why.Roll refusal) back q = up.RollStep p fresh (Err (refusal, back)) q
RefuseStep way p fresh refusal back q = ⊥

-- it is sealed, or rolled, and hands back the history that ends, or the one that was handed in
abbrev pub EndStep : EpochEnd → up_past.Past → (fresh : Log) → Result Log EpochRefused → up_past.Past → Type 0
EndStep how.Seal p fresh (Ok log) q = up.SealStep p fresh (Ok log) q
EndStep how.Roll p fresh (Ok log) q = up.RollStep p fresh (Ok log) q
EndStep way p fresh (Err e) q = RefuseStep way p fresh e.why e.fresh q

-- out of memory, nothing was done; else the session refused it
abbrev pub RefusesEnd : EpochRefusal → EpochEnd → (fresh : Log) → (old new : Kept) → EpochRefused → Type 0
RefusesEnd why.Memory way fresh old new e = new ≡ old
RefusesEnd refusal way fresh old new e = StepsBy old new (λ p q. EndStep way p fresh (Err e) q)

-- the history that ended stands behind the others; or it was refused
abbrev pub EndsEpoch : EpochEnd → (fresh : Log) → (old new : Kept) → Result (Unit {0}) EpochRefused → Type 0
EndsEpoch way fresh old new (Ok done) = (log : Log) × EndsBy log old new (λ p q. EndStep way p fresh (Ok log) q)
EndsEpoch way fresh old new (Err e) = RefusesEnd e.why way fresh old new e

-- the same of a session towards a client
abbrev pub RefuseStepDown : EpochEnd → down_past.Past → (fresh : Log) → EpochRefusal → (back : Log)
    → down_past.Past → Type 0
RefuseStepDown how.Seal p fresh (why.Seal refusal) back q = down.SealStep p fresh (Err (refusal, back)) q
RefuseStepDown how.Roll p fresh (why.Roll refusal) back q = down.RollStep p fresh (Err (refusal, back)) q
RefuseStepDown way p fresh refusal back q = ⊥

abbrev pub EndStepDown : EpochEnd → down_past.Past → (fresh : Log) → Result Log EpochRefused
    → down_past.Past → Type 0
EndStepDown how.Seal p fresh (Ok log) q = down.SealStep p fresh (Ok log) q
EndStepDown how.Roll p fresh (Ok log) q = down.RollStep p fresh (Ok log) q
EndStepDown way p fresh (Err e) q = RefuseStepDown way p fresh e.why e.fresh q

abbrev pub RefusesEndDown : EpochRefusal → EpochEnd → (fresh : Log) → (old new : KeptDown) → EpochRefused → Type 0
RefusesEndDown why.Memory way fresh old new e = new ≡ old
RefusesEndDown refusal way fresh old new e = StepsDown old new (λ p q. EndStepDown way p fresh (Err e) q)

abbrev pub EndsEpochDown : EpochEnd → (fresh : Log) → (old new : KeptDown) → Result (Unit {0}) EpochRefused → Type 0
EndsEpochDown way fresh old new (Ok done) =
    (log : Log) × EndsDown log old new (λ p q. EndStepDown way p fresh (Ok log) q)
EndsEpochDown way fresh old new (Err e) = RefusesEndDown e.why way fresh old new e
