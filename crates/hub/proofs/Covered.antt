-- What an audit covers once it has taken the histories that were left.
use Rattle.std.proofs.Common.{List, [], ◌∷◌, subst, drop}
use Rattle.mux_agree.specs.declared.agreement.histories.DownHistory.{DownHistory}
use Rattle.mux_agree.specs.declared.agreement.histories.UpHistory.{UpHistory}
use Rattle.mux_agree.specs.Walk.{BearOut, Kept}
use Rattle.rolling_audit.specs.Histories.{behind}
use Rattle.rolling_audit.specs.declared.run.RunAudit.{RunAudit}
use Rattle.rolling_audit.specs.Covering.{Covers}
use Rattle.rolling_audit.specs.Opening.{begun_with, is_new}
use Rattle.hub.specs.Rests.{Rest, TakesAll, TakesRests, rests, told}
use Rattle.hub.specs.Run.{BearsOut}

pub covers_told : (old : RunAudit) (all : List Rest) (new : RunAudit) (takes : TakesAll old all new) (hs : List Kept) → Covers hs old
    → Covers (told old all new takes hs) new
covers_told old [] new takes hs covers = subst (λ a. Covers hs a) takes covers
covers_told old (r ∷ rs) new takes hs covers =
    covers_told takes.0 rs new takes.2
    (behind r.session (drop takes.1.within r.records) (begun_with old.modes.items (is_new old.audit r.session) r.session hs))
    (takes.1.takes.covers hs covers)

-- if closing is Ok, what the audit was told of before and what was left bear each other out
pub all_bear_out : (audit b : RunAudit) (downs : List DownHistory) (ups : List UpHistory) (takes : TakesRests audit downs ups b) → BearsOut b
    → (hs : List Kept) → Covers hs audit → BearOut (told audit (rests downs ups) b takes hs)
all_bear_out audit b downs ups takes borne hs covers =
    borne (told audit (rests downs ups) b takes hs) (covers_told audit (rests downs ups) b takes hs covers)
