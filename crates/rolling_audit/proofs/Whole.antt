-- An audit that takes whole histories, one after the other.
use Rattle.std.proofs.Common.{ℕ, List, [], ◌∷◌, ◌++◌, ◌+◌, ◌<◌, sym, ◌∙◌, ap, subst, length, take, get_or, append_assoc}
use Rattle.std.specs.Prelude.{if◌then◌else◌, map, reverse}
use Rattle.std.proofs.lemmas.List.{append-nil, map-append, reverse-append, take_more}
use Rattle.mux_history.specs.Log.{Log}
use Rattle.mux_history.specs.declared.record.Record.{Record}
use Rattle.mux_history.specs.declared.session.InitMode.{InitMode}
use Rattle.mux_history.specs.declared.session.SessionId.{SessionId}
use Rattle.mux_agree.specs.Walk.{Kept, joined}
use Rattle.mux_agree.proofs.Joined.{joined_more}
use Rattle.rolling_audit.specs.declared.rolling.RollingAudit.{RollingAudit}
use Rattle.rolling_audit.specs.Histories.{behind, longer, unwritten}
use Rattle.rolling_audit.specs.Steps.{Stays, TakesAll}
use Rattle.rolling_audit.specs.Taken.{IsTaken}
use Rattle.rolling_audit.specs.Whole.{TakesEach, TakesWhole}
use Rattle.rolling_audit.proofs.Behinds.{behind_more, behind_none, same_own}

-- the epochs of a session
pub takes_no_epoch : (a : RollingAudit) (id : SessionId) → TakesAll a id [] a
takes_no_epoch a id hs taken = subst (λ l. IsTaken l a) (sym (behind_none id hs)) taken

pub takes_epoch : (old mid new : RollingAudit) (id : SessionId) (es : List Log) (k : ℕ) (d : Log) → k < length es → TakesAll old id (joined (take k es)) mid →
    TakesAll mid id (get_or es k d).records new → TakesAll old id (joined (take (k + 1) es)) new
takes_epoch old mid new id es k d h a b hs taken =
    subst (λ l. IsTaken l new)
    (behind_more id (joined (take k es)) (get_or es k d).records hs ∙ ap (λ rs. behind id rs hs) (sym (joined_more es k d h)))
    (b (behind id (joined (take k es)) hs) (a hs taken))

-- a session
pub takes_whole : (old opened filled new : RollingAudit) (id : SessionId) (mode : InitMode) (rs : List Record) →
    ((hs : List Kept) → IsTaken hs old → IsTaken (unwritten id mode ∷ hs) opened) → TakesAll opened id rs filled → Stays filled new →
    TakesWhole old (record { session = id; mode = mode; records = rs }) new
takes_whole old opened filled new id mode rs opens takes stays hs taken =
    subst (λ l. IsTaken l new)
    (ap (λ b. if b then longer (unwritten id mode) rs ∷ hs else unwritten id mode ∷ behind id rs hs) (same_own id))
    (stays (behind id rs (unwritten id mode ∷ hs)) (takes (unwritten id mode ∷ hs) (opens hs taken)))

-- sessions
pub takes_no_history : (a : RollingAudit) → TakesEach a [] a
takes_no_history a hs taken = taken

pub takes_each : (old mid new : RollingAudit) (xs ys : List Kept) → TakesEach old xs mid → TakesEach mid ys new → TakesEach old (xs ++ ys) new
takes_each old mid new xs ys a b hs taken =
    subst (λ l. IsTaken l new)
    (sym (append_assoc (reverse ys) (reverse xs) hs) ∙ ap (λ l. l ++ hs) (sym (reverse-append xs ys)))
    (b (reverse xs ++ hs) (a hs taken))

pub takes_history : {H : Type 0} (kept : H → Kept) (old mid new : RollingAudit) (hs : List H) (k : ℕ) (d : H) → k < length hs →
    TakesEach old (map kept (take k hs)) mid → TakesWhole mid (kept (get_or hs k d)) new → TakesEach old (map kept (take (k + 1) hs)) new
takes_history kept old mid new hs k d h a b =
    subst (λ l. TakesEach old l new)
    (sym (ap (map kept) (take_more hs k d h) ∙ map-append kept (take k hs) (get_or hs k d ∷ [])))
    (takes_each old mid new (map kept (take k hs)) (kept (get_or hs k d) ∷ []) a b)

-- an audit of no records takes them all
pub taken_each : (old new : RollingAudit) (ks : List Kept) → IsTaken [] old → TakesEach old ks new → IsTaken (reverse ks) new
taken_each old new ks none takes = subst (λ l. IsTaken l new) (append-nil (reverse ks)) (takes [] none)
