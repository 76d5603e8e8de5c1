-- A kind is told by its numbers.
use Rattle.std.proofs.Common.{◌≡◌, ◌∙◌, true, false, refl, sym, ap}
use Rattle.mux_history.specs.declared.kind.Cause.TheVariants.{Fragment, BadBody, TagZero, TagInUse}
use Rattle.mux_history.specs.declared.kind.RecordKind.{RecordKind}
use Rattle.mux_history.specs.declared.kind.RecordKind.TheVariants as kinds
use Rattle.mux_history.specs.Codes.{code, kind_from}

told : (k : RecordKind) → kind_from (code k) ≡ k
told kinds.Took = refl
told kinds.TookDrained = refl
told (kinds.Discarded false) = refl
told (kinds.Discarded true) = refl
told kinds.Ponged = refl
told kinds.InitDone = refl
told kinds.Echoed = refl
told kinds.OutOfPlace = refl
told kinds.Unsupported = refl
told kinds.DrainAcked = refl
told kinds.Ignored = refl
told (kinds.Noted false) = refl
told (kinds.Noted true) = refl
told kinds.Passed = refl
told kinds.Nacked = refl
told kinds.Unrouted = refl
told kinds.Failed = refl
told kinds.Retried = refl
told (kinds.Late false) = refl
told (kinds.Late true) = refl
told kinds.DrainAsked = refl
told (kinds.Closed Fragment) = refl
told (kinds.Closed TagZero) = refl
told (kinds.Closed TagInUse) = refl
told (kinds.Closed (BadBody place)) = refl
told kinds.Recalled = refl
told kinds.Lost = refl
told kinds.Offered = refl
told (kinds.Settled type) = refl
told kinds.SettledNack = refl
told kinds.Dropped = refl
told kinds.PingDone = refl
told (kinds.Leased ms) = refl
told kinds.Drained = refl
told kinds.InitAsked = refl
told kinds.Discarding = refl
told kinds.Clock = refl
told kinds.Retired = refl
told kinds.PingSent = refl
told kinds.LostOne = refl
told (kinds.Epoch number standing) = refl
told (kinds.Rolled number) = refl

pub same_kind : (a b : RecordKind) → code a ≡ code b → a ≡ b
same_kind a b is = sym (told a) ∙ (ap kind_from is ∙ told b)
