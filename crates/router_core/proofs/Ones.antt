-- A call of one session of a vector.
use Rattle.std.proofs.Common.{◌≡◌, ℕ, List, Some, Result, Ok, Err}
use Rattle.mux_history.specs.Bounds.{Bounds}
use Rattle.mux_model.specs.Steps.{Call}
use Rattle.mux_model.specs.World.{Connection}
use Rattle.core_world.specs.declared.calls.Gave.{Gave}
use Rattle.core_world.specs.declared.refusal.EventRefusal.{EventRefusal}
use Rattle.core_world.specs.declared.refusal.EventRefusal.TheVariants as refusals
use Rattle.core_world.specs.Calls.{TurnsAway}
use Rattle.core_world.specs.Sides.{session_at, put_at, RefusesOne}
use Rattle.router_core.specs.Sides.{Does, DoesOne}

module _ {S : Type 0} (P : Bounds → ℕ → S → Connection → Type 0) where
  refuses_one : (xs : List S) (n : ℕ) (s : S) (call : Call) (why : EventRefusal) → session_at xs n ≡ Some s → TurnsAway P s call why → RefusesOne P xs n call why
  refuses_one xs n s call refusals.NoSuchSession at turned = absurd turned
  refuses_one xs n s call refusals.NoSuchHand at turned = (s, at, turned)
  refuses_one xs n s call refusals.WrongHand at turned = (s, at, turned)
  refuses_one xs n s call (refusals.Session why) at turned = (s, at, turned)
  refuses_one xs n s call refusals.Memory at turned = (s, at, turned)

  pub does_one : {X : Type 0} (xs new : List S) (n : ℕ) (s t : S) (call : Call) (r : Result Gave (EventRefusal × X)) → session_at xs n ≡ Some s → new ≡ put_at xs n t → Does P s t call r → DoesOne P xs new n call r
  does_one {X} xs new n s t call (Ok g) at put does = (s, t, at, put, does)
  does_one {X} xs new n s t call (Err e) at put does = refuses_one xs n s call e.0 at does
