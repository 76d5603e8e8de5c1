-- A step under a lock, between states that the lock may keep.
use Rattle.std.proofs.Common.{◌≡◌, ◌≤◌, ◌++◌, List, length, Result, Ok, Err, OnOk, IfErr, ap, arith}
use Rattle.std.proofs.lemmas.List.{length-append}
use Rattle.hub_close.specs.declared.receipt.Stub.{Stub}
use Rattle.hub_close.specs.Receiving.{Receiving}

pub took_between : {A E S : Type 0} (Keeps : S → Type 0) (Step : S → S → Type 0) (s t : S) (r : Result A E) → Keeps s → Keeps t
    → OnOk r (Step s t) → OnOk r ((x : S) × (y : S) × Keeps x × Keeps y × Step x y)
took_between Keeps Step s t (Ok a) before after step = (s, t, before, after, step)
took_between Keeps Step s t (Err e) before after step = tt

pub stopped_between : {A E F S : Type 0} (Keeps : S → Type 0) (Back : E → F → Type 0) (Step : F → S → S → Type 0) (s t : S) (r : Result A E)
    → Keeps s → Keeps t → IfErr r (λ e. (f : F) × Back e f × Step f s t)
    → IfErr r (λ e. (f : F) × Back e f × (x : S) × (y : S) × Keeps x × Keeps y × Step f x y)
stopped_between Keeps Back Step s t (Ok a) before after step = tt
stopped_between Keeps Back Step s t (Err e) before after step = (step.0, step.1, s, t, before, after, step.2)

-- what follows however it ended
pub either_way : {A E F : Type 0} (Back : E → F → Type 0) (Took Then : Type 0) (Stopped : F → Type 0) (r : Result A E)
    → (Took → Then) → ((f : F) → Stopped f → Then) → OnOk r Took → IfErr r (λ e. (f : F) × Back e f × Stopped f) → Then
either_way Back Took Then Stopped (Ok a) one other took stopped = one took
either_way Back Took Then Stopped (Err e) one other took stopped = other stopped.0 stopped.2

-- receipts behind others
pub longer : (had has : Receiving) (rs : List Stub) → has ≡ record had { list = had.list ++ rs }
    → length had.list ≤ length has.list
longer had has rs is = omega (arith, ap (λ (r : Receiving). length r.list) is, length-append had.list rs)
