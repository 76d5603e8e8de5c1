-- What is packed is told again.
use Rattle.std.proofs.Common.{ℕ, ◌≡◌, true, false, Some, None, refl, ap}
use Rattle.std.specs.Prelude.{IsTrue}
use Rattle.mux_history.specs.declared.name.Name.{Name}
use Rattle.mux_history.specs.declared.kind.Cause.TheVariants as causes
use Rattle.mux_history.specs.declared.kind.RecordKind.{RecordKind}
use Rattle.mux_history.specs.declared.kind.RecordKind.TheVariants as kinds
use Rattle.mux_history.specs.declared.kind.Standing.TheVariants.{Down, Up}
use Rattle.mux_history.specs.declared.shape.Shape.{Shape}
use Rattle.mux_history.specs.declared.record.Record.TheInside.{Inside}
use Rattle.mux_history.specs.Packing.{Fits, is_plain, kind_in, numbers_of, pack, shape_of, unpack}

-- a kind without numbers, beside any numbers
told_plain : (k : RecordKind) (first second third : ℕ) → is_plain k ≡ true → kind_in (shape_of k) first second third ≡ k
told_plain kinds.Took first second third plain = refl
told_plain kinds.TookDrained first second third plain = refl
told_plain (kinds.Discarded recalled) first second third plain = refl
told_plain kinds.Ponged first second third plain = refl
told_plain kinds.InitDone first second third plain = refl
told_plain kinds.Echoed first second third plain = refl
told_plain kinds.OutOfPlace first second third plain = refl
told_plain kinds.Unsupported first second third plain = refl
told_plain kinds.DrainAcked first second third plain = refl
told_plain kinds.Ignored first second third plain = refl
told_plain (kinds.Noted recalled) first second third plain = refl
told_plain kinds.Passed first second third plain = refl
told_plain kinds.Nacked first second third plain = refl
told_plain kinds.Unrouted first second third plain = refl
told_plain kinds.Failed first second third plain = refl
told_plain kinds.Retried first second third plain = refl
told_plain (kinds.Late whole) first second third plain = refl
told_plain kinds.DrainAsked first second third plain = refl
told_plain kinds.Recalled first second third plain = refl
told_plain kinds.Lost first second third plain = refl
told_plain kinds.Offered first second third plain = refl
told_plain (kinds.Settled kind) first second third plain = refl
told_plain kinds.SettledNack first second third plain = refl
told_plain kinds.Dropped first second third plain = refl
told_plain kinds.PingDone first second third plain = refl
told_plain kinds.Drained first second third plain = refl
told_plain kinds.InitAsked first second third plain = refl
told_plain kinds.Discarding first second third plain = refl
told_plain kinds.Clock first second third plain = refl
told_plain kinds.Retired first second third plain = refl
told_plain kinds.PingSent first second third plain = refl
told_plain kinds.LostOne first second third plain = refl
told_plain _ first second third plain = absurd (cc)

-- a kind beside its own numbers
told_numbers : (k : RecordKind) → kind_in (shape_of k) (numbers_of k).0 (numbers_of k).1 (numbers_of k).2 ≡ k
told_numbers kinds.Took = refl
told_numbers kinds.TookDrained = refl
told_numbers (kinds.Discarded recalled) = refl
told_numbers kinds.Ponged = refl
told_numbers kinds.InitDone = refl
told_numbers kinds.Echoed = refl
told_numbers kinds.OutOfPlace = refl
told_numbers kinds.Unsupported = refl
told_numbers kinds.DrainAcked = refl
told_numbers kinds.Ignored = refl
told_numbers (kinds.Noted recalled) = refl
told_numbers kinds.Passed = refl
told_numbers kinds.Nacked = refl
told_numbers kinds.Unrouted = refl
told_numbers kinds.Failed = refl
told_numbers kinds.Retried = refl
told_numbers (kinds.Late whole) = refl
told_numbers kinds.DrainAsked = refl
told_numbers kinds.Recalled = refl
told_numbers kinds.Lost = refl
told_numbers kinds.Offered = refl
told_numbers (kinds.Settled kind) = refl
told_numbers kinds.SettledNack = refl
told_numbers kinds.Dropped = refl
told_numbers kinds.PingDone = refl
told_numbers kinds.Drained = refl
told_numbers kinds.InitAsked = refl
told_numbers kinds.Discarding = refl
told_numbers kinds.Clock = refl
told_numbers kinds.Retired = refl
told_numbers kinds.PingSent = refl
told_numbers kinds.LostOne = refl
told_numbers (kinds.Closed causes.Fragment) = refl
told_numbers (kinds.Closed (causes.BadBody place)) = refl
told_numbers (kinds.Closed causes.TagZero) = refl
told_numbers (kinds.Closed causes.TagInUse) = refl
told_numbers (kinds.Leased ms) = refl
told_numbers (kinds.Rolled number) = refl
told_numbers (kinds.Epoch number (Down fresh drain dispatches)) = refl
told_numbers (kinds.Epoch number (Up init drained true true true lapse)) = refl
told_numbers (kinds.Epoch number (Up init drained true true false lapse)) = refl
told_numbers (kinds.Epoch number (Up init drained true false true lapse)) = refl
told_numbers (kinds.Epoch number (Up init drained true false false lapse)) = refl
told_numbers (kinds.Epoch number (Up init drained false true true lapse)) = refl
told_numbers (kinds.Epoch number (Up init drained false true false lapse)) = refl
told_numbers (kinds.Epoch number (Up init drained false false true lapse)) = refl
told_numbers (kinds.Epoch number (Up init drained false false false lapse)) = refl

-- with a name, and without one
pub packed_named : (kind : RecordKind) (tag : ℕ) (name : Name) (reading : ℕ) → IsTrue (is_plain kind) →
    pack (unpack (pack (record { kind = kind; tag = tag; name = Some name; reading = reading }))) ≡ pack (record { kind = kind; tag = tag; name = Some name; reading = reading })
packed_named kind tag name reading plain =
    ap (λ k. pack (record { kind = k; tag = tag; name = Some name; reading = reading })) (told_plain kind name.boot name.client name.seq plain)

pub packed_unnamed : (kind : RecordKind) (tag reading : ℕ) →
    pack (unpack (pack (record { kind = kind; tag = tag; name = None; reading = reading }))) ≡ pack (record { kind = kind; tag = tag; name = None; reading = reading })
packed_unnamed kind tag reading = ap (λ k. pack (record { kind = k; tag = tag; name = None; reading = reading })) (told_numbers kind)

pub fits_plain : (kind : RecordKind) (first : ℕ) → IsTrue (is_plain kind) → Fits (shape_of kind) first
fits_plain kinds.Took first plain = tt
fits_plain kinds.TookDrained first plain = tt
fits_plain (kinds.Discarded recalled) first plain = tt
fits_plain kinds.Ponged first plain = tt
fits_plain kinds.InitDone first plain = tt
fits_plain kinds.Echoed first plain = tt
fits_plain kinds.OutOfPlace first plain = tt
fits_plain kinds.Unsupported first plain = tt
fits_plain kinds.DrainAcked first plain = tt
fits_plain kinds.Ignored first plain = tt
fits_plain (kinds.Noted recalled) first plain = tt
fits_plain kinds.Passed first plain = tt
fits_plain kinds.Nacked first plain = tt
fits_plain kinds.Unrouted first plain = tt
fits_plain kinds.Failed first plain = tt
fits_plain kinds.Retried first plain = tt
fits_plain (kinds.Late whole) first plain = tt
fits_plain kinds.DrainAsked first plain = tt
fits_plain kinds.Recalled first plain = tt
fits_plain kinds.Lost first plain = tt
fits_plain kinds.Offered first plain = tt
fits_plain (kinds.Settled kind) first plain = tt
fits_plain kinds.SettledNack first plain = tt
fits_plain kinds.Dropped first plain = tt
fits_plain kinds.PingDone first plain = tt
fits_plain kinds.Drained first plain = tt
fits_plain kinds.InitAsked first plain = tt
fits_plain kinds.Discarding first plain = tt
fits_plain kinds.Clock first plain = tt
fits_plain kinds.Retired first plain = tt
fits_plain kinds.PingSent first plain = tt
fits_plain kinds.LostOne first plain = tt
fits_plain _ first plain = absurd (cc)

-- the same of a shape and of numbers that are those of a kind
pub unnamed : (kind : RecordKind) (tag reading : ℕ) (shape : Shape) (words : ℕ × ℕ × ℕ) → shape ≡ shape_of kind → words ≡ numbers_of kind → Fits (shape_of kind) words.0 →
    let r : Inside = record { first = words.0; second = words.1; third = words.2; reading = reading; tag = tag; shape = shape; named = false } in
    (pack (unpack r) ≡ r) × Fits shape words.0
unnamed kind tag reading shape words is held fits = rw is (rw held (packed_unnamed kind tag reading), fits)
