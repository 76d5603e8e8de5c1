-- How a record's kind and name lie in three numbers and a shape.
use Rattle.std.specs.Prelude.{ℕ, Option, Some, None, Bool, true, false, ⊤, ◌<◌, ◌^◌, ◌+◌, ◌==◌, ◌||◌, IsTrue, is_some, if◌then◌else◌}
use Rattle.mux_history.specs.declared.name.Name.{Name}
use Rattle.mux_history.specs.declared.kind.Cause.{Cause}
use Rattle.mux_history.specs.declared.kind.Cause.TheVariants as causes
use Rattle.mux_history.specs.declared.kind.RecordKind.{RecordKind}
use Rattle.mux_history.specs.declared.kind.RecordKind.TheVariants as kinds
use Rattle.mux_history.specs.declared.kind.Standing.TheVariants.{Down, Up}
use Rattle.mux_history.specs.declared.shape.Closing.{Closing}
use Rattle.mux_history.specs.declared.shape.Closing.TheVariants as closings
use Rattle.mux_history.specs.declared.shape.Shape.{Shape}
use Rattle.mux_history.specs.declared.shape.Shape.TheVariants as shapes
use Rattle.mux_history.specs.declared.record.Record.TheInside.{Inside}
use Rattle.mux_history.specs.Recorded.{Recorded}

abbrev pub closing_of : Cause → Closing
closing_of causes.Fragment = closings.Fragment
closing_of (causes.BadBody place) = closings.BadBody
closing_of causes.TagZero = closings.TagZero
closing_of causes.TagInUse = closings.TagInUse

abbrev pub cause_in : Closing → ℕ → Cause
cause_in closings.Fragment place = causes.Fragment
cause_in closings.BadBody place = causes.BadBody place
cause_in closings.TagZero place = causes.TagZero
cause_in closings.TagInUse place = causes.TagInUse

abbrev pub shape_of : RecordKind → Shape
shape_of kinds.Took = shapes.Took
shape_of kinds.TookDrained = shapes.TookDrained
shape_of (kinds.Discarded recalled) = shapes.Discarded recalled
shape_of kinds.Ponged = shapes.Ponged
shape_of kinds.InitDone = shapes.InitDone
shape_of kinds.Echoed = shapes.Echoed
shape_of kinds.OutOfPlace = shapes.OutOfPlace
shape_of kinds.Unsupported = shapes.Unsupported
shape_of kinds.DrainAcked = shapes.DrainAcked
shape_of kinds.Ignored = shapes.Ignored
shape_of (kinds.Noted recalled) = shapes.Noted recalled
shape_of kinds.Passed = shapes.Passed
shape_of kinds.Nacked = shapes.Nacked
shape_of kinds.Unrouted = shapes.Unrouted
shape_of kinds.Failed = shapes.Failed
shape_of kinds.Retried = shapes.Retried
shape_of (kinds.Late whole) = shapes.Late whole
shape_of kinds.DrainAsked = shapes.DrainAsked
shape_of (kinds.Closed cause) = shapes.Closed (closing_of cause)
shape_of kinds.Recalled = shapes.Recalled
shape_of kinds.Lost = shapes.Lost
shape_of kinds.Offered = shapes.Offered
shape_of (kinds.Settled kind) = shapes.Settled kind
shape_of kinds.SettledNack = shapes.SettledNack
shape_of kinds.Dropped = shapes.Dropped
shape_of kinds.PingDone = shapes.PingDone
shape_of (kinds.Leased ms) = shapes.Leased
shape_of kinds.Drained = shapes.Drained
shape_of kinds.InitAsked = shapes.InitAsked
shape_of kinds.Discarding = shapes.Discarding
shape_of kinds.Clock = shapes.Clock
shape_of kinds.Retired = shapes.Retired
shape_of kinds.PingSent = shapes.PingSent
shape_of kinds.LostOne = shapes.LostOne
shape_of (kinds.Epoch number (Down fresh drain dispatches)) = shapes.EpochDown fresh drain
shape_of (kinds.Epoch number (Up init drained retired ping leased lapse)) = shapes.EpochUp init drained
shape_of (kinds.Rolled number) = shapes.Rolled

abbrev pub marks_of : (retired ping leased : Bool) → ℕ
marks_of retired ping leased = (if retired then 1 else 0) + (if ping then 2 else 0) + (if leased then 4 else 0)

-- the numbers that a kind holds
abbrev pub numbers_of : RecordKind → ℕ × ℕ × ℕ
numbers_of (kinds.Closed (causes.BadBody place)) = (place, 0, 0)
numbers_of (kinds.Leased ms) = (ms, 0, 0)
numbers_of (kinds.Rolled number) = (number, 0, 0)
numbers_of (kinds.Epoch number (Down fresh drain dispatches)) = (number, dispatches, 0)
numbers_of (kinds.Epoch number (Up init drained retired ping leased lapse)) = (number, lapse, marks_of retired ping leased)
numbers_of _ = (0, 0, 0)

-- the kind of this shape that holds these numbers
abbrev pub kind_in : Shape → (first second third : ℕ) → RecordKind
kind_in shapes.Took first second third = kinds.Took
kind_in shapes.TookDrained first second third = kinds.TookDrained
kind_in (shapes.Discarded recalled) first second third = kinds.Discarded recalled
kind_in shapes.Ponged first second third = kinds.Ponged
kind_in shapes.InitDone first second third = kinds.InitDone
kind_in shapes.Echoed first second third = kinds.Echoed
kind_in shapes.OutOfPlace first second third = kinds.OutOfPlace
kind_in shapes.Unsupported first second third = kinds.Unsupported
kind_in shapes.DrainAcked first second third = kinds.DrainAcked
kind_in shapes.Ignored first second third = kinds.Ignored
kind_in (shapes.Noted recalled) first second third = kinds.Noted recalled
kind_in shapes.Passed first second third = kinds.Passed
kind_in shapes.Nacked first second third = kinds.Nacked
kind_in shapes.Unrouted first second third = kinds.Unrouted
kind_in shapes.Failed first second third = kinds.Failed
kind_in shapes.Retried first second third = kinds.Retried
kind_in (shapes.Late whole) first second third = kinds.Late whole
kind_in shapes.DrainAsked first second third = kinds.DrainAsked
kind_in (shapes.Closed closing) first second third = kinds.Closed (cause_in closing first)
kind_in shapes.Recalled first second third = kinds.Recalled
kind_in shapes.Lost first second third = kinds.Lost
kind_in shapes.Offered first second third = kinds.Offered
kind_in (shapes.Settled kind) first second third = kinds.Settled kind
kind_in shapes.SettledNack first second third = kinds.SettledNack
kind_in shapes.Dropped first second third = kinds.Dropped
kind_in shapes.PingDone first second third = kinds.PingDone
kind_in shapes.Leased first second third = kinds.Leased first
kind_in shapes.Drained first second third = kinds.Drained
kind_in shapes.InitAsked first second third = kinds.InitAsked
kind_in shapes.Discarding first second third = kinds.Discarding
kind_in shapes.Clock first second third = kinds.Clock
kind_in shapes.Retired first second third = kinds.Retired
kind_in shapes.PingSent first second third = kinds.PingSent
kind_in shapes.LostOne first second third = kinds.LostOne
kind_in shapes.Rolled first second third = kinds.Rolled first
kind_in (shapes.EpochDown fresh drain) first second third = kinds.Epoch first (Down fresh drain second)
kind_in (shapes.EpochUp init drained) first second third =
    kinds.Epoch first (Up init drained
    (third == 1 || (third == 3 || (third == 5 || third == 7)))
    (third == 2 || (third == 3 || (third == 6 || third == 7)))
    (third == 4 || (third == 5 || (third == 6 || third == 7)))
    second)

-- whether a kind holds no number
abbrev pub is_plain : RecordKind → Bool
is_plain (kinds.Closed cause) = false
is_plain (kinds.Leased ms) = false
is_plain (kinds.Epoch number standing) = false
is_plain (kinds.Rolled number) = false
is_plain _ = true

-- a kind that holds a number stands beside no name
abbrev pub MayHold : RecordKind → Option Name → Type 0
MayHold kind None = ⊤
MayHold kind (Some name) = IsTrue (is_plain kind)

-- the number of an epoch has four bytes
abbrev pub Fits : Shape → ℕ → Type 0
Fits (shapes.EpochDown fresh drain) first = first < 2 ^ 32
Fits (shapes.EpochUp init drained) first = first < 2 ^ 32
Fits shapes.Rolled first = first < 2 ^ 32
Fits _ first = ⊤

abbrev pub unpack : Inside → Recorded
unpack r = record {
  kind = kind_in r.shape r.first r.second r.third;
  tag = r.tag;
  name = if r.named then Some (record { boot = r.first; client = r.second; seq = r.third }) else None;
  reading = r.reading;
}

abbrev pub words_of : RecordKind → Option Name → ℕ × ℕ × ℕ
words_of kind None = numbers_of kind
words_of kind (Some name) = (name.boot, name.client, name.seq)

abbrev pub pack : Recorded → Inside
pack v = record {
  first = (words_of v.kind v.name).0;
  second = (words_of v.kind v.name).1;
  third = (words_of v.kind v.name).2;
  reading = v.reading;
  tag = v.tag;
  shape = shape_of v.kind;
  named = is_some v.name;
}
