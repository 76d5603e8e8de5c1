-- A record's kind as numbers, from which it can be told again.
use Rattle.std.specs.Prelude.{ℕ, pos, ◌==◌, true, false, Option, Some, None, if◌then◌else◌}
use Rattle.mux_history.specs.declared.kind.Cause.TheVariants.{Fragment, BadBody, TagZero, TagInUse}
use Rattle.mux_history.specs.declared.kind.RecordKind.{RecordKind}
use Rattle.mux_history.specs.declared.kind.RecordKind.TheVariants as kinds
use Rattle.mux_history.specs.declared.kind.Standing.{Standing}
use Rattle.mux_history.specs.declared.same.Code.{Code}

-- a kind with one number more, a kind with a type byte, and one with a standing
abbrev pub coded : (number content : ℕ) → Code
coded number content = record { number = number; content = content; type_byte = pos 0; standing = None }

abbrev pub code : RecordKind → Code
code kinds.Took = coded 0 0
code kinds.TookDrained = coded 1 0
code (kinds.Discarded false) = coded 2 0
code (kinds.Discarded true) = coded 3 0
code kinds.Ponged = coded 4 0
code kinds.InitDone = coded 5 0
code kinds.Echoed = coded 6 0
code kinds.OutOfPlace = coded 7 0
code kinds.Unsupported = coded 8 0
code kinds.DrainAcked = coded 9 0
code kinds.Ignored = coded 10 0
code (kinds.Noted false) = coded 11 0
code (kinds.Noted true) = coded 12 0
code kinds.Passed = coded 13 0
code kinds.Nacked = coded 14 0
code kinds.Unrouted = coded 15 0
code kinds.Failed = coded 16 0
code kinds.Retried = coded 17 0
code (kinds.Late false) = coded 18 0
code (kinds.Late true) = coded 19 0
code kinds.DrainAsked = coded 20 0
code (kinds.Closed Fragment) = coded 21 0
code (kinds.Closed TagZero) = coded 22 0
code (kinds.Closed TagInUse) = coded 23 0
code (kinds.Closed (BadBody place)) = coded 24 place
code kinds.Recalled = coded 25 0
code kinds.Lost = coded 26 0
code kinds.Offered = coded 27 0
code (kinds.Settled type) = record { number = 28; content = 0; type_byte = type; standing = None }
code kinds.SettledNack = coded 29 0
code kinds.Dropped = coded 30 0
code kinds.PingDone = coded 31 0
code (kinds.Leased ms) = coded 32 ms
code kinds.Drained = coded 33 0
code kinds.InitAsked = coded 34 0
code kinds.Discarding = coded 35 0
code kinds.Clock = coded 36 0
code kinds.Retired = coded 37 0
code kinds.PingSent = coded 38 0
code kinds.LostOne = coded 39 0
code (kinds.Epoch number standing) =
    record { number = 40; content = number; type_byte = pos 0; standing = Some standing }
code (kinds.Rolled number) = coded 41 number

abbrev pub epoch_from : ℕ → Option Standing → RecordKind
epoch_from number None = kinds.Took
epoch_from number (Some standing) = kinds.Epoch number standing

-- the kind of these numbers
abbrev pub kind_from : Code → RecordKind
kind_from c =
    if c.number == 0 then kinds.Took else
    if c.number == 1 then kinds.TookDrained else
    if c.number == 2 then kinds.Discarded false else
    if c.number == 3 then kinds.Discarded true else
    if c.number == 4 then kinds.Ponged else
    if c.number == 5 then kinds.InitDone else
    if c.number == 6 then kinds.Echoed else
    if c.number == 7 then kinds.OutOfPlace else
    if c.number == 8 then kinds.Unsupported else
    if c.number == 9 then kinds.DrainAcked else
    if c.number == 10 then kinds.Ignored else
    if c.number == 11 then kinds.Noted false else
    if c.number == 12 then kinds.Noted true else
    if c.number == 13 then kinds.Passed else
    if c.number == 14 then kinds.Nacked else
    if c.number == 15 then kinds.Unrouted else
    if c.number == 16 then kinds.Failed else
    if c.number == 17 then kinds.Retried else
    if c.number == 18 then kinds.Late false else
    if c.number == 19 then kinds.Late true else
    if c.number == 20 then kinds.DrainAsked else
    if c.number == 21 then kinds.Closed Fragment else
    if c.number == 22 then kinds.Closed TagZero else
    if c.number == 23 then kinds.Closed TagInUse else
    if c.number == 24 then kinds.Closed (BadBody c.content) else
    if c.number == 25 then kinds.Recalled else
    if c.number == 26 then kinds.Lost else
    if c.number == 27 then kinds.Offered else
    if c.number == 28 then kinds.Settled c.type_byte else
    if c.number == 29 then kinds.SettledNack else
    if c.number == 30 then kinds.Dropped else
    if c.number == 31 then kinds.PingDone else
    if c.number == 32 then kinds.Leased c.content else
    if c.number == 33 then kinds.Drained else
    if c.number == 34 then kinds.InitAsked else
    if c.number == 35 then kinds.Discarding else
    if c.number == 36 then kinds.Clock else
    if c.number == 37 then kinds.Retired else
    if c.number == 38 then kinds.PingSent else
    if c.number == 39 then kinds.LostOne else
    if c.number == 40 then epoch_from c.content c.standing else
    if c.number == 41 then kinds.Rolled c.content else
    kinds.Took
