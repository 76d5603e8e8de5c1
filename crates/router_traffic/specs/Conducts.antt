-- How a server answers, and when it is asked last for that.
use Rattle.std.specs.Prelude.{ℕ, ◌+◌, ◌-◌, ◌^◌, ◌||◌, true, false, Option, Some, None, if◌then◌else◌, min, nat_le, nat_lt}
use Rattle.router_state.specs.declared.outcome.Outcome.{Outcome}
use Rattle.router_state.specs.declared.outcome.Outcome.TheVariants as outcomes
use Rattle.router_state.specs.declared.seat.Side.{Side}
use Rattle.router_state.specs.declared.seat.Side.TheVariants.{Client, Server}
use Rattle.router_state.specs.declared.shared.Ejection.{Ejection}
use Rattle.router_state.specs.Waits.{longest, most_doublings, whole_wait}
use Rattle.router_traffic.specs.declared.conduct.Conduct.{Conduct}

-- a client is never asked last
abbrev pub ejection_of : Side → Ejection → Ejection
ejection_of (Client place) eject = record { after = None; ms = 0 }
ejection_of (Server place) eject = eject

-- no frame came yet
abbrev pub unseen : Ejection → Conduct
unseen eject =
    record { eject = eject; streak = 0; level = 0; until = 0; has_failed = false; is_ok = false }

-- so many failures came one after another
abbrev pub failed_often : (after streak : ℕ) → Conduct → Conduct
failed_often after streak c = record c { streak = streak; has_failed = c.has_failed || nat_le after streak }

-- behind one more failure
abbrev pub failed : (after : ℕ) → Conduct → Conduct
failed after c = failed_often after (min (c.streak + 1) (2 ^ 64 - 1)) c

abbrev pub seen_by : (after : Option ℕ) → Outcome → Conduct → Conduct
seen_by None outcome c = c
seen_by (Some after) outcomes.Ok c = record c { streak = 0; is_ok = true }
seen_by (Some after) outcomes.Nack c = failed after c
seen_by (Some after) outcomes.Rerr c = failed after c
seen_by (Some after) outcomes.Error c = c
seen_by (Some after) outcomes.Other c = c

-- behind a frame that says this
abbrev pub seen : Outcome → Conduct → Conduct
seen outcome c = seen_by c.eject.after outcome c

-- the reading up to which it is asked last, if that begins now
abbrev pub until_from : Conduct → (now : ℕ) → ℕ
until_from c now = min (now + whole_wait (min c.eject.ms longest) c.level) (2 ^ 64 - 1)

-- it is asked last from now on if it failed too often, and isn't asked last already
abbrev pub ejected_by : Conduct → (now : ℕ) → Option ℕ
ejected_by c now = if nat_lt now c.until then None else if c.has_failed then Some (until_from c now) else None

-- twice as long the next time; half as long after a dispatch that was carried out
abbrev pub judged : Conduct → (now : ℕ) → Conduct
judged c now =
    if nat_lt now c.until then record c { streak = 0; has_failed = false; is_ok = false }
    else if c.has_failed then record c {
      streak = 0;
      level = min (c.level + 1) most_doublings;
      until = until_from c now;
      has_failed = false;
      is_ok = false;
    }
    else record c { level = if c.is_ok then c.level - 1 else c.level; has_failed = false; is_ok = false }
