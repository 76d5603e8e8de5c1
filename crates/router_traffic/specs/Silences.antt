-- What becomes of a connection that is silent.
use Rattle.std.specs.Prelude.{ℕ, zero, suc, ◌-◌, Bool, true, false, nat_le, nat_lt, Option, Some, None, unwrap_or, if◌then◌else◌}
use Rattle.hub_close.specs.declared.words.DownWord.{DownWord}
use Rattle.hub_close.specs.declared.words.DownWord.TheVariants as words
use Rattle.hub_close.specs.declared.words.UpWord.{UpWord}
use Rattle.hub_close.specs.declared.words.UpWord.TheVariants as up
use Rattle.router_traffic.specs.declared.silence.Silence.{Silence}
use Rattle.router_traffic.specs.declared.silence.Silence.TheVariants.{GoesOn, Drains, Pings, Finishes, Closes}
use Rattle.router_traffic.specs.declared.silence.Activity.{Activity}
use Rattle.router_traffic.specs.declared.silence.Activity.TheVariants.{Busy, Unopened, Idle, Asked, Done, Opening, Serving}

-- a client is never idle while dispatches of it are open
abbrev pub activity_by : DownWord → (entries queued : ℕ) → (is_asked : Bool) → Activity
activity_by word (suc entries) queued is_asked = Busy
activity_by word zero queued false = Idle
activity_by words.Drained zero zero true = Done
activity_by words.Drained zero (suc queued) true = Asked
activity_by words.Draining zero queued true = Asked
activity_by words.Open zero queued true = Asked
activity_by words.Closed zero queued true = Asked

-- a server is waited for while it holds dispatches, or hasn't answered its opening
abbrev pub server_activity_by : UpWord → (load : ℕ) → Activity
server_activity_by up.Closed load = Busy
server_activity_by up.Opening load = Opening
server_activity_by up.Open zero = Busy
server_activity_by up.Open (suc load) = Serving
server_activity_by up.Drained zero = Busy
server_activity_by up.Drained (suc load) = Serving
server_activity_by up.Retired zero = Busy
server_activity_by up.Retired (suc load) = Serving

-- in this way, after that time
abbrev pub ends_by : (time : Option ℕ) → (silent : ℕ) → (end : Silence) → Silence
ends_by None silent end = GoesOn
ends_by (Some time) silent end = if nat_le time silent then end else GoesOn

-- a server that lives answers the ping that comes when half of the time is over
abbrev pub serving_by : (time : Option ℕ) → (silent : ℕ) → Silence
serving_by None silent = GoesOn
serving_by (Some time) silent =
    if nat_le time silent then Closes else (if nat_le (time - silent) silent then Pings else GoesOn)

-- a client that was asked to drain has as long again; a server answers its opening in 10 s
abbrev pub silent_by : (idle server : Option ℕ) → Activity → (silent : ℕ) → Silence
silent_by idle server Busy silent = GoesOn
silent_by idle server Unopened silent = ends_by idle silent Closes
silent_by idle server Idle silent = ends_by idle silent Drains
silent_by idle server Asked silent = ends_by idle silent Closes
silent_by idle server Done silent = Finishes
silent_by idle server Opening silent = ends_by (Some (unwrap_or server 10000)) silent Closes
silent_by idle server Serving silent = serving_by server silent

-- a begun frame has its own time, whoever sends it; all readings are milliseconds
abbrev pub silence_by : (idle : Option ℕ) → (frame : ℕ) → (server : Option ℕ) → Activity → (begun : Option ℕ) → (since now : ℕ)
    → Silence
silence_by idle frame server activity (Some begun) since now = ends_by (Some frame) (now - begun) Closes
silence_by idle frame server activity None since now = silent_by idle server activity (now - since)

-- since when a frame has been begun: since the tick at which it was found so, if none came since then
abbrev pub begun_by : (is_midway : Bool) → (begun : Option ℕ) → (heard now : ℕ) → Option ℕ
begun_by false begun heard now = None
begun_by true None heard now = Some now
begun_by true (Some begun) heard now = Some (if nat_lt heard begun then begun else now)
