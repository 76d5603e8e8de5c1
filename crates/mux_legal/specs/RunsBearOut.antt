-- The histories of a run, boot by boot, and that they bear each other out.
use Rattle.std.specs.Prelude.{ℕ, List, ◌++◌, ◌==◌, ◌&&◌, Bool, not, map, filter}
use Rattle.mux_history.specs.Bounds.{Bounds}
use Rattle.mux_agree.specs.Walk.{BearOut, is_client}
use Rattle.mux_model.specs.Runs.{lines}
use Rattle.mux_model.specs.World.{start}
use Rattle.mux_model.specs.Events.{Event, run, AllChooseFree}
use Rattle.mux_model.specs.Legal.{Line}
use Rattle.mux_legal.specs.KeptRuns.{history_of}

abbrev pub is_clients_line : ℕ → Line → Bool
is_clients_line b l = l.boot == b && is_client l.session

abbrev pub is_servers_line : ℕ → Line → Bool
is_servers_line b l = l.boot == b && not (is_client l.session)

-- the lists of one boot in the order of the walk: clients first
abbrev pub of_boot : ℕ → List Line → List Line
of_boot b ls = filter (is_clients_line b) ls ++ filter (is_servers_line b) ls

-- in every run the histories of each boot bear each other out
abbrev pub RunsBearOut : Type 0
RunsBearOut =
    (limits : Bounds) (boot : ℕ) (events : List (ℕ × Event)) → AllChooseFree (start limits boot) events
    → (b : ℕ) → BearOut (map history_of (of_boot b (lines (run (start limits boot) events).connections)))
