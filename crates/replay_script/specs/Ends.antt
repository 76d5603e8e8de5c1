-- The exit status of each end, and why a script ends at a line.
use Rattle.std.specs.Prelude.{ℕ}
use Rattle.replay_script.specs.declared.end.ReplayEnd.{ReplayEnd}
use Rattle.replay_script.specs.declared.end.ReplayEnd.TheVariants.{Done, BadLine, Memory, Failed}
use Rattle.replay_script.specs.declared.end.Stop.{Stop}
use Rattle.replay_script.specs.declared.end.Stop.TheVariants as stops
use Rattle.replay_script.specs.declared.command.LineFault.{LineFault}
use Rattle.replay_script.specs.declared.command.LineFault.TheVariants as faults

abbrev pub status_of : ReplayEnd → ℕ
status_of Done = 0
status_of BadLine = 2
status_of Memory = 3
status_of Failed = 4

abbrev pub stop_of : LineFault → Stop
stop_of faults.Unreadable = stops.BadLine
stop_of faults.Memory = stops.Memory
