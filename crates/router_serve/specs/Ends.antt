-- How a router's end shows as the status of a program.
use Rattle.std.specs.Prelude.{ℕ}
use Rattle.router_serve.specs.declared.end.ServeEnd.{ServeEnd}
use Rattle.router_serve.specs.declared.end.ServeEnd.TheVariants.{Done, ConfigFault, ListenFault, Memory, Disagree, System}

abbrev pub status_of : ServeEnd → ℕ
status_of Done = 0
status_of ConfigFault = 1
status_of ListenFault = 2
status_of Memory = 3
status_of Disagree = 4
status_of System = 5
