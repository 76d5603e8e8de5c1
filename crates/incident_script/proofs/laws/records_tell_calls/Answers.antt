use Rattle.incident_script.proofs.TellDown.{records_tell_down}
use Rattle.incident_script.proofs.TellUp.{records_tell_up}
use Rattle.incident_script.proofs.laws.records_tell_calls.Goals as goal

pub returns-clause-down : goal.returns-clause-down
returns-clause-down c = records_tell_down

pub returns-clause-up : goal.returns-clause-up
returns-clause-up c = records_tell_up
