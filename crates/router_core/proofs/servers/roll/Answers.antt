use Rattle.router_core.proofs.Leading.{roll_ok, roll_err}
use Rattle.router_core.proofs.servers.roll.Goals as goal

pub returns-in-Ok-roll-clause-step : goal.returns-in-Ok-roll-clause-step
returns-in-Ok-roll-clause-step c = roll_ok _ _ c.in-Ok.fresh c.in-Ok-roll.field-0 _ c.in-Ok-roll.is c.roll.ensures.step c.epoch.result c.epoch.ensures.told _ c.telling.ensures

pub returns-clause-step : goal.returns-clause-step
returns-clause-step c = roll_err _ _ c.in-Ok.fresh c.in-Err.field-0-1 _ c.in-Err.why c.in-Err.is c.roll.ensures.step _ c.of_roll.ensures
