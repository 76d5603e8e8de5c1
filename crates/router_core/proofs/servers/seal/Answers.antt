use Rattle.router_core.proofs.Leading.{seal_ok, seal_err}
use Rattle.router_core.proofs.servers.seal.Goals as goal

pub returns-in-Ok-seal-clause-step : goal.returns-in-Ok-seal-clause-step
returns-in-Ok-seal-clause-step c = seal_ok _ _ c.in-Ok.fresh c.in-Ok-seal.field-0 _ c.in-Ok-seal.is c.seal.ensures.step c.epoch.result c.epoch.ensures.told _ c.telling.ensures

pub returns-clause-step : goal.returns-clause-step
returns-clause-step c = seal_err _ _ c.in-Ok.fresh c.in-Err.field-0-1 _ c.in-Err.why c.in-Err.is c.seal.ensures.step _ c.of_seal.ensures
