use Rattle.std.proofs.Common.{None}
use Rattle.hub.proofs.hub.Hub.server_figures.Goals as goal

pub returns-in-Some : goal.returns-in-Some
returns-in-Some g c = c.shown_any.ensures

pub returns-in-None : goal.returns-in-None
returns-in-None g c = (None, tt, tt)
