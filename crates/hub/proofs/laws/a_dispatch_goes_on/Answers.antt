use Rattle.hub.proofs.OneCall.{every_dispatch_goes_on}
use Rattle.hub.proofs.laws.a_dispatch_goes_on.Goals as goal

pub returns : goal.returns
returns c = record { on = every_dispatch_goes_on }
