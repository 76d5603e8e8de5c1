use Rattle.hub.proofs.Outgoing.{what_goes_out_stands}
use Rattle.hub.proofs.laws.what_goes_out_stands.Goals as goal

pub returns : goal.returns
returns c = record { stands = what_goes_out_stands }
