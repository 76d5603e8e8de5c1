use Rattle.hub_places.proofs.Homes.{at_home}
use Rattle.hub_places.proofs.log.Logger.log.Goals as goal

pub reach-requires : goal.reach-requires
reach-requires g c = at_home c.args.self.now.home c.requires.home c.requires.may
