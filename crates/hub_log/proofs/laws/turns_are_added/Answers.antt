use Rattle.hub_log.proofs.Walking as walking
use Rattle.hub_log.proofs.laws.turns_are_added.Goals as goal

pub returns : goal.returns
returns c = walking.turns_are_added
