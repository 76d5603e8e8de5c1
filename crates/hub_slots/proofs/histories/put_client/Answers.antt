use Rattle.std.proofs.Common.{refl}
use Rattle.std.proofs.lemmas.List.Elements.{All-set}
use Rattle.hub_slots.specs.Histories.{IsKeptDown}
use Rattle.hub_slots.proofs.histories.put_client.Goals as goal

pub returns : goal.returns
returns c = (refl, All-set IsKeptDown _ _ _ c.requires.2 c.requires.1)
