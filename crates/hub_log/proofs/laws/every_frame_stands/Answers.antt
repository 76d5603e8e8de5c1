use Rattle.hub_log.proofs.Standing.{each_value_has_its_source, each_value_is_used_once, every_frame_stands}
use Rattle.hub_log.proofs.laws.every_frame_stands.Goals as goal

pub returns-clause-frames : goal.returns-clause-frames
returns-clause-frames c = every_frame_stands

pub returns-clause-values : goal.returns-clause-values
returns-clause-values c = each_value_has_its_source

pub returns-clause-once : goal.returns-clause-once
returns-clause-once c = each_value_is_used_once
