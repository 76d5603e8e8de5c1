use Rattle.mux_legal.proofs.ReadingsHold.{every_run_is_legal}
use Rattle.mux_legal.proofs.Kept.{records_follow, records_tell_tags, records_tell_words}
use Rattle.mux_legal.proofs.laws.every_run_is_legal.Goals as goal

pub returns-clause-legal : goal.returns-clause-legal
returns-clause-legal c = every_run_is_legal

pub returns-clause-told : goal.returns-clause-told
returns-clause-told c = records_tell_tags

pub returns-clause-follow : goal.returns-clause-follow
returns-clause-follow c = records_follow

pub returns-clause-words : goal.returns-clause-words
returns-clause-words c = records_tell_words
