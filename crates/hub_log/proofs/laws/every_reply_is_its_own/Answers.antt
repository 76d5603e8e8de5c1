use Rattle.hub_log.proofs.Following.{both_ends_agree, every_log_is_legal, every_name_is_sent_once, every_rdispatch_is_answered, every_reply_is_seen}
use Rattle.hub_log.proofs.laws.every_reply_is_its_own.Goals as goal

pub returns-clause-legal : goal.returns-clause-legal
returns-clause-legal c = every_log_is_legal

pub returns-clause-answered : goal.returns-clause-answered
returns-clause-answered c = every_rdispatch_is_answered

pub returns-clause-seen : goal.returns-clause-seen
returns-clause-seen c = every_reply_is_seen

pub returns-clause-once : goal.returns-clause-once
returns-clause-once c = every_name_is_sent_once

pub returns-clause-agree : goal.returns-clause-agree
returns-clause-agree c = both_ends_agree
