use Rattle.mux_legal.proofs.Answered.{every_rdispatch_is_answered}
use Rattle.mux_legal.proofs.Once.{every_name_is_sent_once}
use Rattle.mux_legal.proofs.Seen.{every_reply_is_seen}
use Rattle.mux_legal.proofs.headline.every_reply_is_its_own.Goals as goal

pub returns-clause-once : goal.returns-clause-once
returns-clause-once c = every_name_is_sent_once

pub returns-clause-answered : goal.returns-clause-answered
returns-clause-answered c = every_rdispatch_is_answered

pub returns-clause-seen : goal.returns-clause-seen
returns-clause-seen c = every_reply_is_seen
