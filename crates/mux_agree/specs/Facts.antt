-- The kinds of records that show a fact.
use Rattle.std.specs.Prelude.{Bool, true, false}
use Rattle.mux_history.specs.declared.kind.RecordKind.{RecordKind}
use Rattle.mux_history.specs.declared.kind.RecordKind.TheVariants.{Discarding}
use Rattle.mux_history.specs.Readings.{gives_name, is_offered, is_retried}
use Rattle.mux_agree.specs.declared.agreement.fact.Fact.{Fact}
use Rattle.mux_agree.specs.declared.agreement.fact.Fact.TheVariants.{Taken, Sent, SentAgain, Answered, Refused, Nacked, Replied, NackedBack, Settled, Missing, Recalled}
use Rattle.mux_agree.specs.Agree.{answers, is_refused, is_nacked, is_replied, is_settled_nack, is_settled, is_lost_one}

-- a server was asked to discard the dispatch
abbrev pub is_discarding : RecordKind → Bool
is_discarding Discarding = true
is_discarding _ = false

abbrev pub shows : Fact → RecordKind → Bool
shows Taken = gives_name
shows Sent = is_offered
shows SentAgain = is_retried
shows Answered = answers
shows Refused = is_refused
shows Nacked = is_nacked
shows Replied = is_replied
shows NackedBack = is_settled_nack
shows Settled = is_settled
shows Missing = is_lost_one
shows Recalled = is_discarding
