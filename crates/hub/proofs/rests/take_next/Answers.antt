use Rattle.std.proofs.Common.{subst}
use Rattle.rolling_audit.specs.Covering.{TakesEpoch}
use Rattle.hub.proofs.Taking.{stops_next, takes_one}
use Rattle.hub.proofs.rests.take_next.Goals as goal

pub returns-clause-ok : goal.returns-clause-ok
returns-clause-ok c =
    λ ok.
    takes_one _ _ (record { session = c.args.session; records = c.args.records.now })
    (subst (λ n. TakesEpoch c.args.audit.now c.args.session n c.args.records.now c.take.new.self) c.first_epoch-epoch.ensures (c.take.ensures.ok ok))

pub returns-clause-err : goal.returns-clause-err
returns-clause-err c =
    stops_next c.take.result c.args.audit.now c.take.new.self c.args.session c.first_epoch-epoch.result c.args.records.now c.first_epoch-epoch.ensures
    c.take.ensures.err
