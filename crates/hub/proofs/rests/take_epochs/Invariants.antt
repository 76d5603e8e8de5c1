use Rattle.std.proofs.Common.{drop}
use Rattle.hub.specs.Rests.{Goes, rests_of}
use Rattle.hub.proofs.rests.take_epochs.Given as goal

abbrev pub invariant-loop-epoch : goal.invariant-loop-epoch
invariant-loop-epoch l =
    Goes l.initial.audit (rests_of l.session l.epochs) (rests_of l.session (drop l.epoch-index l.epochs)) l.audit
