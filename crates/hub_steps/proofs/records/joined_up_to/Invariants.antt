use Rattle.std.proofs.Common.{◌≡◌, take}
use Rattle.mux_agree.specs.Walk.{joined}
use Rattle.hub_steps.proofs.records.joined_up_to.Given as goal

abbrev pub invariant-loop-epoch : goal.invariant-loop-epoch
invariant-loop-epoch l = l.records.items ≡ take l.most (joined (take l.epoch-index l.epochs))
