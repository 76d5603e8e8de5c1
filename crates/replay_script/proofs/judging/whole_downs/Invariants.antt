use Rattle.std.proofs.Common.{◌≡◌, map}
use Rattle.mux_agree.specs.Walk.{kept_down}
use Rattle.replay_script.specs.Judged.{whole}
use Rattle.replay_script.proofs.judging.whole_downs.Given as goal

abbrev pub invariant-loop-down : goal.invariant-loop-down
invariant-loop-down l = map kept_down l.all.items ≡ map (whole l.router.core) (map kept_down l.yielded)
