use Rattle.std.proofs.Common.{◌≡◌, map}
use Rattle.mux_agree.specs.Walk.{kept_up}
use Rattle.replay_script.specs.Judged.{whole}
use Rattle.replay_script.proofs.judging.whole_ups.Given as goal

abbrev pub invariant-loop-up : goal.invariant-loop-up
invariant-loop-up l = map kept_up l.all.items ≡ map (whole l.router.core) (map kept_up l.yielded)
