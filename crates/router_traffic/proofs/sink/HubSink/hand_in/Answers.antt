use Rattle.std.proofs.Common.{[]}
use Rattle.router_traffic.specs.HandingLaws.{hands_then, nothing}
use Rattle.router_traffic.proofs.sink.HubSink.hand_in.Goals as goal
use Rattle.router_traffic.proofs.sink.HubSink.hand_in.Goals.{in-Again, in-End, else-loop-test, then-loop-test+else-not-has_next+in-Wait}

pub loop-init : goal.loop-init
loop-init g c = rw c.keep_tape.ensures (nothing _)

pub loop-preserved : goal.loop-preserved
loop-preserved g c =
    let on = hands_then [] [] c.loop.invariant c.try_once.ensures in
    elim c.match-try_once.branch [ in-Again w ↦ rw w.self-is on | in-End w ↦ rw w.self-is (hands_then [] [] on w.end.ensures) ]

pub returns-then-has_next : goal.returns-then-has_next
returns-then-has_next g c =
    elim c.loop-test.branch [
      | else-loop-test w ↦ rw w.self-is c.loop.invariant
      | then-loop-test+else-not-has_next+in-Wait w ↦ rw w.self-is (hands_then [] [] c.loop.invariant w.try_once.ensures)
    ]

pub returns-else-has_next : goal.returns-else-has_next
returns-else-has_next g c =
    elim c.loop-test.branch [
      | else-loop-test w ↦ rw w.self-is c.loop.invariant
      | then-loop-test+else-not-has_next+in-Wait w ↦ rw w.self-is (hands_then [] [] c.loop.invariant w.try_once.ensures)
    ]
