use Rattle.std.proofs.Common.{[]}
use Rattle.router_traffic.specs.HandingLaws.{hands_then}
use Rattle.router_traffic.proofs.sink.HubSink.hand_on.Goals as goal
use Rattle.router_traffic.proofs.sink.HubSink.hand_on.Goals.{then-waiting-gt0, else-waiting-gt0}

pub returns-then-not-more : goal.returns-then-not-more
returns-then-not-more g c =
    hands_then [] []
    (hands_then [] []
    (hands_then [] []
    (elim c.if-waiting-gt0.branch [
      | then-waiting-gt0 w ↦ rw w.self-is (hands_then [] [] (rw c.count_taken.ensures c.begin.ensures) w.hand_in.ensures)
      | else-waiting-gt0 w ↦ rw (w.self-is, c.count_taken.ensures) c.begin.ensures
    ])
    c.see_places.ensures)
    c.ring.ensures)
    c.let_go.ensures

pub returns-else-not-more : goal.returns-else-not-more
returns-else-not-more g c =
    hands_then [] []
    (hands_then [] []
    (elim c.if-waiting-gt0.branch [
      | then-waiting-gt0 w ↦ rw w.self-is (hands_then [] [] (rw c.count_taken.ensures c.begin.ensures) w.hand_in.ensures)
      | else-waiting-gt0 w ↦ rw (w.self-is, c.count_taken.ensures) c.begin.ensures
    ])
    c.see_places.ensures)
    c.ring.ensures
