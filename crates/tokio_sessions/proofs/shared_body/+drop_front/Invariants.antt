use Rattle.std.proofs.Common.{length}
use Rattle.tokio_sessions.proofs.shared_body.+drop_front.Given as goal

abbrev pub decreases-drop_front : goal.decreases-drop_front
decreases-drop_front l = length l.bodies.now
