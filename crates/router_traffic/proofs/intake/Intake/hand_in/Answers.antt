use Rattle.std.proofs.Common.{[], None, ap}
use Rattle.router_traffic.specs.Handing.{waits_in}
use Rattle.router_traffic.specs.HandingLaws.{hands_then}
use Rattle.router_traffic.proofs.Handing.{handed, handed_up_to, seat_same}
use Rattle.router_traffic.proofs.intake.Intake.hand_in.Goals as goal

pub returns-in_default : goal.returns-in_default
returns-in_default g c = c.lose.ensures None

pub returns-in_default-batch : goal.returns-in_default-batch
returns-in_default-batch g c =
    hands_then [] [] (seat_same _ _ c.in-Some.is) (c.lose-in_default-batch.ensures None)

pub returns-in-Ok : goal.returns-in-Ok
returns-in-Ok g c =
    handed _ _ _ _ _ _ c.requires c.in-Some.is (ap waits_in c.in-Some-batch.is) c.in-Ok.ensures.ok c.hand_in.ensures.same

pub returns-in-Err : goal.returns-in-Err
returns-in-Err g c =
    handed_up_to _ _ _ _ _ _ _ _ c.requires c.in-Some.is (ap waits_in c.in-Some-batch.is) c.in-Err.ensures.err
    c.hand_in.ensures.same c.refused.ensures
