use Rattle.std.proofs.Common.{[], Some, ap, refl, sym, ◌∙◌}
use Rattle.router_traffic.specs.Handing.{waits_in}
use Rattle.router_traffic.specs.HandingLaws.{hands_then}
use Rattle.router_traffic.proofs.Handing.{back_in_front}
use Rattle.router_traffic.proofs.intake.Intake.put_back.Goals as goal

pub returns-then-put_back : goal.returns-then-put_back
returns-then-put_back g c =
    back_in_front _ _ _ _ (ap waits_in c.in-Some.is) (c.put_back.ensures.put c.if-put_back.true)

pub returns-else-put_back : goal.returns-else-put_back
returns-else-put_back g c =
    let same = ap waits_in c.in-Some.is ∙ sym (c.put_back.ensures.full c.if-put_back.false) in
    hands_then [] [] (back_in_front _ _ _ _ same refl) (c.lose.ensures (Some c.args.frame))

pub returns-in-None : goal.returns-in-None
returns-in-None g c = c.lose-in-None.ensures (Some c.args.frame)
