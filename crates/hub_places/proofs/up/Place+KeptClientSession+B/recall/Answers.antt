use Rattle.std.proofs.Common.{ap, ◌∙◌}
use Rattle.hub_places.specs.Seating.{Seating}
use Rattle.hub_places.proofs.LockingUp.{recall_may}
use Rattle.hub_places.proofs.Claiming.{seen_more}
use Rattle.hub_places.proofs.Sitting.{no_more, entered_up}
use Rattle.hub_places.proofs.up.Place+KeptClientSession+B.recall.Goals as goal

pub log-none-requires-clause-may : goal.log-none-requires-clause-may
log-none-requires-clause-may g c =
    let e = c.enter.ensures in
    no_more (recall_may _ _ _ c.args.recall _ (entered_up e c.self.invariant.0) (ap (λ (s : Seating _). s.number) c.self.view_is ∙ c.requires.number) (seen_more e.seen e.hands c.requires.claim) c.recall-result.ensures.event)
