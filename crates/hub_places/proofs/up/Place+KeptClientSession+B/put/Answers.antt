use Rattle.std.proofs.Common.{refl, sym, ◌∙◌}
use Rattle.hub_places.proofs.LockingUp.{open_at}
use Rattle.hub_places.proofs.Sitting.{no_more, opened_up}
use Rattle.hub_places.proofs.up.Place+KeptClientSession+B.put.Goals as goal

pub log-none-requires-clause-may : goal.log-none-requires-clause-may
log-none-requires-clause-may g c =
    let may = c.if-not-may_begin.ensures.yes refl in
    no_more (open_at c.self.inside.session c.self.inside.logger.home c.args.at _ _ (opened_up c.self.invariant.0) (sym c.is_some.ensures ∙ may.0) may.1
    c.self.invariant.2 c.requires.slot may.2 refl c.requires.begun)
