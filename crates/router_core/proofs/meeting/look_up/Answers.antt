use Rattle.std.proofs.Common.{refl}
use Rattle.router_core.specs.Sides.{up_past}
use Rattle.router_core.proofs.Seeing.{up_look}
use Rattle.router_core.proofs.meeting.look_up.Goals as goal

pub returns : goal.returns
returns c = λ limits number d b.
    up_look limits number c.args.session.now d c.history-history.result.now _ b (c.epoch.ensures.told (up_past limits number d b.out) b.belongs) refl
    (c.history-history.ensures.told (up_past limits number d b.out) b.belongs) c.last_of.ensures c.queued.ensures.value
