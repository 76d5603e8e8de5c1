use Rattle.std.proofs.Common.{refl}
use Rattle.router_core.specs.Sides.{down_past}
use Rattle.router_core.proofs.Seeing.{down_look}
use Rattle.router_core.proofs.meeting.look_down.Goals as goal

pub returns : goal.returns
returns c = λ limits number d b.
    down_look limits number c.args.session.now d c.history-history.result.now _ b (c.epoch.ensures.told (down_past limits number d b.out) b.belongs) refl
    (c.history-history.ensures.told (down_past limits number d b.out) b.belongs) c.last_of.ensures c.queued.ensures.value
