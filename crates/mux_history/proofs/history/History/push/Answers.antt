use Rattle.std.proofs.Common.{◌<◌, ◌-◌, ◌^◌, length, rules}
use Rattle.mux_history.proofs.Counting.{counts_push, has_room}
use Rattle.mux_history.proofs.history.History.push.Goals as goal

pub invariant_of-self : goal.invariant_of-self
invariant_of-self c =
    (search rules, search rules, counts_push _ _ _ _ _ _ c.self.invariant.2 c.add.ensures c.shape.ensures c.push_reserved.ensures.items)

pub add-requires : goal.add-requires
add-requires c =
    let fewer : length c.self.inside.records.items < 2 ^ 64 - 1 = search rules in
    has_room _ _ c.self.invariant.2 fewer
