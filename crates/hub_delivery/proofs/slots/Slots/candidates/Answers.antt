use Rattle.std.proofs.Common.{◌≡◌, Some, refl, rules, slice_index, subst, sym}
use Rattle.hub_delivery.specs.Carrying.{AreOthers}
use Rattle.hub_delivery.proofs.Carrying.{others_pushed}
use Rattle.hub_delivery.proofs.slots.Slots.candidates.Goals.{in-Some, in_default}
use Rattle.hub_delivery.proofs.slots.Slots.candidates.Goals as goal

pub loop-server-preserved : goal.loop-server-preserved
loop-server-preserved g c = elim c.match-slot_with_room.branch [
  | in-Some w ↦
      (let server = slice_index c.args.servers.now c.loop-server.server-index in
      subst (λ v. AreOthers c.args.servers.now c.args.but c.args.by v.items) (sym w.candidates-is)
      (others_pushed c.args.servers.now c.args.but c.args.by c.loop-server.candidates w.try_push.new.self (server, w.load.result)
      w.try_push.result w.try_push.ensures.ok w.try_push.ensures.err c.loop-server.invariant (
        c.loop-server.server-index,
        search rules,
        refl,
        (λ (left : c.args.but ≡ Some server). search rules),
        (λ (left : c.args.by ≡ Some server). search rules),
      )))
  | in_default w ↦ subst (λ v. AreOthers c.args.servers.now c.args.but c.args.by v.items) (sym w.candidates-is) c.loop-server.invariant
]
