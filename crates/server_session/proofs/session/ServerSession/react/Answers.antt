use Rattle.std.proofs.Common.{◌≡◌, refl, sym, ◌∙◌}
use Rattle.server_session.specs.Inside.{state_of}
use Rattle.server_session.proofs.Quiet.{reacted_send, untouched, passed_by}
use Rattle.gate.specs.Drains.{answers as acks}
use Rattle.server_session.proofs.session.ServerSession.react.Goals as goal

pub returns-in-Send : goal.returns-in-Send
returns-in-Send c =
    let m = c.args.message.now in
    rw (← c.self.view_is) (
      refl,
      reacted_send (state_of c.self.inside) c.args.now m.frame m.content c.in-Send.frame.frame c.step.new.self _ _ _
          c.write.ensures c.step.ensures.after (rw (c.kind.ensures.kind, ← c.self.view_is) at c.init_kind-kind.ensures) c.tag.ensures
          (sym c.in-Send.ensures.gives),
    )

pub returns-in_default : goal.returns-in_default
returns-in_default c =
    let m = c.args.message.now in
    let same = untouched c.self.inside.init (acks m.frame.tag c.self.inside.drain) m.frame m.content (passed_by c.step.result _ c.in_default.not-Send c.step.ensures.gives) in
    let kept : c.step.new.self ≡ c.self.inside.init = c.step.ensures.after ∙ same.0 in
    rw (← c.self.view_is, same.1) (rw kept at c.answer_other.ensures)
