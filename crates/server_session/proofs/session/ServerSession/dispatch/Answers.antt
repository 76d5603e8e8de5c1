use Rattle.std.proofs.Common.{refl, ap, ◌∙◌}
use Rattle.server_session.specs.State.{State}
use Rattle.server_session.proofs.Quiet.{close_step, tag_in_use, tag_free}
use Rattle.server_session.proofs.Taking.{took_step}
use Rattle.server_session.proofs.session.ServerSession.dispatch.Goals as goal

pub returns-in_default : goal.returns-in_default
returns-in_default c = record {
  step = λ p b.
      let m = c.args.message in
      close_step c.args.self.now p c.args.now m.frame m.content _ _ b c.requires.open c.requires.read
      (rw c.requires.kind (tag_in_use _ _ (rw c.tag-tag.ensures at c.in_default.ensures.taken) c.requires.tag))
      (rw c.in_default.ensures.unchanged at c.close_for.ensures);
}

pub returns : goal.returns
returns c = record {
  step = λ p b.
      let s = c.args.self.now in
      let m = c.args.message in
      took_step s p c.args.now m.frame m.content b c.requires.open c.requires.read c.requires.spelled c.requires.kind c.requires.room
      (tag_free _ _ (rw c.tag-tag.ensures at c.in-Some.ensures.free) c.requires.tag)
      c.new-2.result c.retries-left.result c.write.new.self
      c.requires.drained
      (c.retries-left.ensures.value ∙ ap (λ (t : State). t.limits.retries) c.self.view_is)
      (rw (c.new-2.ensures, c.new.ensures, c.in-Some.ensures.result) refl)
      (rw (c.write.ensures, c.in-Some.ensures.new, c.in-Some.ensures.result, c.tag-tag.ensures) refl);
}
