use Rattle.std.proofs.Common.{◌≡◌, sym, ◌∙◌}
use Rattle.client_session.proofs.Reacting.{untouched}
use Rattle.client_session.proofs.session.ClientSession.answer.Goals as goal

pub returns-in-NotInit : goal.returns-in-NotInit
returns-in-NotInit c =
    let m = c.args.message.now in
    let same = untouched c.self.inside.init c.self.inside.ping m.frame m.content (sym c.in-NotInit.ensures.gives) in
    let kept : c.step.new.self ≡ c.self.inside.init = c.in-NotInit.ensures.after ∙ same.0 in
    rw (← c.self.view_is, same.1) (rw kept at c.react.ensures)
