use Rattle.std.proofs.Common.{◌≡◌, sym, ◌∙◌, rules}
use Rattle.mux_message.specs.Parts.{kind_in}
use Rattle.mux_message.specs.declared.kind.MessageKind.TheVariants as types
use Rattle.server_session.proofs.Quiet.{close_step, refuse_step, as_read, tag_named}
use Rattle.server_session.proofs.session.ServerSession.other.Goals as goal

pub returns-in-Some-clause-step : goal.returns-in-Some-clause-step
returns-in-Some-clause-step c = λ p b.
    let m = c.args.message in
    close_step c.args.self.now p c.args.now m.frame m.content c.in-Some.cause _ b c.requires.open c.requires.read
    (sym c.closing_cause.ensures ∙ c.in-Some.is)
    c.close_for.ensures

pub returns-in-Some-room_refusal-clause-step : goal.returns-in-Some-room_refusal-clause-step
returns-in-Some-room_refusal-clause-step c = λ p b.
    let m = c.args.message in
    refuse_step c.args.self.now p c.args.now m.frame m.content c.in-Some-room_refusal.refusal c.into_frame.result b c.requires.open c.requires.read
    (sym c.closing_cause.ensures ∙ c.in_default.is)
    (rw c.kind.ensures.kind at (sym c.room_refusal.ensures ∙ c.in-Some-room_refusal.is))
    (as_read c.into_frame.result m.frame c.into_frame.ensures.frame c.into_frame.ensures.as_read)

pub turn_away-requires-clause-drained : goal.turn_away-requires-clause-drained
turn_away-requires-clause-drained c =
    let kind : kind_in c.args.message.content ≡ types.Tdispatch = search rules in
    c.requires.other kind (tag_named _ _ (rw kind at (sym c.closing_cause.ensures ∙ c.in_default.is))) (search rules)
