use Rattle.std.proofs.Common.{◌≡◌, List, true, false, Bool, None, Option, refl, sym, ap, subst, ◌∙◌, if◌then◌else◌}
use Rattle.mux_message.specs.Content.{MessageView}
use Rattle.mux_message.specs.Made.{retag}
use Rattle.mux_message.specs.Spellings.{normal}
use Rattle.mux_history.specs.declared.name.Name.{Name}
use Rattle.mux_history.specs.declared.kind.RecordKind.TheVariants as kinds
use Rattle.mux_history.specs.Readings.{answer_due}
use Rattle.mux_model.specs.Steps.{SettleCall, Held, Refused, NotMine, records}
use Rattle.mux_model.specs.Down.{is_mine, settle}
use Rattle.translate_book.specs.declared.entry.Entry.{Entry}
use Rattle.server_session.specs.Past.{Past}
use Rattle.server_session.specs.State.{due_in, may_retry}
use Rattle.mux_frame.specs.Views.{FrameView}
use Rattle.translate_book.specs.Book.{entry_at}
use Rattle.server_session.proofs.Spelled.{normal_final}
use Rattle.server_session.specs.Steps.{Records, is_answer, is_passed, frame_in}
use Rattle.server_session.specs.Belonging.{Belongs}
use Rattle.server_session.proofs.Answering.{answer_goal, goes_out, gives_nothing, undue, one_missing}
use Rattle.server_session.proofs.Retrying.{retry_test, retry_step, retry_word, settle_passed, to_be_retried}
use Rattle.server_session.proofs.Shapes.{passed, passed_late}
use Rattle.server_session.proofs.session.ServerSession.settle.Goals as goal

pub returns-in_default-clause-step : goal.returns-in_default-clause-step
returns-in_default-clause-step c = λ p b.
    let x = c.args.settled in
    let none : due_in c.args.self.now x.name false true ≡ None = ap (λ (m : Name). due_in c.args.self.now m false true) (sym c.name-name.ensures) ∙ sym c.due.ensures.value ∙ c.in_default.is in (
      p,
      (
        (
          ap (λ (z : Bool). if z then settle p.session p.steps x.name x.reply.frame (frame_in x.again) else Refused NotMine)
              (one_missing (is_mine p.session x.name) (answer_due x.name (records p.steps)) (undue c.args.self.now p x.name false true refl b none)),
          refl,
        ),
        refl,
      ),
      b,
    )

pub returns-in-None-clause-step : goal.returns-in-None-clause-step
returns-in-None-clause-step c = λ p b.
    let x = c.args.settled in
    let again = frame_in x.again in
    let is = sym c.due.ensures.value ∙ c.in-Some.is in
    let test = may_retry (entry_at c.name-name.result.seq c.args.self.now.book) x.reply.frame in
    let none : (if test then x.again else None) ≡ None =
    ap (λ (r : Name × FrameView × Option MessageView). if may_retry (entry_at c.name-name.result.seq c.args.self.now.book) r.1.frame then r.2 else None) (sym c.into_parts-reply.ensures)
    ∙ sym c.to_retry.ensures ∙ c.in-None.is in
    let told = goes_out c.args.self.now.book c.name-name.result.seq c.pass-sent.ensures.result c.of.ensures in
    subst (λ (hs : List Held). (q : Past) × Records p (SettleCall x.name x.reply.frame again) (is_answer c.of.result is_passed false) hs q × Belongs c.pass-sent.new.self q)
    (sym (gives_nothing c.args.self.now p c.name-name.result c.in-Some.tag c.of.result b is told))
    (answer_goal c.args.self.now p x.name c.name-name.result c.in-Some.tag (λ k. SettleCall k x.reply.frame again) kinds.Passed false (λ t. retag t (normal x.reply.frame)) (retag c.in-Some.tag (normal c.into_parts-reply.result.1.frame)) is_passed c.of.result _ b
    c.name-name.ensures is
    (λ k e own at mine due noted.
    settle_passed p k x.reply.frame x.again test mine due none
    (ap (λ j. retry_word p j x.reply.frame) own ∙ retry_test c.args.self.now p c.name-name.result.seq e x.reply.frame b at ∙ ap (λ (o : Option Entry). may_retry o x.reply.frame) (sym at)))
    (λ t. normal_final x.reply.frame.kind x.last) (λ t. refl) refl
    (λ t seq. passed p t seq x.reply.frame again (retag t (normal x.reply.frame))) (λ t seq. passed_late p t seq x.reply.frame again)
    told c.pass-sent.ensures.new
    (ap (λ (r : Name × FrameView × Option MessageView). retag c.in-Some.tag (normal r.1.frame)) c.into_parts-reply.ensures))

pub returns-in-Some-to_retry-clause-step : goal.returns-in-Some-to_retry-clause-step
returns-in-Some-to_retry-clause-step c = λ p b.
    let x = c.args.settled in
    let d = c.in-Some-to_retry.dispatch in
    let both = to_be_retried (may_retry (entry_at c.name-name.result.seq c.args.self.now.book) x.reply.frame) x.again d
    (ap (λ (r : Name × FrameView × Option MessageView). if may_retry (entry_at c.name-name.result.seq c.args.self.now.book) r.1.frame then r.2 else None) (sym c.into_parts-reply.ensures)
    ∙ sym c.to_retry.ensures ∙ c.in-Some-to_retry.is) in
    retry_step c.args.self.now p x.name c.name-name.result c.in-Some.tag x.reply.frame d.frame d.content (frame_in x.again) c.retry.result _ b
    c.name-name.ensures (sym c.due.ensures.value ∙ c.in-Some.is) (ap frame_in both.1) both.0 c.retry.ensures.result c.retry.ensures.new
