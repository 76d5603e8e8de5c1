use Rattle.std.proofs.Common.{◌≡◌, ℕ, true, false, None, refl, sym, ap, subst, ◌∙◌}
use Rattle.mux_history.specs.declared.name.Name.{Name}
use Rattle.mux_history.specs.Readings.{note_due}
use Rattle.mux_model.specs.Steps.{NoteCall, records}
use Rattle.mux_model.specs.Down.{is_mine}
use Rattle.server_session.specs.Past.{Past}
use Rattle.server_session.specs.State.{due_in}
use Rattle.server_session.specs.Belonging.{Belongs}
use Rattle.server_session.specs.Steps.{Records, is_noting, recall_in}
use Rattle.server_session.proofs.Answering.{undue, note_missing}
use Rattle.server_session.proofs.Placing.{note_step, note_refused}
use Rattle.server_session.proofs.session.ServerSession.note.Goals as goal

pub returns-in_default-clause-step : goal.returns-in_default-clause-step
returns-in_default-clause-step c = λ p b.
    let x = c.args.placed in
    let none : due_in c.args.self.now x.name true false ≡ None = ap (λ (m : Name). due_in c.args.self.now m true false) (sym c.name-name.ensures) ∙ sym c.due.ensures.value ∙ c.in_default.is in
    (p, ((note_refused p x.name x.server x.tag (note_missing (is_mine p.session x.name) (note_due x.name (records p.steps)) (undue c.args.self.now p x.name true false refl b none)), refl), refl), b)

pub returns-clause-step : goal.returns-clause-step
returns-clause-step c = λ p b.
    let x = c.args.placed in
    subst (λ (server : ℕ). (q : Past) × Records p (NoteCall x.name server x.tag) (is_noting c.keep_place.result) (recall_in c.keep_place.result) q × Belongs c.keep_place.new.self q) c.server.ensures
    (subst (λ (tag : ℕ). (q : Past) × Records p (NoteCall x.name c.server.result tag) (is_noting c.keep_place.result) (recall_in c.keep_place.result) q × Belongs c.keep_place.new.self q) c.tag.ensures
    (note_step c.args.self.now p x.name c.name-name.result c.in-Some.tag _ c.keep_place.result _ b c.name-name.ensures (sym c.due.ensures.value ∙ c.in-Some.is) c.keep_place.ensures.result c.keep_place.ensures.new))
