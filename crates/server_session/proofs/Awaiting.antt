-- A dispatch whose client waits: its place is noted, and its reply passed on.
use Rattle.std.proofs.Common.{◌≡◌, ℕ, ◌+◌, ◌-◌, ◌*◌, ◌≤◌, true, false, cond, if◌then◌else◌, [], None, Some, refl, sym, ap, subst, ◌∙◌, arith}
use Rattle.std.specs.Option.{option_map}
use Rattle.mux_history.specs.declared.name.Name.{Name}
use Rattle.mux_history.specs.declared.kind.RecordKind.TheVariants as kinds
use Rattle.mux_message.specs.Made.{retag}
use Rattle.mux_message.specs.Spellings.{normal}
use Rattle.mux_model.specs.Steps.{NoteCall, SettleCall}
use Rattle.translate_book.specs.declared.entry.AnswerState.{AnswerState}
use Rattle.translate_book.specs.declared.entry.AnswerState.TheVariants.{Open, Shut, Answered}
use Rattle.translate_book.specs.declared.entry.Entry.{Entry}
use Rattle.translate_book.specs.declared.entry.Effect.{Effect}
use Rattle.translate_book.specs.declared.entry.Place.{Place}
use Rattle.translate_book.specs.declared.sent.Settled.{Settled}
use Rattle.translate_book.specs.declared.entry.Change.TheVariants as changes
use Rattle.translate_book.specs.Entries.{is_open, is_open_answer, is_due_answer, noting, applied, effect_of, recall_from}
use Rattle.translate_book.specs.Book.{BookView, entry_at, changed}
use Rattle.server_session.specs.declared.session.ServerSession.TheInside.{Inside}
use Rattle.server_session.specs.Past.{Past}
use Rattle.server_session.specs.declared.answers.Answer.TheVariants as whether
use Rattle.server_session.specs.Decide.{free_out, free_records}
use Rattle.server_session.specs.State.{State, answered_in, changing, figures_in, noted, placed_in, recall_to, owes_at, weight, opening, IsAwaited, OwesNote, OwesReply}
use Rattle.server_session.specs.Inside.{IsSound, state_of}
use Rattle.server_session.specs.Belonging.{Belongs}
use Rattle.server_session.specs.Steps.{Records, frame_in, is_answer, is_noting, is_passed}
use Rattle.server_session.proofs.Answering.{answer_goal}
use Rattle.server_session.proofs.Books.{entry_at-own, left_of}
use Rattle.server_session.proofs.Placing.{note_step, noted_by}
use Rattle.server_session.proofs.Retrying.{settle_none}
use Rattle.server_session.proofs.Shapes.{passed, passed_late}
use Rattle.server_session.proofs.Soundness.{counted, changed_sound, with_book}
use Rattle.server_session.proofs.Spelled.{normal_final}

waits_on : (a : AnswerState) → is_open_answer a ≡ true → a ≡ Open
waits_on Open is = refl
waits_on Shut is = cc
waits_on Answered is = cc

-- the note of an open dispatch gives no recall
pub note_open : (s : State) (p : Past) (n : Name) (tag : ℕ) (place : Place) (new : State) → Belongs s p → OwesNote s n tag
    → new ≡ noted (placed_in s n.seq place) 0 (kinds.Noted false) tag (Some n) None
    → (q : Past) × Records p (NoteCall n place.server place.tag) (is_noting None) [] q × Belongs new q
note_open s p n tag place new b owes new_is =
    let x : Entry = owes.1.0 in
    let answer = waits_on x.answer owes.1.2.1 in
    let left = entry_at-own n.seq (noting place) 0 s.book s.dispatches x b.rises owes.1.1 in
    note_step s p n n tag place None new b refl owes.0
    (sym (ap (λ o. recall_to n place (recall_from o)) left ∙ ap (λ (a : AnswerState). recall_to n place (recall_from (left_of (noting place (record x { answer = a }))))) answer))
    (new_is ∙ sym (ap (noted_by s n tag place) (ap owes_at left ∙ ap (λ (a : AnswerState). owes_at (left_of (noting place (record x { answer = a })))) answer)))

-- an awaited dispatch keeps two records, and two for each try
awaited_weight : (e : Entry) → IsAwaited e → weight e ≡ 2 + 2 * e.left
awaited_weight e waits =
    ap (λ b. (cond b 1 0 + cond (is_due_answer e.answer) (cond e.recalled 1 2) 0) + cond (is_open_answer e.answer) (2 * e.left) 0) waits.0
    ∙ ap (λ (a : AnswerState). (0 + cond (is_due_answer a) (cond e.recalled 1 2) 0) + cond (is_open_answer a) (2 * e.left) 0) (waits_on e.answer waits.1)
    ∙ ap (λ b. (0 + cond b 1 2) + 2 * e.left) waits.2

-- what its reply frees
pub record Freed (i : Inside) (book : BookView) (in_use kept : ℕ) : Type 0 where
  pub sound : IsSound (with_book i book in_use kept)
  pub records : 1 ≤ free_records (figures_in (state_of (with_book i book in_use kept)))
  pub out : 1 ≤ free_out (figures_in (state_of (with_book i book in_use kept)))

pub answered_sound : (i : Inside) (seq : ℕ) (e : Entry) (done : Effect) (book : BookView) (left : ℕ) → IsSound i
    → entry_at seq i.book.entries ≡ Some e → IsAwaited e → Some done ≡ option_map (effect_of changes.Answer) (entry_at seq i.book.entries)
    → left ≡ done.was.left → book ≡ record i.book { entries = changed seq (applied changes.Answer) i.book.entries }
    → (1 ≤ i.in_use) × (2 + 2 * left ≤ i.kept) × Freed i book (i.in_use - 1) (i.kept - (2 + 2 * left))
answered_sound i seq e done book left s is waits told from new =
    let c = changes.Answer in
    let n = applied c e in
    let only : Some done ≡ Some (effect_of c e) = told ∙ ap (option_map (effect_of c)) is in
    let same : done ≡ effect_of c e = cc in
    let left_is : left ≡ e.left = from ∙ ap (λ (d : Effect). d.was.left) same in
    let k = counted i seq c e (effect_of c e) (opening e) (weight e) (opening n) (weight n) s is tt (sym (ap (option_map (effect_of c)) is)) refl refl refl refl in
    let ch = changed_sound i seq c e book (opening e) (weight e) (opening n) (weight n) s is new k in
    let used : opening e ≡ 1 = ap (λ z. cond z 1 0) waits.1 in
    let free : opening n ≡ 0 = refl in
    let was : weight e ≡ 2 + 2 * e.left = awaited_weight e waits in
    let none : weight n ≡ 0 = ap (λ b. (cond b 1 0 + 0) + 0) waits.0 in
    let use_is : i.in_use - (opening e - opening n) ≡ i.in_use - 1 = omega (arith, used) in
    let kept_is : i.kept - (weight e - weight n) ≡ i.kept - (2 + 2 * left) = omega (arith, was, none, left_is) in (
      omega (arith, used, k.use_within),
      omega (arith, was, left_is, k.kept_within),
      subst (λ (u : ℕ). Freed i book u (i.kept - (2 + 2 * left))) use_is
          (subst (λ (w : ℕ). Freed i book (i.in_use - (opening e - opening n)) w) kept_is
          (record { sound = ch.sound; records = omega (arith, ch.records, was, none); out = omega (arith, ch.out, used) })),
    )

-- the reply to an awaited dispatch goes out
pub passed_on : (s : State) (p : Past) (x : Settled) (tag : ℕ) (new : State) → Belongs s p → x.again ≡ None → OwesReply s x.name tag
    → new ≡ noted (changing s x.name.seq changes.Answer) 0 kinds.Passed tag (Some x.name) (Some (retag tag (normal x.reply.frame)))
    → (q : Past) × Records p (SettleCall x.name x.reply.frame (frame_in x.again)) (is_answer whether.Answered is_passed false) [] q × Belongs new q
passed_on s p x tag new b last owes new_is =
    answer_goal s p x.name x.name tag (λ k. SettleCall k x.reply.frame (frame_in x.again)) kinds.Passed false (λ t. retag t (normal x.reply.frame)) (retag tag (normal x.reply.frame)) is_passed whether.Answered new b
    refl owes.0
    (λ k e own at mine due noted. settle_none p k x.reply.frame (frame_in x.again) mine due (ap frame_in last))
    (λ t. normal_final x.reply.frame.kind x.last) (λ t. refl) refl
    (λ t seq. passed p t seq x.reply.frame (frame_in x.again) (retag t (normal x.reply.frame))) (λ t seq. passed_late p t seq x.reply.frame (frame_in x.again))
    (λ e at. ap (λ z. if z then whether.Answered else whether.Late) (sym (waits e at)))
    (λ e at. new_is ∙ ap (answered_in s x.name tag kinds.Passed false (retag tag (normal x.reply.frame))) (sym (waits e at)))
    refl
  where
    waits : (e : Entry) → entry_at x.name.seq s.book ≡ Some e → is_open e ≡ true
    waits e at =
        let two : Some owes.2.0 ≡ Some e = sym owes.2.1 ∙ at in
        let same : owes.2.0 ≡ e = cc in
        subst (λ (d : Entry). is_open d ≡ true) same owes.2.2.1
