-- What a change of an entry leaves of the invariant and of the free places.
use Rattle.std.proofs.Common.{◌≡◌, ℕ, ◌+◌, ◌-◌, ◌*◌, ◌≤◌, Bool, true, false, cond, if◌then◌else◌, [], ◌∷◌, ◌++◌, length, Some, refl, sym, ap, subst, ◌∙◌, arith}
use Rattle.mux_frame.specs.declared.frame.TheConstants.{MAX_TAG}
use Rattle.std.specs.Prelude.{map as map_list}
use Rattle.std.specs.Option.{option_map}
use Rattle.std.specs.VecDeque.{deque_len}
use Rattle.std.proofs.lemmas.List.{length-map}
use Rattle.std.proofs.lemmas.List.Sums.{sum_by-append, sum_by-cons}
use Rattle.translate_book.specs.declared.entry.AnswerState.{AnswerState}
use Rattle.translate_book.specs.declared.entry.AnswerState.TheVariants.{Open, Shut, Answered}
use Rattle.translate_book.specs.declared.entry.NoteState.{NoteState}
use Rattle.translate_book.specs.declared.entry.Change.{Change}
use Rattle.translate_book.specs.declared.entry.Change.TheVariants as changes
use Rattle.translate_book.specs.declared.entry.Entry.{Entry}
use Rattle.translate_book.specs.declared.entry.Place.{Place}
use Rattle.translate_book.specs.declared.entry.Effect.{Effect}
use Rattle.translate_book.specs.Entries.{is_note_due, is_open, is_open_answer, is_due_answer, is_due_note, applied, unplacing, beginning, shut_from, effect_of}
use Rattle.translate_book.specs.Book.{BookView, entry_at, changed}
use Rattle.translate_book.proofs.Closing.{closing}
use Rattle.translate_book.proofs.Added.{open_count-push}
use Rattle.server_session.specs.declared.session.ServerSession.TheInside.{Inside}
use Rattle.session_init.specs.declared.server.ServerInit.{ServerInit}
use Rattle.server_session.specs.State.{weight, weight_due, opening, opening_due, MayApply, figures_in}
use Rattle.server_session.specs.Decide.{free_out, free_records}
use Rattle.server_session.specs.Inside.{IsSound, state_of}
use Rattle.server_session.proofs.Books.{sum-changed, InTags-changed, open_count-sum, opening_unheld, weight_unheld, InTags-push}

-- the frames queued, counted
pub queued_in : (i : Inside) → length (map_list (λ f. f.frame) i.queue.items) ≡ deque_len i.queue
queued_in i = length-map i.queue.items (λ f. f.frame) ∙ sym i.queue.ok.0

-- no change asks for more places
part : NoteState → AnswerState → Bool → ℕ → ℕ
part n a r l = (if is_due_note n then 1 else 0) + (if is_due_answer a then (if r then 1 else 2) else 0) + (if is_open_answer a then 2 * l else 0)

pub lighter : (c : Change) (e : Entry) → MayApply c e → weight (applied c e) ≤ weight e
lighter (changes.Note p) e may = by (is_due_note e.note) (cond (is_due_answer e.answer) (cond e.recalled 1 2) 0) (cond (is_open_answer e.answer) (2 * e.left) 0)
  where
    by : (n : Bool) (x y : ℕ) → 0 + x + y ≤ cond n 1 0 + x + y
    by true x y = omega arith
    by false x y = omega arith
lighter (changes.Shut why) e may = by e.answer
  where
    by : (a : AnswerState) → weight (shut_from a why (record e { answer = a })) ≤ weight (record e { answer = a })
    by Open = omega arith
    by Shut = omega arith
    by Answered = omega arith
lighter changes.Answer e may = omega arith
lighter changes.Unplace e may = omega arith
lighter changes.Again e may = by (is_due_note e.note) (is_open e) may.0
  where
    by : (n b : Bool) → b ≡ true → (1 + cond (is_due_answer e.answer) (cond e.recalled 1 2) 0) + cond b (2 * (e.left - 1)) 0 ≤ (cond n 1 0 + cond (is_due_answer e.answer) (cond e.recalled 1 2) 0) + cond b (2 * e.left) 0
    by n false o = cc
    by true true o = omega (arith, may.1)
    by false true o = omega (arith, may.1)
lighter changes.Recall e may = by (is_due_answer e.answer) e.recalled
  where
    by : (a r : Bool) → (cond (is_due_note e.note) 1 0 + cond a 1 0) + cond (is_open_answer e.answer) (2 * e.left) 0 ≤ (cond (is_due_note e.note) 1 0 + cond a (cond r 1 2) 0) + cond (is_open_answer e.answer) (2 * e.left) 0
    by true true = omega arith
    by true false = omega arith
    by false r = omega arith

closes : (c : Change) (e : Entry) (b : Bool) → is_open e ≡ b → opening (applied c e) ≤ opening e
closes c e true is = by (is_open (applied c e)) (ap (λ z. if z then 1 else 0) is)
  where
    by : (b : Bool) → opening e ≡ 1 → cond b 1 0 ≤ opening e
    by true one = omega (arith, one)
    by false one = omega arith
closes c e false is = let shut = (closing c).shut e is in let zero : opening (applied c e) ≡ 0 = ap (λ z. if z then 1 else 0) shut in omega (arith, zero)

-- the fields with another book and other counts
abbrev pub with_book : Inside → BookView → ℕ → ℕ → Inside
with_book i book in_use kept = record i { book = book; in_use = in_use; kept = kept }

pub record Changed (i : Inside) (book : BookView) (in_use kept : ℕ) (was is : Entry) : Type 0 where
  pub sound : IsSound (with_book i book in_use kept)
  pub records : free_records (figures_in (state_of i)) + weight was ≡ free_records (figures_in (state_of (with_book i book in_use kept))) + weight is
  pub out : free_out (figures_in (state_of i)) + opening was ≡ free_out (figures_in (state_of (with_book i book in_use kept))) + opening is

pub record Counted (i : Inside) (c : Change) (e : Entry) (wi wk ni nk : ℕ) : Type 0 where
  pub use_before : wi ≡ opening e
  pub kept_before : wk ≡ weight e
  pub use_after : ni ≡ opening (applied c e)
  pub kept_after : nk ≡ weight (applied c e)
  pub fewer_use : ni ≤ wi
  pub fewer_kept : nk ≤ wk
  pub use_within : wi ≤ i.in_use
  pub kept_within : wk ≤ i.kept

-- the counts are those of the entry before and after its change
pub counted : (i : Inside) (seq : ℕ) (c : Change) (e : Entry) (done : Effect) (wi wk ni nk : ℕ) → IsSound i → entry_at seq i.book.entries ≡ Some e → MayApply c e
    → Some done ≡ option_map (effect_of c) (entry_at seq i.book.entries)
    → wi ≡ opening_due done.was → wk ≡ weight_due done.was → ni ≡ opening_due done.is → nk ≡ weight_due done.is → Counted i c e wi wk ni nk
counted i seq c e done wi wk ni nk s is may told use_was kept_was use_is kept_is =
    let only : Some done ≡ Some (effect_of c e) = told ∙ ap (option_map (effect_of c)) is in
    let same : done ≡ effect_of c e = cc in
    let wi_is : wi ≡ opening e = use_was ∙ ap (λ (d : Effect). opening_due d.was) same in
    let wk_is : wk ≡ weight e = kept_was ∙ ap (λ (d : Effect). weight_due d.was) same in
    let ni_is : ni ≡ opening (applied c e) = use_is ∙ ap (λ (d : Effect). opening_due d.is) same in
    let nk_is : nk ≡ weight (applied c e) = kept_is ∙ ap (λ (d : Effect). weight_due d.is) same in
    let light = lighter c e may in
    let close = closes c e (is_open e) refl in
    let all = open_count-sum i.book.entries in
    let gone = sum-changed seq unplacing weight weight_unheld i.book.entries e is in
    let shut = sum-changed seq unplacing opening opening_unheld i.book.entries e is in
    record {
      use_before = wi_is;
      kept_before = wk_is;
      use_after = ni_is;
      kept_after = nk_is;
      fewer_use = omega (arith, wi_is, ni_is, close);
      fewer_kept = omega (arith, wk_is, nk_is, light);
      use_within = omega (arith, wi_is, shut, all, s.opened);
      kept_within = omega (arith, wk_is, gone, s.counted);
    }

pub changed_sound : (i : Inside) (seq : ℕ) (c : Change) (e : Entry) (book : BookView) (wi wk ni nk : ℕ) → IsSound i → entry_at seq i.book.entries ≡ Some e
    → book ≡ record i.book { entries = changed seq (applied c) i.book.entries } → Counted i c e wi wk ni nk
    → Changed i book (i.in_use - (wi - ni)) (i.kept - (wk - nk)) e (applied c e)
changed_sound i seq c e book wi wk ni nk s is new k =
    let weights = sum-changed seq (applied c) weight weight_unheld i.book.entries e is in
    let uses = sum-changed seq (applied c) opening opening_unheld i.book.entries e is in
    let all = open_count-sum i.book.entries in
    let all_new = open_count-sum (changed seq (applied c) i.book.entries) in
    let long = queued_in i in
    rw new record {
      sound = record {
        history_room = s.history_room;
        book_room = s.book_room;
        queue_room = s.queue_room;
        numbered = s.numbered;
        tags = InTags-changed seq (applied c) (closing c).tag i.book.entries s.tags;
        opened = omega (arith, k.use_before, k.use_after, k.use_within, uses, all, all_new, s.opened);
        counted = omega (arith, k.kept_before, k.kept_after, k.kept_within, weights, s.counted);
        records_kept = omega (arith, s.records_kept, k.fewer_kept, k.kept_within);
        out_kept = omega (arith, s.out_kept, k.fewer_use, k.use_within);
      };
      records = omega (arith, s.records_kept, s.counted, weights, k.kept_before, k.kept_after, k.fewer_kept, k.kept_within);
      out = omega (arith, s.out_kept, s.opened, uses, all, all_new, long, k.use_before, k.use_after, k.fewer_use, k.use_within);
    }

-- the note of a dispatch takes one record that was kept for it
pub noted_sound : (i : Inside) (seq : ℕ) (place : Place) (e : Entry) (book : BookView) → IsSound i → entry_at seq i.book.entries ≡ Some e → is_note_due e ≡ true
    → book ≡ record i.book { entries = changed seq (applied (changes.Note place)) i.book.entries }
    → (1 ≤ i.kept) × Changed i book i.in_use (i.kept - 1) e (applied (changes.Note place) e)
noted_sound i seq place e book s is due new =
    let c = changes.Note place in
    let n = applied c e in
    let k = counted i seq c e (effect_of c e) (opening e) (weight e) (opening n) (weight n) s is tt (sym (ap (option_map (effect_of c)) is)) refl refl refl refl in
    let rest : ℕ = cond (is_due_answer e.answer) (cond e.recalled 1 2) 0 in
    let tries : ℕ = cond (is_open_answer e.answer) (2 * e.left) 0 in
    let was : weight e ≡ (1 + rest) + tries = ap (λ b. (cond b 1 0 + rest) + tries) due in
    let one : weight e ≡ 1 + weight n = omega (arith, was) in
    let used : i.in_use - (opening e - opening n) ≡ i.in_use = omega arith in
    let kept : i.kept - (weight e - weight n) ≡ i.kept - 1 = omega (arith, one) in (
      omega (arith, one, k.kept_within),
      subst (λ (u : ℕ). Changed i book u (i.kept - 1) e n) used
          (subst (λ (w : ℕ). Changed i book (i.in_use - (opening e - opening n)) w e n) kept
          (changed_sound i seq c e book (opening e) (weight e) (opening n) (weight n) s is new k)),
    )

-- a dispatch that is taken has the records kept that its note, its answer, its recall and its tries may need
pub begun_sound : (i : Inside) (book : BookView) (tag left : ℕ) (init : ServerInit) → IsSound i → tag ≤ MAX_TAG
    → 3 + 2 * left ≤ free_records (figures_in (state_of i)) → 1 ≤ free_out (figures_in (state_of i))
    → book ≡ record { room = i.book.room; last = i.dispatches + 1; entries = i.book.entries ++ (i.dispatches + 1, beginning tag left) ∷ [] }
    → IsSound (record i { book = book; in_use = i.in_use + 1; kept = i.kept + (3 + 2 * left); dispatches = i.dispatches + 1; init = init })
begun_sound i book tag left init s low records out new =
    let long = queued_in i in
    let open_all = open_count-push (i.dispatches + 1) tag left i.book.entries in
    let weights = sum_by-append (λ (p : ℕ × Entry). weight p.1) i.book.entries ((i.dispatches + 1, beginning tag left) ∷ []) in
    let one = sum_by-cons (λ (p : ℕ × Entry). weight p.1) (i.dispatches + 1, beginning tag left) [] in
    rw new record {
      history_room = s.history_room;
      book_room = s.book_room;
      queue_room = s.queue_room;
      numbered = omega arith;
      tags = InTags-push i.book.entries (i.dispatches + 1, beginning tag left) s.tags low;
      opened = omega (arith, s.opened, open_all);
      counted = omega (arith, s.counted, weights, one);
      records_kept = omega (arith, s.records_kept, s.counted, records);
      out_kept = omega (arith, s.out_kept, s.opened, long, out);
    }
