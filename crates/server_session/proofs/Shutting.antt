-- A client that is gone has all its tags back.
use Rattle.std.proofs.Common.{◌≡◌, ℕ, ◌<◌, ◌==◌, ◌&&◌, ◌||◌, Bool, true, false, cond, nat_eq, if◌then◌else◌, List, [], ◌∷◌, Option, Some, None, refl, sym, ap, subst, ◌∙◌}
use Rattle.std.specs.Prelude.{reverse}
use Rattle.std.specs.Option.{option_map}
use Rattle.std.proofs.lemmas.Bool.{eq-eqb}
use Rattle.mux_history.specs.declared.name.Name.{Name}
use Rattle.mux_history.specs.declared.kind.RecordKind.{RecordKind}
use Rattle.mux_history.specs.Readings.{has_ended, is_fresh, drain_of, dispatches as dispatches_of, book as book_of, written, epoch_of}
use Rattle.mux_model.specs.Steps.{Call, records, entry_of}
use Rattle.translate_book.specs.declared.entry.AnswerState.{AnswerState}
use Rattle.translate_book.specs.declared.entry.AnswerState.TheVariants.{Open, Shut, Answered}
use Rattle.translate_book.specs.declared.entry.Entry.{Entry}
use Rattle.translate_book.specs.Entries.{is_open, is_open_answer, is_held, is_note_due, shutting, shut_from}
use Rattle.translate_book.specs.Book.{entry_at, open_at, IsOnce, Rises, changed}
use Rattle.translate_book.proofs.Changed.{own, further, changed_here, changed_further}
use Rattle.translate_book.proofs.Lists.{open_at-shut}
use Rattle.server_session.specs.Past.{Past, Words, words_of, add}
use Rattle.server_session.specs.State.{State, noted, shut_down, closing, words_in, asked_on_one}
use Rattle.server_session.specs.Belonging.{Belongs, Matches, name_in}
use Rattle.server_session.proofs.Books.{Entries}
use Rattle.server_session.proofs.Naming.{naming_of}
use Rattle.server_session.proofs.Keeping.{Belongs-noted, onto, record_of}

idem : (e : Entry) → shutting None (shutting None e) ≡ shutting None e
idem e = by e.answer refl
  where
    by : (a : AnswerState) → e.answer ≡ a → shutting None (shut_from e.answer None e) ≡ shut_from e.answer None e
    by Open is = subst (λ a. shutting None (shut_from a None e) ≡ shut_from a None e) (sym is) refl
    by Shut is = subst (λ a. shutting None (shut_from a None e) ≡ shut_from a None e) (sym is) (ap (λ a. shut_from a None e) is)
    by Answered is = subst (λ a. shutting None (shut_from a None e) ≡ shut_from a None e) (sym is) (ap (λ a. shut_from a None e) is)

held_shut : (e : Entry) → is_open e ≡ true → is_held (shutting None e) ≡ true
held_shut e open_is = by e.answer refl (is_note_due e) refl open_is
  where
    by : (a : AnswerState) → e.answer ≡ a → (n : Bool) → is_note_due e ≡ n → is_open_answer e.answer ≡ true → is_held (shut_from e.answer None e) ≡ true
    by Open is true note o = subst (λ a. is_held (shut_from a None e) ≡ true) (sym is) (ap (λ z. z || true) note)
    by Open is false note o = subst (λ a. is_held (shut_from a None e) ≡ true) (sym is) (ap (λ z. z || true) note)
    by Shut is n note o = absurd (let clash : false ≡ true = sym (ap is_open_answer is) ∙ o in cc)
    by Answered is n note o = absurd (let clash : false ≡ true = sym (ap is_open_answer is) ∙ o in cc)

pub shut_again : (seq : ℕ) (es : Entries) (e : Entry) → entry_at seq es ≡ Some e → is_open e ≡ true → shut_down (changed seq (shutting None) es) ≡ shut_down es
shut_again seq [] e is was = cc
shut_again seq (p ∷ ps) e is was = by (nat_eq seq p.0) refl (shut_again seq ps e)
  where
    by : (b : Bool) → nat_eq seq p.0 ≡ b → (entry_at seq ps ≡ Some e → is_open e ≡ true → shut_down (changed seq (shutting None) ps) ≡ shut_down ps) → shut_down (changed seq (shutting None) (p ∷ ps)) ≡ shut_down (p ∷ ps)
    by true at more =
        let mine : p.1 ≡ e = own seq (shutting None) p ps e at is in
        ap shut_down (changed_here seq (shutting None) p ps at)
        ∙ ap (λ b. shut_down (if b then (p.0, shutting None p.1) ∷ ps else ps)) (held_shut p.1 (ap is_open mine ∙ was))
        ∙ ap (λ (x : Entry). (p.0, x) ∷ shut_down ps) (idem p.1)
    by false at more = ap shut_down (changed_further seq (shutting None) p ps at) ∙ ap (λ xs. (p.0, shutting None p.1) ∷ xs) (more (further seq (shutting None) p ps e at is) was)

unchanged : (e : Entry) → is_open e ≡ false → shutting None e ≡ e
unchanged e shut = by e.answer refl shut
  where
    by : (a : AnswerState) → e.answer ≡ a → is_open_answer e.answer ≡ false → shut_from e.answer None e ≡ e
    by Open is o = absurd (let clash : true ≡ false = sym (ap is_open_answer is) ∙ o in cc)
    by Shut is o = ap (λ a. shut_from a None e) is
    by Answered is o = ap (λ a. shut_from a None e) is

none_open : (p : ℕ × Entry) (ps : Entries) → ((t : ℕ) → open_at t (p ∷ ps) ≡ None) → is_open p.1 ≡ false
none_open p ps none = by (is_open p.1) refl
  where
    by : (b : Bool) → is_open p.1 ≡ b → b ≡ false
    by false o = refl
    by true o =
        let clash : Some p.0 ≡ None = sym (ap (λ b. if b && p.1.tag == p.1.tag then Some p.0 else open_at p.1.tag ps) o ∙ ap (λ b. if b then Some p.0 else open_at p.1.tag ps) (eq-eqb p.1.tag p.1.tag refl)) ∙ none p.1.tag in cc

pub shut_none : (es : Entries) → ((t : ℕ) → open_at t es ≡ None) → shut_down es ≡ es
shut_none [] none = refl
shut_none (p ∷ ps) none =
    let shut = none_open p ps none in
    ap (λ (x : Entry). (p.0, x) ∷ shut_down ps) (unchanged p.1 shut)
    ∙ ap (λ xs. p ∷ xs) (shut_none ps (λ t. sym (open_at-shut p ps t shut) ∙ none t))

shut_closed : (e : Entry) → is_open (shutting None e) ≡ false
shut_closed e = by e.answer refl
  where
    by : (a : AnswerState) → e.answer ≡ a → is_open (shut_from e.answer None e) ≡ false
    by Open is = subst (λ a. is_open (shut_from a None e) ≡ false) (sym is) refl
    by Shut is = subst (λ a. is_open (shut_from a None e) ≡ false) (sym is) (ap is_open_answer is)
    by Answered is = subst (λ a. is_open (shut_from a None e) ≡ false) (sym is) (ap is_open_answer is)

pub open_at-down : (t : ℕ) (es : Entries) → open_at t (shut_down es) ≡ None
open_at-down t [] = refl
open_at-down t (p ∷ ps) = open_at-shut (p.0, shutting None p.1) (shut_down ps) t (shut_closed p.1) ∙ open_at-down t ps

IsOnce-down : (es : Entries) → IsOnce (shut_down es)
IsOnce-down [] = tt
IsOnce-down (p ∷ ps) = (λ o. absurd (let clash : true ≡ false = sym o ∙ shut_closed p.1 in cc), IsOnce-down ps)

Rises-down : (low : ℕ) (es : Entries) (high : ℕ) → Rises low es high → Rises low (shut_down es) high
Rises-down low [] high h = h
Rises-down low (p ∷ ps) high h = (h.0, Rises-down p.0 ps high h.1)

names_down : (p : Past) (es : Entries) → naming_of p.session (shut_down es) ≡ naming_of p.session es
names_down p [] = refl
names_down p (x ∷ es) = ap (λ ns. name_in p.session x.0 ∷ ns) (names_down p es)

entry_at-down : (seq : ℕ) (es : Entries) → entry_at seq (shut_down es) ≡ option_map (shutting None) (entry_at seq es)
entry_at-down seq [] = refl
entry_at-down seq (p ∷ ps) = by (nat_eq seq p.0) (entry_at-down seq ps)
  where
    by : (b : Bool) → entry_at seq (shut_down ps) ≡ option_map (shutting None) (entry_at seq ps)
        → cond b (Some (shutting None p.1)) (entry_at seq (shut_down ps)) ≡ option_map (shutting None) (cond b (Some p.1) (entry_at seq ps))
    by true rest = refl
    by false rest = rest

words_down : (e : Entry) → (is_open e ≡ true → e.why ≡ None) → words_in (shutting None e) ≡ words_in e
words_down e unsaid = by e.answer refl
  where
    by : (a : AnswerState) → e.answer ≡ a → words_in (shut_from e.answer None e) ≡ words_in e
    by Open is =
        subst (λ a. words_in (shut_from a None (record e { answer = a })) ≡ words_in (record e { answer = a })) (sym is)
        (ap (λ w. words_in (record e { answer = Open; why = w })) (sym (unsaid (ap is_open_answer is))))
    by Shut is = ap (λ a. words_in (shut_from a None e)) is
    by Answered is = ap (λ a. words_in (shut_from a None e)) is

module _ (s : State) (p : Past) (now : ℕ) (call : Call) (kind : RecordKind) (b : Belongs s p)
    (words : (n : Name) → words_of p.session (onto call (entry_of (records p.steps) now kind 0 None None None) p.steps) n ≡ words_of p.session p.steps n)
    (shown : written (record_of p now kind 0 None ∷ records p.steps) ≡ record_of p now kind 0 None ∷ written (records p.steps))
    (epoch : epoch_of (record_of p now kind 0 None ∷ records p.steps) ≡ epoch_of (records p.steps))
    (counted : dispatches_of (record_of p now kind 0 None ∷ records p.steps) ≡ dispatches_of (records p.steps))
    (ended : has_ended (record_of p now kind 0 None ∷ records p.steps) ≡ true)
    (fresh : is_fresh (record_of p now kind 0 None ∷ records p.steps) ≡ is_fresh (records p.steps))
    (drain : drain_of (record_of p now kind 0 None ∷ records p.steps) ≡ drain_of (records p.steps))
    (book : book_of (record_of p now kind 0 None ∷ records p.steps) ≡ book_of (records p.steps)) where
  some : (seq : ℕ) (y : Entry) (o : Option Entry) → entry_at seq s.book ≡ o → option_map (shutting None) o ≡ Some y → Matches (add p call (entry_of (records p.steps) now kind 0 None None None)) seq y
  some seq y None at is = cc
  some seq y (Some x) at is =
      let m = b.entries seq x at in
      let same : shutting None x ≡ y = cc in
      subst (Matches (add p call (entry_of (records p.steps) now kind 0 None None None)) seq) same (record {
        words = words_down x m.unsaid ∙ m.words ∙ sym (words (name_in p.session seq));
        unsaid = λ o. absurd (let clash : true ≡ false = sym o ∙ shut_closed x in cc);
        clean = clean x m.clean;
      })
    where
      note_same : (x : Entry) → is_note_due (shutting None x) ≡ is_note_due x
      note_same x = by x.answer refl
        where
          by : (a : AnswerState) → x.answer ≡ a → is_note_due (shut_from x.answer None x) ≡ is_note_due x
          by Open is = subst (λ a. is_note_due (shut_from a None x) ≡ is_note_due x) (sym is) refl
          by Shut is = subst (λ a. is_note_due (shut_from a None x) ≡ is_note_due x) (sym is) refl
          by Answered is = subst (λ a. is_note_due (shut_from a None x) ≡ is_note_due x) (sym is) refl

      recalled_same : (x : Entry) → (shutting None x).recalled ≡ x.recalled
      recalled_same x = by x.answer refl
        where
          by : (a : AnswerState) → x.answer ≡ a → (shut_from x.answer None x).recalled ≡ x.recalled
          by Open is = subst (λ a. (shut_from a None x).recalled ≡ x.recalled) (sym is) refl
          by Shut is = subst (λ a. (shut_from a None x).recalled ≡ x.recalled) (sym is) refl
          by Answered is = subst (λ a. (shut_from a None x).recalled ≡ x.recalled) (sym is) refl

      right : (y z : Bool) → z ≡ true → (y || z) ≡ true
      right true z h = refl
      right false z h = h

      clean : (x : Entry) → ((is_open x || is_note_due x) ≡ true → x.recalled ≡ false) → (is_open (shutting None x) || is_note_due (shutting None x)) ≡ true → (shutting None x).recalled ≡ false
      clean x old h =
          recalled_same x ∙ old (right (is_open x) (is_note_due x) (sym (note_same x) ∙ sym (ap (λ z. z || is_note_due (shutting None x)) (shut_closed x)) ∙ h))

  gone : (o : Option Entry) → option_map (shutting None) o ≡ None → o ≡ None
  gone None h = refl
  gone (Some x) h = cc

  pub kept_closed : Belongs (noted (closing s) now kind 0 None None) (add p call (entry_of (records p.steps) now kind 0 None None None))
  kept_closed =
      Belongs-noted s p now call kind 0 None None None (shut_down s.book) s.dispatches s.init s.drain true b (record {
        written = shown;
        epoch = epoch;
        dispatches = b.dispatches ∙ sym counted;
        init = b.init ∙ sym fresh;
        drain = b.drain ∙ ap asked_on_one (sym drain);
        closed = sym ended;
        names = names_down p s.book ∙ b.names ∙ ap (λ (ns : List Name). reverse ns) (sym book);
        rises = Rises-down 0 s.book s.dispatches b.rises;
        once = IsOnce-down s.book;
        entries = λ seq y is. some seq y (entry_at seq s.book) refl (sym (entry_at-down seq s.book) ∙ is);
        absent = λ seq none.
            let i = b.absent seq (gone (entry_at seq s.book) (sym (entry_at-down seq s.book) ∙ none)) in
            (ap (λ (w : Words). w.answer) (words (name_in p.session seq)) ∙ i.0, ap (λ (w : Words). w.note) (words (name_in p.session seq)) ∙ i.1);
        later = λ seq above. words (name_in p.session seq) ∙ b.later seq (subst (λ n. n < seq) counted above);
        held = λ going t. absurd (let clash : false ≡ true = sym going ∙ ended in cc);
        shut = λ end t. open_at-down t s.book;
      })
