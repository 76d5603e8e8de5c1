-- The recalls of a client that is gone.
use Rattle.std.proofs.Common.{◌≡◌, ℕ, Bool, true, false, cond, nat_eq, [], ◌∷◌, length, None, Some, refl, sym, ◌∙◌, ap, subst, arith}
use Rattle.std.specs.Prelude.{◌&&◌, ◌||◌, if◌then◌else◌, not, find}
use Rattle.std.specs.Option.{option_map}
use Rattle.std.proofs.lemmas.Bool.{eq-eqb, ne_eqb}
use Rattle.mux_history.specs.declared.name.Name.{Name}
use Rattle.mux_history.specs.declared.kind.RecordKind.TheVariants as kinds
use Rattle.mux_history.specs.declared.session.SessionId.TheVariants.{Client}
use Rattle.mux_history.specs.Readings.{has_ended, gave_recall}
use Rattle.mux_model.specs.Steps.{LoseNextCall, Recorded, Unrecorded, records, entries as entries_of, entry_of}
use Rattle.mux_model.specs.Tags.{holder}
use Rattle.mux_model.specs.Down.{DownSession, down, owes_recall as owes_word, next_recall, next_recalled, recall_to as given_to, reason_of as reason_word, noted_place}
use Rattle.translate_book.specs.declared.entry.AnswerState.{AnswerState}
use Rattle.translate_book.specs.declared.entry.AnswerState.TheVariants.{Open, Shut, Answered}
use Rattle.translate_book.specs.declared.entry.NoteState.{NoteState}
use Rattle.translate_book.specs.declared.entry.NoteState.TheVariants as notes
use Rattle.translate_book.specs.declared.entry.Entry.{Entry}
use Rattle.translate_book.specs.declared.entry.Change.TheVariants as changes
use Rattle.translate_book.specs.declared.recall.Recall.{Recall}
use Rattle.translate_book.specs.Entries.{is_open, is_note_due, is_answer_due, is_open_answer, is_shut_answer, is_due_answer, is_due_note, is_noted_in, place_in, place_of, recalling, reason_of, owes_recall}
use Rattle.translate_book.specs.Values.{reason_in}
use Rattle.translate_book.specs.Book.{entry_at, first_owing, Rises}
use Rattle.translate_book.proofs.Closing.{closing}
use Rattle.server_session.specs.Past.{Past, Words, words_of, add}
use Rattle.server_session.specs.State.{State, noted, changing, naming, recall_to, the_place, pair_of}
use Rattle.server_session.specs.Belonging.{Belongs, name_in, IsHeldBy}
use Rattle.server_session.specs.Steps.{Records, is_recalled, recall_of}
use Rattle.server_session.proofs.Books.{Entries}
use Rattle.server_session.proofs.Naming.{naming_of, named_same, given}
use Rattle.server_session.proofs.Keeping.{about, onto}
use Rattle.server_session.proofs.Dispatches.{own_tag, tag_is, due_held}

-- WHO OWES A RECALL

owes_by : (a : AnswerState) (noted recalled : Bool) → is_open_answer a ≡ false
    → (noted && is_due_answer a && not recalled) ≡ (is_shut_answer a && (noted && not recalled))
owes_by Open noted recalled shut = cc
owes_by Shut true recalled shut = refl
owes_by Shut false recalled shut = refl
owes_by Answered true recalled shut = refl
owes_by Answered false recalled shut = refl

module _ (s : State) (p : Past) (b : Belongs s p) where
  closed_then : (seq : ℕ) (x : Entry) → has_ended (records p.steps) ≡ true → entry_at seq s.book ≡ Some x → is_open x ≡ false
  closed_then seq x end at = by (is_open x) refl
    where
      by : (z : Bool) → is_open x ≡ z → z ≡ false
      by true o = let clash : None ≡ Some seq = sym (b.shut end x.tag) ∙ own_tag seq s.book x b.once at o in cc
      by false o = refl

  -- once the list has ended, the words of a dispatch say the same as its entry
  owes_same : (seq : ℕ) (x : Entry) → has_ended (records p.steps) ≡ true → entry_at seq s.book ≡ Some x
      → owes_word (records p.steps) (name_in p.session seq) ≡ owes_recall x
  owes_same seq x end at =
      ap (λ (w : Words). w.noted && w.answer && not w.recalled) (sym (b.entries seq x at).words)
      ∙ owes_by x.answer (is_noted_in x.note) x.recalled (closed_then seq x end at)

-- the first that owes one by the words is the first by the entries
first_same : (c : DownSession) (test : Name → Bool) (low : ℕ) (es : Entries) (high : ℕ) → Rises low es high
    → ((seq : ℕ) (x : Entry) → entry_at seq es ≡ Some x → test (name_in c seq) ≡ owes_recall x)
    → find test (naming_of c es) ≡ option_map (name_in c) (first_owing es)
first_same c test low [] high h same = refl
first_same c test low (e ∷ es) high h same =
    by (owes_recall e.1) refl (first_same c test e.0 es high h.1 (λ seq x at. same seq x (found seq x at)))
  where
    found : (seq : ℕ) (x : Entry) → entry_at seq es ≡ Some x → entry_at seq (e ∷ es) ≡ Some x
    found seq x at =
        let above = (given seq e.0 es x high h.1 at).0 in
        let other : nat_eq seq e.0 ≡ false = ne_eqb seq e.0 (λ one. omega (arith, one, above)) in
        ap (λ z. cond z (Some e.1) (entry_at seq es)) other ∙ at

    own : test (name_in c e.0) ≡ owes_recall e.1
    own = same e.0 e.1 (ap (λ z. cond z (Some e.1) (entry_at e.0 es)) (eq-eqb e.0 e.0 refl))

    by : (z : Bool) → owes_recall e.1 ≡ z → find test (naming_of c es) ≡ option_map (name_in c) (first_owing es)
        → find test (naming_of c (e ∷ es)) ≡ option_map (name_in c) (first_owing (e ∷ es))
    by true owes rest =
        ap (λ z. if z then Some (name_in c e.0) else find test (naming_of c es)) (own ∙ owes)
        ∙ sym (ap (λ z. option_map (name_in c) (option_map (λ (q : ℕ × Entry). q.0) (if z then Some e else find (λ (q : ℕ × Entry). owes_recall q.1) es))) owes)
    by false owes rest =
        ap (λ z. if z then Some (name_in c e.0) else find test (naming_of c es)) (own ∙ owes) ∙ rest
        ∙ sym (ap (λ z. option_map (name_in c) (option_map (λ (q : ℕ × Entry). q.0) (if z then Some e else find (λ (q : ℕ × Entry). owes_recall q.1) es))) owes)

-- an entry of that number owes one
pub owing : (seq low : ℕ) (es : Entries) (high : ℕ) → Rises low es high → first_owing es ≡ Some seq
    → (x : Entry) × (entry_at seq es ≡ Some x) × (owes_recall x ≡ true)
owing seq low [] high h is = cc
owing seq low (e ∷ es) high h is = by (owes_recall e.1) refl (owing seq e.0 es high h.1)
  where
    rest_is : (z : Bool) → owes_recall e.1 ≡ z → option_map (λ (q : ℕ × Entry). q.0) (if z then Some e else find (λ (q : ℕ × Entry). owes_recall q.1) es) ≡ Some seq
    rest_is z owes = sym (ap (λ y. option_map (λ (q : ℕ × Entry). q.0) (if y then Some e else find (λ (q : ℕ × Entry). owes_recall q.1) es)) owes) ∙ is

    by : (z : Bool) → owes_recall e.1 ≡ z → (first_owing es ≡ Some seq → (x : Entry) × (entry_at seq es ≡ Some x) × (owes_recall x ≡ true))
        → (x : Entry) × (entry_at seq (e ∷ es) ≡ Some x) × (owes_recall x ≡ true)
    by true owes more =
        let number : Some e.0 ≡ Some seq = rest_is true owes in
        let one : e.0 ≡ seq = cc in
        (e.1, ap (λ z. cond z (Some e.1) (entry_at seq es)) (eq-eqb seq e.0 (sym one)), owes)
    by false owes more =
        let m = more (rest_is false owes) in
        let above = (given seq e.0 es m.0 high h.1 m.1).0 in
        let other : nat_eq seq e.0 ≡ false = ne_eqb seq e.0 (λ one. omega (arith, one, above)) in
        (m.0, ap (λ z. cond z (Some e.1) (entry_at seq es)) other ∙ m.1, m.2)

-- WHAT IS ANSWERED

next_same : (s : State) (p : Past) → Belongs s p → has_ended (records p.steps) ≡ true
    → next_recalled (records p.steps) ≡ option_map (name_in p.session) (first_owing s.book)
next_same s p b end =
    ap (find (owes_word (records p.steps))) (sym b.names)
    ∙ first_same p.session (owes_word (records p.steps)) 0 s.book s.dispatches b.rises (λ seq x at. owes_same s p b seq x end at)

pub none_owed : (s : State) (p : Past) → Belongs s p → s.closed ≡ true → first_owing s.book ≡ None
    → down p.session p.steps (length p.out) LoseNextCall ≡ Unrecorded
none_owed s p b closed none =
    let end = sym b.closed ∙ closed in
    ap (λ z. if z then next_recall p.session p.steps (next_recalled (records p.steps)) else Unrecorded) end
    ∙ ap (next_recall p.session p.steps) (next_same s p b end ∙ ap (option_map (name_in p.session)) none)

-- what an entry that owes a recall is
record Owes (x : Entry) : Type 0 where
  shut : is_open x ≡ false
  due : is_answer_due x ≡ true
  unnoted : is_note_due x ≡ false
  clean : x.recalled ≡ false
  place : pair_of (place_of x) ≡ Some ((the_place x.note).server, (the_place x.note).tag)

owes_parts : (x : Entry) → owes_recall x ≡ true → Owes x
owes_parts x owes = by x.answer refl x.note refl x.recalled refl
  where
    none : (a : AnswerState) (n : NoteState) (r : Bool) → x.answer ≡ a → x.note ≡ n → x.recalled ≡ r → (is_shut_answer a && (is_noted_in n && not r)) ≡ true
    none a n r ai ni ri = sym (λ i. is_shut_answer (ai i) && (is_noted_in (ni i) && not (ri i))) ∙ owes

    by : (a : AnswerState) → x.answer ≡ a → (n : NoteState) → x.note ≡ n → (r : Bool) → x.recalled ≡ r → Owes x
    by Shut ai (notes.Noted place) ni false ri = record {
      shut = ap is_open_answer ai;
      due = ap is_due_answer ai;
      unnoted = ap is_due_note ni;
      clean = ri;
      place = subst (λ n. pair_of (place_in n) ≡ Some ((the_place n).server, (the_place n).tag)) (sym ni) refl;
    }
    by Shut ai (notes.Noted place) ni true ri = absurd (let clash : false ≡ true = none Shut (notes.Noted place) true ai ni ri in cc)
    by Shut ai notes.Due ni r ri = absurd (let clash : false ≡ true = none Shut notes.Due r ai ni ri in cc)
    by Shut ai notes.Unplaced ni r ri = absurd (let clash : false ≡ true = none Shut notes.Unplaced r ai ni ri in cc)
    by Open ai n ni r ri = absurd (let clash : false ≡ true = none Open n r ai ni ri in cc)
    by Answered ai n ni r ri = absurd (let clash : false ≡ true = none Answered n r ai ni ri in cc)

-- the recall is recorded
kept_called : (s : State) (p : Past) (seq : ℕ) (x : Entry) → Belongs s p → entry_at seq s.book ≡ Some x → Owes x
    → Belongs (noted (changing s seq changes.Recall) 0 kinds.Recalled x.tag (Some (name_in p.session seq)) None)
    (add p LoseNextCall (entry_of (records p.steps) 0 kinds.Recalled x.tag (Some (name_in p.session seq)) None None))
kept_called s p seq x b at o =
    let m = b.entries seq x at in
    let n = name_in p.session seq in
    let e = entry_of (records p.steps) 0 kinds.Recalled x.tag (Some (name_in p.session seq)) None None in
    let new : words_of p.session (onto LoseNextCall e p.steps) n ≡ (let w = words_of p.session p.steps n in record w { recalled = true; why = [] }) = rw (named_same n) refl in
    about s p 0 LoseNextCall kinds.Recalled x.tag None None seq recalling x b (closing changes.Recall) at (record {
      written = refl;
      epoch = refl;
      dispatches = refl;
      ended = refl;
      fresh = refl;
      drain = refl;
      took = refl;
      due = due_held x o.due;
      mine = ap (λ (w : Words). record w { recalled = true; why = [] }) m.words ∙ sym new;
      others = λ k other. rw (other) refl;
      unsaid = λ h. refl;
      clean = λ h. absurd (let clash : false ≡ true = sym (λ i. o.shut i || o.unnoted i) ∙ h in cc);
      held = λ going t h i. subst (λ z. IsHeldBy p.session (holder (Client p.session.number) t (entries_of p.steps)) (if z then (cond (nat_eq x.tag t) None h) else h)) (sym (still (is_open x))) i;
    })
  where
    still : (z : Bool) → (z && not z) ≡ false
    still true = refl
    still false = refl

pub recalled_step : (s : State) (p : Past) (seq : ℕ) (result : Recall) (new : State) → Belongs s p → s.closed ≡ true → first_owing s.book ≡ Some seq
    → ((x : Entry) → entry_at seq s.book ≡ Some x → recall_to (naming s seq) (the_place x.note) (Some (reason_of x)) ≡ Some result)
    → ((x : Entry) → entry_at seq s.book ≡ Some x → new ≡ noted (changing s seq changes.Recall) 0 kinds.Recalled x.tag (Some (naming s seq)) None)
    → (q : Past) × Records p LoseNextCall is_recalled (recall_of result ∷ []) q × Belongs new q
recalled_step s p seq result new b closed first told new_is =
    let end = sym b.closed ∙ closed in
    let found = owing seq 0 s.book s.dispatches b.rises first in
    let x = found.0 in
    let o = owes_parts x found.2 in
    let w = (b.entries seq x found.1).words in
    let k = name_in p.session seq in
    let named : naming s seq ≡ k = λ i. record { boot = b.boot i; client = b.client i; seq = seq } in
    let given_no : gave_recall k (records p.steps) ≡ false = sym (ap (λ (u : Words). u.recalled) w) ∙ o.clean in
    let why : reason_in (reason_of x) ≡ reason_word k (entries_of p.steps) =
    sym (ap (λ z. if z then [] else reason_in (reason_of x)) o.clean) ∙ ap (λ (u : Words). u.why) w ∙ ap (λ z. if z then [] else reason_word k (entries_of p.steps)) given_no in
    let place : noted_place k p.steps ≡ Some ((the_place x.note).server, (the_place x.note).tag) = sym (ap (λ (u : Words). u.place) w) ∙ o.place in
    let e = entry_of (records p.steps) 0 kinds.Recalled x.tag (Some k) None None in
    let v : Recall = record { name = k; server = (the_place x.note).server; tag = (the_place x.note).tag; why = reason_of x } in
    let some : Some v ≡ Some result = sym (ap (λ j. recall_to j (the_place x.note) (Some (reason_of x))) named) ∙ told x found.1 in
    let same : v ≡ result = cc in
    let out : down p.session p.steps (length p.out) LoseNextCall ≡ Recorded e (recall_of v ∷ []) =
    ap (λ z. if z then next_recall p.session p.steps (next_recalled (records p.steps)) else Unrecorded) end
    ∙ ap (next_recall p.session p.steps) (next_same s p b end ∙ ap (option_map (name_in p.session)) first)
    ∙ (λ i. Recorded (entry_of (records p.steps) 0 kinds.Recalled (sym (tag_is s p seq x b found.1) i) (Some k) None None) (given_to k (sym why i) (place i))) in
    let st : new ≡ noted (changing s seq changes.Recall) 0 kinds.Recalled x.tag (Some k) None =
    new_is x found.1 ∙ ap (λ j. noted (changing s seq changes.Recall) 0 kinds.Recalled x.tag (Some j) None) named in
    subst (λ (r : Recall). (q : Past) × Records p LoseNextCall is_recalled (recall_of r ∷ []) q × Belongs new q) same
    (add p LoseNextCall e, (e, _, refl, refl, (out, refl)), subst (λ t. Belongs t (add p LoseNextCall e)) (sym st) (kept_called s p seq x b found.1 o))
