-- The place of a dispatch, and its recall.
use Rattle.std.proofs.Common.{◌≡◌, ℕ, Bool, true, false, cond, nat_eq, List, [], ◌∷◌, length, Option, None, Some, refl, sym, ◌∙◌, ap, subst}
use Rattle.std.specs.Prelude.{◌&&◌, ◌||◌, if◌then◌else◌, not}
use Rattle.mux_history.specs.declared.name.Name.{Name}
use Rattle.mux_history.specs.declared.kind.RecordKind.TheVariants as kinds
use Rattle.mux_history.specs.declared.session.SessionId.TheVariants.{Client}
use Rattle.mux_history.specs.Readings.{note_due, answer_due, tag_of, gave_recall}
use Rattle.mux_model.specs.Steps.{NoteCall, Recorded, Refused, NotMine, Held, RecallOf, records, entries as entries_of, entry_of}
use Rattle.mux_model.specs.Tags.{holder}
use Rattle.mux_model.specs.Down.{down, is_held as is_held_by, is_mine, reason_of as reason_word, some_of}
use Rattle.translate_book.specs.declared.entry.AnswerState.{AnswerState}
use Rattle.translate_book.specs.declared.entry.AnswerState.TheVariants.{Open, Shut, Answered}
use Rattle.translate_book.specs.declared.entry.Entry.{Entry}
use Rattle.translate_book.specs.declared.entry.Place.{Place}
use Rattle.translate_book.specs.declared.entry.Change.TheVariants as changes
use Rattle.translate_book.specs.declared.recall.Recall.{Recall}
use Rattle.translate_book.specs.Entries.{is_open, is_held, is_note_due, is_answer_due, is_open_answer, is_due_answer, noting, recalling, recall_from, reason_of}
use Rattle.translate_book.specs.Values.{reason_in}
use Rattle.translate_book.specs.Book.{entry_at, changed}
use Rattle.translate_book.proofs.Changed.{own, further, changed_here, changed_further}
use Rattle.translate_book.proofs.Closing.{Closing, closing}
use Rattle.server_session.specs.Past.{Past, Words, words_of, add}
use Rattle.server_session.specs.State.{State, noted, noted_in, placed_in, recall_to, owes_at, changing, due_in}
use Rattle.server_session.specs.Belonging.{Belongs, name_in, IsHeldBy}
use Rattle.server_session.specs.Steps.{Records, recall_of, recall_in, is_noting}
use Rattle.server_session.proofs.Books.{Entries, entry_at-own, left_of}
use Rattle.server_session.proofs.Naming.{named_same, flipped}
use Rattle.server_session.proofs.Keeping.{about, onto}
use Rattle.server_session.proofs.Dispatches.{open_same, tag_is, due_held}
use Rattle.server_session.proofs.Answering.{found}

-- two changes of one entry are one, where it stays after the first
pub changed_twice : (seq : ℕ) (f g : Entry → Entry) (es : Entries) (x : Entry) → entry_at seq es ≡ Some x → is_held (f x) ≡ true
    → changed seq g (changed seq f es) ≡ changed seq (λ e. g (f e)) es
changed_twice seq f g [] x is held = cc
changed_twice seq f g (p ∷ ps) x is held = by (nat_eq seq p.0) refl (changed_twice seq f g ps x)
  where
    by : (b : Bool) → nat_eq seq p.0 ≡ b → (entry_at seq ps ≡ Some x → is_held (f x) ≡ true → changed seq g (changed seq f ps) ≡ changed seq (λ e. g (f e)) ps)
        → changed seq g (changed seq f (p ∷ ps)) ≡ changed seq (λ e. g (f e)) (p ∷ ps)
    by true at more =
        let mine : p.1 ≡ x = own seq f p ps x at is in
        ap (changed seq g) (changed_here seq f p ps at)
        ∙ ap (λ b. changed seq g (if b then (p.0, f p.1) ∷ ps else ps)) (ap (λ e. is_held (f e)) mine ∙ held)
        ∙ changed_here seq g (p.0, f p.1) ps at
        ∙ sym (changed_here seq (λ e. g (f e)) p ps at)
    by false at more =
        ap (changed seq g) (changed_further seq f p ps at) ∙ changed_further seq g p (changed seq f ps) at
        ∙ ap (λ es. p ∷ es) (more (further seq f p ps x at is) held) ∙ sym (changed_further seq (λ e. g (f e)) p ps at)

pub both_closing : (f g : Entry → Entry) → Closing f → Closing g → Closing (λ e. g (f e))
both_closing f g cf cg = record { tag = λ e. cg.tag (f e) ∙ cf.tag e; shut = λ e h. cg.shut (f e) (cf.shut e h) }

still : (z : Bool) → (z && not z) ≡ false
still true = refl
still false = refl

-- its place is noted, and it gives no recall
pub kept_noted : (s : State) (p : Past) (seq : ℕ) (x : Entry) (place : Place) → Belongs s p → entry_at seq s.book ≡ Some x → is_note_due x ≡ true
    → Belongs (noted (placed_in s seq place) 0 (kinds.Noted false) x.tag (Some (name_in p.session seq)) None)
    (add p (NoteCall (name_in p.session seq) place.server place.tag) (entry_of (records p.steps) 0 (kinds.Noted false) x.tag (Some (name_in p.session seq)) None None))
kept_noted s p seq x place b at due =
    let m = b.entries seq x at in
    let n = name_in p.session seq in
    let call = NoteCall (name_in p.session seq) place.server place.tag in
    let e = entry_of (records p.steps) 0 (kinds.Noted false) x.tag (Some (name_in p.session seq)) None None in
    let new : words_of p.session (onto call e p.steps) n ≡ (let w = words_of p.session p.steps n in record w { note = false; noted = true; place = Some (place.server, place.tag) }) = rw (named_same n) refl in
    about s p 0 call (kinds.Noted false) x.tag None None seq (noting place) x b (closing (changes.Note place)) at (record {
      written = refl;
      epoch = refl;
      dispatches = refl;
      ended = refl;
      fresh = refl;
      drain = refl;
      took = refl;
      due = ap (λ z. z || is_answer_due x) due;
      mine = ap (λ (w : Words). record w { note = false; noted = true; place = Some (place.server, place.tag) }) m.words ∙ sym new;
      others = λ k other. rw (other, flipped (name_in p.session seq) k other) refl;
      unsaid = m.unsaid;
      clean = λ h. m.clean (right (is_open x) (is_note_due x) due);
      held = λ going t o i. subst (λ z. IsHeldBy p.session (holder (Client p.session.number) t (entries_of p.steps)) (if z then (cond (nat_eq x.tag t) None o) else o)) (sym (still (is_open x))) i;
    })
  where
    right : (y z : Bool) → z ≡ true → (y || z) ≡ true
    right true z h = refl
    right false z h = h

-- its place is noted, and it gives its recall at once
pub kept_recalled : (s : State) (p : Past) (seq : ℕ) (x : Entry) (place : Place) → Belongs s p → entry_at seq s.book ≡ Some x → is_note_due x ≡ true → is_open x ≡ false → is_answer_due x ≡ true
    → Belongs (noted (record s { book = changed seq (λ e. recalling (noting place e)) s.book }) 0 (kinds.Noted true) x.tag (Some (name_in p.session seq)) None)
    (add p (NoteCall (name_in p.session seq) place.server place.tag) (entry_of (records p.steps) 0 (kinds.Noted true) x.tag (Some (name_in p.session seq)) None None))
kept_recalled s p seq x place b at due shut answer =
    let m = b.entries seq x at in
    let n = name_in p.session seq in
    let call = NoteCall (name_in p.session seq) place.server place.tag in
    let e = entry_of (records p.steps) 0 (kinds.Noted true) x.tag (Some (name_in p.session seq)) None None in
    let new : words_of p.session (onto call e p.steps) n ≡ (let w = words_of p.session p.steps n in record w { note = false; noted = true; place = Some (place.server, place.tag); recalled = true; why = [] }) = rw (named_same n) refl in
    about s p 0 call (kinds.Noted true) x.tag None None seq (λ e. recalling (noting place e)) x b (both_closing (noting place) recalling (closing (changes.Note place)) (closing changes.Recall)) at (record {
      written = refl;
      epoch = refl;
      dispatches = refl;
      ended = refl;
      fresh = refl;
      drain = refl;
      took = refl;
      due = ap (λ z. z || is_answer_due x) due;
      mine = ap (λ (w : Words). record w { note = false; noted = true; place = Some (place.server, place.tag); recalled = true; why = [] }) m.words ∙ sym new;
      others = λ k other. rw (other, flipped (name_in p.session seq) k other) refl;
      unsaid = λ o. refl;
      clean = λ h. absurd (let clash : true ≡ false = sym h ∙ ap (λ z. z || false) shut in cc);
      held = λ going t o i. subst (λ z. IsHeldBy p.session (holder (Client p.session.number) t (entries_of p.steps)) (if z then (cond (nat_eq x.tag t) None o) else o)) (sym (still (is_open x))) i;
    })

-- THE STEP

note_is_due : (d : Bool) → (not d || false) ≡ false → d ≡ true
note_is_due true h = refl
note_is_due false h = cc

abbrev given_word : Past → Name → ℕ → ℕ → List Held
given_word p k server tag =
    if is_held_by p.session k p.steps then [] else if answer_due k (records p.steps) then RecallOf k server tag (reason_word k (entries_of p.steps)) ∷ [] else []

note_told : (p : Past) (k : Name) (server tag : ℕ) (hs : List Held) → is_mine p.session k ≡ true → note_due k (records p.steps) ≡ true → given_word p k server tag ≡ hs
    → down p.session p.steps (length p.out) (NoteCall k server tag) ≡ Recorded (entry_of (records p.steps) 0 (kinds.Noted (some_of hs)) (tag_of k (records p.steps)) (Some k) None None) hs
note_told p k server tag hs mine due is =
    ap (λ z. if z then Recorded (entry_of (records p.steps) 0 (kinds.Noted (some_of (given_word p k server tag))) (tag_of k (records p.steps)) (Some k) None None) (given_word p k server tag) else Refused NotMine)
    (ap (λ z. z && note_due k (records p.steps)) mine ∙ due)
    ∙ ap (λ gs. Recorded (entry_of (records p.steps) 0 (kinds.Noted (some_of gs)) (tag_of k (records p.steps)) (Some k) None None) gs) is

abbrev pub noted_by : State → Name → (tag : ℕ) → Place → Bool → State
noted_by s m tag place z = noted (if z then changing (placed_in s m.seq place) m.seq changes.Recall else placed_in s m.seq place) 0 (kinds.Noted z) tag (Some m) None

pub note_step : (s : State) (p : Past) (n m : Name) (tag : ℕ) (place : Place) (result : Option Recall) (new : State) → Belongs s p → m ≡ n → due_in s m true false ≡ Some tag
    → result ≡ recall_to m place (recall_from (entry_at m.seq (placed_in s m.seq place).book)) → new ≡ noted_in s m tag place
    → (q : Past) × Records p (NoteCall n place.server place.tag) (is_noting result) (recall_in result) q × Belongs new q
note_step s p n m tag place result new b name is told new_is =
    let g = found s p m true false tag b is in
    subst (λ (j : Name). (q : Past) × Records p (NoteCall j place.server place.tag) (is_noting result) (recall_in result) q × Belongs new q) (sym g.named ∙ name)
    (by g.entry g.at g.named g.mine g.tag_is (note_is_due (is_note_due g.entry) g.due) g.entry.answer refl)
  where
    quiet_note : (x : Entry) → entry_at m.seq s.book ≡ Some x → m ≡ name_in p.session m.seq → is_mine p.session m ≡ true → x.tag ≡ tag → is_note_due x ≡ true
        → given_word p (name_in p.session m.seq) place.server place.tag ≡ [] → recall_from (left_of (noting place x)) ≡ None → owes_at (left_of (noting place x)) ≡ false
        → (q : Past) × Records p (NoteCall (name_in p.session m.seq) place.server place.tag) (is_noting result) (recall_in result) q × Belongs new q
    quiet_note x at named mine tags due nothing none owes =
        let left = entry_at-own m.seq (noting place) 0 s.book s.dispatches x b.rises at in
        let k = name_in p.session m.seq in
        let e = entry_of (records p.steps) 0 (kinds.Noted false) x.tag (Some k) None None in
        let r : result ≡ None = told ∙ ap (λ o. recall_to m place (recall_from o)) left ∙ ap (recall_to m place) none in
        let out = note_told p k place.server place.tag [] (ap (is_mine p.session) (sym named) ∙ mine) (sym (ap (λ (v : Words). v.note) (b.entries m.seq x at).words) ∙ due) nothing
        ∙ ap (λ t. Recorded (entry_of (records p.steps) 0 (kinds.Noted false) t (Some k) None None) []) (sym (tag_is s p m.seq x b at)) in
        let st : new ≡ noted (placed_in s m.seq place) 0 (kinds.Noted false) x.tag (Some k) None =
        new_is ∙ ap (noted_by s m tag place) (ap owes_at left ∙ owes) ∙ (λ i. noted (placed_in s m.seq place) 0 (kinds.Noted false) (sym tags i) (Some (named i)) None) in
        subst (λ o. (q : Past) × Records p (NoteCall k place.server place.tag) (is_noting o) (recall_in o) q × Belongs new q) (sym r)
        (add p (NoteCall k place.server place.tag) e, (e, _, refl, refl, (out, refl)), subst (λ t. Belongs t (add p (NoteCall k place.server place.tag) e)) (sym st) (kept_noted s p m.seq x place b at due))

    loud_note : (x : Entry) → entry_at m.seq s.book ≡ Some x → m ≡ name_in p.session m.seq → is_mine p.session m ≡ true → x.tag ≡ tag → is_note_due x ≡ true
        → is_open x ≡ false → is_answer_due x ≡ true → x.recalled ≡ false → recall_from (left_of (noting place x)) ≡ Some (reason_of x) → owes_at (left_of (noting place x)) ≡ true
        → (q : Past) × Records p (NoteCall (name_in p.session m.seq) place.server place.tag) (is_noting result) (recall_in result) q × Belongs new q
    loud_note x at named mine tags due shut answer clean some owes =
        let left = entry_at-own m.seq (noting place) 0 s.book s.dispatches x b.rises at in
        let k = name_in p.session m.seq in
        let w = (b.entries m.seq x at).words in
        let e = entry_of (records p.steps) 0 (kinds.Noted true) x.tag (Some k) None None in
        let v : Recall = record { name = k; server = place.server; tag = place.tag; why = reason_of x } in
        let r : result ≡ Some v = told ∙ ap (λ o. recall_to m place (recall_from o)) left ∙ ap (recall_to m place) some ∙ ap (λ (j : Name). recall_to j place (Some (reason_of x))) named in
        let given_no : gave_recall k (records p.steps) ≡ false = sym (ap (λ (u : Words). u.recalled) w) ∙ clean in
        let why : reason_in (reason_of x) ≡ reason_word k (entries_of p.steps) =
        sym (ap (λ z. if z then [] else reason_in (reason_of x)) clean) ∙ ap (λ (u : Words). u.why) w ∙ ap (λ z. if z then [] else reason_word k (entries_of p.steps)) given_no in
        let gives : given_word p k place.server place.tag ≡ recall_of v ∷ [] =
        ap (λ z. if z then [] else if answer_due k (records p.steps) then RecallOf k place.server place.tag (reason_word k (entries_of p.steps)) ∷ [] else []) (open_same s p m.seq x b at ∙ shut)
        ∙ ap (λ z. if z then RecallOf k place.server place.tag (reason_word k (entries_of p.steps)) ∷ [] else []) (sym (ap (λ (u : Words). u.answer) w) ∙ answer)
        ∙ ap (λ y. RecallOf k place.server place.tag y ∷ []) (sym why) in
        let out = note_told p k place.server place.tag (recall_of v ∷ []) (ap (is_mine p.session) (sym named) ∙ mine) (sym (ap (λ (u : Words). u.note) w) ∙ due) gives
        ∙ ap (λ t. Recorded (entry_of (records p.steps) 0 (kinds.Noted true) t (Some k) None None) (recall_of v ∷ [])) (sym (tag_is s p m.seq x b at)) in
        let st : new ≡ noted (record s { book = changed m.seq (λ e. recalling (noting place e)) s.book }) 0 (kinds.Noted true) x.tag (Some k) None =
        new_is ∙ ap (noted_by s m tag place) (ap owes_at left ∙ owes)
        ∙ ap (λ es. noted (record s { book = es }) 0 (kinds.Noted true) tag (Some m) None) (changed_twice m.seq (noting place) recalling s.book x at (due_held (noting place x) answer))
        ∙ (λ i. noted (record s { book = changed m.seq (λ e. recalling (noting place e)) s.book }) 0 (kinds.Noted true) (sym tags i) (Some (named i)) None) in
        subst (λ o. (q : Past) × Records p (NoteCall k place.server place.tag) (is_noting o) (recall_in o) q × Belongs new q) (sym r)
        (add p (NoteCall k place.server place.tag) e, (e, _, refl, refl, (out, refl)), subst (λ t. Belongs t (add p (NoteCall k place.server place.tag) e)) (sym st) (kept_recalled s p m.seq x place b at due shut answer))

    nothing_open : (x : Entry) → entry_at m.seq s.book ≡ Some x → is_open x ≡ true → given_word p (name_in p.session m.seq) place.server place.tag ≡ []
    nothing_open x at o =
        ap (λ z. if z then [] else if answer_due (name_in p.session m.seq) (records p.steps) then RecallOf (name_in p.session m.seq) place.server place.tag (reason_word (name_in p.session m.seq) (entries_of p.steps)) ∷ [] else []) (open_same s p m.seq x b at ∙ o)

    nothing_due : (x : Entry) → entry_at m.seq s.book ≡ Some x → is_open x ≡ false → is_answer_due x ≡ false → given_word p (name_in p.session m.seq) place.server place.tag ≡ []
    nothing_due x at o a =
        ap (λ z. if z then [] else if answer_due (name_in p.session m.seq) (records p.steps) then RecallOf (name_in p.session m.seq) place.server place.tag (reason_word (name_in p.session m.seq) (entries_of p.steps)) ∷ [] else []) (open_same s p m.seq x b at ∙ o)
        ∙ ap (λ z. if z then RecallOf (name_in p.session m.seq) place.server place.tag (reason_word (name_in p.session m.seq) (entries_of p.steps)) ∷ [] else []) (sym (ap (λ (u : Words). u.answer) (b.entries m.seq x at).words) ∙ a)

    by : (x : Entry) → entry_at m.seq s.book ≡ Some x → m ≡ name_in p.session m.seq → is_mine p.session m ≡ true → x.tag ≡ tag → is_note_due x ≡ true → (a : AnswerState) → x.answer ≡ a
        → (q : Past) × Records p (NoteCall (name_in p.session m.seq) place.server place.tag) (is_noting result) (recall_in result) q × Belongs new q
    by x at named mine tags due Open is =
        quiet_note x at named mine tags due (nothing_open x at (ap is_open_answer is)) (ap (λ a. recall_from (left_of (noting place (record x { answer = a })))) is) (ap (λ a. owes_at (left_of (noting place (record x { answer = a })))) is)
    by x at named mine tags due Answered is =
        quiet_note x at named mine tags due (nothing_due x at (ap is_open_answer is) (ap is_due_answer is)) (ap (λ a. recall_from (left_of (noting place (record x { answer = a })))) is) (ap (λ a. owes_at (left_of (noting place (record x { answer = a })))) is)
    by x at named mine tags due Shut is =
        let clean = (b.entries m.seq x at).clean (right (is_open x) (is_note_due x) due) in
        loud_note x at named mine tags due (ap is_open_answer is) (ap is_due_answer is) clean
        (ap (λ a. recall_from (left_of (noting place (record x { answer = a })))) is ∙ ap (λ z. if true && not z then Some (reason_of x) else None) clean)
        (ap (λ a. owes_at (left_of (noting place (record x { answer = a })))) is ∙ ap (λ z. not z) clean)
      where
        right : (y z : Bool) → z ≡ true → (y || z) ≡ true
        right true z h = refl
        right false z h = h

pub note_refused : (p : Past) (k : Name) (server tag : ℕ) → (is_mine p.session k && note_due k (records p.steps)) ≡ false → down p.session p.steps (length p.out) (NoteCall k server tag) ≡ Refused NotMine
note_refused p k server tag undue =
    ap (λ z. if z then Recorded (entry_of (records p.steps) 0 (kinds.Noted (some_of (given_word p k server tag))) (tag_of k (records p.steps)) (Some k) None None) (given_word p k server tag) else Refused NotMine) undue
