-- A client discards a dispatch.
use Rattle.std.proofs.Common.{◌≡◌, ℕ, ◌+◌, Bool, true, false, cond, nat_eq, List, [], ◌∷◌, Option, None, Some, Ok, refl, sym, ◌∙◌, ap, subst}
use Rattle.std.specs.Prelude.{◌&&◌, ◌||◌, if◌then◌else◌, not, is_some}
use Rattle.mux_frame.specs.Spelling.{MuxFrame}
use Rattle.mux_message.specs.Content.{Content, tdispatch, rdispatch, tdrain, rdrain, tdiscarded, rdiscarded, tlease, tinit, rinit, tping, rping, treq, rreq, rerr, other}
use Rattle.mux_message.specs.Grammar.{Spells}
use Rattle.mux_message.specs.Kinds.{kind_of, is_dispatch}
use Rattle.mux_message.specs.Made.{rdiscarded_on}
use Rattle.mux_message.specs.Parts.{kind_in, discard_tag_of, why_of as reason_in_message}
use Rattle.mux_message.specs.Reading.{message_of}
use Rattle.mux_message.specs.declared.kind.MessageKind.TheVariants.{Tdiscarded}
use Rattle.mux_history.specs.declared.name.Name.{Name}
use Rattle.mux_history.specs.declared.kind.RecordKind.TheVariants as kinds
use Rattle.mux_history.specs.declared.session.SessionId.TheVariants.{Client}
use Rattle.mux_model.specs.Steps.{Recorded, FrameCall, records, entries as entries_of, entry_of}
use Rattle.mux_model.specs.Tags.{Holder, holder, asked, answered, name_held}
use Rattle.mux_model.specs.Down.{DownSession, Ignores, Discards, discarded, reacted, noted_place, recall_to, some_of}
use Rattle.translate_book.specs.declared.entry.AnswerState.{AnswerState}
use Rattle.translate_book.specs.declared.entry.AnswerState.TheVariants.{Open, Shut, Answered}
use Rattle.translate_book.specs.declared.entry.NoteState.{NoteState}
use Rattle.translate_book.specs.declared.entry.NoteState.TheVariants as notes
use Rattle.translate_book.specs.declared.entry.Entry.{Entry}
use Rattle.translate_book.specs.declared.entry.Place.{Place}
use Rattle.translate_book.specs.declared.entry.Change.TheVariants as changes
use Rattle.translate_book.specs.declared.recall.Why.{Why}
use Rattle.translate_book.specs.declared.recall.Why.TheVariants as reasons
use Rattle.translate_book.specs.Entries.{is_open, is_held, is_note_due, is_answer_due, is_open_answer, is_noted_in, place_of, shutting, shut_from, recalling, recall_from, owes_recall, applied}
use Rattle.translate_book.specs.Book.{entry_at, open_at, changed}
use Rattle.translate_book.proofs.Changed.{own, further, changed_here, changed_further}
use Rattle.translate_book.proofs.Closing.{closing}
use Rattle.server_session.specs.declared.answers.DownStep.{DownStep}
use Rattle.server_session.specs.declared.answers.DownStep.TheVariants as answers
use Rattle.server_session.specs.Past.{Past, Words, words_of, add}
use Rattle.server_session.specs.State.{State, figures_in, opening, naming, noted, words_in, pair_of, owes_at, place_at, changing, shut_in, given_up_in, given_up_by, recalled_by}
use Rattle.server_session.specs.Belonging.{Belongs, name_in, IsHeldBy}
use Rattle.server_session.specs.Decide.{room_refusal}
use Rattle.server_session.specs.Steps.{FrameStep}
use Rattle.server_session.proofs.Books.{Entries}
use Rattle.server_session.proofs.Naming.{named_same}
use Rattle.server_session.proofs.Keeping.{about, onto}
use Rattle.server_session.proofs.Dispatches.{freed, due_held}
use Rattle.server_session.proofs.Placing.{changed_twice, both_closing}
use Rattle.server_session.proofs.Reacting.{Frames, content_told, open_same}
use Rattle.server_session.proofs.Quiet.{read_as, none_taken, kept_row, kind_spelled}

-- an entry that stays in the book is found after its change
pub stays_at : (seq : ℕ) (f : Entry → Entry) (es : Entries) (x : Entry) → entry_at seq es ≡ Some x → is_held (f x) ≡ true → entry_at seq (changed seq f es) ≡ Some (f x)
stays_at seq f [] x is held = cc
stays_at seq f (p ∷ ps) x is held = by (nat_eq seq p.0) refl (stays_at seq f ps x)
  where
    by : (b : Bool) → nat_eq seq p.0 ≡ b → (entry_at seq ps ≡ Some x → is_held (f x) ≡ true → entry_at seq (changed seq f ps) ≡ Some (f x))
        → entry_at seq (changed seq f (p ∷ ps)) ≡ Some (f x)
    by true at more =
        let mine : p.1 ≡ x = own seq f p ps x at is in
        ap (entry_at seq) (changed_here seq f p ps at)
        ∙ ap (λ b. entry_at seq (if b then (p.0, f p.1) ∷ ps else ps)) (ap (λ e. is_held (f e)) mine ∙ held)
        ∙ ap (λ b. cond b (Some (f p.1)) (entry_at seq ps)) at
        ∙ ap (λ e. Some (f e)) mine
    by false at more =
        ap (entry_at seq) (changed_further seq f p ps at)
        ∙ ap (λ b. cond b (Some p.1) (entry_at seq (changed seq f ps))) at
        ∙ more (further seq f p ps x at is) held

-- an open entry that is shut for a reason
abbrev shut_for : List ℕ → Entry → Entry
shut_for why e = shutting (Some (reasons.Reason why)) e

shut_is : (why : List ℕ) (x : Entry) → is_open x ≡ true → shut_for why x ≡ record x { answer = Shut; why = Some (reasons.Reason why) }
shut_is why x o = by x.answer refl
  where
    by : (a : AnswerState) → x.answer ≡ a → shut_from x.answer (Some (reasons.Reason why)) x ≡ record x { answer = Shut; why = Some (reasons.Reason why) }
    by Open is = ap (λ a. shut_from a (Some (reasons.Reason why)) x) is
    by Shut is = absurd (let clash : false ≡ true = sym (ap is_open_answer is) ∙ o in cc)
    by Answered is = absurd (let clash : false ≡ true = sym (ap is_open_answer is) ∙ o in cc)

or_true : (b : Bool) → (b || true) ≡ true
or_true true = refl
or_true false = refl

shut_held : (why : List ℕ) (x : Entry) → is_open x ≡ true → is_held (shut_for why x) ≡ true
shut_held why x o = ap is_held (shut_is why x o) ∙ or_true (is_note_due x)

pub found_shut : (seq : ℕ) (why : List ℕ) (es : Entries) (x : Entry) → entry_at seq es ≡ Some x → is_open x ≡ true
    → entry_at seq (changed seq (applied (changes.Shut (Some (reasons.Reason why)))) es) ≡ Some (record x { answer = Shut; why = Some (reasons.Reason why) })
found_shut seq why es x at o =
    stays_at seq (shut_for why) es x at (shut_held why x o) ∙ ap (λ e. Some e) (shut_is why x o)

-- the tag is free then
pub shut_frees : (why : List ℕ) (x : Entry) → is_open x ≡ true → opening x ≡ opening (applied (changes.Shut (Some (reasons.Reason why))) x) + 1
shut_frees why x o =
    ap (λ z. if z then 1 else 0) o ∙ sym (ap (λ z. (if z then 1 else 0) + 1) (ap is_open (shut_is why x o)))

-- WHAT THE ENTRY GIVES

pub gives_up : (n : Name) (seq : ℕ) (why : List ℕ) (es : Entries) (x : Entry) (place : Option Place) (given : Option Why) → entry_at seq es ≡ Some x → is_open x ≡ true
    → place ≡ place_at (entry_at seq es) → given ≡ recall_from (entry_at seq (changed seq (applied (changes.Shut (Some (reasons.Reason why)))) es))
    → recalled_by n place given ≡ given_up_by n (entry_at seq (changed seq (applied (changes.Shut (Some (reasons.Reason why)))) es))
gives_up n seq why es x place given at o placed is =
    let same : place ≡ place_at (entry_at seq (changed seq (applied (changes.Shut (Some (reasons.Reason why)))) es)) =
    placed ∙ ap place_at at ∙ sym (ap place_at (found_shut seq why es x at o)) in
    λ i. recalled_by n (same i) (is i)

-- THE LIST

abbrev up_by : State → (now seq tag : ℕ) → List ℕ → Name → Bool → State
up_by s now seq tag why m z =
    noted (if z then changing (shut_in s seq why) seq changes.Recall else shut_in s seq why) now (kinds.Discarded z) tag (Some m) (Some (rdiscarded_on tag))

module _ (s : State) (p : Past) (now : ℕ) (f : MuxFrame) (tag : ℕ) (why : List ℕ) (seq : ℕ) (x : Entry) (b : Belongs s p) (going : s.closed ≡ false)
    (read : message_of f ≡ Ok (tdiscarded tag why)) (undispatched : is_dispatch (kind_of f.kind) ≡ false) (at : entry_at seq s.book ≡ Some x) (o : is_open x ≡ true) (on : x.tag ≡ tag) where
  clean : x.recalled ≡ false
  clean = (b.entries seq x at).clean (ap (λ z. z || is_note_due x) o)

  frees : (e : Entry) → is_open e ≡ false → (t : ℕ) (who : Holder) (j : Option ℕ) → IsHeldBy p.session (holder (Client p.session.number) t (entries_of p.steps)) j
      → IsHeldBy p.session (answered t (Some (rdiscarded_on tag)) (asked t who (Some f) (holder (Client p.session.number) t (entries_of p.steps))))
      (if is_open x && not (is_open e) then (cond (nat_eq x.tag t) None j) else j)
  frees e shut t who j i =
      subst (λ z. IsHeldBy p.session (answered t (Some (rdiscarded_on tag)) (asked t who (Some f) (holder (Client p.session.number) t (entries_of p.steps)))) (if z && not (is_open e) then (cond (nat_eq x.tag t) None j) else j)) (sym o)
      (subst (λ z. IsHeldBy p.session (answered t (Some (rdiscarded_on tag)) (asked t who (Some f) (holder (Client p.session.number) t (entries_of p.steps)))) (if true && not z then (cond (nat_eq x.tag t) None j) else j)) (sym shut)
      (subst (λ (h : Option Holder). IsHeldBy p.session (answered t (Some (rdiscarded_on tag)) h) (cond (nat_eq x.tag t) None j))
      (sym (none_taken (is_dispatch (kind_of f.kind)) f.tag t who (holder (Client p.session.number) t (entries_of p.steps)) undispatched))
      (subst (λ u. IsHeldBy p.session (answered t (Some (rdiscarded_on tag)) (holder (Client p.session.number) t (entries_of p.steps))) (cond (nat_eq u t) None j)) (sym on)
      (freed p.session true tag t (holder (Client p.session.number) t (entries_of p.steps)) j refl i))))

  -- no recall is given, as its note hasn't come
  kept_shut_only : is_noted_in x.note ≡ false
      → Belongs (noted (shut_in s seq why) now (kinds.Discarded false) tag (Some (name_in p.session seq)) (Some (rdiscarded_on tag)))
      (add p (FrameCall f now) (entry_of (records p.steps) now (kinds.Discarded false) tag (Some (name_in p.session seq)) (Some f) (Some (rdiscarded_on tag))))
  kept_shut_only unnoted =
      let m = b.entries seq x at in
      let e = entry_of (records p.steps) now (kinds.Discarded false) tag (Some (name_in p.session seq)) (Some f) (Some (rdiscarded_on tag)) in
      let new : words_of p.session (onto (FrameCall f now) e p.steps) (name_in p.session seq)
      ≡ (let w = words_of p.session p.steps (name_in p.session seq) in record w { why = if w.recalled then [] else why }) = rw (named_same (name_in p.session seq), read) refl in
      let mine : words_in (shut_for why x) ≡ (let w = words_in x in record w { why = if w.recalled then [] else why }) =
      ap words_in (shut_is why x o) ∙ sym (open_words x.answer refl) in
      let shut : is_open (shut_for why x) ≡ false = ap is_open (shut_is why x o) in
      about s p now (FrameCall f now) (kinds.Discarded false) tag (Some f) (Some (rdiscarded_on tag)) seq (shut_for why) x b (closing (changes.Shut (Some (reasons.Reason why)))) at (record {
        written = refl;
        epoch = refl;
        dispatches = refl;
        ended = refl;
        fresh = refl;
        drain = refl;
        took = refl;
        due = due_held x (due_of x.answer refl);
        mine = mine ∙ ap (λ (w : Words). record w { why = if w.recalled then [] else why }) m.words ∙ sym new;
        others = λ n other. rw other refl;
        unsaid = λ open_now. absurd (let clash : true ≡ false = sym open_now ∙ shut in cc);
        clean = λ h. ap (λ (y : Entry). y.recalled) (shut_is why x o) ∙ clean;
        held = λ up t j i. frees (shut_for why x) shut t _ j i;
      })
    where
      open_words : (a : AnswerState) → x.answer ≡ a
          → (let w = words_in x in record w { why = if w.recalled then [] else why }) ≡ words_in (record x { answer = Shut; why = Some (reasons.Reason why) })
      open_words Open is = ap (λ a. (let w = words_in (record x { answer = a }) in record w { why = if w.recalled then [] else why })) is
      open_words Shut is = absurd (let clash : false ≡ true = sym (ap is_open_answer is) ∙ o in cc)
      open_words Answered is = absurd (let clash : false ≡ true = sym (ap is_open_answer is) ∙ o in cc)

      due_of : (a : AnswerState) → x.answer ≡ a → is_answer_due x ≡ true
      due_of Open is = ap (λ a. is_answer_due (record x { answer = a })) is
      due_of Shut is = absurd (let clash : false ≡ true = sym (ap is_open_answer is) ∙ o in cc)
      due_of Answered is = absurd (let clash : false ≡ true = sym (ap is_open_answer is) ∙ o in cc)

  -- it gives its recall at once
  kept_shut_recalled : (place : Place) → x.note ≡ notes.Noted place
      → Belongs (noted (record s { book = changed seq (λ e. recalling (shut_for why e)) s.book }) now (kinds.Discarded true) tag (Some (name_in p.session seq)) (Some (rdiscarded_on tag)))
      (add p (FrameCall f now) (entry_of (records p.steps) now (kinds.Discarded true) tag (Some (name_in p.session seq)) (Some f) (Some (rdiscarded_on tag))))
  kept_shut_recalled place noted_at =
      let m = b.entries seq x at in
      let e = entry_of (records p.steps) now (kinds.Discarded true) tag (Some (name_in p.session seq)) (Some f) (Some (rdiscarded_on tag)) in
      let new : words_of p.session (onto (FrameCall f now) e p.steps) (name_in p.session seq)
      ≡ (let w = words_of p.session p.steps (name_in p.session seq) in record w { recalled = true; why = [] }) = rw (named_same (name_in p.session seq)) refl in
      let mine : words_in (recalling (shut_for why x)) ≡ (let w = words_in x in record w { recalled = true; why = [] }) =
      ap (λ (y : Entry). words_in (recalling y)) (shut_is why x o) ∙ sym (open_words x.answer refl) in
      let shut : is_open (recalling (shut_for why x)) ≡ false = ap is_open (shut_is why x o) in
      let unnoted : is_note_due (recalling (shut_for why x)) ≡ false = ap is_note_due (shut_is why x o) ∙ ap (λ n. is_note_due (record x { note = n })) noted_at in
      about s p now (FrameCall f now) (kinds.Discarded true) tag (Some f) (Some (rdiscarded_on tag)) seq (λ y. recalling (shut_for why y)) x b
      (both_closing (shut_for why) recalling (closing (changes.Shut (Some (reasons.Reason why)))) (closing changes.Recall)) at (record {
        written = refl;
        epoch = refl;
        dispatches = refl;
        ended = refl;
        fresh = refl;
        drain = refl;
        took = refl;
        due = due_held x (due_of x.answer refl);
        mine = mine ∙ ap (λ (w : Words). record w { recalled = true; why = [] }) m.words ∙ sym new;
        others = λ n other. rw other refl;
        unsaid = λ open_now. refl;
        clean = λ h. absurd (let clash : true ≡ false = sym h ∙ (λ i. shut i || unnoted i) in cc);
        held = λ up t j i. frees (recalling (shut_for why x)) shut t _ j i;
      })
    where
      open_words : (a : AnswerState) → x.answer ≡ a
          → (let w = words_in x in record w { recalled = true; why = [] }) ≡ words_in (recalling (record x { answer = Shut; why = Some (reasons.Reason why) }))
      open_words Open is = ap (λ a. (let w = words_in (record x { answer = a }) in record w { recalled = true; why = [] })) is
      open_words Shut is = absurd (let clash : false ≡ true = sym (ap is_open_answer is) ∙ o in cc)
      open_words Answered is = absurd (let clash : false ≡ true = sym (ap is_open_answer is) ∙ o in cc)

      due_of : (a : AnswerState) → x.answer ≡ a → is_answer_due x ≡ true
      due_of Open is = ap (λ a. is_answer_due (record x { answer = a })) is
      due_of Shut is = absurd (let clash : false ≡ true = sym (ap is_open_answer is) ∙ o in cc)
      due_of Answered is = absurd (let clash : false ≡ true = sym (ap is_open_answer is) ∙ o in cc)

  abbrev y : Entry
  y = record x { answer = Shut; why = Some (reasons.Reason why) }

  told : (g : Option (ℕ × ℕ)) → room_refusal (figures_in s) Tdiscarded ≡ None → open_at tag s.book ≡ Some seq → noted_place (name_in p.session seq) p.steps ≡ g
      → Frames p f now ≡ Recorded (entry_of (records p.steps) now (kinds.Discarded (some_of (recall_to (name_in p.session seq) why g))) tag (Some (name_in p.session seq)) (Some f) (Some (rdiscarded_on tag)))
      (recall_to (name_in p.session seq) why g)
  told g room there place =
      content_told s p f now (tdiscarded tag why) b going read refl None room
      ∙ ap (λ z. reacted p.session p.steps f now (if z then Discards tag why else Ignores))
      (open_same p.session (holder (Client p.session.number) tag (entries_of p.steps)) (open_at tag s.book) (b.held (sym b.closed ∙ going) tag) ∙ ap is_some there)
      ∙ ap (discarded p.steps now f tag why) (held_name (holder (Client p.session.number) tag (entries_of p.steps)) (open_at tag s.book) (b.held (sym b.closed ∙ going) tag) there)
      ∙ ap (λ (h : Option (ℕ × ℕ)). Recorded (entry_of (records p.steps) now (kinds.Discarded (some_of (recall_to (name_in p.session seq) why h))) tag (Some (name_in p.session seq)) (Some f) (Some (rdiscarded_on tag)))
      (recall_to (name_in p.session seq) why h)) place
    where
      held_name : (h : Option Holder) (j : Option ℕ) → IsHeldBy p.session h j → j ≡ Some seq → name_held h ≡ Some (name_in p.session seq)
      held_name None None i is = cc
      held_name None (Some q) i is = absurd i
      held_name (Some h) None i is = absurd i
      held_name (Some h) (Some q) i is = i ∙ ap (name_of p.session) is
        where
          name_of : DownSession → Option ℕ → Option Name
          name_of c None = None
          name_of c (Some q) = Some (name_in c q)

  pub discard_step : (result : DownStep) (new : State) → room_refusal (figures_in s) Tdiscarded ≡ None → open_at tag s.book ≡ Some seq
      → result ≡ given_up_by (naming s seq) (entry_at seq (shut_in s seq why).book) → new ≡ given_up_in s now seq tag why
      → (q : Past) × FrameStep p (read_as f) now (Ok result) q × Belongs new q
  discard_step result new room there gives is = by x.note refl
    where
      named : naming s seq ≡ name_in p.session seq
      named = λ i. record { boot = b.boot i; client = b.client i; seq = seq }

      placed : noted_place (name_in p.session seq) p.steps ≡ pair_of (place_of x)
      placed = sym (ap (λ (w : Words). w.place) (b.entries seq x at).words)

      found : entry_at seq (shut_in s seq why).book ≡ Some y
      found = found_shut seq why s.book x at o

      unnoted : is_noted_in x.note ≡ false → place_of x ≡ None
          → (q : Past) × FrameStep p (read_as f) now (Ok result) q × Belongs new q
      unnoted none nowhere =
          let k = name_in p.session seq in
          let e = entry_of (records p.steps) now (kinds.Discarded false) tag (Some k) (Some f) (Some (rdiscarded_on tag)) in
          let r : result ≡ answers.Nothing = gives ∙ ap (given_up_by (naming s seq)) found ∙ ap (λ (z : Option Place). recalled_by (naming s seq) z (recall_from (Some y))) nowhere in
          let st : new ≡ noted (shut_in s seq why) now (kinds.Discarded false) tag (Some k) (Some (rdiscarded_on tag)) =
          is ∙ ap (up_by s now seq tag why (naming s seq)) (ap owes_at found ∙ ap (λ z. z && not x.recalled) none)
          ∙ ap (λ (m : Name). noted (shut_in s seq why) now (kinds.Discarded false) tag (Some m) (Some (rdiscarded_on tag))) named in
          subst (λ (d : DownStep). (q : Past) × FrameStep p (read_as f) now (Ok d) q × Belongs new q) (sym r)
          (add p (FrameCall f now) e, (e, _, refl, refl, (told None room there (placed ∙ ap pair_of nowhere), refl)), subst (λ t. Belongs t (add p (FrameCall f now) e)) (sym st) (kept_shut_only none))

      by : (n : NoteState) → x.note ≡ n → (q : Past) × FrameStep p (read_as f) now (Ok result) q × Belongs new q
      by notes.Due n = unnoted (ap is_noted_in n) (ap (λ z. place_of (record x { note = z })) n)
      by notes.Unplaced n = unnoted (ap is_noted_in n) (ap (λ z. place_of (record x { note = z })) n)
      by (notes.Noted place) n =
          let k = name_in p.session seq in
          let e = entry_of (records p.steps) now (kinds.Discarded true) tag (Some k) (Some f) (Some (rdiscarded_on tag)) in
          let owes : owes_recall y ≡ true = (λ i. is_noted_in (n i) && not (clean i)) in
          let somewhere : place_of x ≡ Some place = ap (λ z. place_of (record x { note = z })) n in
          let r : result ≡ answers.Recall (record { name = k; server = place.server; tag = place.tag; why = reasons.Reason why }) =
          gives ∙ ap (given_up_by (naming s seq)) found
          ∙ (λ i. recalled_by (named i) (somewhere i) (if owes i then Some (reasons.Reason why) else None)) in
          let st : new ≡ noted (record s { book = changed seq (λ e. recalling (shut_for why e)) s.book }) now (kinds.Discarded true) tag (Some k) (Some (rdiscarded_on tag)) =
          is ∙ ap (up_by s now seq tag why (naming s seq)) (ap owes_at found ∙ owes)
          ∙ ap (λ es. noted (record s { book = es }) now (kinds.Discarded true) tag (Some (naming s seq)) (Some (rdiscarded_on tag))) (changed_twice seq (shut_for why) recalling s.book x at (shut_held why x o))
          ∙ ap (λ (m : Name). noted (record s { book = changed seq (λ e. recalling (shut_for why e)) s.book }) now (kinds.Discarded true) tag (Some m) (Some (rdiscarded_on tag))) named in
          subst (λ (d : DownStep). (q : Past) × FrameStep p (read_as f) now (Ok d) q × Belongs new q) (sym r)
          (add p (FrameCall f now) e, (e, _, refl, refl, (told (Some (place.server, place.tag)) room there (placed ∙ ap pair_of somewhere), refl)), subst (λ t. Belongs t (add p (FrameCall f now) e)) (sym st) (kept_shut_recalled place n))

-- a Tdiscarded of a tag on which nothing is open
pub ignore_step : (s : State) (p : Past) (now : ℕ) (f : MuxFrame) (tag : ℕ) (why : List ℕ) (new : State) → Belongs s p → s.closed ≡ false → message_of f ≡ Ok (tdiscarded tag why)
    → is_dispatch (kind_of f.kind) ≡ false → room_refusal (figures_in s) Tdiscarded ≡ None → open_at tag s.book ≡ None → new ≡ noted s now kinds.Ignored f.tag None None
    → (q : Past) × FrameStep p (read_as f) now (Ok answers.Nothing) q × Belongs new q
ignore_step s p now f tag why new b going read undispatched room none is =
    let e = entry_of (records p.steps) now kinds.Ignored f.tag None (Some f) None in
    let told : Frames p f now ≡ Recorded e [] =
    content_told s p f now (tdiscarded tag why) b going read refl None room
    ∙ ap (λ z. reacted p.session p.steps f now (if z then Discards tag why else Ignores))
    (open_same p.session (holder (Client p.session.number) tag (entries_of p.steps)) (open_at tag s.book) (b.held (sym b.closed ∙ going) tag) ∙ ap is_some none) in
    (add p (FrameCall f now) e, (e, _, refl, refl, (told, refl)), subst (λ t. Belongs t (add p (FrameCall f now) e)) (sym is) (kept_row s p now f Ignores b undispatched tt))

-- a message of this kind on this tag
some_discard : (m : Content) (tag : ℕ) → kind_in m ≡ Tdiscarded → discard_tag_of m ≡ Some tag → (why : List ℕ) × (m ≡ tdiscarded tag why)
some_discard (tdiscarded t w) tag kind on =
    let same : t ≡ tag = cc in
    (w, ap (λ u. tdiscarded u w) same)
some_discard (tdispatch c d t b) tag kind on = cc
some_discard (rdispatch s c b) tag kind on = cc
some_discard rdiscarded tag kind on = cc
some_discard tdrain tag kind on = cc
some_discard rdrain tag kind on = cc
some_discard (tlease u h) tag kind on = cc
some_discard (tinit v h) tag kind on = cc
some_discard (rinit v h) tag kind on = cc
some_discard tping tag kind on = cc
some_discard rping tag kind on = cc
some_discard (treq b) tag kind on = cc
some_discard (rreq b) tag kind on = cc
some_discard (rerr w) tag kind on = cc
some_discard (other j b) tag kind on = cc

pub read_discard : (f : MuxFrame) (m : Content) (tag : ℕ) → message_of f ≡ Ok m → kind_in m ≡ Tdiscarded → discard_tag_of m ≡ Some tag
    → (why : List ℕ) × (message_of f ≡ Ok (tdiscarded tag why))
read_discard f m tag read kind on =
    let d = some_discard m tag kind on in
    (d.0, read ∙ ap (λ (c : Content). Ok c) d.1)

pub read_reason : (f : MuxFrame) (m : Content) (tag : ℕ) (why : List ℕ) → message_of f ≡ Ok m → kind_in m ≡ Tdiscarded → discard_tag_of m ≡ Some tag → reason_in_message m ≡ Some why
    → message_of f ≡ Ok (tdiscarded tag why)
read_reason f m tag why read kind on for =
    let d = some_discard m tag kind on in
    let two : Some d.0 ≡ Some why = sym (ap reason_in_message d.1) ∙ for in
    let same : d.0 ≡ why = cc in
    read ∙ ap (λ (c : Content). Ok c) (d.1 ∙ ap (tdiscarded tag) same)

pub discard_no_dispatch : (f : MuxFrame) (m : Content) → Spells f m → kind_in m ≡ Tdiscarded → is_dispatch (kind_of f.kind) ≡ false
discard_no_dispatch f m spelled kind = ap is_dispatch (kind_spelled f m spelled ∙ kind)
