-- A dispatch that is taken, or nacked once the client has answered the Tdrain.
use Rattle.std.proofs.Common.{◌≡◌, ℕ, ◌+◌, ◌<◌, Bool, true, false, cond, nat_eq, List, [], ◌∷◌, ◌++◌, length, Option, None, Some, Ok, refl, sym, ◌∙◌, ap, subst, arith}
use Rattle.std.specs.Prelude.{◌==◌, ◌&&◌, ◌||◌, if◌then◌else◌, filter, reverse, is_some}
use Rattle.std.proofs.lemmas.Bool.{eqb-true, ne_eqb}
use mathlib.Core.List.{reverse-cons}
use Rattle.mux_frame.specs.Spelling.{MuxFrame}
use Rattle.mux_message.specs.Content.{Content, tdispatch}
use Rattle.mux_message.specs.Grammar.{Spells}
use Rattle.mux_message.specs.Kinds.{kind_of, is_dispatch}
use Rattle.mux_message.specs.Parts.{kind_in}
use Rattle.mux_message.specs.Reading.{message_of}
use Rattle.mux_message.specs.declared.kind.MessageKind.{MessageKind}
use Rattle.mux_message.specs.declared.kind.MessageKind.TheVariants as types
use Rattle.mux_message.specs.Made.{nack_on}
use Rattle.mux_history.specs.declared.name.Name.{Name}
use Rattle.mux_history.specs.declared.kind.RecordKind.TheVariants as kinds
use Rattle.mux_history.specs.declared.session.SessionId.TheVariants.{Client}
use Rattle.mux_history.specs.Readings.{has_ended, same_name, note_due, answer_due, book as book_of, dispatches as dispatches_of, stands, is_init_done, names_of, is_took, is_acked, drain_of}
use Rattle.mux_history.specs.declared.session.DrainState.{DrainState}
use Rattle.mux_history.specs.declared.session.DrainState.TheVariants as drains
use Rattle.mux_model.specs.Steps.{FrameCall, Step, Recorded, TicketOf, records, entries as entries_of, entry_of}
use Rattle.mux_model.specs.Tags.{holder}
use Rattle.mux_model.specs.Down.{DownSession, NacksDrained, Takes, by_content, reacted, next_name}
use Rattle.session_init.specs.declared.server.ServerInit.TheVariants as begins
use Rattle.translate_book.specs.declared.entry.Entry.{Entry}
use Rattle.translate_book.specs.Entries.{beginning}
use Rattle.translate_book.specs.Book.{entry_at, open_at, Rises}
use Rattle.gate.specs.Drains.{is_acked as drained}
use Rattle.translate_book.specs.Values.{TicketView}
use Rattle.server_session.specs.declared.answers.DownStep.TheVariants as answers
use Rattle.server_session.specs.Decide.{closing_cause, room_refusal}
use Rattle.server_session.specs.Steps.{FrameStep}
use Rattle.server_session.proofs.Reacting.{content_told, Frames}
use Rattle.server_session.proofs.Quiet.{kind_spelled, read_as, asking_free}
use Rattle.translate_book.proofs.Added.{open_at-push, IsOnce-push, Rises-push}
use Rattle.server_session.specs.Past.{Past, Words, words_of, add, is_among}
use Rattle.server_session.specs.State.{State, figures_in, naming, noted, numbering, taking, words_in, asked_on_one}
use Rattle.server_session.specs.Belonging.{Belongs, Matches, IsIdle, name_in, unheard, IsHeldBy}
use Rattle.server_session.proofs.Books.{Entries}
use Rattle.server_session.proofs.Naming.{naming_of, named_same, apart, given, filter_same, flipped}
use Rattle.server_session.proofs.Keeping.{Belongs-noted, onto, record_of}

-- THE ENTRIES WITH ONE MORE

abbrev behind : Option Entry → Option Entry → Option Entry
behind None o = o
behind (Some e) o = Some e

entry_at-push : (k : ℕ) (es : Entries) (p : ℕ × Entry) → entry_at k (es ++ p ∷ []) ≡ behind (entry_at k es) (cond (nat_eq k p.0) (Some p.1) None)
entry_at-push k [] p = refl
entry_at-push k (q ∷ qs) p = by (nat_eq k q.0) (entry_at-push k qs p)
  where
    by : (z : Bool) → entry_at k (qs ++ p ∷ []) ≡ behind (entry_at k qs) (cond (nat_eq k p.0) (Some p.1) None)
        → cond z (Some q.1) (entry_at k (qs ++ p ∷ [])) ≡ behind (cond z (Some q.1) (entry_at k qs)) (cond (nat_eq k p.0) (Some p.1) None)
    by true rest = refl
    by false rest = rest

naming-push : (c : DownSession) (es : Entries) (p : ℕ × Entry) → naming_of c (es ++ p ∷ []) ≡ naming_of c es ++ name_in c p.0 ∷ []
naming-push c [] p = refl
naming-push c (q ∷ qs) p = ap (λ ns. name_in c q.0 ∷ ns) (naming-push c qs p)

-- tests that differ on one name alone pass the same where it is not there
either : (a b : Bool) → (a || b) ≡ false → (a ≡ false) × (b ≡ false)
either true b h = cc
either false b h = (refl, h)

filter_apart : (n : Name) (t g : Name → Bool) → ((m : Name) → same_name n m ≡ false → t m ≡ g m) → (ns : List Name) → is_among n ns ≡ false → filter t ns ≡ filter g ns
filter_apart n t g same [] none = refl
filter_apart n t g same (m ∷ ms) none =
    let two = either (same_name m n) (is_among n ms) none in
    ap (λ z. if z then m ∷ filter t ms else filter t ms) (same m (flipped m n two.0))
    ∙ ap (λ ys. if g m then m ∷ ys else ys) (filter_apart n t g same ms two.1)

-- a number above all that were given
above_all : (s : State) (p : Past) → Belongs s p → dispatches_of (records p.steps) < s.dispatches + 1
above_all s p b = let same = b.dispatches in omega (arith, same)

new_above : (s : State) (p : Past) (k : ℕ) (x : Entry) → Belongs s p → entry_at k s.book ≡ Some x → nat_eq k (s.dispatches + 1) ≡ false
new_above s p k x b at =
    let last = (given k 0 s.book x s.dispatches b.rises at).1 in
    ne_eqb k (s.dispatches + 1) (λ e. omega (arith, e, last))

not_zero : (n : ℕ) → (n + 1 == 0) ≡ false
not_zero n = ne_eqb (n + 1) 0 (λ e. omega (arith, e))

stale : (z : Bool) (n : ℕ) → (if z then false else n + 1 == 0) ≡ false
stale true n = refl
stale false n = not_zero n

-- TAKEN

module _ (s : State) (p : Past) (now : ℕ) (f : MuxFrame) (left : ℕ) (b : Belongs s p) (up : has_ended (records p.steps) ≡ false)
    (asks : is_dispatch (kind_of f.kind) ≡ true) (free : open_at f.tag s.book ≡ None) (tries : left ≡ p.session.limits.retries) where
  took_words : words_in (beginning f.tag left)
      ≡ words_of p.session (onto (FrameCall f now) (entry_of (records p.steps) now kinds.Took f.tag (Some (name_in p.session (s.dispatches + 1))) (Some f) None) p.steps) (name_in p.session (s.dispatches + 1))
  took_words =
      let n = name_in p.session (s.dispatches + 1) in
      let e = entry_of (records p.steps) now kinds.Took f.tag (Some (name_in p.session (s.dispatches + 1))) (Some f) None in
      let new : words_of p.session (onto (FrameCall f now) e p.steps) n ≡ (let w = words_of p.session p.steps n in record w { taken = true; tag = f.tag; answer = true; note = true }) = rw (named_same n) refl in
      ap (λ k. record (unheard p.session) { taken = true; tag = f.tag; answer = true; note = true; left = k }) tries
      ∙ ap (λ (w : Words). record w { taken = true; tag = f.tag; answer = true; note = true }) (sym (b.later (s.dispatches + 1) (above_all s p b)))
      ∙ sym new

  took_others : (m : Name) → same_name (name_in p.session (s.dispatches + 1)) m ≡ false
      → words_of p.session (onto (FrameCall f now) (entry_of (records p.steps) now kinds.Took f.tag (Some (name_in p.session (s.dispatches + 1))) (Some f) None) p.steps) m ≡ words_of p.session p.steps m
  took_others m other = rw other refl

  took_names : naming_of p.session (s.book ++ (s.dispatches + 1, beginning f.tag left) ∷ [])
      ≡ reverse (book_of (record_of p now kinds.Took f.tag (Some (name_in p.session (s.dispatches + 1))) ∷ records p.steps))
  took_names =
      let n = name_in p.session (s.dispatches + 1) in
      let r = record_of p now kinds.Took f.tag (Some (name_in p.session (s.dispatches + 1))) in
      let none : is_among n (names_of is_took (records p.steps)) ≡ false = ap (λ (w : Words). w.taken) (b.later (s.dispatches + 1) (above_all s p b)) in
      let mine : note_due n (r ∷ records p.steps) ≡ true = rw (named_same n) refl in
      let rest : filter (λ m. note_due m (r ∷ records p.steps) || answer_due m (r ∷ records p.steps)) (names_of is_took (records p.steps)) ≡ book_of (records p.steps) =
      filter_apart n (λ m. note_due m (r ∷ records p.steps) || answer_due m (r ∷ records p.steps)) (λ m. note_due m (records p.steps) || answer_due m (records p.steps))
      (λ m other. ap (λ (w : Words). w.note || w.answer) (took_others m other)) (names_of is_took (records p.steps)) none in
      let all : book_of (r ∷ records p.steps) ≡ n ∷ book_of (records p.steps) =
      ap (λ z. if z || answer_due n (r ∷ records p.steps) then n ∷ filter (λ m. note_due m (r ∷ records p.steps) || answer_due m (r ∷ records p.steps)) (names_of is_took (records p.steps)) else filter (λ m. note_due m (r ∷ records p.steps) || answer_due m (r ∷ records p.steps)) (names_of is_took (records p.steps))) mine
      ∙ ap (λ (ns : List Name). n ∷ ns) rest in
      naming-push p.session s.book (s.dispatches + 1, beginning f.tag left)
      ∙ ap (λ (ns : List Name). ns ++ n ∷ []) b.names
      ∙ sym (reverse-cons n (book_of (records p.steps)))
      ∙ ap (λ (ns : List Name). reverse ns) (sym all)

  took_entries : (k : ℕ) (x : Entry) → entry_at k (s.book ++ (s.dispatches + 1, beginning f.tag left) ∷ []) ≡ Some x
      → Matches (add p (FrameCall f now) (entry_of (records p.steps) now kinds.Took f.tag (Some (name_in p.session (s.dispatches + 1))) (Some f) None)) k x
  took_entries k x is = by (entry_at k s.book) refl (nat_eq k (s.dispatches + 1)) refl (sym (entry_at-push k s.book (s.dispatches + 1, beginning f.tag left)) ∙ is)
    where
      by : (o : Option Entry) → entry_at k s.book ≡ o → (z : Bool) → nat_eq k (s.dispatches + 1) ≡ z → behind o (cond z (Some (beginning f.tag left)) None) ≡ Some x
          → Matches (add p (FrameCall f now) (entry_of (records p.steps) now kinds.Took f.tag (Some (name_in p.session (s.dispatches + 1))) (Some f) None)) k x
      by (Some y) at z there h =
          let same : y ≡ x = cc in
          let m = b.entries k y at in
          subst (Matches (add p (FrameCall f now) (entry_of (records p.steps) now kinds.Took f.tag (Some (name_in p.session (s.dispatches + 1))) (Some f) None)) k) same
          (record { words = m.words ∙ sym (took_others (name_in p.session k) (apart p.session (s.dispatches + 1) k (new_above s p k y b at))); unsaid = m.unsaid; clean = m.clean })
      by None at true there h =
          let same : beginning f.tag left ≡ x = cc in
          subst (λ j. Matches (add p (FrameCall f now) (entry_of (records p.steps) now kinds.Took f.tag (Some (name_in p.session (s.dispatches + 1))) (Some f) None)) j x) (sym (eqb-true k (s.dispatches + 1) there))
          (subst (Matches (add p (FrameCall f now) (entry_of (records p.steps) now kinds.Took f.tag (Some (name_in p.session (s.dispatches + 1))) (Some f) None)) (s.dispatches + 1)) same
          (record { words = took_words; unsaid = λ o. refl; clean = λ h. refl }))
      by None at false there h = cc

  took_absent : (k : ℕ) → entry_at k (s.book ++ (s.dispatches + 1, beginning f.tag left) ∷ []) ≡ None
      → IsIdle (words_of p.session (onto (FrameCall f now) (entry_of (records p.steps) now kinds.Took f.tag (Some (name_in p.session (s.dispatches + 1))) (Some f) None) p.steps) (name_in p.session k))
  took_absent k is = by (entry_at k s.book) refl (nat_eq k (s.dispatches + 1)) refl (sym (entry_at-push k s.book (s.dispatches + 1, beginning f.tag left)) ∙ is)
    where
      by : (o : Option Entry) → entry_at k s.book ≡ o → (z : Bool) → nat_eq k (s.dispatches + 1) ≡ z → behind o (cond z (Some (beginning f.tag left)) None) ≡ None
          → IsIdle (words_of p.session (onto (FrameCall f now) (entry_of (records p.steps) now kinds.Took f.tag (Some (name_in p.session (s.dispatches + 1))) (Some f) None) p.steps) (name_in p.session k))
      by (Some y) at z there h = cc
      by None at true there h = cc
      by None at false there h =
          let same = took_others (name_in p.session k) (apart p.session (s.dispatches + 1) k there) in
          let i = b.absent k at in
          (ap (λ (w : Words). w.answer) same ∙ i.0, ap (λ (w : Words). w.note) same ∙ i.1)

  took_held : (t : ℕ) → IsHeldBy p.session
      (holder (Client p.session.number) t (entry_of (records p.steps) now kinds.Took f.tag (Some (name_in p.session (s.dispatches + 1))) (Some f) None ∷ entries_of p.steps))
      (open_at t (s.book ++ (s.dispatches + 1, beginning f.tag left) ∷ []))
  took_held t =
      subst (IsHeldBy p.session (holder (Client p.session.number) t (entry_of (records p.steps) now kinds.Took f.tag (Some (name_in p.session (s.dispatches + 1))) (Some f) None ∷ entries_of p.steps)))
      (sym (open_at-push (s.dispatches + 1) f.tag left t s.book free))
      (by (is_dispatch (kind_of f.kind)) asks (nat_eq f.tag t))
    where
      by : (d : Bool) → d ≡ true → (z : Bool)
          → IsHeldBy p.session (if d && z then Some (record { place = length (entries_of p.steps); name = Some (name_in p.session (s.dispatches + 1)) }) else holder (Client p.session.number) t (entries_of p.steps))
          (cond z (Some (s.dispatches + 1)) (open_at t s.book))
      by true h true = refl
      by true h false = b.held up t
      by false h z = cc

  pub kept_took : Belongs (noted (taking s f.tag left) now kinds.Took f.tag (Some (name_in p.session (s.dispatches + 1))) None)
      (add p (FrameCall f now) (entry_of (records p.steps) now kinds.Took f.tag (Some (name_in p.session (s.dispatches + 1))) (Some f) None))
  kept_took =
      Belongs-noted s p now (FrameCall f now) kinds.Took f.tag (Some (name_in p.session (s.dispatches + 1))) (Some f) None
      (s.book ++ (s.dispatches + 1, beginning f.tag left) ∷ []) (s.dispatches + 1) begins.Done s.drain s.closed b (record {
        written = refl;
        epoch = refl;
        dispatches = ap (λ k. k + 1) b.dispatches;
        init = sym (stale (stands is_init_done (records p.steps)) (dispatches_of (records p.steps)));
        drain = b.drain;
        closed = b.closed;
        names = took_names;
        rises = Rises-push (s.dispatches + 1) f.tag left 0 s.book s.dispatches b.rises (omega arith);
        once = IsOnce-push (s.dispatches + 1) f.tag left s.book b.once free;
        entries = took_entries;
        absent = took_absent;
        later = λ k above.
            let over : dispatches_of (records p.steps) < k = let high : dispatches_of (records p.steps) + 1 < k = above in omega (arith, high) in
            let other : nat_eq k (s.dispatches + 1) ≡ false = ne_eqb k (s.dispatches + 1) (λ e. let high : dispatches_of (records p.steps) + 1 < k = above in omega (arith, e, high, b.dispatches)) in
            took_others (name_in p.session k) (apart p.session (s.dispatches + 1) k other) ∙ b.later k over;
        held = λ going t. took_held t;
        shut = λ end t. absurd (let clash : false ≡ true = sym up ∙ end in cc);
      })

-- NACKED

module _ (s : State) (p : Past) (now : ℕ) (f : MuxFrame) (b : Belongs s p)
    (asks : is_dispatch (kind_of f.kind) ≡ true) (free : open_at f.tag s.book ≡ None) where
  other_words : (m : Name) → same_name (name_in p.session (s.dispatches + 1)) m ≡ false
      → words_of p.session (onto (FrameCall f now) (entry_of (records p.steps) now kinds.TookDrained f.tag (Some (name_in p.session (s.dispatches + 1))) (Some f) (Some (nack_on f.tag))) p.steps) m ≡ words_of p.session p.steps m
  other_words m other = rw other refl

  same_due : (m : Name) → (note_due m (record_of p now kinds.TookDrained f.tag (Some (name_in p.session (s.dispatches + 1))) ∷ records p.steps) || answer_due m (record_of p now kinds.TookDrained f.tag (Some (name_in p.session (s.dispatches + 1))) ∷ records p.steps))
      ≡ (note_due m (records p.steps) || answer_due m (records p.steps))
  same_due m = by (same_name (name_in p.session (s.dispatches + 1)) m) refl
    where
      by : (z : Bool) → same_name (name_in p.session (s.dispatches + 1)) m ≡ z
          → (note_due m (record_of p now kinds.TookDrained f.tag (Some (name_in p.session (s.dispatches + 1))) ∷ records p.steps) || answer_due m (record_of p now kinds.TookDrained f.tag (Some (name_in p.session (s.dispatches + 1))) ∷ records p.steps))
          ≡ (note_due m (records p.steps) || answer_due m (records p.steps))
      by true is = rw is refl
      by false is = rw is refl

  drained_words : words_of p.session (onto (FrameCall f now) (entry_of (records p.steps) now kinds.TookDrained f.tag (Some (name_in p.session (s.dispatches + 1))) (Some f) (Some (nack_on f.tag))) p.steps) (name_in p.session (s.dispatches + 1))
      ≡ (let w = words_of p.session p.steps (name_in p.session (s.dispatches + 1)) in record w { tag = f.tag })
  drained_words = rw (named_same (name_in p.session (s.dispatches + 1))) refl

  drained_held : has_ended (records p.steps) ≡ false → (t : ℕ) → IsHeldBy p.session
      (holder (Client p.session.number) t (entry_of (records p.steps) now kinds.TookDrained f.tag (Some (name_in p.session (s.dispatches + 1))) (Some f) (Some (nack_on f.tag)) ∷ entries_of p.steps))
      (open_at t s.book)
  drained_held going t = by (nat_eq f.tag t) refl
    where
      by : (z : Bool) → nat_eq f.tag t ≡ z → IsHeldBy p.session
          (if z then None else (if is_dispatch (kind_of f.kind) && z then Some (record { place = length (entries_of p.steps); name = Some (name_in p.session (s.dispatches + 1)) }) else holder (Client p.session.number) t (entries_of p.steps)))
          (open_at t s.book)
      by true is = subst (IsHeldBy p.session None) (sym (ap (λ k. open_at k s.book) (sym (eqb-true f.tag t is)) ∙ free)) tt
      by false is = rw asks (b.held going t)

  pub kept_nacked : Belongs (noted (numbering s) now kinds.TookDrained f.tag (Some (name_in p.session (s.dispatches + 1))) (Some (nack_on f.tag)))
      (add p (FrameCall f now) (entry_of (records p.steps) now kinds.TookDrained f.tag (Some (name_in p.session (s.dispatches + 1))) (Some f) (Some (nack_on f.tag))))
  kept_nacked =
      Belongs-noted s p now (FrameCall f now) kinds.TookDrained f.tag (Some (name_in p.session (s.dispatches + 1))) (Some f) (Some (nack_on f.tag))
      s.book (s.dispatches + 1) begins.Done s.drain s.closed b (record {
        written = refl;
        epoch = refl;
        dispatches = ap (λ k. k + 1) b.dispatches;
        init = sym (stale (stands is_init_done (records p.steps)) (dispatches_of (records p.steps)));
        drain = b.drain;
        closed = b.closed;
        names = b.names ∙ ap (λ (ns : List Name). reverse ns) (sym (filter_same _ _ same_due (names_of is_took (records p.steps))));
        rises = wider 0 s.book s.dispatches b.rises;
        once = b.once;
        entries = λ k x at.
            let m = b.entries k x at in
            record { words = m.words ∙ sym (other_words (name_in p.session k) (apart p.session (s.dispatches + 1) k (new_above s p k x b at))); unsaid = m.unsaid; clean = m.clean };
        absent = λ k none. idle k none (nat_eq k (s.dispatches + 1)) refl;
        later = λ k above.
            let high : dispatches_of (records p.steps) + 1 < k = above in
            let other : nat_eq k (s.dispatches + 1) ≡ false = ne_eqb k (s.dispatches + 1) (λ e. omega (arith, e, high, b.dispatches)) in
            other_words (name_in p.session k) (apart p.session (s.dispatches + 1) k other) ∙ b.later k (omega (arith, high));
        held = drained_held;
        shut = b.shut;
      })
    where
      wider : (low : ℕ) (es : Entries) (high : ℕ) → Rises low es high → Rises low es (high + 1)
      wider low [] high h = omega (arith, h)
      wider low (q ∷ qs) high h = (h.0, wider q.0 qs high h.1)

      idle : (k : ℕ) → entry_at k s.book ≡ None → (z : Bool) → nat_eq k (s.dispatches + 1) ≡ z
          → IsIdle (words_of p.session (onto (FrameCall f now) (entry_of (records p.steps) now kinds.TookDrained f.tag (Some (name_in p.session (s.dispatches + 1))) (Some f) (Some (nack_on f.tag))) p.steps) (name_in p.session k))
      idle k none true is =
          let number = eqb-true k (s.dispatches + 1) is in
          let w = drained_words ∙ ap (λ (w : Words). record w { tag = f.tag }) (b.later (s.dispatches + 1) (above_all s p b)) in
          subst (λ j. IsIdle (words_of p.session (onto (FrameCall f now) (entry_of (records p.steps) now kinds.TookDrained f.tag (Some (name_in p.session (s.dispatches + 1))) (Some f) (Some (nack_on f.tag))) p.steps) (name_in p.session j))) (sym number)
          (ap (λ (v : Words). v.answer) w, ap (λ (v : Words). v.note) w)
      idle k none false is =
          let same = other_words (name_in p.session k) (apart p.session (s.dispatches + 1) k is) in
          let i = b.absent k none in
          (ap (λ (v : Words). v.answer) same ∙ i.0, ap (λ (v : Words). v.note) same ∙ i.1)

-- THE STEPS

dispatch_content : (c : DownSession) (past : List Step) (t : ℕ) (m : Content) → kind_in m ≡ types.Tdispatch
    → by_content c past t m ≡ (if is_acked (drain_of (records past)) then NacksDrained else Takes)
dispatch_content c past t (tdispatch _ _ _ _) h = refl
dispatch_content c past t _ h = cc

acked_same : (d : DrainState) → drained (asked_on_one d) ≡ is_acked d
acked_same drains.Running = refl
acked_same drains.Asked = refl
acked_same drains.Acked = refl

-- the name that a session gives next is the one that its list gives
named_next : (s : State) (p : Past) → Belongs s p → name_in p.session (s.dispatches + 1) ≡ next_name p.session p.steps
named_next s p b = ap (λ k. name_in p.session (k + 1)) b.dispatches

pub named_mine : (s : State) (p : Past) (k : ℕ) → Belongs s p → naming s k ≡ name_in p.session k
named_mine s p k b = λ i. record { boot = b.boot i; client = b.client i; seq = k }

module _ (s : State) (p : Past) (now : ℕ) (f : MuxFrame) (m : Content) (b : Belongs s p) (up : s.closed ≡ false) (read : message_of f ≡ Ok m) (spelled : Spells f m)
    (kind : kind_in m ≡ types.Tdispatch) (room : room_refusal (figures_in s) types.Tdispatch ≡ None)
    (cause : closing_cause (is_some (open_at f.tag s.book)) f.tag types.Tdispatch ≡ None) where
  asks_it : is_dispatch (kind_of f.kind) ≡ true
  asks_it = ap is_dispatch (kind_spelled f m spelled ∙ kind)

  unused_tag : open_at f.tag s.book ≡ None
  unused_tag = asking_free f.tag types.Tdispatch (open_at f.tag s.book) cause refl

  dispatch_told : (z : Bool) → drained s.drain ≡ z → Frames p f now ≡ reacted p.session p.steps f now (if z then NacksDrained else Takes)
  dispatch_told z is =
      content_told s p f now m b up read (ap (λ (k : MessageKind). closing_cause (is_some (open_at f.tag s.book)) f.tag k) kind ∙ cause) None (ap (room_refusal (figures_in s)) kind ∙ room)
      ∙ ap (reacted p.session p.steps f now)
      (dispatch_content p.session p.steps f.tag m kind
      ∙ ap (λ y. if y then NacksDrained else Takes) (sym (acked_same (drain_of (records p.steps))) ∙ sym (ap drained b.drain) ∙ is))

  pub nacked_step : (new : State) → drained s.drain ≡ true
      → new ≡ noted (numbering s) now kinds.TookDrained f.tag (Some (naming s (s.dispatches + 1))) (Some (nack_on f.tag))
      → (q : Past) × FrameStep p (read_as f) now (Ok answers.Nothing) q × Belongs new q
  nacked_step new acked is =
      let n = name_in p.session (s.dispatches + 1) in
      let e = entry_of (records p.steps) now kinds.TookDrained f.tag (Some n) (Some f) (Some (nack_on f.tag)) in
      let out : Frames p f now ≡ Recorded e [] =
      dispatch_told true acked ∙ ap (λ (k : Name). Recorded (entry_of (records p.steps) now kinds.TookDrained f.tag (Some k) (Some f) (Some (nack_on f.tag))) []) (sym (named_next s p b)) in (
        add p (FrameCall f now) e,
        (e, _, refl, refl, (out, refl)),
        subst (λ (t : State). Belongs t (add p (FrameCall f now) e))
            (sym (is ∙ ap (λ (k : Name). noted (numbering s) now kinds.TookDrained f.tag (Some k) (Some (nack_on f.tag))) (named_mine s p (s.dispatches + 1) b)))
            (kept_nacked s p now f b asks_it unused_tag),
      )

  pub took_step : (t : TicketView) (left : ℕ) (new : State) → drained s.drain ≡ false → left ≡ s.limits.retries
      → t ≡ record { name = naming s (s.dispatches + 1); frame = f; content = m; left = left }
      → new ≡ noted (taking s f.tag left) now kinds.Took f.tag (Some (naming s (s.dispatches + 1))) None
      → (q : Past) × FrameStep p (read_as f) now (Ok (answers.Take t)) q × Belongs new q
  took_step t left new running tries told is =
      let n = name_in p.session (s.dispatches + 1) in
      let e = entry_of (records p.steps) now kinds.Took f.tag (Some n) (Some f) None in
      let view : TicketView = record { name = n; frame = f; content = m; left = left } in
      let all : left ≡ p.session.limits.retries = tries ∙ (λ i. (b.limits i).retries) in
      let out : Frames p f now ≡ Recorded e (TicketOf n f left ∷ []) =
      dispatch_told false running
      ∙ ap (λ (k : Name). Recorded (entry_of (records p.steps) now kinds.Took f.tag (Some k) (Some f) None) (TicketOf k f p.session.limits.retries ∷ [])) (sym (named_next s p b))
      ∙ ap (λ k. Recorded e (TicketOf n f k ∷ [])) (sym all) in
      let same : t ≡ view = told ∙ ap (λ (k : Name). record { name = k; frame = f; content = m; left = left }) (named_mine s p (s.dispatches + 1) b) in
      let one : (q : Past) × FrameStep p (read_as f) now (Ok (answers.Take view)) q × Belongs new q = (
        add p (FrameCall f now) e,
        (e, _, refl, refl, (out, refl)),
        subst (λ (x : State). Belongs x (add p (FrameCall f now) e))
            (sym (is ∙ ap (λ (k : Name). noted (taking s f.tag left) now kinds.Took f.tag (Some k) None) (named_mine s p (s.dispatches + 1) b)))
            (kept_took s p now f left b (sym b.closed ∙ up) asks_it unused_tag all),
      ) in
      subst (λ (v : TicketView). (q : Past) × FrameStep p (read_as f) now (Ok (answers.Take v)) q × Belongs new q) (sym same) one
