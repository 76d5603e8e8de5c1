-- Each step takes a state that belongs to a list to one that belongs to the longer list.
use Rattle.std.proofs.Common.{◌≡◌, ℕ, ◌<◌, Bool, true, false, cond, nat_eq, List, [], ◌∷◌, ◌++◌, Option, None, Some, refl, sym, ◌∙◌, ap, subst, append_assoc, arith}
use Rattle.std.specs.Prelude.{◌&&◌, ◌||◌, if◌then◌else◌, max, reverse, filter, not}
use Rattle.std.specs.Option.{option_to_list}
use mathlib.Core.List.{reverse-cons}
use Rattle.std.proofs.lemmas.Bool.{eqb-true, ne_eqb}
use Rattle.mux_frame.specs.Spelling.{MuxFrame}
use Rattle.mux_history.specs.declared.name.Name.{Name}
use Rattle.mux_history.specs.declared.record.Record.{Record}
use Rattle.mux_history.specs.declared.kind.RecordKind.{RecordKind}
use Rattle.mux_history.specs.declared.session.SessionId.TheVariants.{Client}
use Rattle.mux_history.specs.Readings.{has_ended, reading, dispatches as dispatches_of, is_fresh, drain_of, epoch_of, book as book_of, written, same_name, note_due, answer_due, names_of, is_took}
use Rattle.mux_model.specs.Entries.{Exchange as Line}
use Rattle.mux_model.specs.Steps.{Call, Step, records, entries as entries_of, entry_of}
use Rattle.mux_model.specs.Tags.{Holder, holder}
use Rattle.gate.specs.declared.drain.DrainOut.{DrainOut}
use Rattle.session_init.specs.declared.server.ServerInit.{ServerInit}
use Rattle.translate_book.specs.declared.entry.Entry.{Entry}
use Rattle.translate_book.specs.Entries.{is_open, is_held, is_note_due, is_answer_due}
use Rattle.translate_book.specs.Book.{entry_at, open_at, IsOnce, Rises, changed}
use Rattle.translate_book.proofs.Closing.{Closing, IsOnce-changed, open_at-changed_same, open_at-changed_none}
use Rattle.translate_book.proofs.Freed.{open_at-freed}
use Rattle.server_session.specs.Past.{Past, Words, words_of, add}
use Rattle.server_session.specs.State.{State, noted, is_fresh_init, asked_on_one, words_in}
use Rattle.server_session.specs.Belonging.{Belongs, Matches, IsIdle, name_in, unheard, IsHeldBy}
use Rattle.server_session.proofs.Books.{Entries, entry_at-own, entry_at-other, Rises-changed}
use Rattle.server_session.proofs.Naming.{naming_of, names_changed, stays, filter_both, filter_same, filter_reverse, same_names, apart, given}

abbrev pub onto : Call → Line → List Step → List Step
onto call e old = record { call = call; entry = e } ∷ old

-- the state with other entries and flags
abbrev pub with_flags : State → Entries → ℕ → ServerInit → DrainOut → (closed : Bool) → State
with_flags s book dispatches init drain closed = record s { book = book; dispatches = dispatches; init = init; drain = drain; closed = closed }

-- what the entries and the flags must be after a step in the present history
pub record Changes (p : Past) (call : Call) (e : Line) (r : Record) (bk : Entries) (di : ℕ) (begun : ServerInit) (dr : DrainOut) (cl : Bool) : Type 0 where
  pub written : written (r ∷ records p.steps) ≡ r ∷ written (records p.steps)
  pub epoch : epoch_of (r ∷ records p.steps) ≡ epoch_of (records p.steps)
  pub dispatches : di ≡ dispatches_of (r ∷ records p.steps)
  pub init : is_fresh_init begun ≡ is_fresh (r ∷ records p.steps)
  pub drain : dr ≡ asked_on_one (drain_of (r ∷ records p.steps))
  pub closed : cl ≡ has_ended (r ∷ records p.steps)
  pub names : naming_of p.session bk ≡ reverse (book_of (r ∷ records p.steps))
  pub rises : Rises 0 bk di
  pub once : IsOnce bk
  pub entries : (seq : ℕ) (x : Entry) → entry_at seq bk ≡ Some x → Matches (add p call e) seq x
  pub absent : (seq : ℕ) → entry_at seq bk ≡ None → IsIdle (words_of p.session (onto call e p.steps) (name_in p.session seq))
  pub later : (seq : ℕ) → dispatches_of (r ∷ records p.steps) < seq
      → words_of p.session (onto call e p.steps) (name_in p.session seq) ≡ unheard p.session
  pub held : has_ended (r ∷ records p.steps) ≡ false → (t : ℕ)
      → IsHeldBy p.session (holder (Client p.session.number) t (e ∷ entries_of p.steps)) (open_at t bk)
  pub shut : has_ended (r ∷ records p.steps) ≡ true → (t : ℕ) → open_at t bk ≡ None

abbrev pub record_of : Past → (now : ℕ) → RecordKind → (tag : ℕ) → Option Name → Record
record_of p now kind tag name = record { kind = kind; tag = tag; name = name; reading = max (reading (records p.steps)) now }

pub Belongs-noted : (s : State) (p : Past) (now : ℕ) (call : Call) (kind : RecordKind) (tag : ℕ) (name : Option Name) (taken sent : Option MuxFrame)
    (bk : Entries) (di : ℕ) (begun : ServerInit) (dr : DrainOut) (cl : Bool) → Belongs s p
    → Changes p call (entry_of (records p.steps) now kind tag name taken sent) (record_of p now kind tag name) bk di begun dr cl
    → Belongs (noted (with_flags s bk di begun dr cl) now kind tag name sent) (add p call (entry_of (records p.steps) now kind tag name taken sent))
Belongs-noted s p now call kind tag name taken sent bk di begun dr cl b c = record {
  boot = b.boot;
  client = b.client;
  limits = b.limits;
  epoch = b.epoch ∙ sym c.epoch;
  records =
      ap (λ (rs : List Record). rs ++ record { kind = kind; tag = tag; name = name; reading = max s.reading now } ∷ []) b.records
      ∙ ap (λ (r : ℕ). reverse (written (records p.steps)) ++ record { kind = kind; tag = tag; name = name; reading = max r now } ∷ []) b.reading
      ∙ sym (reverse-cons (record_of p now kind tag name) (written (records p.steps)))
      ∙ ap (λ (rs : List Record). reverse rs) (sym c.written);
  queue = sym (append_assoc p.out s.queue (option_to_list sent)) ∙ ap (λ (q : List MuxFrame). q ++ option_to_list sent) b.queue;
  dispatches = c.dispatches;
  reading = ap (λ (r : ℕ). max r now) b.reading;
  init = c.init;
  drain = c.drain;
  closed = c.closed;
  names = c.names;
  rises = c.rises;
  once = c.once;
  entries = c.entries;
  absent = c.absent;
  later = c.later;
  held = c.held;
  shut = c.shut;
}

-- A STEP THAT IS ABOUT NO DISPATCH OF THE SESSION, and changes no tag

pub record Quiet (p : Past) (call : Call) (e : Line) (r : Record) : Type 0 where
  pub written : written (r ∷ records p.steps) ≡ r ∷ written (records p.steps)
  pub epoch : epoch_of (r ∷ records p.steps) ≡ epoch_of (records p.steps)
  pub dispatches : dispatches_of (r ∷ records p.steps) ≡ dispatches_of (records p.steps)
  pub ended : has_ended (r ∷ records p.steps) ≡ has_ended (records p.steps)
  pub book : book_of (r ∷ records p.steps) ≡ book_of (records p.steps)
  pub words : (n : Name) → words_of p.session (onto call e p.steps) n ≡ words_of p.session p.steps n
  pub holders : (t : ℕ) → holder (Client p.session.number) t (e ∷ entries_of p.steps) ≡ holder (Client p.session.number) t (entries_of p.steps)

pub quiet : (s : State) (p : Past) (now : ℕ) (call : Call) (kind : RecordKind) (tag : ℕ) (name : Option Name) (taken sent : Option MuxFrame)
    (begun : ServerInit) (dr : DrainOut) → Belongs s p
    → Quiet p call (entry_of (records p.steps) now kind tag name taken sent) (record_of p now kind tag name)
    → is_fresh_init begun ≡ is_fresh (record_of p now kind tag name ∷ records p.steps)
    → dr ≡ asked_on_one (drain_of (record_of p now kind tag name ∷ records p.steps))
    → Belongs (noted (with_flags s s.book s.dispatches begun dr s.closed) now kind tag name sent) (add p call (entry_of (records p.steps) now kind tag name taken sent))
quiet s p now call kind tag name taken sent begun dr b q fresh drain =
    Belongs-noted s p now call kind tag name taken sent s.book s.dispatches begun dr s.closed b (record {
      written = q.written;
      epoch = q.epoch;
      dispatches = b.dispatches ∙ sym q.dispatches;
      init = fresh;
      drain = drain;
      closed = b.closed ∙ sym q.ended;
      names = b.names ∙ ap (λ (ns : List Name). reverse ns) (sym q.book);
      rises = b.rises;
      once = b.once;
      entries = λ seq x is. let m = b.entries seq x is in record { words = m.words ∙ sym (q.words (name_in p.session seq)); unsaid = m.unsaid; clean = m.clean };
      absent = λ seq none. let i = b.absent seq none in (ap (λ (w : Words). w.answer) (q.words (name_in p.session seq)) ∙ i.0, ap (λ (w : Words). w.note) (q.words (name_in p.session seq)) ∙ i.1);
      later = λ seq above. q.words (name_in p.session seq) ∙ b.later seq (subst (λ n. n < seq) q.dispatches above);
      held = λ up t. subst (λ (h : Option Holder). IsHeldBy p.session h (open_at t s.book)) (sym (q.holders t)) (b.held (sym q.ended ∙ up) t);
      shut = λ end t. b.shut (sym q.ended ∙ end) t;
    })

-- A STEP THAT IS ABOUT ONE DISPATCH

pub record About (p : Past) (call : Call) (e : Line) (r : Record) (seq : ℕ) (was is : Entry) : Type 0 where
  pub written : written (r ∷ records p.steps) ≡ r ∷ written (records p.steps)
  pub epoch : epoch_of (r ∷ records p.steps) ≡ epoch_of (records p.steps)
  pub dispatches : dispatches_of (r ∷ records p.steps) ≡ dispatches_of (records p.steps)
  pub ended : has_ended (r ∷ records p.steps) ≡ has_ended (records p.steps)
  pub fresh : is_fresh (r ∷ records p.steps) ≡ is_fresh (records p.steps)
  pub drain : drain_of (r ∷ records p.steps) ≡ drain_of (records p.steps)
  pub took : names_of is_took (r ∷ records p.steps) ≡ names_of is_took (records p.steps)
  -- it was due, and what is known of it then is what the entry says
  pub due : is_held was ≡ true
  pub mine : words_in is ≡ words_of p.session (onto call e p.steps) (name_in p.session seq)
  pub others : (m : Name) → same_name (name_in p.session seq) m ≡ false → words_of p.session (onto call e p.steps) m ≡ words_of p.session p.steps m
  pub unsaid : is_open is ≡ true → is.why ≡ None
  pub clean : (is_open is || is_note_due is) ≡ true → is.recalled ≡ false
  -- who holds each tag then, where it is open on its own
  pub held : has_ended (records p.steps) ≡ false → (t : ℕ) (o : Option ℕ) → IsHeldBy p.session (holder (Client p.session.number) t (entries_of p.steps)) o
      → IsHeldBy p.session (holder (Client p.session.number) t (e ∷ entries_of p.steps)) (if is_open was && not (is_open is) then (cond (nat_eq was.tag t) None o) else o)

due_test : List Record → Name → Bool
due_test rs m = note_due m rs || answer_due m rs

module _ (s : State) (p : Past) (now : ℕ) (call : Call) (kind : RecordKind) (tag : ℕ) (taken sent : Option MuxFrame) (seq : ℕ) (f : Entry → Entry) (x : Entry)
    (b : Belongs s p) (closes : Closing f) (at : entry_at seq s.book ≡ Some x)
    (a : About p call (entry_of (records p.steps) now kind tag (Some (name_in p.session seq)) taken sent) (record_of p now kind tag (Some (name_in p.session seq))) seq x (f x)) where
  line : Line
  line = entry_of (records p.steps) now kind tag (Some (name_in p.session seq)) taken sent

  rec : Record
  rec = record_of p now kind tag (Some (name_in p.session seq))

  same_test : (m : Name) → ((note_due m (records p.steps) || answer_due m (records p.steps)) && stays (is_held (f x)) (name_in p.session seq) m)
      ≡ (note_due m (record_of p now kind tag (Some (name_in p.session seq)) ∷ records p.steps) || answer_due m (record_of p now kind tag (Some (name_in p.session seq)) ∷ records p.steps))
  same_test m = by (same_name (name_in p.session seq) m) refl
    where
      n : Name
      n = name_in p.session seq

      due_now : (note_due (name_in p.session seq) (records p.steps) || answer_due (name_in p.session seq) (records p.steps)) ≡ true
      due_now = sym (ap (λ (w : Words). w.note || w.answer) (b.entries seq x at).words) ∙ a.due

      due_then : is_held (f x) ≡ (note_due (name_in p.session seq) (record_of p now kind tag (Some (name_in p.session seq)) ∷ records p.steps) || answer_due (name_in p.session seq) (record_of p now kind tag (Some (name_in p.session seq)) ∷ records p.steps))
      due_then = ap (λ (w : Words). w.note || w.answer) a.mine

      own_test : (h : Bool) → (true && (h || not true)) ≡ h
      own_test true = refl
      own_test false = refl

      other_test : (t h : Bool) → (t && (h || not false)) ≡ t
      other_test true true = refl
      other_test true false = refl
      other_test false h = refl

      by : (z : Bool) → same_name (name_in p.session seq) m ≡ z → ((note_due m (records p.steps) || answer_due m (records p.steps)) && stays (is_held (f x)) (name_in p.session seq) m)
          ≡ (note_due m (record_of p now kind tag (Some (name_in p.session seq)) ∷ records p.steps) || answer_due m (record_of p now kind tag (Some (name_in p.session seq)) ∷ records p.steps))
      by true is =
          let same = same_names (name_in p.session seq) m is in
          subst (λ (k : Name). ((note_due k (records p.steps) || answer_due k (records p.steps)) && (is_held (f x) || not (same_name (name_in p.session seq) m)))
          ≡ (note_due k (record_of p now kind tag (Some (name_in p.session seq)) ∷ records p.steps) || answer_due k (record_of p now kind tag (Some (name_in p.session seq)) ∷ records p.steps)))
          same
          (ap (λ z. z && (is_held (f x) || not (same_name (name_in p.session seq) m))) due_now
          ∙ ap (λ z. true && (is_held (f x) || not z)) is ∙ own_test (is_held (f x)) ∙ due_then)
      by false is =
          ap (λ z. (note_due m (records p.steps) || answer_due m (records p.steps)) && (is_held (f x) || not z)) is
          ∙ other_test (note_due m (records p.steps) || answer_due m (records p.steps)) (is_held (f x))
          ∙ sym (ap (λ (w : Words). w.note || w.answer) (a.others m is))

  names_then : naming_of p.session (changed seq f s.book) ≡ reverse (book_of (record_of p now kind tag (Some (name_in p.session seq)) ∷ records p.steps))
  names_then =
      names_changed p.session seq f 0 s.book s.dispatches x b.rises at
      ∙ ap (filter (stays (is_held (f x)) (name_in p.session seq))) b.names
      ∙ filter_reverse (stays (is_held (f x)) (name_in p.session seq)) (book_of (records p.steps))
      ∙ ap (λ (ns : List Name). reverse ns)
      (sym (filter_both (λ m. note_due m (records p.steps) || answer_due m (records p.steps)) (stays (is_held (f x)) (name_in p.session seq)) (names_of is_took (records p.steps)))
      ∙ filter_same _ _ same_test (names_of is_took (records p.steps))
      ∙ ap (filter (λ m. note_due m (record_of p now kind tag (Some (name_in p.session seq)) ∷ records p.steps) || answer_due m (record_of p now kind tag (Some (name_in p.session seq)) ∷ records p.steps))) (sym a.took))

  entry_then : (k : ℕ) (y : Entry) → entry_at k (changed seq f s.book) ≡ Some y → Matches (add p call (entry_of (records p.steps) now kind tag (Some (name_in p.session seq)) taken sent)) k y
  entry_then k y is = by (nat_eq k seq) refl
    where
      mine : (z : Bool) → is_held (f x) ≡ z → (if z then Some (f x) else None) ≡ Some y → f x ≡ y
      mine true h e = cc
      mine false h e = cc

      by : (z : Bool) → nat_eq k seq ≡ z → Matches (add p call (entry_of (records p.steps) now kind tag (Some (name_in p.session seq)) taken sent)) k y
      by true same =
          let number = eqb-true k seq same in
          let own = mine (is_held (f x)) refl (sym (entry_at-own seq f 0 s.book s.dispatches x b.rises at) ∙ ap (λ j. entry_at j (changed seq f s.book)) (sym number) ∙ is) in
          subst (λ j. Matches (add p call (entry_of (records p.steps) now kind tag (Some (name_in p.session seq)) taken sent)) j y) (sym number)
          (subst (λ e. Matches (add p call (entry_of (records p.steps) now kind tag (Some (name_in p.session seq)) taken sent)) seq e) own
          (record { words = a.mine; unsaid = a.unsaid; clean = a.clean }))
      by false other =
          let m = b.entries k y (sym (entry_at-other seq f k s.book other) ∙ is) in
          record { words = m.words ∙ sym (a.others (name_in p.session k) (apart p.session seq k other)); unsaid = m.unsaid; clean = m.clean }

  absent_then : (k : ℕ) → entry_at k (changed seq f s.book) ≡ None → IsIdle (words_of p.session (onto call (entry_of (records p.steps) now kind tag (Some (name_in p.session seq)) taken sent) p.steps) (name_in p.session k))
  absent_then k none = by (nat_eq k seq) refl
    where
      gone : (z : Bool) → is_held (f x) ≡ z → (if z then Some (f x) else None) ≡ None → is_held (f x) ≡ false
      gone true h e = cc
      gone false h e = h

      idle : (y z : Bool) → (y || z) ≡ false → (z ≡ false) × (y ≡ false)
      idle true z h = cc
      idle false z h = (h, refl)

      by : (z : Bool) → nat_eq k seq ≡ z → IsIdle (words_of p.session (onto call (entry_of (records p.steps) now kind tag (Some (name_in p.session seq)) taken sent) p.steps) (name_in p.session k))
      by true same =
          let number = eqb-true k seq same in
          let left = gone (is_held (f x)) refl (sym (entry_at-own seq f 0 s.book s.dispatches x b.rises at) ∙ ap (λ j. entry_at j (changed seq f s.book)) (sym number) ∙ none) in
          let i = idle (is_note_due (f x)) (is_answer_due (f x)) left in
          subst (λ j. IsIdle (words_of p.session (onto call (entry_of (records p.steps) now kind tag (Some (name_in p.session seq)) taken sent) p.steps) (name_in p.session j))) (sym number)
          (sym (ap (λ (w : Words). w.answer) a.mine) ∙ i.0, sym (ap (λ (w : Words). w.note) a.mine) ∙ i.1)
      by false other =
          let i = b.absent k (sym (entry_at-other seq f k s.book other) ∙ none) in
          let same = a.others (name_in p.session k) (apart p.session seq k other) in
          (ap (λ (w : Words). w.answer) same ∙ i.0, ap (λ (w : Words). w.note) same ∙ i.1)

  open_then : (t : ℕ) → open_at t (changed seq f s.book) ≡ (if is_open x && not (is_open (f x)) then (cond (nat_eq x.tag t) None (open_at t s.book)) else open_at t s.book)
  open_then t = by (is_open x) (is_open (f x)) refl refl
    where
      by : (y z : Bool) → is_open x ≡ y → is_open (f x) ≡ z → open_at t (changed seq f s.book) ≡ (if y && not z then (cond (nat_eq x.tag t) None (open_at t s.book)) else open_at t s.book)
      by true true was is = open_at-changed_same f closes seq t s.book x at (is ∙ sym was)
      by true false was is = open_at-freed seq f x was is t s.book b.once at
      by false true was is = absurd (let clash : true ≡ false = sym is ∙ closes.shut x was in cc)
      by false false was is = open_at-changed_same f closes seq t s.book x at (is ∙ sym was)

  pub about : Belongs (noted (record s { book = changed seq f s.book }) now kind tag (Some (name_in p.session seq)) sent) (add p call (entry_of (records p.steps) now kind tag (Some (name_in p.session seq)) taken sent))
  about =
      let last = given seq 0 s.book x s.dispatches b.rises at in
      Belongs-noted s p now call kind tag (Some (name_in p.session seq)) taken sent (changed seq f s.book) s.dispatches s.init s.drain s.closed b (record {
        written = a.written;
        epoch = a.epoch;
        dispatches = b.dispatches ∙ sym a.dispatches;
        init = b.init ∙ sym a.fresh;
        drain = b.drain ∙ ap asked_on_one (sym a.drain);
        closed = b.closed ∙ sym a.ended;
        names = names_then;
        rises = Rises-changed seq f 0 s.book s.dispatches b.rises;
        once = IsOnce-changed f closes seq s.book b.once;
        entries = entry_then;
        absent = absent_then;
        later = λ k above.
            let over : dispatches_of (records p.steps) < k = subst (λ d. d < k) a.dispatches above in
            let other : nat_eq k seq ≡ false = ne_eqb k seq (λ e. omega (arith, e, over, last.1, b.dispatches)) in
            a.others (name_in p.session k) (apart p.session seq k other) ∙ b.later k over;
        held = λ up t. subst (IsHeldBy p.session (holder (Client p.session.number) t (entry_of (records p.steps) now kind tag (Some (name_in p.session seq)) taken sent ∷ entries_of p.steps))) (sym (open_then t)) (a.held (sym a.ended ∙ up) t (open_at t s.book) (b.held (sym a.ended ∙ up) t));
        shut = λ end t. open_at-changed_none f closes seq t s.book (b.shut (sym a.ended ∙ end) t);
      })
