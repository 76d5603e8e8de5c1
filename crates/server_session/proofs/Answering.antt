-- The answers to a dispatch.
use Rattle.std.proofs.Common.{◌≡◌, ℕ, List, Bool, true, false, cond, nat_eq, [], ◌∷◌, length, Option, None, Some, refl, sym, ◌∙◌, ap, subst}
use Rattle.std.specs.Prelude.{◌==◌, ◌&&◌, ◌||◌, if◌then◌else◌, not}
use Rattle.std.proofs.lemmas.Bool.{eqb-true, and_parts}
use Rattle.mux_frame.specs.Spelling.{MuxFrame}
use Rattle.mux_message.specs.Kinds.{kind_of, is_final}
use Rattle.mux_history.specs.declared.name.Name.{Name}
use Rattle.mux_history.specs.declared.kind.RecordKind.{RecordKind}
use Rattle.mux_history.specs.declared.kind.RecordKind.TheVariants as kinds
use Rattle.mux_history.specs.declared.session.SessionId.TheVariants.{Client}
use Rattle.mux_history.specs.Readings.{has_ended, same_name, note_due, answer_due, tag_of, written, epoch_of, dispatches as dispatches_of, is_fresh, drain_of, names_of, is_took}
use Rattle.mux_model.specs.Steps.{Call, Recorded, records, entries as entries_of, entry_of}
use Rattle.mux_model.specs.Tags.{holder}
use Rattle.mux_model.specs.Down.{DownSession, down, is_mine, answer}
use Rattle.translate_book.specs.declared.entry.NoteState.{NoteState}
use Rattle.translate_book.specs.declared.entry.NoteState.TheVariants as notes
use Rattle.translate_book.specs.declared.entry.Entry.{Entry}
use Rattle.translate_book.specs.Entries.{is_open, is_note_due, is_answer_due, is_due_note, is_noted_in, place_in, applied}
use Rattle.translate_book.specs.Book.{entry_at, changed}
use Rattle.translate_book.proofs.Closing.{closing}
use Rattle.server_session.specs.declared.answers.Answer.{Answer}
use Rattle.server_session.specs.declared.answers.Answer.TheVariants as whether
use Rattle.server_session.specs.Past.{Past, Words, words_of, add}
use Rattle.server_session.specs.State.{State, ForEntry, noted, words_in, pair_of, tag_due, due_in, answered_in, answer_change}
use Rattle.server_session.specs.Belonging.{Belongs, name_in, IsHeldBy}
use Rattle.server_session.specs.Steps.{Records, is_answer, given_again, is_late}
use Rattle.server_session.proofs.Keeping.{About, about, onto, record_of}
use Rattle.server_session.proofs.Dispatches.{open_same, tag_is, freed, due_held}

-- WHAT IS DUE

own : (c : DownSession) (n : Name) → is_mine c n ≡ true → n ≡ name_in c n.seq
own c n h =
    let p = and_parts _ _ h in
    λ i. record { boot = eqb-true n.boot c.boot p.0 i; client = eqb-true n.client c.number p.1 i; seq = n.seq }

mine_same : (s : State) (p : Past) (n : Name) → Belongs s p → (n.boot == s.boot && n.client == s.client) ≡ is_mine p.session n
mine_same s p n b = λ i. n.boot == b.boot i && n.client == b.client i

-- what was asked for is due
abbrev pub IsDue : (note answer : Bool) → Entry → Type 0
IsDue note answer x = ((note && not (is_note_due x)) || (answer && not (is_answer_due x))) ≡ false

pub record Found (s : State) (p : Past) (n : Name) (note answer : Bool) (tag : ℕ) : Type 0 where
  pub entry : Entry
  pub mine : is_mine p.session n ≡ true
  pub named : n ≡ name_in p.session n.seq
  pub at : entry_at n.seq s.book ≡ Some entry
  pub due : IsDue note answer entry
  pub tag_is : entry.tag ≡ tag

pub found : (s : State) (p : Past) (n : Name) (note answer : Bool) (tag : ℕ) → Belongs s p → due_in s n note answer ≡ Some tag → Found s p n note answer tag
found s p n note answer tag b is = by (n.boot == s.boot && n.client == s.client) refl (entry_at n.seq s.book) refl
  where
    with : (e : Entry) (z : Bool) → ((note && not (is_note_due e)) || (answer && not (is_answer_due e))) ≡ z → (if z then None else Some e.tag) ≡ Some tag → (z ≡ false) × (e.tag ≡ tag)
    with e true h i = cc
    with e false h i = (refl, cc)

    by : (z : Bool) → (n.boot == s.boot && n.client == s.client) ≡ z → (o : Option Entry) → entry_at n.seq s.book ≡ o → Found s p n note answer tag
    by false m o at = let clash : None ≡ Some tag = sym (ap (λ z. if z then tag_due note answer (entry_at n.seq s.book) else None) m) ∙ is in cc
    by true m None at = let clash : None ≡ Some tag = sym (ap (λ z. if z then tag_due note answer (entry_at n.seq s.book) else None) m ∙ ap (tag_due note answer) at) ∙ is in cc
    by true m (Some e) at =
        let mine = sym (mine_same s p n b) ∙ m in
        let w = with e _ refl (sym (ap (λ z. if z then tag_due note answer (entry_at n.seq s.book) else None) m ∙ ap (tag_due note answer) at) ∙ is) in
        record { entry = e; mine = mine; named = own p.session n mine; at = at; due = w.0; tag_is = w.1 }

-- by the words, something that was asked for isn't due
pub undue : (s : State) (p : Past) (n : Name) (note answer : Bool) → (note || answer) ≡ true → Belongs s p → due_in s n note answer ≡ None
    → (is_mine p.session n && not ((note && not (note_due n (records p.steps))) || (answer && not (answer_due n (records p.steps))))) ≡ false
undue s p n note answer asked b is = by (n.boot == s.boot && n.client == s.client) refl (entry_at n.seq s.book) refl
  where
    word : Words → Bool
    word w = is_mine p.session n && not ((note && not w.note) || (answer && not w.answer))

    idle : (x y : Bool) → (x || y) ≡ true → not ((x && true) || (y && true)) ≡ false
    idle true y h = refl
    idle false true h = refl
    idle false false h = cc

    some : (e : Entry) (z : Bool) → (if z then None else Some e.tag) ≡ None → z ≡ true
    some e true h = refl
    some e false h = cc

    and_no : (x : Bool) → (x && false) ≡ false
    and_no true = refl
    and_no false = refl

    by : (z : Bool) → (n.boot == s.boot && n.client == s.client) ≡ z → (o : Option Entry) → entry_at n.seq s.book ≡ o → word (words_of p.session p.steps n) ≡ false
    by false m o at = ap (λ z. z && not ((note && not (note_due n (records p.steps))) || (answer && not (answer_due n (records p.steps))))) (sym (mine_same s p n b) ∙ m)
    by true m None at =
        let mine = sym (mine_same s p n b) ∙ m in
        let named = own p.session n mine in
        let i = b.absent n.seq at in
        let none : note_due n (records p.steps) ≡ false = ap (λ k. note_due k (records p.steps)) named ∙ i.1 in
        let nothing : answer_due n (records p.steps) ≡ false = ap (λ k. answer_due k (records p.steps)) named ∙ i.0 in
        ap (λ z. is_mine p.session n && not ((note && not z) || (answer && not (answer_due n (records p.steps))))) none
        ∙ ap (λ z. is_mine p.session n && not ((note && true) || (answer && not z))) nothing
        ∙ ap (λ z. is_mine p.session n && z) (idle note answer asked) ∙ and_no (is_mine p.session n)
    by true m (Some e) at =
        let mine = sym (mine_same s p n b) ∙ m in
        let named = own p.session n mine in
        let w = (b.entries n.seq e at).words in
        let none : note_due n (records p.steps) ≡ is_note_due e = ap (λ k. note_due k (records p.steps)) named ∙ sym (ap (λ (x : Words). x.note) w) in
        let nothing : answer_due n (records p.steps) ≡ is_answer_due e = ap (λ k. answer_due k (records p.steps)) named ∙ sym (ap (λ (x : Words). x.answer) w) in
        let missing = some e ((note && not (is_note_due e)) || (answer && not (is_answer_due e))) (sym (ap (λ z. if z then tag_due note answer (entry_at n.seq s.book) else None) m ∙ ap (tag_due note answer) at) ∙ is) in
        ap (λ z. is_mine p.session n && not ((note && not z) || (answer && not (answer_due n (records p.steps))))) none
        ∙ ap (λ z. is_mine p.session n && not ((note && not (is_note_due e)) || (answer && not z))) nothing
        ∙ ap (λ z. is_mine p.session n && not z) missing ∙ and_no (is_mine p.session n)

pub one_missing : (m a : Bool) → (m && not (false || not a)) ≡ false → (m && a) ≡ false
one_missing true true h = cc
one_missing true false h = refl
one_missing false a h = refl

pub note_missing : (m a : Bool) → (m && not (not a || false)) ≡ false → (m && a) ≡ false
note_missing true true h = cc
note_missing true false h = refl
note_missing false a h = refl

pub two_missing : (m a d : Bool) → (m && not (not d || not a)) ≡ false → (m && a && d) ≡ false
two_missing true true true h = cc
two_missing true true false h = refl
two_missing true false true h = refl
two_missing true false false h = refl
two_missing false a d h = refl

pub one_due : (d : Bool) → (false || not d) ≡ false → d ≡ true
one_due true h = refl
one_due false h = cc

pub two_due : (a d : Bool) → (not d || not a) ≡ false → (a ≡ true) × (d ≡ true)
two_due true true h = (refl, refl)
two_due true false h = cc
two_due false true h = cc
two_due false false h = cc

-- AN ANSWER

pub record Shape (p : Past) (call : Call) (kind : RecordKind) (tag seq : ℕ) (whole : Bool) (sent : Option MuxFrame) : Type 0 where
  pub written : written (record_of p 0 kind tag (Some (name_in p.session seq)) ∷ records p.steps) ≡ record_of p 0 kind tag (Some (name_in p.session seq)) ∷ written (records p.steps)
  pub epoch : epoch_of (record_of p 0 kind tag (Some (name_in p.session seq)) ∷ records p.steps) ≡ epoch_of (records p.steps)
  pub dispatches : dispatches_of (record_of p 0 kind tag (Some (name_in p.session seq)) ∷ records p.steps) ≡ dispatches_of (records p.steps)
  pub ended : has_ended (record_of p 0 kind tag (Some (name_in p.session seq)) ∷ records p.steps) ≡ has_ended (records p.steps)
  pub fresh : is_fresh (record_of p 0 kind tag (Some (name_in p.session seq)) ∷ records p.steps) ≡ is_fresh (records p.steps)
  pub drain : drain_of (record_of p 0 kind tag (Some (name_in p.session seq)) ∷ records p.steps) ≡ drain_of (records p.steps)
  pub took : names_of is_took (record_of p 0 kind tag (Some (name_in p.session seq)) ∷ records p.steps) ≡ names_of is_took (records p.steps)
  pub mine : words_of p.session (onto call (entry_of (records p.steps) 0 kind tag (Some (name_in p.session seq)) None sent) p.steps) (name_in p.session seq)
      ≡ (let w = words_of p.session p.steps (name_in p.session seq) in record w { answer = false; note = if whole then false else w.note })
  pub others : (m : Name) → same_name (name_in p.session seq) m ≡ false
      → words_of p.session (onto call (entry_of (records p.steps) 0 kind tag (Some (name_in p.session seq)) None sent) p.steps) m ≡ words_of p.session p.steps m

unplaced : (e : NoteState) → is_due_note e ≡ true → (is_noted_in e ≡ false) × (pair_of (place_in e) ≡ None)
unplaced notes.Due h = (refl, refl)
unplaced (notes.Noted p) h = cc
unplaced notes.Unplaced h = cc

left_words : (whole : Bool) (x : Entry) → (whole ≡ true → is_note_due x ≡ true)
    → words_in (applied (answer_change whole) x) ≡ (let w = words_in x in record w { answer = false; note = if whole then false else w.note })
left_words false x due = refl
left_words true x due =
    let u = unplaced x.note (due refl) in
    λ i. record (words_in x) { answer = false; note = false; noted = sym u.0 i; place = sym u.1 i }

module _ (s : State) (p : Past) (call : Call) (kind : RecordKind) (seq : ℕ) (x : Entry) (whole : Bool) (b : Belongs s p) (at : entry_at seq s.book ≡ Some x)
    (answer_is : is_answer_due x ≡ true) (note_is : whole ≡ true → is_note_due x ≡ true) where
  closed_then : (z : Bool) → is_open (applied (answer_change z) x) ≡ false
  closed_then true = refl
  closed_then false = refl

  clean_then : (z : Bool) → (is_open (applied (answer_change z) x) || is_note_due (applied (answer_change z) x)) ≡ true → (applied (answer_change z) x).recalled ≡ false
  clean_then true h = absurd (let clash : false ≡ true = h in cc)
  clean_then false h = (b.entries seq x at).clean (right (is_open x) (is_note_due x) h)
    where
      right : (y z : Bool) → z ≡ true → (y || z) ≡ true
      right true z h = refl
      right false z h = h

  about_answer : (sent : Option MuxFrame) → Shape p call kind x.tag seq whole sent
      → (has_ended (records p.steps) ≡ false → (t : ℕ) (o : Option ℕ) → IsHeldBy p.session (holder (Client p.session.number) t (entries_of p.steps)) o
      → IsHeldBy p.session (holder (Client p.session.number) t (entry_of (records p.steps) 0 kind x.tag (Some (name_in p.session seq)) None sent ∷ entries_of p.steps)) (if is_open x && not (is_open (applied (answer_change whole) x)) then (cond (nat_eq x.tag t) None o) else o))
      → About p call (entry_of (records p.steps) 0 kind x.tag (Some (name_in p.session seq)) None sent) (record_of p 0 kind x.tag (Some (name_in p.session seq))) seq x (applied (answer_change whole) x)
  about_answer sent h held = record {
    written = h.written;
    epoch = h.epoch;
    dispatches = h.dispatches;
    ended = h.ended;
    fresh = h.fresh;
    drain = h.drain;
    took = h.took;
    due = due_held x answer_is;
    mine = left_words whole x note_is ∙ ap (λ (w : Words). record w { answer = false; note = if whole then false else w.note }) (b.entries seq x at).words ∙ sym h.mine;
    others = h.others;
    unsaid = λ o. absurd (let clash : true ≡ false = sym o ∙ closed_then whole in cc);
    clean = clean_then whole;
    held = held;
  }

  pub belongs_sent : (reply : MuxFrame) → is_open x ≡ true → is_final (kind_of reply.kind) ≡ true → reply.tag ≡ x.tag → Shape p call kind x.tag seq whole (Some reply)
      → Belongs (answered_in s (name_in p.session seq) x.tag kind whole reply true) (add p call (entry_of (records p.steps) 0 kind x.tag (Some (name_in p.session seq)) None (Some reply)))
  belongs_sent reply was final same h =
      about s p 0 call kind x.tag None (Some reply) seq (applied (answer_change whole)) x b (closing (answer_change whole)) at
      (about_answer (Some reply) h (λ going t o i.
      subst (λ z. IsHeldBy p.session (if is_final (kind_of reply.kind) && reply.tag == t then None else holder (Client p.session.number) t (entries_of p.steps)) (if z then (cond (nat_eq x.tag t) None o) else o))
      (sym (ap (λ z. z && not (is_open (applied (answer_change whole) x))) was ∙ ap not (closed_then whole)))
      (subst (λ k. IsHeldBy p.session (if is_final (kind_of reply.kind) && reply.tag == t then None else holder (Client p.session.number) t (entries_of p.steps)) (cond (nat_eq k t) None o)) same
      (freed p.session (is_final (kind_of reply.kind)) reply.tag t _ o final i))))

  pub belongs_late : is_open x ≡ false → Shape p call kind x.tag seq whole None
      → Belongs (noted (record s { book = changed seq (applied (answer_change whole)) s.book }) 0 kind x.tag (Some (name_in p.session seq)) None) (add p call (entry_of (records p.steps) 0 kind x.tag (Some (name_in p.session seq)) None None))
  belongs_late shut h =
      about s p 0 call kind x.tag None None seq (applied (answer_change whole)) x b (closing (answer_change whole)) at
      (about_answer None h (λ going t o i.
      subst (λ z. IsHeldBy p.session (holder (Client p.session.number) t (entries_of p.steps)) (if z then (cond (nat_eq x.tag t) None o) else o))
      (sym (ap (λ z. z && not (is_open (applied (answer_change whole) x))) shut)) i))

-- the call is answered so
pub answer_step : (s : State) (p : Past) (call : Call) (kind : RecordKind) (seq : ℕ) (x : Entry) (whole : Bool) (reply : ℕ → MuxFrame) (sent : RecordKind → Bool) (told : Answer) (new : State)
    → Belongs s p → entry_at seq s.book ≡ Some x → is_answer_due x ≡ true → (whole ≡ true → is_note_due x ≡ true)
    → down p.session p.steps (length p.out) call ≡ answer p.session p.steps (name_in p.session seq) kind whole reply
    → is_final (kind_of (reply x.tag).kind) ≡ true → (reply x.tag).tag ≡ x.tag → sent kind ≡ true
    → Shape p call kind x.tag seq whole (Some (reply x.tag)) → Shape p call (kinds.Late whole) x.tag seq whole None
    → told ≡ (if is_open x then whether.Answered else whether.Late) → new ≡ answered_in s (name_in p.session seq) x.tag kind whole (reply x.tag) (is_open x)
    → (q : Past) × Records p call (is_answer told sent whole) [] q × Belongs new q
answer_step s p call kind seq x whole reply sent told new b at due note_is outcome final same ok shape late told_is new_is = by (is_open x) refl
  where
    late_ok : (w : Bool) → is_late w (kinds.Late w) ≡ true
    late_ok true = refl
    late_ok false = refl

    by : (z : Bool) → is_open x ≡ z → (q : Past) × Records p call (is_answer told sent whole) [] q × Belongs new q
    by true was =
        let e = entry_of (records p.steps) 0 kind x.tag (Some (name_in p.session seq)) None (Some (reply x.tag)) in
        let a : told ≡ whether.Answered = told_is ∙ ap (λ z. if z then whether.Answered else whether.Late) was in
        let o : down p.session p.steps (length p.out) call ≡ Recorded e [] =
        outcome ∙ ap (λ z. if z then Recorded (entry_of (records p.steps) 0 kind (tag_of (name_in p.session seq) (records p.steps)) (Some (name_in p.session seq)) None (Some (reply (tag_of (name_in p.session seq) (records p.steps))))) [] else Recorded (entry_of (records p.steps) 0 (kinds.Late whole) (tag_of (name_in p.session seq) (records p.steps)) (Some (name_in p.session seq)) None None) []) (open_same s p seq x b at ∙ was)
        ∙ ap (λ t. Recorded (entry_of (records p.steps) 0 kind t (Some (name_in p.session seq)) None (Some (reply t))) []) (sym (tag_is s p seq x b at)) in (
          add p call e,
          (e, _, refl, ap (λ (y : Answer). is_answer y sent whole kind) a ∙ ok, (o, refl)),
          subst (λ (t : State). Belongs t (add p call e)) (sym (new_is ∙ ap (answered_in s (name_in p.session seq) x.tag kind whole (reply x.tag)) was))
              (belongs_sent s p call kind seq x whole b at due note_is (reply x.tag) was final same shape),
        )
    by false shut =
        let e = entry_of (records p.steps) 0 (kinds.Late whole) x.tag (Some (name_in p.session seq)) None None in
        let a : told ≡ whether.Late = told_is ∙ ap (λ z. if z then whether.Answered else whether.Late) shut in
        let o : down p.session p.steps (length p.out) call ≡ Recorded e [] =
        outcome ∙ ap (λ z. if z then Recorded (entry_of (records p.steps) 0 kind (tag_of (name_in p.session seq) (records p.steps)) (Some (name_in p.session seq)) None (Some (reply (tag_of (name_in p.session seq) (records p.steps))))) [] else Recorded (entry_of (records p.steps) 0 (kinds.Late whole) (tag_of (name_in p.session seq) (records p.steps)) (Some (name_in p.session seq)) None None) []) (open_same s p seq x b at ∙ shut)
        ∙ ap (λ t. Recorded (entry_of (records p.steps) 0 (kinds.Late whole) t (Some (name_in p.session seq)) None None) []) (sym (tag_is s p seq x b at)) in (
          add p call e,
          (e, _, refl, ap (λ (y : Answer). is_answer y sent whole (kinds.Late whole)) a ∙ late_ok whole, (o, refl)),
          subst (λ (t : State). Belongs t (add p call e)) (sym (new_is ∙ ap (answered_in s (name_in p.session seq) x.tag kind whole (reply x.tag)) shut))
              (belongs_late s p call (kinds.Late whole) seq x whole b at due note_is shut late),
        )

split : (whole d a : Bool) → ((whole && not d) || not a) ≡ false → (a ≡ true) × (whole ≡ true → d ≡ true)
split true true true h = (refl, λ w. refl)
split true true false h = cc
split true false a h = cc
split false d true h = (refl, λ w. absurd (let clash : false ≡ true = w in cc))
split false d false h = cc

-- the call of a dispatch that was found is answered so
pub answer_goal : (s : State) (p : Past) (n m : Name) (tag : ℕ) (call : Name → Call) (kind : RecordKind) (whole : Bool) (reply : ℕ → MuxFrame) (frame : MuxFrame) (sent : RecordKind → Bool) (told : Answer) (new : State)
    → Belongs s p → m ≡ n → due_in s m whole true ≡ Some tag
    → ((k : Name) (x : Entry) → k ≡ name_in p.session m.seq → entry_at m.seq s.book ≡ Some x → is_mine p.session k ≡ true → answer_due k (records p.steps) ≡ true → (whole ≡ true → note_due k (records p.steps) ≡ true)
    → down p.session p.steps (length p.out) (call k) ≡ answer p.session p.steps k kind whole reply)
    → ((t : ℕ) → is_final (kind_of (reply t).kind) ≡ true) → ((t : ℕ) → (reply t).tag ≡ t) → sent kind ≡ true
    → ((t seq : ℕ) → Shape p (call (name_in p.session seq)) kind t seq whole (Some (reply t)))
    → ((t seq : ℕ) → Shape p (call (name_in p.session seq)) (kinds.Late whole) t seq whole None)
    → ((e : Entry) → entry_at m.seq s.book ≡ Some e → told ≡ (if is_open e then whether.Answered else whether.Late))
    → ((e : Entry) → entry_at m.seq s.book ≡ Some e → new ≡ answered_in s m tag kind whole frame (is_open e)) → frame ≡ reply tag
    → (q : Past) × Records p (call n) (is_answer told sent whole) [] q × Belongs new q
answer_goal s p n m tag call kind whole reply frame sent told new b name is outcome final same ok shape late told_is new_is frame_is =
    let f = found s p m whole true tag b is in
    let w = (b.entries m.seq f.entry f.at).words in
    let parts = split whole (is_note_due f.entry) (is_answer_due f.entry) f.due in
    let one = answer_step s p (call (name_in p.session m.seq)) kind m.seq f.entry whole reply sent told new b f.at parts.0 parts.1
    (outcome (name_in p.session m.seq) f.entry refl f.at (ap (is_mine p.session) (sym f.named) ∙ f.mine) (sym (ap (λ (v : Words). v.answer) w) ∙ parts.0) (λ h. sym (ap (λ (v : Words). v.note) w) ∙ parts.1 h))
    (final f.entry.tag) (same f.entry.tag) ok (shape f.entry.tag m.seq) (late f.entry.tag m.seq) (told_is f.entry f.at)
    (new_is f.entry f.at ∙ (λ i. answered_in s (f.named i) (sym f.tag_is i) kind whole ((frame_is ∙ ap reply (sym f.tag_is)) i) (is_open f.entry))) in
    subst (λ (k : Name). (q : Past) × Records p (call k) (is_answer told sent whole) [] q × Belongs new q) (sym f.named ∙ name) one

-- an answer that goes out while the dispatch is open
pub goes_out : (es : List (ℕ × Entry)) (seq : ℕ) {sent : Bool} {told : Answer} → ForEntry es seq (λ e. sent ≡ is_open e)
    → told ≡ (if sent then whether.Answered else whether.Late)
    → ForEntry es seq (λ e. told ≡ (if is_open e then whether.Answered else whether.Late))
goes_out es seq sent_is told_is = λ e at. told_is ∙ ap (λ z. if z then whether.Answered else whether.Late) (sent_is e at)

-- what goes out or comes late gives nothing
pub gives_nothing : (s : State) (p : Past) (m : Name) (tag : ℕ) (told : Answer) → Belongs s p → due_in s m false true ≡ Some tag
    → ((e : Entry) → entry_at m.seq s.book ≡ Some e → told ≡ (if is_open e then whether.Answered else whether.Late)) → given_again told ≡ []
gives_nothing s p m tag told b is told_is =
    let f = found s p m false true tag b is in
    ap given_again (told_is f.entry f.at) ∙ by (is_open f.entry)
  where
    by : (z : Bool) → given_again (if z then whether.Answered else whether.Late) ≡ []
    by true = refl
    by false = refl
