-- A dispatch that may be sent again.
use Rattle.std.proofs.Common.{◌≡◌, ℕ, ◌+◌, ◌-◌, Bool, true, false, cond, nat_eq, [], ◌∷◌, length, Option, None, Some, refl, sym, ◌∙◌, ap, subst, arith}
use Rattle.std.specs.Prelude.{◌&&◌, ◌||◌, if◌then◌else◌, not, nat_lt}
use Rattle.mux_frame.specs.Spelling.{MuxFrame}
use Rattle.mux_history.specs.declared.name.Name.{Name}
use Rattle.mux_history.specs.declared.kind.RecordKind.TheVariants as kinds
use Rattle.mux_history.specs.declared.session.SessionId.TheVariants.{Client}
use Rattle.mux_history.specs.Readings.{note_due, answer_due, tag_of, times_retried}
use Rattle.mux_model.specs.Steps.{SettleCall, Recorded, TicketOf, Refused, NotMine, records, entries as entries_of, entry_of, is_nack}
use Rattle.mux_model.specs.Tags.{holder}
use Rattle.mux_model.specs.Down.{down, is_held as is_held_by, left_of, settle, is_mine, pass}
use Rattle.translate_book.specs.declared.entry.Entry.{Entry}
use Rattle.translate_book.specs.declared.entry.Change.TheVariants as changes
use Rattle.translate_book.specs.Entries.{is_open, is_note_due, is_answer_due, trying_again}
use Rattle.translate_book.specs.Book.{entry_at}
use Rattle.translate_book.proofs.Closing.{closing}
use Rattle.mux_message.specs.Content.{Content, MessageView}
use Rattle.translate_book.specs.Values.{TicketView}
use Rattle.server_session.specs.declared.answers.Answer.{Answer}
use Rattle.server_session.specs.declared.answers.Answer.TheVariants as whether
use Rattle.server_session.specs.Steps.{Records, is_answer, is_passed, given_again, frame_in}
use Rattle.server_session.proofs.Answering.{found, one_due}
use Rattle.server_session.specs.Past.{Past, Words, words_of, add}
use Rattle.server_session.specs.State.{State, retried_in, may_retry, due_in}
use Rattle.server_session.specs.Belonging.{Belongs, name_in, IsHeldBy}
use Rattle.server_session.proofs.Naming.{named_same}
use Rattle.server_session.proofs.Keeping.{about, onto}
use Rattle.server_session.proofs.Dispatches.{open_same, tag_is, due_held}

pub retry_test : (s : State) (p : Past) (seq : ℕ) (x : Entry) (reply : MuxFrame) → Belongs s p → entry_at seq s.book ≡ Some x
    → (is_nack reply && is_held_by p.session (name_in p.session seq) p.steps && not (note_due (name_in p.session seq) (records p.steps)) && nat_lt 0 (left_of p.session.limits (name_in p.session seq) (records p.steps)))
    ≡ may_retry (Some x) reply
retry_test s p seq x reply b at =
    let w = (b.entries seq x at).words in
    λ i. is_nack reply && open_same s p seq x b at i && not (sym (ap (λ (v : Words). v.note) w) i) && nat_lt 0 (sym (ap (λ (v : Words). v.left) w) i)

less_one : (a t : ℕ) → a - (t + 1) ≡ (a - t) - 1
less_one a t = omega arith

still : (z : Bool) → (z && not z) ≡ false
still true = refl
still false = refl

left_side : (y z : Bool) → y ≡ true → (y || z) ≡ true
left_side true z h = refl
left_side false z h = cc

pub kept_retried : (s : State) (p : Past) (seq : ℕ) (x : Entry) (reply : MuxFrame) (again : Option MuxFrame) → Belongs s p → entry_at seq s.book ≡ Some x → is_open x ≡ true → is_answer_due x ≡ true
    → Belongs (retried_in s (name_in p.session seq) x.tag) (add p (SettleCall (name_in p.session seq) reply again) (entry_of (records p.steps) 0 kinds.Retried x.tag (Some (name_in p.session seq)) None None))
kept_retried s p seq x reply again b at was due =
    let m = b.entries seq x at in
    let n = name_in p.session seq in
    let call = SettleCall (name_in p.session seq) reply again in
    let e = entry_of (records p.steps) 0 kinds.Retried x.tag (Some (name_in p.session seq)) None None in
    let new : words_of p.session (onto call e p.steps) n ≡ (let w = words_of p.session p.steps n in record w { note = true; noted = false; place = None; left = p.session.limits.retries - (times_retried n (records p.steps) + 1) }) = rw (named_same n) refl in
    about s p 0 call kinds.Retried x.tag None None seq trying_again x b (closing changes.Again) at (record {
      written = refl;
      epoch = refl;
      dispatches = refl;
      ended = refl;
      fresh = refl;
      drain = refl;
      took = refl;
      due = due_held x due;
      mine =
          ap (λ (w : Words). record w { note = true; noted = false; place = None; left = w.left - 1 }) m.words
          ∙ ap (λ k. record (words_of p.session p.steps n) { note = true; noted = false; place = None; left = k }) (sym (less_one p.session.limits.retries (times_retried n (records p.steps))))
          ∙ sym new;
      others = λ k other. rw other refl;
      unsaid = m.unsaid;
      clean = λ h. m.clean (left_side (is_open x) (is_note_due x) was);
      held = λ going t o i. subst (λ z. IsHeldBy p.session (holder (Client p.session.number) t (entries_of p.steps)) (if z then (cond (nat_eq x.tag t) None o) else o)) (sym (still (is_open x))) i;
    })

parts4 : (a b c d : Bool) → (a && b && c && d) ≡ true → b ≡ true
parts4 true true c d h = refl
parts4 true false c d h = cc
parts4 false b c d h = cc

pub settle_none : (p : Past) (k : Name) (reply : MuxFrame) (again : Option MuxFrame) → is_mine p.session k ≡ true → answer_due k (records p.steps) ≡ true → again ≡ None
    → down p.session p.steps (length p.out) (SettleCall k reply again) ≡ pass p.session p.steps k reply
settle_none p k reply again mine due none =
    subst (λ (a : Option MuxFrame). down p.session p.steps (length p.out) (SettleCall k reply a) ≡ pass p.session p.steps k reply) (sym none) (rw (mine, due) refl)

abbrev pub retry_word : Past → Name → MuxFrame → Bool
retry_word p k reply = is_nack reply && is_held_by p.session k p.steps && not (note_due k (records p.steps)) && nat_lt 0 (left_of p.session.limits k (records p.steps))

pub settle_some : (p : Past) (k : Name) (reply f : MuxFrame) (again : Option MuxFrame) (z : Bool) → is_mine p.session k ≡ true → answer_due k (records p.steps) ≡ true → again ≡ Some f → retry_word p k reply ≡ z
    → down p.session p.steps (length p.out) (SettleCall k reply again)
    ≡ (if z then Recorded (entry_of (records p.steps) 0 kinds.Retried (tag_of k (records p.steps)) (Some k) None None) (TicketOf k f (left_of p.session.limits k (records p.steps) - 1) ∷ []) else pass p.session p.steps k reply)
settle_some p k reply f again z mine due some test =
    subst (λ (a : Option MuxFrame). down p.session p.steps (length p.out) (SettleCall k reply a) ≡ (if z then Recorded (entry_of (records p.steps) 0 kinds.Retried (tag_of k (records p.steps)) (Some k) None None) (TicketOf k f (left_of p.session.limits k (records p.steps) - 1) ∷ []) else pass p.session p.steps k reply)) (sym some)
    (ap (λ y. if y then settle p.session p.steps k reply (Some f) else Refused NotMine) (ap (λ y. y && answer_due k (records p.steps)) mine ∙ due)
    ∙ ap (λ y. if y then Recorded (entry_of (records p.steps) 0 kinds.Retried (tag_of k (records p.steps)) (Some k) None None) (TicketOf k f (left_of p.session.limits k (records p.steps) - 1) ∷ []) else pass p.session p.steps k reply) test)

-- a reply is passed on where no dispatch is kept, and where it may not be sent again
pub settle_passed : (p : Past) (k : Name) (reply : MuxFrame) (kept : Option MessageView) (z : Bool) → is_mine p.session k ≡ true
    → answer_due k (records p.steps) ≡ true → (if z then kept else None) ≡ None → retry_word p k reply ≡ z
    → down p.session p.steps (length p.out) (SettleCall k reply (frame_in kept)) ≡ pass p.session p.steps k reply
settle_passed p k reply None z mine due none test = settle_none p k reply None mine due refl
settle_passed p k reply (Some m) false mine due none test = settle_some p k reply m.frame (Some m.frame) false mine due refl test
settle_passed p k reply (Some m) true mine due none test = cc

-- the dispatch that is to be sent again was kept, and may be sent
pub to_be_retried : (z : Bool) (kept : Option MessageView) (d : MessageView) → (if z then kept else None) ≡ Some d → (z ≡ true) × (kept ≡ Some d)
to_be_retried true kept d is = (refl, is)
to_be_retried false kept d is = cc

pub retry_step : (s : State) (p : Past) (n m : Name) (tag : ℕ) (reply f : MuxFrame) (content : Content) (again : Option MuxFrame) (told : Answer) (new : State) → Belongs s p → m ≡ n → due_in s m false true ≡ Some tag
    → again ≡ Some f → may_retry (entry_at m.seq s.book) reply ≡ true
    → ((e : Entry) → entry_at m.seq s.book ≡ Some e → told ≡ whether.Again (record { name = m; frame = f; content = content; left = e.left - 1 }))
    → new ≡ retried_in s m tag
    → (q : Past) × Records p (SettleCall n reply again) (is_answer told is_passed false) (given_again told) q × Belongs new q
retry_step s p n m tag reply f content again told new b name is some test told_is new_is =
    let g = found s p m false true tag b is in
    let x = g.entry in
    let k = name_in p.session m.seq in
    let w = (b.entries m.seq x g.at).words in
    let due = one_due (is_answer_due x) g.due in
    let mine : is_mine p.session k ≡ true = ap (is_mine p.session) (sym g.named) ∙ g.mine in
    let ans : answer_due k (records p.steps) ≡ true = sym (ap (λ (v : Words). v.answer) w) ∙ due in
    let tried : may_retry (Some x) reply ≡ true = ap (λ (o : Option Entry). may_retry o reply) (sym g.at) ∙ test in
    let was = parts4 (is_nack reply) (is_open x) (not (is_note_due x)) (nat_lt 0 x.left) tried in
    let word : retry_word p k reply ≡ true = retry_test s p m.seq x reply b g.at ∙ tried in
    let e = entry_of (records p.steps) 0 kinds.Retried x.tag (Some k) None None in
    let t : TicketView = record { name = k; frame = f; content = content; left = x.left - 1 } in
    let told_k : told ≡ whether.Again t = told_is x g.at ∙ ap (λ (j : Name). whether.Again (record { name = j; frame = f; content = content; left = x.left - 1 })) g.named in
    let out : down p.session p.steps (length p.out) (SettleCall k reply again) ≡ Recorded e (given_again (whether.Again t)) =
    settle_some p k reply f again true mine ans some word
    ∙ (λ i. Recorded (entry_of (records p.steps) 0 kinds.Retried (sym (tag_is s p m.seq x b g.at) i) (Some k) None None) (TicketOf k f (sym (ap (λ (v : Words). v.left) w) i - 1) ∷ [])) in
    let one : (q : Past) × Records p (SettleCall k reply again) (is_answer (whether.Again t) is_passed false) (given_again (whether.Again t)) q × Belongs new q = (
      add p (SettleCall k reply again) e,
      (e, _, refl, refl, (out, refl)),
      subst (λ (st : State). Belongs st (add p (SettleCall k reply again) e)) (sym (new_is ∙ (λ i. retried_in s (g.named i) (sym g.tag_is i)))) (kept_retried s p m.seq x reply again b g.at was due),
    ) in
    subst (λ (a : Answer). (q : Past) × Records p (SettleCall n reply again) (is_answer a is_passed false) (given_again a) q × Belongs new q) (sym told_k)
    (subst (λ (j : Name). (q : Past) × Records p (SettleCall j reply again) (is_answer (whether.Again t) is_passed false) (given_again (whether.Again t)) q × Belongs new q) (sym g.named ∙ name) one)
