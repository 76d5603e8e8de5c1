-- One dispatch of a list, and its entry.
use Rattle.std.proofs.Common.{◌≡◌, ℕ, Bool, true, false, cond, nat_eq, [], ◌∷◌, Option, None, Some, refl, sym, ◌∙◌, ap}
use Rattle.std.specs.Prelude.{◌==◌, ◌&&◌, ◌||◌, if◌then◌else◌}
use Rattle.std.proofs.lemmas.Bool.{eqb-true, eq-eqb, ne_eqb}
use Rattle.mux_history.specs.declared.name.Name.{Name}
use Rattle.mux_history.specs.declared.session.SessionId.TheVariants.{Client}
use Rattle.mux_history.specs.Readings.{has_ended, same_name, is_named, tag_of}
use Rattle.mux_model.specs.Steps.{records, entries as entries_of}
use Rattle.mux_model.specs.Tags.{Holder, holder, name_held}
use Rattle.mux_model.specs.Down.{DownSession, is_held as is_held_by}
use Rattle.translate_book.specs.declared.entry.Entry.{Entry}
use Rattle.translate_book.specs.Entries.{is_open, is_held, is_note_due, is_answer_due, applied}
use Rattle.translate_book.specs.Book.{entry_at, open_at, IsOnce}
use Rattle.translate_book.proofs.Changed.{own, further}
use Rattle.server_session.specs.Past.{Past, Words}
use Rattle.server_session.specs.State.{State, answer_change}
use Rattle.server_session.specs.Belonging.{Belongs, name_in, IsHeldBy}
use Rattle.server_session.proofs.Books.{Entries}
use Rattle.server_session.proofs.Naming.{named_same, apart, opened}

-- IS IT OPEN

pub own_tag : (seq : ℕ) (es : Entries) (x : Entry) → IsOnce es → entry_at seq es ≡ Some x → is_open x ≡ true → open_at x.tag es ≡ Some seq
own_tag seq [] x once is was = cc
own_tag seq (p ∷ ps) x once is was = by (nat_eq seq p.0) refl (own_tag seq ps x once.1)
  where
    front : (a b : Bool) → is_open p.1 ≡ a → (p.1.tag == x.tag) ≡ b → open_at x.tag ps ≡ Some seq → (if a && b then Some p.0 else open_at x.tag ps) ≡ Some seq
    front true true o t rest =
        let none : open_at x.tag ps ≡ None = ap (λ n. open_at n ps) (sym (eqb-true p.1.tag x.tag t)) ∙ once.0 o in
        let clash : None ≡ Some seq = sym none ∙ rest in cc
    front true false o t rest = rest
    front false b o t rest = rest

    by : (b : Bool) → nat_eq seq p.0 ≡ b → (entry_at seq ps ≡ Some x → is_open x ≡ true → open_at x.tag ps ≡ Some seq) → open_at x.tag (p ∷ ps) ≡ Some seq
    by true at more =
        let mine : p.1 ≡ x = own seq (λ x. x) p ps x at is in
        let number = eqb-true seq p.0 at in
        ap (λ (y : Entry). if is_open y && y.tag == x.tag then Some p.0 else open_at x.tag ps) mine
        ∙ ap (λ z. if z && x.tag == x.tag then Some p.0 else open_at x.tag ps) was
        ∙ ap (λ z. if z then Some p.0 else open_at x.tag ps) (eq-eqb x.tag x.tag refl)
        ∙ ap Some (sym number)
    by false at more = front (is_open p.1) (p.1.tag == x.tag) refl refl (more (further seq (λ x. x) p ps x at is) was)

module _ (s : State) (p : Past) (seq : ℕ) (x : Entry) (b : Belongs s p) (at : entry_at seq s.book ≡ Some x) where
  n : Name
  n = name_in p.session seq

  pub tag_is : x.tag ≡ tag_of (name_in p.session seq) (records p.steps)
  tag_is = ap (λ (w : Words). w.tag) (b.entries seq x at).words

  holds : (h : Option Holder) (o : Option ℕ) → IsHeldBy p.session h o → open_at x.tag s.book ≡ o → is_named (name_in p.session seq) (name_held h) ≡ is_open x
  holds None None i is = by (is_open x) refl
    where
      by : (z : Bool) → is_open x ≡ z → false ≡ z
      by true o = let clash : None ≡ Some seq = sym is ∙ own_tag seq s.book x b.once at o in cc
      by false o = refl
  holds None (Some k) i is = absurd i
  holds (Some h) None i is = absurd i
  holds (Some h) (Some k) i is = ap (is_named (name_in p.session seq)) i ∙ by (is_open x) refl
    where
      other : (e : Entry) → entry_at k s.book ≡ Some e → is_open e ≡ true → is_open x ≡ false → nat_eq k seq ≡ false
      other e there o shut = ne_eqb k seq (λ same.
          let two : Some e ≡ Some x = sym there ∙ ap (λ j. entry_at j s.book) same ∙ at in
          let one : e ≡ x = cc in
          let clash : true ≡ false = sym o ∙ ap is_open one ∙ shut in cc)

      by : (z : Bool) → is_open x ≡ z → same_name (name_in p.session k) (name_in p.session seq) ≡ z
      by true o =
          let two : Some k ≡ Some seq = sym is ∙ own_tag seq s.book x b.once at o in
          let one : k ≡ seq = cc in
          ap (λ j. same_name (name_in p.session j) (name_in p.session seq)) one ∙ named_same (name_in p.session seq)
      by false o =
          let e = opened x.tag 0 s.book s.dispatches k b.rises is in
          apart p.session k seq (ne_eqb seq k (λ same. let clash : true ≡ false = sym (eq-eqb k seq (sym same)) ∙ other e.0 e.1 e.2 o in cc))

  pub open_same : is_held_by p.session (name_in p.session seq) p.steps ≡ is_open x
  open_same = by (has_ended (records p.steps)) refl
    where
      shut : (z : Bool) → is_open x ≡ z → has_ended (records p.steps) ≡ true → false ≡ z
      shut true o end = let clash : None ≡ Some seq = sym (b.shut end x.tag) ∙ own_tag seq s.book x b.once at o in cc
      shut false o end = refl

      by : (z : Bool) → has_ended (records p.steps) ≡ z
          → (if z then false else is_named (name_in p.session seq) (name_held (holder (Client p.session.number) (tag_of (name_in p.session seq) (records p.steps)) (entries_of p.steps)))) ≡ is_open x
      by true end = shut (is_open x) refl end
      by false end =
          ap (λ t. is_named (name_in p.session seq) (name_held (holder (Client p.session.number) t (entries_of p.steps)))) (sym tag_is)
          ∙ holds (holder (Client p.session.number) x.tag (entries_of p.steps)) (open_at x.tag s.book) (b.held end x.tag) refl

-- A DISPATCH IS ANSWERED

-- a final reply on its tag frees the tag
pub freed : (c : DownSession) (final : Bool) (tag t : ℕ) (h : Option Holder) (o : Option ℕ) → final ≡ true → IsHeldBy c h o
    → IsHeldBy c (if final && tag == t then None else h) (cond (nat_eq tag t) None o)
freed c true tag t h o is held = by (nat_eq tag t)
  where
    by : (z : Bool) → IsHeldBy c (if z then None else h) (cond z None o)
    by true = tt
    by false = held
freed c false tag t h o is held = cc

or_right : (a b : Bool) → b ≡ true → (a || b) ≡ true
or_right true b h = refl
or_right false b h = h

-- what a step leaves of a dispatch whose answer has come, or that was placed nowhere
abbrev pub left_by : (whole : Bool) → Entry → Entry
left_by whole e = applied (answer_change whole) e

pub due_held : (x : Entry) → is_answer_due x ≡ true → is_held x ≡ true
due_held x due = or_right (is_note_due x) (is_answer_due x) due
