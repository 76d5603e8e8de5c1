-- The pairs by number are the pairs by place.
use Rattle.std.proofs.Common.{length, ℕ, List, [], ◌∷◌, ◌++◌, ◌≡◌, ◌<◌, ◌⊎◌, inl, inr, Bool, true, false, Option, Some, None, refl, sym, ◌∙◌, ap, arith, subst}
use Rattle.std.specs.Prelude.{if◌then◌else◌, ◌==◌}
use Rattle.std.proofs.lemmas.Bool.{eqb-true, eq-eqb, and_from, and_parts, cases_Bool}
use Rattle.mux_frame.specs.Spelling.{MuxFrame}
use Rattle.mux_message.specs.Kinds.{kind_of, is_final}
use Rattle.mux_history.specs.declared.session.SessionId.{SessionId}
use Rattle.mux_history.specs.declared.session.SessionId.TheVariants.{Client, Server}
use Rattle.mux_model.specs.Entries.{Exchange}
use Rattle.mux_model.specs.declared.pairing.Pair.{Pair}
use Rattle.mux_model.specs.Tags.{Holder, holder, asked, name_in, paired, pair_of, pair_in, pairs_of}
use Rattle.mux_model.specs.Places.{final_tag, to_client}
use Rattle.mux_model.specs.Lawful.{ToServer, ToClient, Said, with_said, passed, is_final_on, asks_on, ends_on, count, open_on, before, ArePaired, entry_at, RepliesOn, IsAmong, IsNumbered, NumbersTellPairs}
use Rattle.mux_legal.proofs.Numbers.{Matches, matches, longer, to_server, before_same, before_last}
use Rattle.std.proofs.lemmas.Option.{same_Some}

among-append : (p : Pair) (a b : List Pair) → IsAmong p (a ++ b) → IsAmong p a ⊎ IsAmong p b
among-append p [] b h = inr h
among-append p (q ∷ a) b (inl e) = inl (inl e)
among-append p (q ∷ a) b (inr h) = elim (among-append p a b h) [ inl x ↦ inl (inr x) | inr x ↦ inr x ]

among-left : (p : Pair) (a b : List Pair) → IsAmong p a → IsAmong p (a ++ b)
among-left p [] b h = absurd h
among-left p (q ∷ a) b (inl e) = inl e
among-left p (q ∷ a) b (inr h) = inr (among-left p a b h)

among-right : (p : Pair) (a b : List Pair) → IsAmong p b → IsAmong p (a ++ b)
among-right p [] b h = h
among-right p (q ∷ a) b h = inr (among-right p a b h)

-- who holds the tags when an entry's message to the client goes, and what has passed by then
abbrev held_by_then : SessionId → Exchange → List Exchange → ℕ → Option Holder
held_by_then (Client c) e old t = asked t (record { place = length old; name = name_in e.rec }) e.taken (holder (Client c) t old)
held_by_then (Server s) e old t = holder (Server s) t old

abbrev passed_by_then : SessionId → Exchange → List Exchange → List Said
passed_by_then (Client c) e old = with_said ToServer e.taken (passed (Client c) old)
passed_by_then (Server s) e old = passed (Server s) old

pair_then : (id : SessionId) (e : Exchange) (old : List Exchange) → pair_in id e old ≡ pair_of (held_by_then id e old) (length old) (to_client id e)
pair_then (Client c) e old = refl
pair_then (Server s) e old = refl

matches_then : (id : SessionId) (t : ℕ) (e : Exchange) (old : List Exchange) → Matches id t (e ∷ old) (held_by_then id e old t) (open_on t (passed_by_then id e old))
matches_then (Client c) t e old =
    to_server (Client c) t e old (record { place = length old; name = name_in e.rec }) e.taken (holder (Client c) t old) (passed (Client c) old) refl refl
    (longer (Client c) t e old (holder (Client c) t old) (open_on t (passed (Client c) old)) (matches (Client c) t old))
matches_then (Server s) t e old = longer (Server s) t e old (holder (Server s) t old) (open_on t (passed (Server s) old)) (matches (Server s) t old)

final_on : (t : ℕ) (f : MuxFrame) → is_final_on t f ≡ true → final_tag (Some f) ≡ Some t
final_on t f h = (let p = and_parts (is_final (kind_of f.kind)) (f.tag == t) h in ap (λ b. if b then Some f.tag else None) p.0 ∙ ap (λ (x : ℕ). some x) (eqb-true f.tag t p.1))
  where
    some : ℕ → Option ℕ
    some x = Some x

final_of : (t : ℕ) (m : Option MuxFrame) → final_tag m ≡ Some t → (f : MuxFrame) × (m ≡ Some f) × (is_final (kind_of f.kind) ≡ true) × (f.tag ≡ t)
final_of t None e = absurd (cc)
final_of t (Some f) e = (let p = by_test (is_final (kind_of f.kind)) e in (f, refl, p.0, p.1))
  where
    by_test : (b : Bool) → (if b then Some f.tag else None) ≡ Some t → (b ≡ true) × (f.tag ≡ t)
    by_test true h = (refl, cc)
    by_test false h = absurd (cc)

module _ (t i j : ℕ) where
  skip : (m : Option MuxFrame) (p : List Said) → ArePaired t i j (with_said ToServer m p) → ArePaired t i j p
  skip None p h = h
  skip (Some f) p (inl x) = absurd (let y : false ≡ true = x.0 in cc)
  skip (Some f) p (inr h) = h

  unskip : (m : Option MuxFrame) (p : List Said) → ArePaired t i j p → ArePaired t i j (with_said ToServer m p)
  unskip None p h = h
  unskip (Some f) p h = inr h

  skipped : (m : Option MuxFrame) (p : List Said) → count (ends_on t) (with_said ToServer m p) ≡ count (ends_on t) p
  skipped None p = refl
  skipped (Some f) p = refl

  abbrev New : Option MuxFrame → List Said → Type 0
  New m p = (final_tag m ≡ Some t) × (j ≡ count (ends_on t) p) × (open_on t p ≡ Some i)

  split : (m : Option MuxFrame) (p : List Said) → ArePaired t i j (with_said ToClient m p) → New m p ⊎ ArePaired t i j p
  split None p h = inr h
  split (Some f) p (inl x) = inl (final_on t f x.0, x.1, x.2)
  split (Some f) p (inr h) = inr h

  join_new : (m : Option MuxFrame) (p : List Said) → New m p → ArePaired t i j (with_said ToClient m p)
  join_new None p n = absurd (let x : None ≡ Some t = n.0 in cc)
  join_new (Some f) p n =
      (let g = final_of t (Some f) n.0 in let same : g.0 ≡ f = sym (cc) in
      inl (and_from (is_final (kind_of f.kind)) (f.tag == t) (subst (λ (x : MuxFrame). is_final (kind_of x.kind) ≡ true) same g.2) (eq-eqb f.tag t (subst (λ (x : MuxFrame). x.tag ≡ t) same g.3)), n.1, n.2))

  join_old : (m : Option MuxFrame) (p : List Said) → ArePaired t i j p → ArePaired t i j (with_said ToClient m p)
  join_old None p h = h
  join_old (Some f) p h = inr h

  -- one more entry pairs its final reply, if at all
  abbrev NewAt : SessionId → Exchange → List Exchange → Type 0
  NewAt id e old = (final_tag (to_client id e) ≡ Some t) × (j ≡ count (ends_on t) (passed id old)) × (open_on t (passed_by_then id e old) ≡ Some i)

  one_more : (id : SessionId) (e : Exchange) (old : List Exchange) → ArePaired t i j (passed id (e ∷ old)) → NewAt id e old ⊎ ArePaired t i j (passed id old)
  one_more (Client c) e old h = elim (split e.sent (with_said ToServer e.taken (passed (Client c) old)) h) [
    | inl n ↦ inl (n.0, n.1 ∙ skipped e.taken (passed (Client c) old), n.2)
    | inr o ↦ inr (skip e.taken (passed (Client c) old) o)
  ]
  one_more (Server s) e old h = split e.taken (passed (Server s) old) (skip e.sent (with_said ToClient e.taken (passed (Server s) old)) h)

  one_new : (id : SessionId) (e : Exchange) (old : List Exchange) → NewAt id e old → ArePaired t i j (passed id (e ∷ old))
  one_new (Client c) e old n = join_new e.sent (with_said ToServer e.taken (passed (Client c) old)) (n.0, n.1 ∙ sym (skipped e.taken (passed (Client c) old)), n.2)
  one_new (Server s) e old n = unskip e.sent (with_said ToClient e.taken (passed (Server s) old)) (join_new e.taken (passed (Server s) old) n)

  one_old : (id : SessionId) (e : Exchange) (old : List Exchange) → ArePaired t i j (passed id old) → ArePaired t i j (passed id (e ∷ old))
  one_old (Client c) e old h = join_old e.sent (with_said ToServer e.taken (passed (Client c) old)) (unskip e.taken (passed (Client c) old) h)
  one_old (Server s) e old h = unskip e.sent (with_said ToClient e.taken (passed (Server s) old)) (join_old e.taken (passed (Server s) old) h)

-- places of pairs
record Made (held : ℕ → Option Holder) (k : ℕ) (m : Option MuxFrame) (p : Pair) : Type 0 where
  reply : MuxFrame
  holds : Holder
  is_reply : m ≡ Some reply
  final : is_final (kind_of reply.kind) ≡ true
  on : held reply.tag ≡ Some holds
  is : p ≡ record { dispatch = holds.place; reply = k }

made : (held : ℕ → Option Holder) (k : ℕ) (m : Option MuxFrame) (p : Pair) → IsAmong p (pair_of held k m) → Made held k m p
made held k None p h = absurd h
made held k (Some f) p h = by_test (is_final (kind_of f.kind)) (held f.tag) refl refl h
  where
    by_test : (b : Bool) (o : Option Holder) → is_final (kind_of f.kind) ≡ b → held f.tag ≡ o → IsAmong p (if b then paired k o else []) → Made held k (Some f) p
    by_test false o e g h = absurd h
    by_test true None e g h = absurd h
    by_test true (Some x) e g (inl is) = record { reply = f; holds = x; is_reply = refl; final = e; on = g; is = is }
    by_test true (Some x) e g (inr n) = absurd n

unmade : (held : ℕ → Option Holder) (k : ℕ) (m : Option MuxFrame) (f : MuxFrame) (x : Holder) → m ≡ Some f → is_final (kind_of f.kind) ≡ true → held f.tag ≡ Some x → IsAmong (record { dispatch = x.place; reply = k }) (pair_of held k m)
unmade held k m f x is final on = subst (λ o. IsAmong (record { dispatch = x.place; reply = k }) (pair_of held k o)) (sym is) (by_test (is_final (kind_of f.kind)) (held f.tag) final on)
  where
    made_pair : Holder → Pair
    made_pair h = record { dispatch = h.place; reply = k }

    by_test : (b : Bool) (o : Option Holder) → b ≡ true → o ≡ Some x → IsAmong (record { dispatch = x.place; reply = k }) (if b then paired k o else [])
    by_test false o e g = absurd (cc)
    by_test true None e g = absurd (cc)
    by_test true (Some y) e g = inl (let same : y ≡ x = cc in ap (λ (h : Holder). made_pair h) (sym same))

place_less : (id : SessionId) (t : ℕ) (es : List Exchange) (o : Option Holder) (x : Option ℕ) (h : Holder) → o ≡ Some h → Matches id t es o x → (h.place < length es) × (x ≡ Some (count (asks_on t) (passed id (before h.place es))))
place_less id t es o x h e m = (let n : Matches id t es (Some h) x = subst (λ o. Matches id t es o x) e m in n)

-- both places of a pair are in the list
below : (id : SessionId) (es : List Exchange) (p : Pair) → IsAmong p (pairs_of id es) → (p.dispatch < length es) × (p.reply < length es)
below id [] p h = absurd h
below id (e ∷ old) p h = elim (among-append p (pairs_of id old) (pair_in id e old) h) [
  | inl x ↦ (let b = below id old p x in (omega (arith, b.0), omega (arith, b.1)))
  | inr x ↦ (
      let m = made (held_by_then id e old) (length old) (to_client id e) p (subst (IsAmong p) (pair_then id e old) x) in
      let q = place_less id m.reply.tag (e ∷ old) (held_by_then id e old m.reply.tag) (open_on m.reply.tag (passed_by_then id e old)) m.holds m.on (matches_then id m.reply.tag e old) in
      (omega (arith, q.0, ap (λ (x : Pair). x.dispatch) m.is), omega (arith, ap (λ (x : Pair). x.reply) m.is)))
]

entry_same : (e : Exchange) (old : List Exchange) (place : ℕ) → place < length old → entry_at place (e ∷ old) ≡ entry_at place old
entry_same e old place less = by_test (cases_Bool (length old == place))
  where
    by_test : ((length old == place) ≡ true) ⊎ ((length old == place) ≡ false) → entry_at place (e ∷ old) ≡ entry_at place old
    by_test (inl same) = absurd (omega (arith, less, eqb-true (length old) place same))
    by_test (inr other) = ap (λ b. if b then Some e else entry_at place old) other

entry_last : (e : Exchange) (old : List Exchange) → entry_at (length old) (e ∷ old) ≡ Some e
entry_last e old = ap (λ b. if b then Some e else entry_at (length old) old) (eq-eqb (length old) (length old) refl)

module _ (id : SessionId) (t i j : ℕ) (e : Exchange) (old : List Exchange) where
  -- an older pair keeps its numbers
  numbered_more : (p : Pair) → (p.dispatch < length old) × (p.reply < length old) → IsNumbered id t i j old p → IsNumbered id t i j (e ∷ old) p
  numbered_more p b n = (
    subst (RepliesOn id t) (sym (entry_same e old p.reply b.1)) n.0,
    n.1 ∙ ap (λ es. count (asks_on t) (passed id es)) (sym (before_same id t e old p.dispatch b.0)),
    n.2 ∙ ap (λ es. count (ends_on t) (passed id es)) (sym (before_same id t e old p.reply b.1)),
  )

  numbered_less : (p : Pair) → (p.dispatch < length old) × (p.reply < length old) → IsNumbered id t i j (e ∷ old) p → IsNumbered id t i j old p
  numbered_less p b n = (
    subst (RepliesOn id t) (entry_same e old p.reply b.1) n.0,
    n.1 ∙ ap (λ es. count (asks_on t) (passed id es)) (before_same id t e old p.dispatch b.0),
    n.2 ∙ ap (λ es. count (ends_on t) (passed id es)) (before_same id t e old p.reply b.1),
  )

  abbrev held : Option Holder
  held = held_by_then id e old t

  -- a pair by number that is new is the entry's by place
  new_pair : NewAt t i j id e old → (p : Pair) × IsAmong p (pair_in id e old) × IsNumbered id t i j (e ∷ old) p
  new_pair n = by_held held refl
    where
      f : (f : MuxFrame) × (to_client id e ≡ Some f) × (is_final (kind_of f.kind) ≡ true) × (f.tag ≡ t)
      f = final_of t (to_client id e) n.0

      by_held : (o : Option Holder) → held ≡ o → (p : Pair) × IsAmong p (pair_in id e old) × IsNumbered id t i j (e ∷ old) p
      by_held None g = absurd (let m : Matches id t (e ∷ old) None (open_on t (passed_by_then id e old)) = subst (λ o. Matches id t (e ∷ old) o (open_on t (passed_by_then id e old))) g (matches_then id t e old) in let x : None ≡ Some i = sym m ∙ n.2 in cc)
      by_held (Some h) g =
          (let q = place_less id t (e ∷ old) held (open_on t (passed_by_then id e old)) h g (matches_then id t e old) in (
            record { dispatch = h.place; reply = length old },
            subst (IsAmong (record { dispatch = h.place; reply = length old })) (sym (pair_then id e old))
                (unmade (held_by_then id e old) (length old) (to_client id e) f.0 h f.1 f.2 (ap (held_by_then id e old) f.3 ∙ g)),
            (subst (RepliesOn id t) (sym (entry_last e old)) n.0, same_Some i _ (sym n.2 ∙ q.1), n.1 ∙ ap (λ es. count (ends_on t) (passed id es)) (sym (before_last id t e old))),
          ))

  -- and the other way round
  new_number : (p : Pair) → IsAmong p (pair_in id e old) → IsNumbered id t i j (e ∷ old) p → NewAt t i j id e old
  new_number p x n =
      let m = made (held_by_then id e old) (length old) (to_client id e) p (subst (IsAmong p) (pair_then id e old) x) in
      let last : p.reply ≡ length old = ap (λ (y : Pair). y.reply) m.is in
      let at : p.dispatch ≡ m.holds.place = ap (λ (y : Pair). y.dispatch) m.is in
      let tag : final_tag (to_client id e) ≡ Some t = subst (RepliesOn id t) (ap (λ k. entry_at k (e ∷ old)) last ∙ entry_last e old) n.0 in
      let same : m.reply.tag ≡ t = same_tag (to_client id e) m.reply m.is_reply tag in
      let q = place_less id t (e ∷ old) held (open_on t (passed_by_then id e old)) m.holds (ap (held_by_then id e old) (sym same) ∙ m.on) (matches_then id t e old) in
      (tag, n.2 ∙ (ap (λ k. count (ends_on t) (passed id (before k (e ∷ old)))) last ∙ ap (λ es. count (ends_on t) (passed id es)) (before_last id t e old)), q.1 ∙ sym (ap (λ (x : ℕ). some x) (n.1 ∙ ap (λ k. count (asks_on t) (passed id (before k (e ∷ old)))) at)))
    where
      some : ℕ → Option ℕ
      some x = Some x

      same_tag : (m : Option MuxFrame) (f : MuxFrame) → m ≡ Some f → final_tag m ≡ Some t → f.tag ≡ t
      same_tag m f is tag = (let g = final_of t m tag in let same : g.0 ≡ f = (let x : Some g.0 ≡ Some f = sym g.1 ∙ is in cc) in subst (λ (y : MuxFrame). y.tag ≡ t) same g.3)

to_places : (id : SessionId) (t i j : ℕ) (es : List Exchange) → ArePaired t i j (passed id es) → (p : Pair) × IsAmong p (pairs_of id es) × IsNumbered id t i j es p
to_places (Client c) t i j [] h = absurd h
to_places (Server s) t i j [] h = absurd h
to_places id t i j (e ∷ old) h = elim (one_more t i j id e old h) [
  | inl n ↦ (let x = new_pair id t i j e old n in (x.0, among-right x.0 (pairs_of id old) (pair_in id e old) x.1, x.2))
  | inr o ↦ (let x = to_places id t i j old o in (x.0, among-left x.0 (pairs_of id old) (pair_in id e old) x.1, numbered_more id t i j e old x.0 (below id old x.0 x.1) x.2))
]

to_numbers : (id : SessionId) (t i j : ℕ) (es : List Exchange) (p : Pair) → IsAmong p (pairs_of id es) → IsNumbered id t i j es p → ArePaired t i j (passed id es)
to_numbers id t i j [] p a n = absurd a
to_numbers id t i j (e ∷ old) p a n = elim (among-append p (pairs_of id old) (pair_in id e old) a) [
  | inl x ↦ one_old t i j id e old (to_numbers id t i j old p x (numbered_less id t i j e old p (below id old p x) n))
  | inr x ↦ one_new t i j id e old (new_number id t i j e old p x n)
]

pub numbers_tell_pairs : NumbersTellPairs
numbers_tell_pairs id t i j es = (to_places id t i j es, (λ h. to_numbers id t i j es h.0 h.1 h.2))
