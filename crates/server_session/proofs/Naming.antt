-- The names of a list, and the entries that a session keeps of them.
use Rattle.std.proofs.Common.{append-nil, ◌≡◌, ℕ, ◌<◌, ◌≤◌, ◌==◌, ◌&&◌, ◌||◌, Bool, true, false, not, cond, nat_eq, if◌then◌else◌, List, [], ◌∷◌, ◌++◌, Some, refl, sym, ap, ◌∙◌, arith}
use Rattle.std.specs.Prelude.{map, filter, reverse}
use Rattle.std.proofs.lemmas.Bool.{eqb-true, eq-eqb, ne_eqb, and_parts, and_from}
use Rattle.std.proofs.lemmas.List.Elements.{filter-append}
use mathlib.Core.List.{reverse-cons}
use Rattle.mux_history.specs.declared.name.Name.{Name}
use Rattle.mux_history.specs.Readings.{same_name}
use Rattle.mux_model.specs.Down.{DownSession}
use Rattle.translate_book.specs.declared.entry.Entry.{Entry}
use Rattle.translate_book.specs.Entries.{is_held, is_open}
use Rattle.translate_book.specs.Book.{entry_at, open_at, Rises, changed}
use Rattle.translate_book.proofs.Changed.{own, further, changed_here, changed_further}
use Rattle.server_session.specs.Belonging.{name_in}
use Rattle.server_session.proofs.Books.{Entries}

pub and_false : (a : Bool) → (a && false) ≡ false
and_false true = refl
and_false false = refl

pub and_true : (a : Bool) → (a && true) ≡ a
and_true true = refl
and_true false = refl

pub named_same : (n : Name) → same_name n n ≡ true
named_same n =
    and_from _ _ (and_from _ _ (eq-eqb n.boot n.boot refl) (eq-eqb n.client n.client refl)) (eq-eqb n.seq n.seq refl)

pub same_names : (m n : Name) → same_name m n ≡ true → m ≡ n
same_names m n h =
    let p = and_parts _ _ h in
    let q = and_parts _ _ p.0 in
    λ i. record { boot = eqb-true m.boot n.boot q.0 i; client = eqb-true m.client n.client q.1 i; seq = eqb-true m.seq n.seq p.1 i }

-- other numbers are other names
pub apart : (c : DownSession) (a b : ℕ) → nat_eq b a ≡ false → same_name (name_in c a) (name_in c b) ≡ false
apart c a b h =
    let flip : nat_eq a b ≡ false = ne_eqb a b (λ e. let clash : true ≡ false = sym (eq-eqb b a (sym e)) ∙ h in cc) in
    ap (λ x. (c.boot == c.boot && c.number == c.number) && x) flip ∙ and_false _

filter_by : (b : Bool) (g : Name → Bool) (x : Name) (xs : List Name) → List Name
filter_by b g x xs = if b then x ∷ filter g xs else filter g xs

-- those that pass both tests
pub filter_both : (t g : Name → Bool) (xs : List Name) → filter (λ m. t m && g m) xs ≡ filter g (filter t xs)
filter_both t g [] = refl
filter_both t g (x ∷ xs) = by (t x) (filter_both t g xs)
  where
    by : (b : Bool) → filter (λ m. t m && g m) xs ≡ filter g (filter t xs)
        → (if b && g x then x ∷ filter (λ m. t m && g m) xs else filter (λ m. t m && g m) xs) ≡ filter g (if b then x ∷ filter t xs else filter t xs)
    by true rest = ap (λ ys. if g x then x ∷ ys else ys) rest
    by false rest = rest

pub filter_same : (t g : Name → Bool) → ((m : Name) → t m ≡ g m) → (xs : List Name) → filter t xs ≡ filter g xs
filter_same t g same xs = λ i. filter (λ m. same m i) xs

pub filter_reverse : (g : Name → Bool) (xs : List Name) → filter g (reverse xs) ≡ reverse (filter g xs)
filter_reverse g [] = refl
filter_reverse g (x ∷ xs) =
    ap (filter g) (reverse-cons x xs) ∙ filter-append g (reverse xs) (x ∷ []) ∙ by (g x) (filter_reverse g xs)
  where
    by : (b : Bool) → filter g (reverse xs) ≡ reverse (filter g xs)
        → filter g (reverse xs) ++ (if b then x ∷ [] else []) ≡ reverse (if b then x ∷ filter g xs else filter g xs)
    by true rest = ap (λ ys. ys ++ x ∷ []) rest ∙ sym (reverse-cons x (filter g xs))
    by false rest = append-nil _ ∙ rest

-- THE NAMES OF THE ENTRIES

abbrev pub naming_of : DownSession → Entries → List Name
naming_of c es = map (λ e. name_in c e.0) es

-- what passes where one leaves, or all where it stays
abbrev pub stays : Bool → Name → Name → Bool
stays held n m = held || not (same_name n m)

module _ (c : DownSession) (seq : ℕ) (f : Entry → Entry) where
  all_pass : (held : Bool) (low : ℕ) (es : Entries) (high : ℕ) → Rises low es high → seq ≤ low → filter (stays held (name_in c seq)) (naming_of c es) ≡ naming_of c es
  all_pass held low [] high h le = refl
  all_pass held low (p ∷ ps) high h le =
      let up = h.0 in
      let other : nat_eq p.0 seq ≡ false = ne_eqb p.0 seq (λ e. omega (arith, e, up, le)) in
      ap (λ b. if held || not b then name_in c p.0 ∷ filter (stays held (name_in c seq)) (naming_of c ps) else filter (stays held (name_in c seq)) (naming_of c ps)) (apart c seq p.0 other)
      ∙ pass held (all_pass held p.0 ps high h.1 (omega (arith, up, le)))
    where
      pass : (b : Bool) → filter (stays held (name_in c seq)) (naming_of c ps) ≡ naming_of c ps
          → (if b || true then name_in c p.0 ∷ filter (stays held (name_in c seq)) (naming_of c ps) else filter (stays held (name_in c seq)) (naming_of c ps)) ≡ name_in c p.0 ∷ naming_of c ps
      pass true rest = ap (λ ys. name_in c p.0 ∷ ys) rest
      pass false rest = ap (λ ys. name_in c p.0 ∷ ys) rest

  pub names_changed : (low : ℕ) (es : Entries) (high : ℕ) (e : Entry) → Rises low es high → entry_at seq es ≡ Some e
      → naming_of c (changed seq f es) ≡ filter (stays (is_held (f e)) (name_in c seq)) (naming_of c es)
  names_changed low [] high e h is = cc
  names_changed low (p ∷ ps) high e h is = by (nat_eq seq p.0) refl (names_changed p.0 ps high e h.1)
    where
      test : Name → Bool
      test m = stays (is_held (f e)) (name_in c seq) m

      front : (b : Bool) → naming_of c (if b then (p.0, f p.1) ∷ ps else ps) ≡ (if b then name_in c p.0 ∷ naming_of c ps else naming_of c ps)
      front true = refl
      front false = refl

      one : (b : Bool) → (if b then name_in c p.0 ∷ naming_of c ps else naming_of c ps) ≡ (if b || false then name_in c p.0 ∷ naming_of c ps else naming_of c ps)
      one true = refl
      one false = refl

      pass : (b : Bool) → (if b || true then name_in c p.0 ∷ filter (stays b (name_in c seq)) (naming_of c ps) else filter (stays b (name_in c seq)) (naming_of c ps))
          ≡ name_in c p.0 ∷ filter (stays b (name_in c seq)) (naming_of c ps)
      pass true = refl
      pass false = refl

      by : (b : Bool) → nat_eq seq p.0 ≡ b → (entry_at seq ps ≡ Some e → naming_of c (changed seq f ps) ≡ filter (stays (is_held (f e)) (name_in c seq)) (naming_of c ps))
          → naming_of c (changed seq f (p ∷ ps)) ≡ filter (stays (is_held (f e)) (name_in c seq)) (naming_of c (p ∷ ps))
      by true at more =
          let mine : p.1 ≡ e = own seq f p ps e at is in
          let same = eqb-true seq p.0 at in
          let itself : same_name (name_in c seq) (name_in c p.0) ≡ true = ap (λ k. same_name (name_in c seq) (name_in c k)) (sym same) ∙ named_same (name_in c seq) in
          ap (naming_of c) (changed_here seq f p ps at) ∙ front (is_held (f p.1))
          ∙ ap (λ x. if is_held (f x) then name_in c p.0 ∷ naming_of c ps else naming_of c ps) mine
          ∙ one (is_held (f e))
          ∙ ap (λ ys. if is_held (f e) || false then name_in c p.0 ∷ ys else ys) (sym (all_pass (is_held (f e)) p.0 ps high h.1 (omega (arith, same))))
          ∙ ap (λ b. if is_held (f e) || not b then name_in c p.0 ∷ filter (stays (is_held (f e)) (name_in c seq)) (naming_of c ps) else filter (stays (is_held (f e)) (name_in c seq)) (naming_of c ps)) (sym itself)
      by false at more =
          let flip : nat_eq p.0 seq ≡ false = ne_eqb p.0 seq (λ e. let clash : true ≡ false = sym (eq-eqb seq p.0 (sym e)) ∙ at in cc) in
          ap (naming_of c) (changed_further seq f p ps at) ∙ ap (λ ys. name_in c p.0 ∷ ys) (more (further seq f p ps e at is))
          ∙ sym (pass (is_held (f e)))
          ∙ ap (λ b. if is_held (f e) || not b then name_in c p.0 ∷ filter (stays (is_held (f e)) (name_in c seq)) (naming_of c ps) else filter (stays (is_held (f e)) (name_in c seq)) (naming_of c ps)) (sym (apart c seq p.0 flip))

-- a number that is there was given
pub given : (seq low : ℕ) (es : Entries) (e : Entry) (high : ℕ) → Rises low es high → entry_at seq es ≡ Some e → (low < seq) × (seq ≤ high)
given seq low [] e high h is = cc
given seq low (p ∷ ps) e high h is = by (nat_eq seq p.0) refl (given seq p.0 ps e high h.1)
  where
    upto : (a : ℕ) (xs : Entries) → Rises a xs high → a ≤ high
    upto a [] r = r
    upto a (x ∷ xs) r = let up = r.0 in let rest = upto x.0 xs r.1 in omega (arith, up, rest)

    by : (b : Bool) → nat_eq seq p.0 ≡ b → (entry_at seq ps ≡ Some e → (p.0 < seq) × (seq ≤ high)) → (low < seq) × (seq ≤ high)
    by true at more =
        let same = eqb-true seq p.0 at in
        let up = h.0 in
        let end = upto p.0 ps h.1 in
        (omega (arith, same, up), omega (arith, same, end))
    by false at more =
        let rest = more (further seq (λ x. x) p ps e at is) in
        let up = h.0 in
        (omega (arith, rest.0, up), rest.1)

both : (a b : Bool) → (a && b) ≡ true → (a ≡ true) × (b ≡ true)
both true b h = (refl, h)
both false b h = cc

-- what is open on a tag is an entry that is open on it
pub opened : (t low : ℕ) (es : Entries) (high seq : ℕ) → Rises low es high → open_at t es ≡ Some seq
    → (e : Entry) × (entry_at seq es ≡ Some e) × (is_open e ≡ true) × (e.tag ≡ t)
opened t low [] high seq h is = cc
opened t low (p ∷ ps) high seq h is = by (is_open p.1 && p.1.tag == t) refl (opened t p.0 ps high seq h.1)
  where
    found : (e : Entry) → entry_at seq ps ≡ Some e → entry_at seq (p ∷ ps) ≡ Some e
    found e at =
        let above_p = (given seq p.0 ps e high h.1 at).0 in
        let other : nat_eq seq p.0 ≡ false = ne_eqb seq p.0 (λ same. omega (arith, same, above_p)) in
        ap (λ b. cond b (Some p.1) (entry_at seq ps)) other ∙ at

    by : (b : Bool) → (is_open p.1 && p.1.tag == t) ≡ b → (open_at t ps ≡ Some seq → (e : Entry) × (entry_at seq ps ≡ Some e) × (is_open e ≡ true) × (e.tag ≡ t))
        → (e : Entry) × (entry_at seq (p ∷ ps) ≡ Some e) × (is_open e ≡ true) × (e.tag ≡ t)
    by true at more =
        let two = both (is_open p.1) (p.1.tag == t) at in
        let number : Some p.0 ≡ Some seq = sym (ap (λ b. if b then Some p.0 else open_at t ps) at) ∙ is in
        let same : p.0 ≡ seq = cc in
        (p.1, ap (λ k. cond (nat_eq k p.0) (Some p.1) (entry_at k ps)) (sym same) ∙ ap (λ b. cond b (Some p.1) (entry_at p.0 ps)) (eq-eqb p.0 p.0 refl), two.0, eqb-true p.1.tag t two.1)
    by false at more =
        let rest = more (sym (ap (λ b. if b then Some p.0 else open_at t ps) at) ∙ is) in
        (rest.0, found rest.0 rest.1, rest.2, rest.3)

pub flipped : (m n : Name) → same_name m n ≡ false → same_name n m ≡ false
flipped m n h = by (same_name n m) refl
  where
    by : (z : Bool) → same_name n m ≡ z → z ≡ false
    by false is = refl
    by true is = let clash : true ≡ false = sym (ap (λ k. same_name m k) (same_names n m is) ∙ named_same m) ∙ h in cc
