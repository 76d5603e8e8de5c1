-- What the state decides is what the list decides.
use Rattle.std.proofs.Common.{◌≡◌, ◌≢◌, ◌<◌, ℕ, zero, suc, ◌+◌, ◌-◌, Bool, true, false, cond, List, [], ◌∷◌, ◌++◌, length, Option, None, Some, refl, sym, ◌∙◌, ap, subst, arith, length-append, inl, inr, ◌⊎◌}
use Rattle.std.specs.Prelude.{count_by, sum_by, map, not, is_some, nat_lt, ◌==◌, ◌&&◌}
use Rattle.std.specs.Option.{option_to_list}
use Rattle.std.specs.Ordering.{nat_cmp}
use Rattle.std.specs.FinMap as maps
use Rattle.std.proofs.lemmas.List.{length-map, length-reverse}
use Rattle.std.proofs.lemmas.List.Sums.{sum_by-cons}
use Rattle.std.proofs.lemmas.Bool.Decides.{nat_tests}
use Rattle.mux_frame.specs.Spelling.{MuxFrame}
use Rattle.mux_history.specs.declared.name.Name.{Name}
use Rattle.mux_history.specs.declared.session.SessionId.TheVariants.{Server}
use Rattle.mux_history.specs.Readings.{ping_outstanding, count_kind, is_ping_sent, is_ping_done, written, Sending, sendings, least, lesser}
use Rattle.mux_model.specs.Entries.{Exchange}
use Rattle.mux_model.specs.Tags.{Holder, holder}
use Rattle.mux_model.specs.Steps.{Step, entries, records, sent_count, sent_at}
use Rattle.mux_model.specs.Up.{kept_for, was_not_recalled}
use Rattle.client_session.specs.Past.{Past, Dispatch, figures_of, open_of, dispatch_on, dispatch_of, sent_of}
use Rattle.client_session.specs.State.{State, figures_in, fresh_in, is_fresh}
use Rattle.client_session.specs.Belonging.{Belongs, HasDistinctTags, IsHeldBy}
use Rattle.client_session.proofs.Open.{len-from_entries, fresh_in-from_entries, get-dispatch_on, eq_false, find-dispatch_on, on_head, off_head}

pub get_same : (s : State) (p : Past) → Belongs s p → (t : ℕ) → maps.get s.entries t ≡ dispatch_on t (open_of p.steps)
get_same s p b t = ap (λ (m : maps.FinMap nat_cmp Dispatch). maps.get m t) b.entries ∙ get-dispatch_on t (open_of p.steps)

pub load_same : (s : State) (p : Past) → Belongs s p → maps.len s.entries ≡ length (sendings (records p.steps))
load_same s p b =
    ap (λ (m : maps.FinMap nat_cmp Dispatch). maps.len m) b.entries ∙ len-from_entries (open_of p.steps) b.distinct
    ∙ length-map (sendings (records p.steps)) (dispatch_of p.steps)

fresh_listed : (steps : List Step) (ss : List Sending) → count_by is_fresh (map (dispatch_of steps) ss) ≡ count_by was_not_recalled ss
fresh_listed steps [] = refl
fresh_listed steps (e ∷ ss) =
    let one = sum_by-cons (λ (h : ℕ × Dispatch). cond (is_fresh h) 1 0) (dispatch_of steps e) (map (dispatch_of steps) ss) in
    let two = sum_by-cons (λ (x : Sending). cond (was_not_recalled x) 1 0) e ss in
    let rest = fresh_listed steps ss in
    omega arith

pub fresh_same : (s : State) (p : Past) → Belongs s p → fresh_in s.entries ≡ count_by was_not_recalled (sendings (records p.steps))
fresh_same s p b =
    ap (λ (m : maps.FinMap nat_cmp Dispatch). fresh_in m) b.entries ∙ fresh_in-from_entries (open_of p.steps) b.distinct
    ∙ fresh_listed p.steps (sendings (records p.steps))

-- each dispatch keeps a record for its answer, and one more for its Tdiscarded
weight : (b : Bool) → cond {A = ℕ} b 1 2 ≡ 1 + cond {A = ℕ} (not b) 1 0
weight true = refl
weight false = refl

kept_listed : (ss : List Sending) → sum_by kept_for ss ≡ length ss + count_by was_not_recalled ss
kept_listed [] = refl
kept_listed (e ∷ ss) =
    let one = sum_by-cons kept_for e ss in
    let two = sum_by-cons (λ (x : Sending). cond (was_not_recalled x) 1 0) e ss in
    let rest = kept_listed ss in
    let here = weight e.recalled in
    omega arith

pub kept_same : (s : State) (p : Past) → Belongs s p → maps.len s.entries + fresh_in s.entries ≡ sum_by kept_for (sendings (records p.steps))
kept_same s p b =
    let load = load_same s p b in
    let fresh = fresh_same s p b in
    let all = kept_listed (sendings (records p.steps)) in
    omega arith

count_one : (n : ℕ) (fs : List MuxFrame) (o : Option MuxFrame) → n ≡ length fs → cond (is_some o) (n + 1) n ≡ length (fs ++ option_to_list o)
count_one n fs None h = let l = length-append fs [] in omega (arith, h, l)
count_one n fs (Some f) h = let l = length-append fs (f ∷ []) in omega (arith, h, l)

pub sent_count_is : (es : List Exchange) → sent_count es ≡ length (sent_of es)
sent_count_is [] = refl
sent_count_is (e ∷ old) = count_one (sent_count old) (sent_of old) e.sent (sent_count_is old)

pub queued_same : (s : State) (p : Past) → Belongs s p → length s.queue ≡ sent_count (entries p.steps) - length p.out
queued_same s p b =
    let long = ap length b.queue in
    let count = sent_count_is (entries p.steps) in
    omega (arith, long, count, length-append p.out s.queue)

pub ping_same : (s : State) (p : Past) → Belongs s p → s.ping ≡ ping_outstanding (records p.steps)
ping_same s p b = by s.ping (count_kind is_ping_sent (records p.steps)) (count_kind is_ping_done (records p.steps)) b.pings
  where
    by : (z : Bool) (sent done : ℕ) → sent ≡ done + cond {A = ℕ} z 1 0 → z ≡ nat_lt done sent
    by true sent done h = grind (arith, nat_tests)
    by false sent done h = grind (arith, nat_tests)

-- by the state and by the list, a session decides alike
pub figures_same : (s : State) (p : Past) → Belongs s p → figures_in s ≡ figures_of p
figures_same s p b =
    rw (
      b.limits,
      b.closed,
      b.init,
      b.drained,
      b.retired,
      ping_same s p b,
      b.lapse,
      b.reading,
      b.epoch,
      ap length b.records ∙ length-reverse (written (records p.steps)),
      queued_same s p b,
      kept_same s p b,
      load_same s p b,
      fresh_same s p b,
    ) refl

no_holder : (h : Option Holder) (o : Option Dispatch) → IsHeldBy h o → o ≡ None → h ≡ None
no_holder None o i e = refl
no_holder (Some h) None i e = absurd i
no_holder (Some h) (Some d) i e = cc

-- on a tag that the session keeps nothing on, nothing is open
pub vacant : (s : State) (p : Past) (t : ℕ) → Belongs s p → s.closed ≡ false → maps.get s.entries t ≡ None
    → holder (Server p.session.number) t (entries p.steps) ≡ None
vacant s p t b up none = no_holder _ _ (b.held (sym b.closed ∙ up) t) (sym (get_same s p b t) ∙ none)

some_holder : (h : Option Holder) (o : Option Dispatch) (d : Dispatch) → IsHeldBy h o → o ≡ Some d → (x : Holder) × (h ≡ Some x) × (x.name ≡ d.name)
some_holder None None d i e = cc
some_holder None (Some x) d i e = absurd i
some_holder (Some h) None d i e = cc
some_holder (Some h) (Some x) d i e = (h, refl, i ∙ ap name_of e)
  where
    name_of : Option Dispatch → Option Name
    name_of None = None
    name_of (Some y) = y.name

-- a dispatch that the session keeps holds its tag
pub holding_name : (s : State) (p : Past) (t : ℕ) (d : Dispatch) → Belongs s p → s.closed ≡ false → maps.get s.entries t ≡ Some d
    → (h : Holder) × (holder (Server p.session.number) t (entries p.steps) ≡ Some h) × (h.name ≡ d.name)
holding_name s p t d b up held = some_holder _ _ d (b.held (sym b.closed ∙ up) t) (sym (get_same s p b t) ∙ held)

-- WHAT IS TAKEN OUT NEXT

abbrev at : {A : Type 0} → ℕ → List A → Option A
at k [] = None
at zero (x ∷ xs) = Some x
at (suc k) (x ∷ xs) = at k xs

abbrev pub first : {A : Type 0} → List A → Option A
first [] = None
first (x ∷ xs) = Some x

next_test : (l k : ℕ) → (l == k) ≡ (suc l == suc k)
next_test l k = grind (arith, nat_tests)

at_end : (xs : List MuxFrame) (k : ℕ) (f : MuxFrame) → at k (xs ++ f ∷ []) ≡ cond (length xs == k) (Some f) (at k xs)
at_end [] zero f = refl
at_end [] (suc k) f = rw (eq_false 0 (suc k) (λ e. omega (arith, e))) refl
at_end (x ∷ xs) zero f = rw (eq_false (suc (length xs)) 0 (λ e. omega (arith, e))) refl
at_end (x ∷ xs) (suc k) f = at_end xs k f ∙ ap (λ (b : Bool). cond b (Some f) (at k xs)) (next_test (length xs) k)

at_past : (xs : List MuxFrame) (k : ℕ) → at k (xs ++ []) ≡ at k xs
at_past [] k = refl
at_past (x ∷ xs) zero = refl
at_past (x ∷ xs) (suc k) = at_past xs k

index_one : (k n : ℕ) (fs : List MuxFrame) (before o : Option MuxFrame) → n ≡ length fs → before ≡ at k fs
    → cond (is_some o && n == k) o before ≡ at k (fs ++ option_to_list o)
index_one k n fs before None count rest = rest ∙ sym (at_past fs k)
index_one k n fs before (Some f) count rest =
    ap (λ (m : ℕ). cond (m == k) (Some f) before) count
    ∙ ap (λ (o : Option MuxFrame). cond (length fs == k) (Some f) o) rest
    ∙ sym (at_end fs k f)

sent_at_index : (k : ℕ) (es : List Exchange) → sent_at k es ≡ at k (sent_of es)
sent_at_index k [] = refl
sent_at_index k (e ∷ old) = index_one k (sent_count old) (sent_of old) (sent_at k old) e.sent (sent_count_is old) (sent_at_index k old)

at_length : (xs ys : List MuxFrame) → at (length xs) (xs ++ ys) ≡ first ys
at_length [] [] = refl
at_length [] (y ∷ ys) = refl
at_length (x ∷ xs) ys = at_length xs ys

pub sent_at_is : (s : State) (p : Past) → Belongs s p → sent_at (length p.out) (entries p.steps) ≡ first s.queue
sent_at_is s p b =
    sent_at_index (length p.out) (entries p.steps) ∙ ap (λ (fs : List MuxFrame). at (length p.out) fs) (sym b.queue) ∙ at_length p.out s.queue

-- THE LEAST TAG

either_entry : (e m : Sending) (o : Option Sending) → lesser e o ≡ Some m → (e ≡ m) ⊎ (o ≡ Some m)
either_entry e m None h = inl cc
either_entry e m (Some k) h = by (nat_lt e.tag k.tag) h
  where
    by : (b : Bool) → cond b (Some e) (Some k) ≡ Some m → (e ≡ m) ⊎ (◌≡◌ {A = Option Sending} (Some k) (Some m))
    by true h = inl cc
    by false h = inr h

least_on : (steps : List Step) (ss : List Sending) (m : Sending) → least ss ≡ Some m → dispatch_on m.tag (map (dispatch_of steps) ss) ≢ None
least_on steps [] m h none = cc
least_on steps (e ∷ ss) m h none =
    let off = off_head m.tag e.tag (dispatch_of steps e).1 _ none in
    elim (either_entry e m (least ss) h) [
      | inl is ↦ off.0 (ap (λ (x : Sending). x.tag) (sym is))
      | inr is ↦ least_on steps ss m is off.1
    ]

-- the first entry is less than the least of the others
first_least : (e : Sending) (o : Option Sending) → ((m : Sending) → o ≡ Some m → e.tag < m.tag) → lesser e o ≡ Some e
first_least e None below = refl
first_least e (Some m) below = ap (λ (b : Bool). cond b (Some e) (Some m)) (is_less e.tag m.tag (below m refl))
  where
    is_less : (a b : ℕ) → a < b → nat_lt a b ≡ true
    is_less a b h = grind (arith, nat_tests)

other_least : (e m : Sending) (o : Option Sending) → o ≡ Some m → (e.tag < m.tag → ⊥) → lesser e o ≡ Some m
other_least e m o is above =
    ap (λ (x : Option Sending). lesser e x) is ∙ ap (λ (b : Bool). cond b (Some e) (Some m)) (not_less e.tag m.tag above)
  where
    not_less : (a b : ℕ) → (a < b → ⊥) → nat_lt a b ≡ false
    not_less a b h = grind (arith, nat_tests)

between : (a b : ℕ) → a ≢ b → (b < a → ⊥) → a < b
between a b n h = grind (arith, nat_tests)

pub least_is : (steps : List Step) (ss : List Sending) (t : ℕ) (d : Dispatch) → HasDistinctTags (map (dispatch_of steps) ss)
    → dispatch_on t (map (dispatch_of steps) ss) ≡ Some d
    → ((q : ℕ) → q < t → dispatch_on q (map (dispatch_of steps) ss) ≡ None)
    → (m : Sending) × (least ss ≡ Some m) × (m.tag ≡ t) × (m.name ≡ d.name)
least_is steps [] t d distinct on none = cc
least_is steps (e ∷ ss) t d distinct on none =
    let k = e.tag in
    let x = (dispatch_of steps e).1 in
    let rest = map (dispatch_of steps) ss in
    elim (on_head t k x (dispatch_on t rest) d on) [
      | inl is ↦ (
        e,
        first_least e (least ss) (λ m at. between k m.tag
            (λ same. least_on steps ss m at (sym (find-dispatch_on m.tag rest) ∙ ap (λ (q : ℕ). maps.find nat_cmp q rest) (sym same) ∙ distinct.0))
            (λ below. least_on steps ss m at (off_head m.tag k x (dispatch_on m.tag rest) (none m.tag (subst (λ (q : ℕ). m.tag < q) (sym is.0) below))).1)),
        sym is.0,
        ap (λ (y : Dispatch). y.name) is.1,
      )
      | inr is ↦
          let later = least_is steps ss t d distinct.1 is.1 (λ q below. (off_head q k x (dispatch_on q rest) (none q below)).1) in (
            later.0,
            other_least e later.0 (least ss) later.1 (λ below. (off_head k k x (dispatch_on k rest) (none k (subst (λ (q : ℕ). k < q) later.2 below))).0 refl),
            later.2,
            later.3,
          )
    ]
