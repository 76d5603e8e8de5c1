-- What the walk over the histories of lists says of their records.
use Rattle.std.proofs.Common.{ℕ, List, [], ◌∷◌, ◌++◌, ◌+◌, ◌≡◌, ◌≤◌, ◌&&◌, ◌||◌, ◌⊎◌, inl, inr, Bool, true, false, not, Some, refl, sym, ◌∙◌, ap, subst, arith}
use Rattle.std.specs.Prelude.{if◌then◌else◌, All, map, reverse, filter, cond, nat_lt, nat_le}
use Rattle.std.proofs.lemmas.Bool.{and_parts, and_from, or_cases, ltb-false, leb-true}
use Rattle.std.proofs.lemmas.List.Elements.{All-head, All-tail}
use Rattle.std.proofs.lemmas.List.{reverse-append}
use Rattle.std.proofs.lemmas.List.Recursion.{is_count_by}
use Rattle.mux_history.specs.declared.name.Name.{Name}
use Rattle.mux_history.specs.declared.record.Record.{Record}
use Rattle.mux_history.specs.declared.kind.RecordKind.{RecordKind}
use Rattle.mux_history.specs.declared.kind.RecordKind.TheVariants.{Passed, Failed, Offered, Settled, SettledNack}
use Rattle.mux_history.specs.declared.session.InitMode.{InitMode}
use Rattle.mux_history.specs.declared.session.SessionId.{SessionId}
use Rattle.mux_history.specs.Readings.{gives_name, is_named, is_offered, is_retried}
use Rattle.mux_history.specs.Holders.{of_named}
use Rattle.mux_agree.specs.Agree.{has, times, is_refused, is_nacked, is_settled, is_settled_nack, is_replied, is_lost_one, is_sent_twice, is_unfounded, is_never_sent, is_nacked_though_sent, is_failed, is_lost_but_settled}
use Rattle.mux_agree.specs.Walk.{Kept, Stop, stops_in, stops, all_records, client_records, is_client, IsFaultless}
use Rattle.mux_history.specs.Standings.{leads_to}
use Rattle.mux_model.specs.Replay.{all_lead}
use Rattle.mux_model.specs.Steps.{records}
use Rattle.mux_model.specs.Legal.{Line, EachLine, SomeLine}
use Rattle.mux_legal.specs.KeptRuns.{history_of}
use Rattle.mux_legal.proofs.Basics.{named, named_same, not_false, or_true, one_if}
use Rattle.mux_legal.proofs.ToldClients.{Every}
use Rattle.mux_legal.proofs.ToldHolders.{occurs}

-- a list turned round ends in its first
pub reverse-cons : (r : Record) (rs : List Record) → reverse (r ∷ rs) ≡ reverse rs ++ r ∷ []
reverse-cons r rs = reverse-append (r ∷ []) rs

-- lists one behind the other, and turned round
has_either : (p : RecordKind → Bool) (n : Name) (a b : List Record) → has p n (a ++ b) ≡ true → (has p n a ≡ true) ⊎ (has p n b ≡ true)
has_either p n [] b h = inr h
has_either p n (r ∷ a) b h = by_test (p r.kind && is_named n r.name) h (has_either p n a b)
  where
    by_test : (x : Bool) → (x || has p n (a ++ b)) ≡ true → (has p n (a ++ b) ≡ true → (has p n a ≡ true) ⊎ (has p n b ≡ true)) → (x || has p n a ≡ true) ⊎ (has p n b ≡ true)
    by_test true h rest = inl refl
    by_test false h rest = rest h

has_turned : (p : RecordKind → Bool) (n : Name) (rs : List Record) → has p n (reverse rs) ≡ true → has p n rs ≡ true
has_turned p n [] h = absurd (cc)
has_turned p n (r ∷ rs) h =
    elim (has_either p n (reverse rs) (r ∷ []) (sym (ap (has p n) (reverse-cons r rs)) ∙ h)) [
      | inl a ↦ ap (λ b. (p r.kind && is_named n r.name) || b) (has_turned p n rs a) ∙ or_true (p r.kind && is_named n r.name)
      | inr a ↦ by_test (p r.kind && is_named n r.name) a
    ]
  where
    by_test : (x : Bool) → (x || false) ≡ true → (x || has p n rs) ≡ true
    by_test true e = refl
    by_test false e = absurd (cc)

pub found_either : (p : RecordKind → Bool) (n : Name) (a b : List Record) → (has p n a ≡ true) ⊎ (has p n b ≡ true) → has p n (a ++ b) ≡ true
found_either p n [] b (inl h) = absurd (cc)
found_either p n [] b (inr h) = h
found_either p n (r ∷ a) b h = by_test (p r.kind && is_named n r.name) h (found_either p n a b)
  where
    by_test : (x : Bool) → (x || has p n a ≡ true) ⊎ (has p n b ≡ true) → ((has p n a ≡ true) ⊎ (has p n b ≡ true) → has p n (a ++ b) ≡ true) → (x || has p n (a ++ b)) ≡ true
    by_test true h rest = refl
    by_test false h rest = rest h

pub has_back : (p : RecordKind → Bool) (n : Name) (rs : List Record) → has p n rs ≡ true → has p n (reverse rs) ≡ true
has_back p n [] h = absurd (cc)
has_back p n (r ∷ rs) h = ap (has p n) (reverse-cons r rs) ∙ found_either p n (reverse rs) (r ∷ []) (by_test (p r.kind && is_named n r.name) h (has_back p n rs))
  where
    by_test : (x : Bool) → (x || has p n rs) ≡ true → (has p n rs ≡ true → has p n (reverse rs) ≡ true) → (has p n (reverse rs) ≡ true) ⊎ ((x || false) ≡ true)
    by_test true h rest = inr refl
    by_test false h rest = inl (rest h)

-- what is found in the histories is found in a list
pub found : (p : RecordKind → Bool) (n : Name) (ls : List Line) → has p n (all_records (map history_of ls)) ≡ true → SomeLine (λ l. has p n (records l.steps) ≡ true) ls
found p n [] h = absurd (cc)
found p n (l ∷ ls) h =
    elim (has_either p n (reverse (records l.steps)) (all_records (map history_of ls)) h) [ inl a ↦ inl (has_turned p n (records l.steps) a) | inr a ↦ inr (found p n ls a) ]

-- what clients' histories have, a list has
pub found_client : (p : RecordKind → Bool) (n : Name) (ls : List Line) → has p n (client_records (map history_of ls)) ≡ true → SomeLine (λ l. has p n (records l.steps) ≡ true) ls
found_client p n [] h = absurd (cc)
found_client p n (l ∷ ls) h = by_side (is_client l.session) h (found_client p n ls)
  where
    by_side : (b : Bool) → has p n (all_records (if b then history_of l ∷ filter (λ k. is_client k.session) (map history_of ls) else filter (λ k. is_client k.session) (map history_of ls))) ≡ true →
        (has p n (client_records (map history_of ls)) ≡ true → SomeLine (λ x. has p n (records x.steps) ≡ true) ls) → (has p n (records l.steps) ≡ true) ⊎ SomeLine (λ x. has p n (records x.steps) ≡ true) ls
    by_side false h rest = inr (rest h)
    by_side true h rest =
        elim (has_either p n (reverse (records l.steps)) (client_records (map history_of ls)) h) [ inl a ↦ inl (has_turned p n (records l.steps) a) | inr a ↦ inr (rest a) ]

-- counting by a test is counting
pub times_occurs : (p : RecordKind → Bool) (n : Name) (rs : List Record) → occurs p n rs ≡ times p n rs
times_occurs p n rs = is_count_by (occurs p n) (λ r. p r.kind && is_named n r.name) refl (λ r xs. by_test (p r.kind && is_named n r.name) (occurs p n xs)) rs
  where
    by_test : (b : Bool) (x : ℕ) → one_if b + x ≡ cond b (1 + x) x
    by_test true x = refl
    by_test false x = omega arith

pub occurs-append : (p : RecordKind → Bool) (n : Name) (a b : List Record) → occurs p n (a ++ b) ≡ occurs p n a + occurs p n b
occurs-append p n [] b = omega arith
occurs-append p n (r ∷ a) b = omega (arith, occurs-append p n a b)

occurs-reverse : (p : RecordKind → Bool) (n : Name) (rs : List Record) → occurs p n (reverse rs) ≡ occurs p n rs
occurs-reverse p n [] = refl
occurs-reverse p n (r ∷ rs) = omega (arith, ap (occurs p n) (reverse-cons r rs), occurs-append p n (reverse rs) (r ∷ []), occurs-reverse p n rs)

-- a count over lists is that over their histories
abbrev pub total : (RecordKind → Bool) → Name → List Line → ℕ
total p n [] = 0
total p n (l ∷ ls) = occurs p n (records l.steps) + total p n ls

pub total_all : (p : RecordKind → Bool) (n : Name) (ls : List Line) → occurs p n (all_records (map history_of ls)) ≡ total p n ls
total_all p n [] = refl
total_all p n (l ∷ ls) =
    omega (arith, occurs-append p n (reverse (records l.steps)) (all_records (map history_of ls)), occurs-reverse p n (records l.steps), total_all p n ls)

pub occurs_none : (p : RecordKind → Bool) (n : Name) (rs : List Record) → has p n rs ≡ false → occurs p n rs ≡ 0
occurs_none p n [] h = refl
occurs_none p n (r ∷ rs) h = by_test (p r.kind && is_named n r.name) h (occurs_none p n rs)
  where
    by_test : (x : Bool) → (x || has p n rs) ≡ false → (has p n rs ≡ false → occurs p n rs ≡ 0) → one_if x + occurs p n rs ≡ 0
    by_test true h rest = absurd (cc)
    by_test false h rest = omega (arith, rest h)

-- stops by recursion
abbrev pub EveryStop : (Stop → Type 0) → List Stop → Type 0
EveryStop P [] = Unit {0}
EveryStop P (s ∷ ss) = P s × EveryStop P ss

pub every_stop : (P : Stop → Type 0) (ss : List Stop) → All P ss → EveryStop P ss
every_stop P [] h = tt
every_stop P (s ∷ ss) h = (All-head P s ss h, every_stop P ss (All-tail P s ss h))

split_stops : (P : Stop → Type 0) (a b : List Stop) → EveryStop P (a ++ b) → EveryStop P a × EveryStop P b
split_stops P [] b h = (tt, h)
split_stops P (s ∷ a) b h = (let x = split_stops P a b h.1 in ((h.0, x.0), x.1))

-- no record of certain kinds has the name of an earlier one of these kinds
abbrev pub IsNew : (RecordKind → Bool) → Stop → Type 0
IsNew p s = (p s.entry.kind && of_named (λ n. has p n (s.past ++ s.earlier)) s.entry.name) ≡ false

module _ (p : RecordKind → Bool) (n : Name) where
  one_more : (r : Record) (before : List Record) → (p r.kind && of_named (λ m. has p m before) r.name) ≡ false → occurs p n before ≤ 1 → one_if (p r.kind && is_named n r.name) + occurs p n before ≤ 1
  one_more r before new most = by_test (p r.kind) (is_named n r.name) (named n r.name) new
    where
      by_test : (a b : Bool) → (b ≡ true → r.name ≡ Some n) → (a && of_named (λ m. has p m before) r.name) ≡ false → one_if (a && b) + occurs p n before ≤ 1
      by_test false b g new = omega (arith, most)
      by_test true false g new = omega (arith, most)
      by_test true true g new = omega (arith, occurs_none p n before (sym (ap (of_named (λ m. has p m before)) (g refl)) ∙ new))

  once_in : (earlier : List Record) (id : SessionId) (mode : InitMode) (past later : List Record) → EveryStop (IsNew p) (stops_in earlier id mode past later) → occurs p n (past ++ earlier) ≤ 1 →
      occurs p n later + occurs p n (past ++ earlier) ≤ 1
  once_in earlier id mode past [] new most = omega (arith, most)
  once_in earlier id mode past (r ∷ later) new most = omega (arith, once_in earlier id mode (r ∷ past) later new.1 (one_more r (past ++ earlier) new.0 most))

  once_all : (earlier : List Record) (hs : List Kept) → EveryStop (IsNew p) (stops earlier hs) → occurs p n earlier ≤ 1 → occurs p n (all_records hs) + occurs p n earlier ≤ 1
  once_all earlier [] new most = omega (arith, most)
  once_all earlier (h ∷ hs) new most =
      let parts = split_stops (IsNew p) (stops_in earlier h.session h.mode [] h.records) (stops (earlier ++ h.records) hs) new in
      let here = once_in earlier h.session h.mode [] h.records parts.0 most in
      let rest = once_all (earlier ++ h.records) hs parts.1 (omega (arith, here, occurs-append p n earlier h.records)) in
      omega (arith, rest, occurs-append p n earlier h.records, occurs-append p n h.records (all_records hs))

  -- so at most one record of these kinds has a name
  pub once : (hs : List Kept) → EveryStop (IsNew p) (stops [] hs) → occurs p n (all_records hs) ≤ 1
  once hs new = omega (arith, once_all [] hs new (omega arith))

-- what the walk says of a record wherever it stands
pub record IsClear (clients all : List Record) (r : Record) : Type 0 where
  pub sent_once : is_sent_twice all r ≡ false
  pub founded : is_never_sent clients all r ≡ false
  pub not_nacked : is_nacked_though_sent all r ≡ false
  pub lost : is_lost_but_settled all r ≡ false

clear_in : (clients all earlier : List Record) (id : SessionId) (mode : InitMode) (past later : List Record) → EveryStop (IsFaultless clients all) (stops_in earlier id mode past later) → Every (IsClear clients all) later
clear_in clients all earlier id mode past [] h = tt
clear_in clients all earlier id mode past (r ∷ later) h =
    (record { sent_once = h.0.sent_once; founded = h.0.founded; not_nacked = h.0.not_nacked; lost = h.0.lost }, clear_in clients all earlier id mode (r ∷ past) later h.1)

pub every-append : (P : Record → Type 0) (a b : List Record) → Every P a → Every P b → Every P (a ++ b)
every-append P [] b x y = y
every-append P (r ∷ a) b x y = (x.0, every-append P a b x.1 y)

pub split_every : (P : Record → Type 0) (a b : List Record) → Every P (a ++ b) → Every P a × Every P b
split_every P [] b h = (tt, h)
split_every P (r ∷ a) b h = (let x = split_every P a b h.1 in ((h.0, x.0), x.1))

pub clear_all : (clients all earlier : List Record) (hs : List Kept) → EveryStop (IsFaultless clients all) (stops earlier hs) → Every (IsClear clients all) (all_records hs)
clear_all clients all earlier [] h = tt
clear_all clients all earlier (k ∷ hs) h =
    let parts = split_stops (IsFaultless clients all) (stops_in earlier k.session k.mode [] k.records) (stops (earlier ++ k.records) hs) h in
    every-append (IsClear clients all) k.records (all_records hs) (clear_in clients all earlier k.session k.mode [] k.records parts.0) (clear_all clients all (earlier ++ k.records) hs parts.1)

-- the records of a walk, the newest first
abbrev turned : (later past : List Record) → List Record
turned [] past = past
turned (r ∷ later) past = turned later (r ∷ past)

turned-append : (a b past : List Record) → turned (a ++ b) past ≡ turned b (turned a past)
turned-append [] b past = refl
turned-append (r ∷ a) b past = turned-append a b (r ∷ past)

turned-back : (rs : List Record) → turned (reverse rs) [] ≡ rs
turned-back [] = refl
turned-back (r ∷ rs) = ap (λ xs. turned xs []) (reverse-cons r rs) ∙ (turned-append (reverse rs) (r ∷ []) [] ∙ ap (λ xs. r ∷ xs) (turned-back rs))

-- where no epoch is a fault, each is what those before it lead to
lead_in : (clients all earlier : List Record) (id : SessionId) (mode : InitMode) (past later : List Record) → EveryStop (IsFaultless clients all) (stops_in earlier id mode past later) →
    all_lead mode id past ≡ true → all_lead mode id (turned later past) ≡ true
lead_in clients all earlier id mode past [] h lead = lead
lead_in clients all earlier id mode past (r ∷ later) h lead =
    lead_in clients all earlier id mode (r ∷ past) later h.1 (and_from _ _ (not_false (leads_to mode id past r r.kind) h.0.leads_on) lead)

pub lead_all : (clients all earlier : List Record) (ls : List Line) → EveryStop (IsFaultless clients all) (stops earlier (map history_of ls)) → EachLine (λ l. all_lead l.mode l.session (records l.steps) ≡ true) ls
lead_all clients all earlier [] h = tt
lead_all clients all earlier (l ∷ ls) h =
    let parts = split_stops (IsFaultless clients all) (stops_in earlier l.session l.mode [] (reverse (records l.steps))) (stops (earlier ++ reverse (records l.steps)) (map history_of ls)) h in (
      sym (ap (all_lead l.mode l.session) (turned-back (records l.steps))) ∙ lead_in clients all earlier l.session l.mode [] (reverse (records l.steps)) parts.0 refl,
      lead_all clients all (earlier ++ reverse (records l.steps)) ls parts.1,
    )

every_turned : (P : Record → Type 0) (rs : List Record) → Every P (reverse rs) → Every P rs
every_turned P [] h = tt
every_turned P (r ∷ rs) h = (let x = split_every P (reverse rs) (r ∷ []) (subst (Every P) (reverse-cons r rs) h) in (x.1.0, every_turned P rs x.0))

pub each_list : (P : Record → Type 0) (ls : List Line) → Every P (all_records (map history_of ls)) → EachLine (λ l. Every P (records l.steps)) ls
each_list P [] h = tt
each_list P (l ∷ ls) h = (let x = split_every P (reverse (records l.steps)) (all_records (map history_of ls)) h in (every_turned P (records l.steps) x.0, each_list P ls x.1))

-- a record among all is found by its name
abbrev pub IsAmong : List Record → Record → Type 0
IsAmong all r = (p : RecordKind → Bool) (n : Name) → p r.kind ≡ true → r.name ≡ Some n → has p n all ≡ true

pub every_and : (P Q R : Record → Type 0) → ((r : Record) → P r → Q r → R r) → (rs : List Record) → Every P rs → Every Q rs → Every R rs
every_and P Q R go [] x y = tt
every_and P Q R go (r ∷ rs) x y = (go r x.0 y.0, every_and P Q R go rs x.1 y.1)

here : (r : Record) (rest : List Record) → IsAmong (r ∷ rest) r
here r rest p n k e = ap (λ b. (b && is_named n r.name) || has p n rest) k ∙ (ap (λ o. is_named n o || has p n rest) e ∙ ap (λ b. b || has p n rest) (named_same n))

pub among : (rs : List Record) → Every (IsAmong rs) rs
among [] = tt
among (r ∷ rs) = (here r rs, every_and (IsAmong rs) (λ _. Unit {0}) (IsAmong (r ∷ rs)) (λ x a _. λ p n k e. ap (λ b. (p r.kind && is_named n r.name) || b) (a p n k e) ∙ or_true (p r.kind && is_named n r.name)) rs (among rs) (units rs))
  where
    units : (xs : List Record) → Every (λ _. Unit {0}) xs
    units [] = tt
    units (x ∷ xs) = (tt, units xs)

-- one of those that are found
pub some_record : (P : Record → Type 0) (p : RecordKind → Bool) (n : Name) (rs : List Record) → Every P rs → has p n rs ≡ true → (r : Record) × P r × (p r.kind ≡ true) × (r.name ≡ Some n)
some_record P p n [] all h = absurd (cc)
some_record P p n (r ∷ rs) all h =
    elim (or_cases (p r.kind && is_named n r.name) (has p n rs) h) [
      | inl a ↦ (let b = and_parts _ _ a in (r, all.0, b.0, named n r.name b.1))
      | inr a ↦ some_record P p n rs all.1 a
    ]

-- a reply is a nack or not
pub reply_kinds : (k : RecordKind) → is_replied k ≡ true → (is_settled k ≡ true) ⊎ (is_settled_nack k ≡ true)
reply_kinds (Settled x) e = inl refl
reply_kinds SettledNack e = inr refl
reply_kinds _ e = absurd (cc)

reply_counts : (k : RecordKind) (b : Bool) → one_if (is_replied k && b) ≡ one_if (is_settled k && b) + one_if (is_settled_nack k && b)
reply_counts (Settled x) b = omega arith
reply_counts SettledNack b = omega arith
reply_counts _ b = omega arith

pub replies_are : (n : Name) (rs : List Record) → occurs is_replied n rs ≡ occurs is_settled n rs + occurs is_settled_nack n rs
replies_are n [] = omega arith
replies_are n (r ∷ rs) = omega (arith, reply_counts r.kind (is_named n r.name), replies_are n rs)

either_false : (a b : Bool) → (a || b) ≡ false → (a ≡ false) × (b ≡ false)
either_false true b e = absurd (cc)
either_false false b e = (refl, e)

both_of : (a b : Bool) → not (a && b) ≡ false → (a ≡ true) × (b ≡ true)
both_of true b e = (refl, not_false b e)
both_of false b e = absurd (cc)

-- what the causes deny
offered_founded : (clients all : List Record) (n : Name) (k : RecordKind) → is_offered k ≡ true → is_unfounded clients all k (Some n) ≡ false → has gives_name n clients ≡ true
offered_founded clients all n Offered o e = not_false (has gives_name n clients) e
offered_founded clients all n _ o e = absurd (cc)

module _ (clients all : List Record) (r : Record) (c : IsClear clients all r) (n : Name) (is : r.name ≡ Some n) where
  unfounded : is_unfounded clients all r.kind (Some n) ≡ false
  unfounded = sym (ap (is_unfounded clients all r.kind) is) ∙ c.founded

  pub offered_was_taken : is_offered r.kind ≡ true → has gives_name n clients ≡ true
  offered_was_taken o = offered_founded clients all n r.kind o unfounded

  -- what was passed on was replied to, and each of its sendings was
  pub passed_was_replied : r.kind ≡ Passed → (has is_replied n all ≡ true) × (times is_offered n all ≤ times is_replied n all)
  passed_was_replied k =
      let a = both_of (has is_offered n all && has is_replied n all) (nat_le (times is_offered n all) (times is_replied n all)) (sym (ap (λ x. is_unfounded clients all x (Some n)) k) ∙ unfounded) in
      ((and_parts _ _ a.0).1, leb-true (times is_offered n all) (times is_replied n all) a.1)

  -- it is sent once, and once more each time that it may be sent again
  pub offered_few : is_offered r.kind ≡ true → times is_offered n all ≤ 1 + times is_retried n all
  offered_few o =
      let a = either_false _ _ c.sent_once in
      ltb-false (1 + times is_retried n all) (times is_offered n all)
      (sym (ap (λ b. b && of_named (λ m. nat_lt (1 + times is_retried m all) (times is_offered m all)) (Some n)) o)
      ∙ (sym (ap (λ x. is_offered r.kind && of_named (λ m. nat_lt (1 + times is_retried m all) (times is_offered m all)) x) is) ∙ a.0))

  -- and it may be so as often as it was nacked
  pub retried_few : is_retried r.kind ≡ true → times is_retried n all ≤ times is_settled_nack n all
  retried_few o =
      let a = either_false _ _ c.sent_once in
      ltb-false (times is_settled_nack n all) (times is_retried n all)
      (sym (ap (λ b. b && of_named (λ m. nat_lt (times is_settled_nack m all) (times is_retried m all)) (Some n)) o)
      ∙ (sym (ap (λ x. is_retried r.kind && of_named (λ m. nat_lt (times is_settled_nack m all) (times is_retried m all)) x) is) ∙ a.1))

  -- what was offered was not refused, and nacked only where each sending was
  abbrev NotNacked : Name → Type 0
  NotNacked m = (has is_refused m all ≡ false) × (has is_nacked m all ≡ true → times is_offered m all ≤ times is_settled_nack m all)

  pub offered_not_nacked : is_offered r.kind ≡ true → NotNacked n
  offered_not_nacked o =
      let test : Name → Bool = λ m. has is_refused m all || (has is_nacked m all && nat_lt (times is_settled_nack m all) (times is_offered m all)) in
      let a = either_false _ _ (sym (ap (λ b. b && of_named test (Some n)) o) ∙ (sym (ap (λ x. is_offered r.kind && of_named test x) is) ∙ c.not_nacked)) in (
        a.0,
        λ h. ltb-false (times is_settled_nack n all) (times is_offered n all)
            (sym (ap (λ b. b && nat_lt (times is_settled_nack n all) (times is_offered n all)) h) ∙ a.1),
      )

  pub failed_was_lost : r.kind ≡ Failed → has is_lost_one n all ≡ true
  failed_was_lost k =
      by_test (has is_offered n all) (has is_settled n all) (has is_lost_one n all)
      (not_false (has is_offered n all) (sym (ap (λ x. is_unfounded clients all x (Some n)) k) ∙ unfounded))
      (sym (ap (λ x. is_failed x && of_named (λ m. has is_offered m all && (has is_settled m all || not (has is_lost_one m all))) (Some n)) k)
      ∙ (sym (ap (λ o. is_failed r.kind && of_named (λ m. has is_offered m all && (has is_settled m all || not (has is_lost_one m all))) o) is) ∙ c.lost))
    where
      by_test : (o s l : Bool) → o ≡ true → (o && (s || not l)) ≡ false → l ≡ true
      by_test true s true p e = refl
      by_test true true false p e = absurd (cc)
      by_test true false false p e = absurd (cc)
      by_test false s l p e = absurd (cc)
