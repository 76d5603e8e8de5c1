-- One record further, what is kept belongs to the histories with it.
use Rattle.std.proofs.Common.{ℕ, List, [], ◌∷◌, ◌++◌, ◌+◌, ◌≡◌, ◌==◌, ◌<◌, ◌≤◌, ◌&&◌, ◌||◌, Bool, true, false, cond, refl, sym, ◌∙◌, ap, subst, arith, Option, Some, None, length, take, get_or}
use Rattle.std.specs.Prelude.{if◌then◌else◌, ◌-◌, ◌^◌, min, not, reverse, unwrap_or}
use Rattle.std.proofs.lemmas.Bool.{eqb-true, both_ways, not-false}
use Rattle.std.proofs.lemmas.List.Sums.{sum_by-cons}
use Rattle.std.proofs.lemmas.List.{append-nil, length-append, reverse-append, take_more}
use Rattle.mux_history.specs.declared.name.Name.{Name}
use Rattle.mux_history.specs.declared.record.Record.{Record}
use Rattle.mux_history.specs.declared.kind.RecordKind.{RecordKind}
use Rattle.mux_history.specs.declared.session.SessionId.{SessionId}
use Rattle.mux_history.specs.declared.session.SessionId.TheVariants.{Client, Server}
use Rattle.mux_history.specs.Holders.{of_named}
use Rattle.mux_history.specs.Readings.{gives_name, is_epoch, is_named}
use Rattle.mux_agree.specs.Agree.{times}
use Rattle.mux_agree.specs.Walk.{Kept, all_records, client_records, is_client, place_at}
use Rattle.mux_agree.proofs.Counts.{times-append}
use Rattle.rolling_audit.specs.Counted.{joined_if, one}
use Rattle.rolling_audit.specs.Faults.{gives_own, given_by, is_of_other_boot, is_of_other_client}
use Rattle.rolling_audit.specs.Stands.{IsOfOne, IsRight, NothingWaits, Stands}
use Rattle.rolling_audit.proofs.Counting.{bare_life, relife}
use Rattle.rolling_audit.proofs.Counts.{same_names, times_none}
use Rattle.rolling_audit.proofs.Keeping.{done_is_over}
use Rattle.rolling_audit.proofs.Known.{known_none, known_one, known_still}
use Rattle.rolling_audit.specs.declared.life.Life.{Life}
use Rattle.rolling_audit.specs.declared.trail.Trail.{Trail}
use Rattle.rolling_audit.specs.Histories.{IsOwn, behind, kept_of, longer, same_session}
use Rattle.rolling_audit.specs.Lives.{IsLife, is_done, no_life}
use Rattle.rolling_audit.specs.Steps.{AllGoOn, LivesOnAs, TrailGoesOn, TrailStays, Takes, dropped, kept, with_trail}
use Rattle.rolling_audit.specs.Taken.{AreTaken, IsKept, IsTrail, again, forgotten, known, life_or, spent_by}
use Rattle.rolling_audit.proofs.Behinds.{kept_is, behind_more, behind_none, client_times_behind, kept_behind, kept_other, own_behind, same_is, same_own, times_behind}

either : (a b : Bool) → (a || b) ≡ true → {P : Type 0} → (a ≡ true → P) → (b ≡ true → P) → P
either true b e f g = f refl
either false b e f g = g e

-- one record of the name further
module _ (n : Name) (c a others every : List Record) (spent behind_spent : Type 0) (of_client : Bool) (r : Record)
    (up : spent → behind_spent) (gives : (of_client && gives_name r.kind) ≡ true → behind_spent)
    (gives_once : (of_client && gives_name r.kind) ≡ true → spent → ⊥)
    (is : r.name ≡ Some n)
    (same_clients : (p : RecordKind → Bool) → times p n others ≡ times p n (joined_if of_client c (r ∷ [])))
    (same_all : (p : RecordKind → Bool) → times p n every ≡ times p n (a ++ r ∷ [])) where
  not_taken : (l : Life) (m : Life) → m.trace.taken ≡ ((of_client && gives_name r.kind) || l.trace.taken) → l.trace.taken ≡ false → spent → m.trace.taken ≡ false
  not_taken l m tells was s = by_giving (of_client && gives_name r.kind) refl
    where
      by_giving : (g : Bool) → (of_client && gives_name r.kind) ≡ g → m.trace.taken ≡ false
      by_giving true e = absurd (gives_once e s)
      by_giving false e = tells ∙ (ap (λ g. g || l.trace.taken) e ∙ was)

  on : (l m : Life) → ((x : Name) (clients all : List Record) (y : Record) → y.kind ≡ r.kind → y.name ≡ Some x → IsLife x clients all l → IsLife x (joined_if of_client clients (y ∷ [])) (all ++ y ∷ []) m) →
      IsLife n c a l → IsLife n others every m
  on l m law life = relife n (joined_if of_client c (r ∷ [])) (a ++ r ∷ []) others every m same_clients same_all (law n c a r refl is life)

  spent_if : (l m : Life) → m.trace.taken ≡ ((of_client && gives_name r.kind) || l.trace.taken) → (l.trace.taken ≡ true → spent) → m.trace.taken ≡ true → behind_spent
  spent_if l m tells was taken = either (of_client && gives_name r.kind) l.trace.taken (sym tells ∙ taken) gives (λ e. up (was e))

  -- by some of all records, of which the last is this one
  some_of_all : (rs : List Record) → ((p : RecordKind → Bool) → times p n rs ≤ times p n a) → (p : RecordKind → Bool) → times p n (rs ++ r ∷ []) ≤ times p n every
  some_of_all rs few p =
      let here = times-append p n rs (r ∷ []) in
      let there = same_all p ∙ times-append p n a (r ∷ []) in
      let was = few p in
      omega (arith, here, there, was)

  anew : (m : Life) → ((x : Name) (clients all : List Record) (y : Record) → y.kind ≡ r.kind → y.name ≡ Some x → IsLife x clients all no_life → IsLife x (joined_if of_client clients (y ∷ [])) (all ++ y ∷ []) m) →
      m.trace.taken ≡ false → spent → IsKept n others every behind_spent (Some m)
  anew m law off s =
      again m (joined_if of_client [] (r ∷ [])) ([] ++ r ∷ []) (law n [] [] r refl is (bare_life n)) (some_of_all [] (λ p. omega arith)) off (up s)

  pub kept_on : (o more : Option Life) → IsKept n c a spent o → LivesOnAs (life_or o) of_client r more → IsKept n others every behind_spent more
  kept_on o more (known x life was) (kept m law tells due undone) = known (Some m) (on (life_or x) m law life) (spent_if (life_or x) m tells was)
  kept_on o more (known x life was) (dropped m law tells due done) =
      (let fine = done_is_over m done in forgotten m (on (life_or x) m law life) fine.1 (spent_if (life_or x) m tells was fine.0))
  kept_on o more (forgotten l life fine s) (kept m law tells due undone) = anew m law (not_taken (life_or None) m tells refl s) s
  kept_on o more (forgotten l life fine s) (dropped m law tells due done) = absurd (both_ways m.trace.taken (not_taken (life_or None) m tells refl s) (done_is_over m done).0)
  kept_on o more (again l cs rs life few was s) (kept m law tells due undone) =
      again m (joined_if of_client cs (r ∷ [])) (rs ++ r ∷ []) (law n cs rs r refl is life) (some_of_all rs few) (not_taken l m tells was s) (up s)
  kept_on o more (again l cs rs life few was s) (dropped m law tells due done) = absurd (both_ways m.trace.taken (not_taken l m tells was s) (done_is_over m done).0)

-- one record of another name further
pub kept_still : (n : Name) (c a others every : List Record) (spent behind_spent : Type 0) → (spent → behind_spent) →
    ((p : RecordKind → Bool) → times p n others ≡ times p n c) → ((p : RecordKind → Bool) → times p n every ≡ times p n a) →
    (o : Option Life) → IsKept n c a spent o → IsKept n others every behind_spent o
kept_still n c a others every spent behind_spent up same_clients same_all o (known x life was) =
    known x (relife n c a others every (life_or x) same_clients same_all life) (λ e. up (was e))
kept_still n c a others every spent behind_spent up same_clients same_all o (forgotten l life fine s) =
    forgotten l (relife n c a others every l same_clients same_all life) fine (up s)
kept_still n c a others every spent behind_spent up same_clients same_all o (again l cs rs life few was s) =
    again l cs rs life (λ p. let same = same_all p in let was_few = few p in omega (arith, same, was_few)) was (up s)

-- what is kept isn't done with
pub same_life : (m l : Life) → Some m ≡ Some l → m ≡ l
same_life m l e = ap (λ o. unwrap_or o m) e

undone_of : (before : Life) (of_client : Bool) (r : Record) (o : Option Life) → LivesOnAs before of_client r o → (l : Life) → o ≡ Some l → is_done l ≡ false
undone_of before of_client r o (kept m law tells due undone) l at = sym (ap is_done (same_life m l at)) ∙ undone
undone_of before of_client r o (dropped m law tells due done) l at = absurd (cc)

-- a trail among others
pub own_trail : (others : SessionId → Option Trail) (id : SessionId) (s : Trail) → with_trail others id s id ≡ Some s
own_trail others id s = ap (λ b. if b then Some s else others id) (same_own id)

same_trail : (s t : Trail) → Some s ≡ Some t → s ≡ t
same_trail s t e = ap (λ o. unwrap_or o s) e

pub named_so : (n : Name) (o : Option Name) → is_named n o ≡ true → o ≡ Some n
named_so n None e = absurd (cc)
named_so n (Some m) e = ap Some (same_names m n e)

is_equal : (a b : ℕ) → not (a == b) ≡ false → a ≡ b
is_equal a b e = eqb-true a b (not-false (a == b) e)

pub own_name : (boot : ℕ) (id : SessionId) (r : Record) → is_of_other_boot boot r ≡ false → is_of_other_client id r ≡ false → IsOfOne boot id r
own_name boot (Client k) r mine_boot mine =
    λ n is. (is_equal n.boot boot (sym (ap (of_named (λ m. not (m.boot == boot))) is) ∙ mine_boot), is_equal n.client k (sym (ap (of_named (λ m. not (m.client == k))) is) ∙ mine))
own_name boot (Server k) r mine_boot mine = tt

-- a name that is given is its client's next one
next_given : (id : SessionId) (s t : Trail) (r : Record) → TrailGoesOn id s r t → (n : Name) → r.name ≡ Some n → gives_own id r ≡ true →
    (id ≡ Client n.client) × (n.seq ≡ s.given + 1) × (n.seq ≤ t.given)
next_given (Client k) s t r leads n is gives =
    let seq : n.seq ≡ s.given + 1 = is_equal n.seq (s.given + 1) (sym (ap (of_named (λ m. not (m.seq == s.given + 1))) is) ∙ named r.name is (sym (ap (λ b. b && not (of_named (λ m. m.seq == s.given + 1) r.name)) gives) ∙ leads.next)) in
    let given : t.given ≡ s.given + 1 = leads.given ∙ ap (λ b. s.given + one b) gives in (
      ap Client (sym (is_equal n.client k (sym (ap (of_named (λ m. not (m.client == k))) is) ∙ leads.own))),
      seq,
      omega (arith, seq, given),
    )
  where
    named : (o : Option Name) → o ≡ Some n → not (of_named (λ m. m.seq == s.given + 1) o) ≡ false → of_named (λ m. not (m.seq == s.given + 1)) o ≡ false
    named None e off = absurd (cc e)
    named (Some m) e off = off
next_given (Server k) s t r leads n is gives = absurd (cc gives)

module _ (boot : ℕ) (id : SessionId) (s t : Trail) (lives more : Name → Option Life) (r : Record) (mine_boot : is_of_other_boot boot r ≡ false) (leads : TrailGoesOn id s r t) (goes : AllGoOn lives (is_client id) r more)
    (hs : List Kept) (others : SessionId → Option Trail) (used : ℕ → Bool) (a : AreTaken boot hs (with_trail others id s) lives used) where
  mine : (h : Kept) × (kept_of id hs ≡ Some h) × IsTrail boot s h
  mine = a.leads id s (own_trail others id s)

  own_next : (h : Kept) → IsTrail boot s h → IsOwn h.mode h.session (reverse h.records) r
  own_next h was =
      record {
        right = subst (λ i. IsRight h.mode i (reverse h.records) r) was.id
            (subst (λ m. IsRight m s.session.id (reverse h.records) r) was.mode (leads.steps.right boot (reverse h.records) was.stands));
        named = leads.named;
      }

  of_one : (h : Kept) → h.session ≡ id → IsTrail boot s h → IsOfOne boot s.session.id r
  of_one h it was = subst (λ i. IsOfOne boot i r) (sym (was.id ∙ it)) (own_name boot id r mine_boot leads.own)

  leads_next : (h : Kept) → h.session ≡ id → IsTrail boot s h → IsTrail boot t (longer h (r ∷ []))
  leads_next h it was =
      record {
        id = leads.steps.id ∙ was.id;
        mode = leads.steps.mode ∙ was.mode;
        stands = subst (Stands boot t.session) (sym (reverse-append h.records (r ∷ []))) (leads.steps.stands boot (reverse h.records) (of_one h it was) was.stands);
        given = given_next (given_by h.session (reverse h.records)) was.given
            ∙ (sym (sum_by-cons (λ x. cond (gives_own h.session x) 1 0) r (reverse h.records)) ∙ ap (given_by h.session) (sym (reverse-append h.records (r ∷ []))));
        taken = leads.taken ∙ (ap (λ x. place_at (x + 1)) was.taken ∙ (one_more (length h.records) ∙ ap place_at (sym (length-append h.records (r ∷ [])))));
      }
    where
      given_next : (before : ℕ) → s.given ≡ before → t.given ≡ cond (gives_own h.session r) 1 0 + before
      given_next before is = leads.given ∙ (ap (λ i. s.given + one (gives_own i r)) (sym it) ∙ by_test (gives_own h.session r))
        where
          by_test : (b : Bool) → s.given + one b ≡ cond b 1 0 + before
          by_test true = omega (arith, is)
          by_test false = omega (arith, is)

      one_more : (m : ℕ) → min (min m (2 ^ 64 - 1) + 1) (2 ^ 64 - 1) ≡ min (m + 1) (2 ^ 64 - 1)
      one_more m = omega arith

  leads_all : (q : SessionId) (x : Trail) → with_trail others id t q ≡ Some x → (h : Kept) × (kept_of q (behind id (r ∷ []) hs) ≡ Some h) × IsTrail boot x h
  leads_all q x at = by_test (same_session id q) refl at
    where
      by_test : (b : Bool) → same_session id q ≡ b → (if b then Some t else others q) ≡ Some x → (h : Kept) × (kept_of q (behind id (r ∷ []) hs) ≡ Some h) × IsTrail boot x h
      by_test true e found =
          let it : id ≡ q = same_is id q e in
          let trail : t ≡ x = same_trail t x found in (
            longer mine.0 (r ∷ []),
            subst (λ i. kept_of i (behind id (r ∷ []) hs) ≡ Some (longer mine.0 (r ∷ []))) it (kept_behind id (r ∷ []) hs mine.0 mine.1),
            subst (λ y. IsTrail boot y (longer mine.0 (r ∷ []))) trail (leads_next mine.0 (kept_is id hs mine.0 mine.1) mine.2),
          )
      by_test false e found =
          let was = a.leads q x (ap (λ b. if b then Some s else others q) e ∙ found) in
          (was.0, kept_other id (r ∷ []) q e hs ∙ was.1, was.2)

  numbered_all : (k : ℕ) (x : Trail) → with_trail others id t (Client k) ≡ Some x → used k ≡ true
  numbered_all k x at = by_test (same_session id (Client k)) refl at
    where
      by_test : (b : Bool) → same_session id (Client k) ≡ b → (if b then Some t else others (Client k)) ≡ Some x → used k ≡ true
      by_test true e found = a.numbered k s (ap (λ b. if b then Some s else others (Client k)) e)
      by_test false e found = a.numbered k x (ap (λ b. if b then Some s else others (Client k)) e ∙ found)

  spent_up : (n : Name) → spent_by (with_trail others id s (Client n.client)) used n → spent_by (with_trail others id t (Client n.client)) used n
  spent_up n was = by_test (same_session id (Client n.client)) was
    where
      by_test : (b : Bool) → spent_by (if b then Some s else others (Client n.client)) used n → spent_by (if b then Some t else others (Client n.client)) used n
      by_test true w = let rises = leads.given in omega (arith, w, rises)
      by_test false w = w

  all_same : (n : Name) (p : RecordKind → Bool) → times p n (all_records (behind id (r ∷ []) hs)) ≡ times p n (all_records hs ++ r ∷ [])
  all_same n p = times_behind id (r ∷ []) p n hs mine.0 mine.1 ∙ sym (times-append p n (all_records hs) (r ∷ []))

  clients_same : (n : Name) (p : RecordKind → Bool) → times p n (client_records (behind id (r ∷ []) hs)) ≡ times p n (joined_if (is_client id) (client_records hs) (r ∷ []))
  clients_same n p = client_times_behind id (r ∷ []) p n hs mine.0 mine.1 ∙ by_side (is_client id)
    where
      by_side : (b : Bool) → times p n (client_records hs) + (if b then times p n (r ∷ []) else 0) ≡ times p n (joined_if b (client_records hs) (r ∷ []))
      by_side true = sym (times-append p n (client_records hs) (r ∷ []))
      by_side false = omega arith

  trail_there : (n : Name) → id ≡ Client n.client → (x : Trail) → with_trail others id x (Client n.client) ≡ Some x
  trail_there n is x = subst (λ i. with_trail others id x i ≡ Some x) is (own_trail others id x)

  named_on : (n : Name) → r.name ≡ Some n → IsKept n (client_records (behind id (r ∷ []) hs)) (all_records (behind id (r ∷ []) hs)) (spent_by (with_trail others id t (Client n.client)) used n) (more n)
  named_on n is =
      kept_on n (client_records hs) (all_records hs) (client_records (behind id (r ∷ []) hs)) (all_records (behind id (r ∷ []) hs))
      (spent_by (with_trail others id s (Client n.client)) used n) (spent_by (with_trail others id t (Client n.client)) used n) (is_client id) r (spent_up n)
      (λ g. let now = next_given id s t r leads n is g in subst (λ o. spent_by o used n) (sym (trail_there n now.0 t)) now.2)
      (λ g was. let now = next_given id s t r leads n is g in
      let had : n.seq ≤ s.given = subst (λ o. spent_by o used n) (trail_there n now.0 s) was in
      let next = now.1 in
      omega (arith, had, next))
      is (clients_same n) (all_same n) (lives n) (more n) (a.dispatches n) (goes.own n is)

  other_on : (n : Name) → is_named n r.name ≡ false → IsKept n (client_records (behind id (r ∷ []) hs)) (all_records (behind id (r ∷ []) hs)) (spent_by (with_trail others id t (Client n.client)) used n) (more n)
  other_on n off =
      subst (IsKept n (client_records (behind id (r ∷ []) hs)) (all_records (behind id (r ∷ []) hs)) (spent_by (with_trail others id t (Client n.client)) used n)) (sym (goes.others n off))
      (kept_still n (client_records hs) (all_records hs) (client_records (behind id (r ∷ []) hs)) (all_records (behind id (r ∷ []) hs))
      (spent_by (with_trail others id s (Client n.client)) used n) (spent_by (with_trail others id t (Client n.client)) used n) (spent_up n)
      (λ p. clients_same n p ∙ by_side p (is_client id)) (λ p. all_same n p ∙ times_none p n r (all_records hs) off) (lives n) (a.dispatches n))
    where
      by_side : (p : RecordKind → Bool) (b : Bool) → times p n (joined_if b (client_records hs) (r ∷ [])) ≡ times p n (client_records hs)
      by_side p true = times_none p n r (client_records hs) off
      by_side p false = refl

  dispatches_all : (n : Name) → IsKept n (client_records (behind id (r ∷ []) hs)) (all_records (behind id (r ∷ []) hs)) (spent_by (with_trail others id t (Client n.client)) used n) (more n)
  dispatches_all n = by_test (is_named n r.name) refl
    where
      by_test : (b : Bool) → is_named n r.name ≡ b → IsKept n (client_records (behind id (r ∷ []) hs)) (all_records (behind id (r ∷ []) hs)) (spent_by (with_trail others id t (Client n.client)) used n) (more n)
      by_test true e = named_on n (named_so n r.name e)
      by_test false e = other_on n e

  undone_all : (n : Name) (l : Life) → more n ≡ Some l → is_done l ≡ false
  undone_all n l at = by_test (is_named n r.name) refl
    where
      by_test : (b : Bool) → is_named n r.name ≡ b → is_done l ≡ false
      by_test true e = undone_of (life_or (lives n)) (is_client id) r (more n) (goes.own n (named_so n r.name e)) l at
      by_test false e = a.undone n l (sym (goes.others n e) ∙ at)

  pub taken_one : AreTaken boot (behind id (r ∷ []) hs) (with_trail others id t) more used
  taken_one =
      record {
        own = own_behind id (r ∷ []) hs mine.0 mine.1 a.own (own_next mine.0 mine.2, tt);
        leads = leads_all;
        numbered = numbered_all;
        undone = undone_all;
        dispatches = dispatches_all;
        knows = known_one id r lives more goes hs mine.0 mine.1 leads.own rested used a.knows;
      }
    where
      rested : is_epoch r.kind ≡ true → NothingWaits id (reverse mine.0.records)
      rested e =
          subst (λ i. NothingWaits i (reverse mine.0.records)) (mine.2.id ∙ kept_is id hs mine.0 mine.1)
          (leads.steps.rested boot (reverse mine.0.records) mine.2.stands e)

pub takes_one : (boot : ℕ) (id : SessionId) (s t : Trail) (lives more : Name → Option Life) (r : Record) → is_of_other_boot boot r ≡ false → TrailGoesOn id s r t →
    AllGoOn lives (is_client id) r more → Takes boot id s lives (r ∷ []) t more
takes_one boot id s t lives more r own leads goes hs others used a = taken_one boot id s t lives more r own leads goes hs others used a

-- some records, and then some more
pub takes_none : (boot : ℕ) (id : SessionId) (s : Trail) (lives : Name → Option Life) → Takes boot id s lives [] s lives
takes_none boot id s lives hs others used a = subst (λ l. AreTaken boot l (with_trail others id s) lives used) (sym (behind_none id hs)) a

pub takes_more : (boot : ℕ) (id : SessionId) (s t u : Trail) (lives more most : Name → Option Life) (xs ys : List Record) → Takes boot id s lives xs t more → Takes boot id t more ys u most →
    Takes boot id s lives (xs ++ ys) u most
takes_more boot id s t u lives more most xs ys f g hs others used a =
    subst (λ l. AreTaken boot l (with_trail others id u) most used) (behind_more id xs ys hs) (g (behind id xs hs) others used (f hs others used a))

-- more room alone
pub takes_still : (boot : ℕ) (id : SessionId) (s t : Trail) (lives more : Name → Option Life) → TrailStays s t → ((n : Name) → more n ≡ lives n) → Takes boot id s lives [] t more
takes_still boot id s t lives more still same hs others used a =
    subst (λ l. AreTaken boot l (with_trail others id t) more used) (sym (behind_none id hs))
    (record {
      own = a.own;
      leads = λ q x at. leads q x at;
      numbered = λ k x at. numbered k x at;
      undone = λ n l at. a.undone n l (sym (same n) ∙ at);
      dispatches = λ n. subst (IsKept n (client_records hs) (all_records hs) (spent_by (with_trail others id t (Client n.client)) used n)) (sym (same n))
          (kept_still n (client_records hs) (all_records hs) (client_records hs) (all_records hs) (spent_by (with_trail others id s (Client n.client)) used n)
          (spent_by (with_trail others id t (Client n.client)) used n) (spent n) (λ p. refl) (λ p. refl) (lives n) (a.dispatches n));
      knows = known_still hs lives more used same a.knows;
    })
  where
    leads : (q : SessionId) (x : Trail) → with_trail others id t q ≡ Some x → (h : Kept) × (kept_of q hs ≡ Some h) × IsTrail boot x h
    leads q x at = by_test (same_session id q) refl at
      where
        by_test : (b : Bool) → same_session id q ≡ b → (if b then Some t else others q) ≡ Some x → (h : Kept) × (kept_of q hs ≡ Some h) × IsTrail boot x h
        by_test true e found =
            let was = a.leads q s (ap (λ b. if b then Some s else others q) e) in
            let trail : t ≡ x = same_trail t x found in (
              was.0,
              was.1,
              subst (λ y. IsTrail boot y was.0) trail (record {
                id = still.id ∙ was.2.id;
                mode = still.mode ∙ was.2.mode;
                stands = still.stands boot (reverse was.0.records) was.2.stands;
                given = still.given ∙ was.2.given;
                taken = still.taken ∙ was.2.taken;
              }),
            )
        by_test false e found = a.leads q x (ap (λ b. if b then Some s else others q) e ∙ found)

    numbered : (k : ℕ) (x : Trail) → with_trail others id t (Client k) ≡ Some x → used k ≡ true
    numbered k x at = by_test (same_session id (Client k)) refl at
      where
        by_test : (b : Bool) → same_session id (Client k) ≡ b → (if b then Some t else others (Client k)) ≡ Some x → used k ≡ true
        by_test true e found = a.numbered k s (ap (λ b. if b then Some s else others (Client k)) e)
        by_test false e found = a.numbered k x (ap (λ b. if b then Some s else others (Client k)) e ∙ found)

    spent : (n : Name) → spent_by (with_trail others id s (Client n.client)) used n → spent_by (with_trail others id t (Client n.client)) used n
    spent n was = by_test (same_session id (Client n.client)) was
      where
        by_test : (b : Bool) → spent_by (if b then Some s else others (Client n.client)) used n → spent_by (if b then Some t else others (Client n.client)) used n
        by_test true w = subst (λ g. n.seq ≤ g) (sym still.given) w
        by_test false w = w

-- one record further, where the program lends its records
pub takes_next : (boot : ℕ) (id : SessionId) (s t u : Trail) (lives more most : Name → Option Life) (rs : List Record) (k : ℕ) (d : Record) → k < length rs →
    Takes boot id s lives (take k rs) t more → Takes boot id t more (get_or rs k d ∷ []) u most → Takes boot id s lives (take (k + 1) rs) u most
takes_next boot id s t u lives more most rs k d h f g =
    subst (λ l. Takes boot id s lives l u most) (sym (take_more rs k d h)) (takes_more boot id s t u lives more most (take k rs) (get_or rs k d ∷ []) f g)

-- with room made before
pub takes_after : (boot : ℕ) (id : SessionId) (s t u : Trail) (lives more most : Name → Option Life) (rs : List Record) → Takes boot id s lives rs t more → Takes boot id t more [] u most → Takes boot id s lives rs u most
takes_after boot id s t u lives more most rs f g = subst (λ l. Takes boot id s lives l u most) (append-nil rs) (takes_more boot id s t u lives more most rs [] f g)

-- no record, no session
pub taken_none : (boot : ℕ) (trails : SessionId → Option Trail) (lives : Name → Option Life) (used : ℕ → Bool) → ((id : SessionId) → trails id ≡ None) → ((n : Name) → lives n ≡ None) → AreTaken boot [] trails lives used
taken_none boot trails lives used none bare =
    record {
      own = tt;
      leads = λ id s at. absurd (no_trail id s at);
      numbered = λ k s at. absurd (no_trail (Client k) s at);
      undone = λ n l at. let e : ◌≡◌ {A = Option Life} None (Some l) = sym (bare n) ∙ at in absurd (cc e);
      dispatches = λ n. subst (IsKept n [] [] (spent_by (trails (Client n.client)) used n)) (sym (bare n)) (known None (bare_life n) (λ e. absurd (cc)));
      knows = known_none lives used bare;
    }
  where
    no_trail : (id : SessionId) (s : Trail) → trails id ≡ Some s → ⊥
    no_trail id s at = let e : ◌≡◌ {A = Option Trail} None (Some s) = sym (none id) ∙ at in absurd (cc e)
