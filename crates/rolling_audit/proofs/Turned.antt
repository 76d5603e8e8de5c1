-- What is next for each session, once a session's place was changed.
use Rattle.std.proofs.Common.{ℕ, zero, suc, List, ◌∷◌, ◌≡◌, ◌<◌, ◌==◌, ◌&&◌, Bool, true, false, true≢false, not, mod-lt, mod-eq_of_lt, ◌-◌, refl, sym, ◌∙◌, ap, subst, arith, Option, Some, None, eqb-true, if◌then◌else◌, is_some, is_none, get_or, length, map, nat_le, nat_lt, replicate, slice_get, slice_set}
use Rattle.std.proofs.lemmas.Bool.{eq-eqb}
use Rattle.std.specs.Prelude.{IsSome, option_map}
use Rattle.std.proofs.lemmas.List.{get_or-replicate, length-map, length-replicate, length-set, map-set, set-set}
use Rattle.std.proofs.lemmas.Option.{slice_get-get_or, slice_get-map, slice_get_within}
use Rattle.mux_history.specs.declared.session.SessionId.{SessionId}
use Rattle.mux_history.specs.declared.session.SessionId.TheVariants.{Client, Server}
use Rattle.rolling_audit.specs.Histories.{same_session}
use Rattle.rolling_audit.specs.Slots.{at_place, at_slot, is_passed, lasts_with, place_of, share_place, share_slot, slot_of, used_in}
use Rattle.rolling_audit.proofs.Behinds.{same_is}
use Rattle.rolling_audit.proofs.Numbers.{free_slot, positive, put_at_place, put_at_slot, used_now}
use Rattle.rolling_audit.specs.declared.turns.Present.{Present}
use Rattle.rolling_audit.specs.declared.turns.Progress.{Progress}
use Rattle.rolling_audit.specs.declared.turns.Turns.{Turns}
use Rattle.rolling_audit.specs.Covering.{HaveCome}
use Rattle.rolling_audit.specs.Opening.{lasts_if}
use Rattle.rolling_audit.specs.Turns.{AreFirst, Closes, Puts, Sets, Slots, are_of_slot, begins_at, clients_with, comes_behind, first_turn, next_at, next_behind, next_beside, next_in, numbers_of, slots_of}

-- how many slots clients have
abbrev client_slots : Turns → ℕ
client_slots t = length t.clients.items

-- THE PRESENT CLIENT OF A SLOT

-- a client that is there has a slot, whose present client has no greater number
record IsPresent (t : Turns) (k : ℕ) : Type 0 where
  pub some : (k == 0) ≡ false
  pub present : Present
  pub at : at_slot t.clients.items k ≡ Some present
  pub within : slot_of (client_slots t) k < client_slots t
  pub reaches : nat_le present.number k ≡ true

present_of : (t : Turns) (k : ℕ) → IsSome (next_in t (Client k)) → IsPresent t k
present_of t k there = by_zero (k == 0) refl
  where
    reaches : (e : Present) → IsSome (next_behind e k) → nat_le e.number k ≡ true
    reaches e some = by_same (e.number == k) refl some
      where
        by_less : (b : Bool) → nat_lt e.number k ≡ b → is_some (if b && is_none e.next then Some first_turn else None) ≡ true → nat_le e.number k ≡ true
        by_less true less there = grind (arith, less)
        by_less false less there = absurd (cc there)

        by_same : (b : Bool) → (e.number == k) ≡ b → is_some (if b then e.next else (if nat_lt e.number k && is_none e.next then Some first_turn else None)) ≡ true → nat_le e.number k ≡ true
        by_same true same there = grind (arith, same)
        by_same false other there = by_less (nat_lt e.number k) refl there

    by_zero : (b : Bool) → (k == 0) ≡ b → IsPresent t k
    by_zero true zero_it =
        let none = sym (ap (λ b. is_some (next_at (if b then None else slice_get t.clients.items (slot_of (client_slots t) k)) k)) zero_it) ∙ there in absurd (cc none)
    by_zero false some_it = by_entry (slice_get t.clients.items (slot_of (client_slots t) k)) refl
      where
        at : at_slot t.clients.items k ≡ slice_get t.clients.items (slot_of (client_slots t) k)
        at = ap (λ b. if b then None else slice_get t.clients.items (slot_of (client_slots t) k)) some_it

        by_entry : (o : Option Present) → slice_get t.clients.items (slot_of (client_slots t) k) ≡ o → IsPresent t k
        by_entry None is = let none = sym (ap (λ o. is_some (next_at o k)) (at ∙ is)) ∙ there in absurd (cc none)
        by_entry (Some e) is =
            record {
              some = some_it;
              present = e;
              at = at ∙ is;
              within = slice_get_within t.clients.items (slot_of (client_slots t) k) e is;
              reaches = reaches e (sym (ap (λ o. is_some (next_at o k)) (at ∙ is)) ∙ there);
            }

numbers_at : (t : Turns) (k : ℕ) → at_slot (numbers_of t) k ≡ option_map (λ e. e.number) (at_slot t.clients.items k)
numbers_at t k =
    ap (λ n. if k == 0 then None else slice_get (numbers_of t) (slot_of n k)) (length-map t.clients.items (λ e. e.number))
    ∙ (ap (λ o. if k == 0 then None else o) (slice_get-map (λ e. e.number) t.clients.items (slot_of (client_slots t) k)) ∙ by_test (k == 0))
  where
    by_test : (b : Bool) → (if b then None else option_map (λ e. e.number) (slice_get t.clients.items (slot_of (client_slots t) k)))
        ≡ option_map (λ e. e.number) (if b then None else slice_get t.clients.items (slot_of (client_slots t) k))
    by_test true = refl
    by_test false = refl

-- WHAT WAS PUT

same_slots : (a b c d : ℕ) → a ≡ c → b ≡ d → ◌≡◌ {A = Slots} (record { clients = a; servers = b }) (record { clients = c; servers = d })
same_slots a b c d clients servers = cc

pub puts_slots : (old new : Turns) (id : SessionId) (o : Option Progress) → Puts old id o new → slots_of new ≡ slots_of old
puts_slots old new (Client k) o puts =
    same_slots _ _ _ _
    (ap length puts.clients ∙ length-set old.clients.items (slot_of (client_slots old) k) (record { number = k; next = o })) (ap length puts.servers)
puts_slots old new (Server k) o puts =
    same_slots _ _ _ _ (ap length puts.clients)
    (ap length puts.servers ∙ length-set old.servers.items (place_of (length old.servers.items) k) (record { number = k; next = o }))

pub puts_numbers : (old new : Turns) (id : SessionId) (o : Option Progress) → Puts old id o new → numbers_of new ≡ lasts_with id (numbers_of old)
puts_numbers old new (Client k) o puts =
    ap (map (λ e. e.number)) puts.clients
    ∙ (map-set (λ e. e.number) old.clients.items (slot_of (client_slots old) k) (record { number = k; next = o })
    ∙ ap (λ n. slice_set (numbers_of old) (slot_of n k) k) (sym (length-map old.clients.items (λ e. e.number))))
puts_numbers old new (Server k) o puts = ap (map (λ e. e.number)) puts.clients

-- what is next, once this was put in the place of a session
abbrev put_next : Slots → SessionId → Option Progress → SessionId → Option Progress → Option Progress
put_next slots id o q next =
    if same_session id q then o
    else if are_of_slot slots id q then (if comes_behind id q && is_none o then Some first_turn else None) else next

puts_client : (old new : Turns) (k : ℕ) (o : Option Progress) → Puts old (Client k) o new → IsPresent old k → (q : ℕ) →
    next_in new (Client q) ≡ put_next (slots_of old) (Client k) o (Client q) (next_in old (Client q))
puts_client old new k o puts present q = by_zero (q == 0) refl
  where
    is : next_in new (Client q) ≡ next_at (at_slot (clients_with (Client k) o old.clients.items) q) q
    is = ap (λ es. next_at (at_slot es q) q) puts.clients

    none : (q == 0) ≡ true → (t : Turns) → next_in t (Client q) ≡ None
    none e t = ap (λ b. next_at (if b then None else slice_get t.clients.items (slot_of (client_slots t) q)) q) e

    other : (q == 0) ≡ true → (k == q) ≡ false
    other e = let some = present.some in grind (arith, e, some)

    at_zero : (q == 0) ≡ true → (b : Bool) → share_slot (client_slots old) k q ≡ b →
        ◌≡◌ {A = Option Progress} None (if b then (if nat_lt k q && is_none o then Some first_turn else None) else next_in old (Client q))
    at_zero e true share = ap (λ b. if b && is_none o then Some first_turn else None) (less e)
      where
        less : (q == 0) ≡ true → false ≡ nat_lt k q
        less e = grind (arith, e)
    at_zero e false share = sym (none e old)

    by_share : (q == 0) ≡ false → (b : Bool) → share_slot (client_slots old) k q ≡ b →
        next_at (if b then Some (record { number = k; next = o }) else at_slot old.clients.items q) q
        ≡ (if k == q then o else (if b then (if nat_lt k q && is_none o then Some first_turn else None) else next_in old (Client q)))
    by_share e true share = refl
    by_share e false share = ap (λ b. if b then o else next_in old (Client q)) (apart (k == q) refl)
      where
        apart : (b : Bool) → (k == q) ≡ b → false ≡ (k == q)
        apart true same =
            let shares : share_slot (client_slots old) k q ≡ true =
            subst (λ j. share_slot (client_slots old) k j ≡ true) (eqb-true k q same) (eq-eqb _ (slot_of (client_slots old) k) refl) in
            absurd (true≢false (sym shares ∙ share))
        apart false off = sym off

    by_zero : (b : Bool) → (q == 0) ≡ b → next_in new (Client q) ≡ put_next (slots_of old) (Client k) o (Client q) (next_in old (Client q))
    by_zero true e =
        none e new
        ∙ (at_zero e (share_slot (client_slots old) k q) refl
        ∙ ap (λ b. if b then o else (if share_slot (client_slots old) k q then (if nat_lt k q && is_none o then Some first_turn else None) else next_in old (Client q))) (sym (other e)))
    by_zero false e =
        is
        ∙ (ap (λ x. next_at x q) (put_at_slot old.clients.items k (record { number = k; next = o }) q present.within e)
        ∙ by_share e (share_slot (client_slots old) k q) refl)

puts_server : (old new : Turns) (k : ℕ) (o : Option Progress) → Puts old (Server k) o new → IsSome (next_in old (Server k)) → (q : ℕ) →
    next_in new (Server q) ≡ put_next (slots_of old) (Server k) o (Server q) (next_in old (Server q))
puts_server old new k o puts there q =
    ap (λ es. next_at (at_place es q) q) puts.servers
    ∙ (ap (λ x. next_at x q) (put_at_place old.servers.items k (record { number = k; next = o }) q within) ∙ by_share (share_place (length old.servers.items) k q) refl)
  where
    within : place_of (length old.servers.items) k < length old.servers.items
    within = by_entry (at_place old.servers.items k) refl
      where
        by_entry : (x : Option Present) → at_place old.servers.items k ≡ x → place_of (length old.servers.items) k < length old.servers.items
        by_entry None is = let none = sym (ap (λ x. is_some (next_at x k)) is) ∙ there in absurd (cc none)
        by_entry (Some e) is = slice_get_within old.servers.items (place_of (length old.servers.items) k) e is

    by_share : (b : Bool) → share_place (length old.servers.items) k q ≡ b →
        next_at (if b then Some (record { number = k; next = o }) else at_place old.servers.items q) q
        ≡ (if k == q then o else (if b then (if nat_lt k q && is_none o then Some first_turn else None) else next_in old (Server q)))
    by_share true share = refl
    by_share false share = ap (λ b. if b then o else next_in old (Server q)) (apart (k == q) refl)
      where
        apart : (b : Bool) → (k == q) ≡ b → false ≡ (k == q)
        apart true same =
            let shares : share_place (length old.servers.items) k q ≡ true =
            subst (λ j. share_place (length old.servers.items) k j ≡ true) (eqb-true k q same) (eq-eqb _ (place_of (length old.servers.items) k) refl) in
            absurd (true≢false (sym shares ∙ share))
        apart false off = sym off

puts_next : (old new : Turns) (id : SessionId) (o : Option Progress) → Puts old id o new → IsSome (next_in old id) → (q : SessionId) →
    next_in new q ≡ put_next (slots_of old) id o q (next_in old q)
puts_next old new (Client k) o puts there (Client q) = puts_client old new k o puts (present_of old k there) q
puts_next old new (Client k) o puts there (Server q) = ap (λ es. next_at (at_place es q) q) puts.servers
puts_next old new (Server k) o puts there (Client q) = ap (λ es. next_at (at_slot es q) q) puts.clients
puts_next old new (Server k) o puts there (Server q) = puts_server old new k o puts there q

pub sets_by : (old new : Turns) (id : SessionId) (p : Progress) → Puts old id (Some p) new → IsSome (next_in old id) → Sets old id p new
sets_by old new id p puts there =
    record {
      slots = puts_slots old new id (Some p) puts;
      numbers = puts_numbers old new id (Some p) puts;
      next = λ q. puts_next old new id (Some p) puts there q ∙ ap (λ o. if same_session id q then Some p else (if are_of_slot (slots_of old) id q then o else next_in old q)) (none (comes_behind id q));
    }
  where
    none : (b : Bool) → (if b && is_none (Some p) then Some first_turn else None) ≡ None
    none true = refl
    none false = refl

abbrev ended : Option Progress
ended = None

pub closes_by : (old new : Turns) (id : SessionId) → Puts old id None new → IsSome (next_in old id) → Closes old id new
closes_by old new id puts there =
    record {
      slots = puts_slots old new id None puts;
      numbers = puts_numbers old new id None puts;
      next = λ q. puts_next old new id None puts there q ∙ ap (λ o. if same_session id q then None else (if are_of_slot (slots_of old) id q then o else next_in old q)) (first (comes_behind id q));
    }
  where
    first : (b : Bool) → (if b && is_none ended then Some first_turn else None) ≡ (if b then Some first_turn else None)
    first true = refl
    first false = refl

-- what is next for a session that was set twice
pub sets_twice : (a b c : Turns) (id : SessionId) (p r : Progress) → Sets a id p b → Sets b id r c → Sets a id r c
sets_twice a b c id p r f g =
    record {
      slots = g.slots ∙ f.slots;
      numbers = g.numbers ∙ (ap (lasts_with id) f.numbers ∙ again id (numbers_of a));
      next = λ q. g.next q ∙ (ap (λ n. next_beside n id r q (next_in b q)) f.slots ∙ (ap (next_beside (slots_of a) id r q) (f.next q) ∙ by_tests (same_session id q) (are_of_slot (slots_of a) id q) q));
    }
  where
    again : (id : SessionId) (ns : List ℕ) → lasts_with id (lasts_with id ns) ≡ lasts_with id ns
    again (Client k) ns =
        ap (λ n. slice_set (slice_set ns (slot_of (length ns) k) k) (slot_of n k) k) (length-set ns (slot_of (length ns) k) k) ∙ set-set ns (slot_of (length ns) k) k k
    again (Server k) ns = refl

    by_tests : (s t : Bool) (q : SessionId) → (if s then Some r else (if t then None else (if s then Some p else (if t then None else next_in a q))))
        ≡ (if s then Some r else (if t then None else next_in a q))
    by_tests true t q = refl
    by_tests false true q = refl
    by_tests false false q = refl

-- what is there was there before
pub there_before : (old new : Turns) (id : SessionId) (p : Progress) → Sets old id p new → IsSome (next_in old id) → (q : SessionId) →
    is_some (next_in new q) ≡ true → is_some (next_in old q) ≡ true
there_before old new id p sets some q there = by_test (same_session id q) refl (sym (ap is_some (sets.next q)) ∙ there)
  where
    by_slot : (b : Bool) → is_some (if b then None else next_in old q) ≡ true → is_some (next_in old q) ≡ true
    by_slot true none = absurd (cc none)
    by_slot false is = is

    by_test : (b : Bool) → same_session id q ≡ b → is_some (if b then Some p else (if are_of_slot (slots_of old) id q then None else next_in old q)) ≡ true → is_some (next_in old q) ≡ true
    by_test true e is = subst (λ i. is_some (next_in old i) ≡ true) (same_is id q e) some
    by_test false e is = by_slot (are_of_slot (slots_of old) id q) is

-- before the first client of each slot
pub no_clients : (n : ℕ) (e : Present) → map (λ e. e.number) (replicate n e) ≡ replicate n e.number
no_clients zero e = refl
no_clients (suc n) e = ap (λ ns. e.number ∷ ns) (no_clients n e)

-- the first of each slot are there, and no other server
pub first_next : (t : Turns) (n k : ℕ) → AreFirst t.servers.items n → next_in t (Server k) ≡ (if nat_lt k n then Some first_turn else None)
first_next t n k is = by_low (nat_lt k n) refl
  where
    by_low : (b : Bool) → nat_lt k n ≡ b → next_in t (Server k) ≡ (if b then Some first_turn else None)
    by_low true e = by_place (low e)
      where
        low : nat_lt k n ≡ true → k < n
        low e = grind (arith, e)

        by_place : k < n → next_in t (Server k) ≡ Some first_turn
        by_place less =
            ap (λ p. next_at (slice_get t.servers.items p) k) (ap (λ m. place_of m k) is.0 ∙ mod-eq_of_lt less)
            ∙ (ap (λ x. next_at x k) (is.1 k less) ∙ ap (λ b. if b then Some first_turn else (if nat_lt k k && false then Some first_turn else None)) (eq-eqb k k refl))
    by_low false e = by_entry (at_place t.servers.items k) refl
      where
        by_entry : (x : Option Present) → at_place t.servers.items k ≡ x → next_in t (Server k) ≡ None
        by_entry None at = ap (λ x. next_at x k) at
        by_entry (Some p) at = ap (λ x. next_at x k) (sym whole) ∙ apart (place_of n k) (other n k within e)
          where
            within : place_of n k < n
            within = subst (λ m. place_of m k < m) is.0 (slice_get_within t.servers.items (place_of (length t.servers.items) k) p at)

            whole : Some (record { number = place_of n k; next = Some first_turn }) ≡ at_place t.servers.items k
            whole = sym (ap (λ m. slice_get t.servers.items (place_of m k)) is.0 ∙ is.1 (place_of n k) within)

            other : (n k : ℕ) → place_of n k < n → nat_lt k n ≡ false → (place_of n k == k) ≡ false
            other n k within high = grind (arith, within, high)

            apart : (m : ℕ) → (m == k) ≡ false → next_behind (record { number = m; next = Some first_turn }) k ≡ None
            apart m off = ap (λ b. if b then Some first_turn else (if nat_lt m k && false then Some first_turn else None)) off ∙ none (nat_lt m k)
              where
                none : (b : Bool) → (if b && false then Some first_turn else None) ≡ None
                none true = refl
                none false = refl

-- no client is there yet, but each slot may have one
none_next : (t : Turns) (n k : ℕ) → t.clients.items ≡ replicate n (record { number = 0; next = None }) → next_in t (Client k) ≡ (if nat_lt 0 k && nat_lt 0 n then Some first_turn else None)
none_next t n k is = by_zero (k == 0) refl
  where
    all : List Present
    all = replicate n (record { number = 0; next = None })

    here : next_in t (Client k) ≡ next_at (at_slot all k) k
    here = ap (λ es. next_at (at_slot es k) k) is

    len : length all ≡ n
    len = length-replicate n (record { number = 0; next = None })

    by_zero : (b : Bool) → (k == 0) ≡ b → next_in t (Client k) ≡ (if nat_lt 0 k && nat_lt 0 n then Some first_turn else None)
    by_zero true e = here ∙ (ap (λ b. next_at (if b then None else at_place all (k - 1)) k) e ∙ ap (λ b. if b && nat_lt 0 n then Some first_turn else None) (low k e))
      where
        low : (k : ℕ) → (k == 0) ≡ true → false ≡ nat_lt 0 k
        low k e = grind (arith, e)
    by_zero false e = here ∙ (ap (λ b. next_at (if b then None else at_place all (k - 1)) k) e ∙ (by_slots (nat_lt 0 n) refl ∙ ap (λ b. if b && nat_lt 0 n then Some first_turn else None) (sym (high k e))))
      where
        high : (k : ℕ) → (k == 0) ≡ false → nat_lt 0 k ≡ true
        high k e = grind (arith, e)

        apart : (k : ℕ) → (k == 0) ≡ false → (0 == k) ≡ false
        apart k e = grind (arith, e)

        by_slots : (b : Bool) → nat_lt 0 n ≡ b → next_at (at_place all (k - 1)) k ≡ (if true && b then Some first_turn else None)
        by_slots true some = ap (λ x. next_at x k) at ∙ (ap (λ b. if b then None else (if nat_lt 0 k && true then Some first_turn else None)) (apart k e) ∙ ap (λ b. if b && true then Some first_turn else None) (high k e))
          where
            within : place_of (length all) (k - 1) < length all
            within = mod-lt (k - 1) (subst (λ m. 0 < m) (sym len) (more some))
              where
                more : nat_lt 0 n ≡ true → 0 < n
                more some = grind (arith, some)

            at : at_place all (k - 1) ≡ Some (record { number = 0; next = None })
            at =
                slice_get-get_or all (place_of (length all) (k - 1)) (record { number = 0; next = None }) within
                ∙ ap Some (get_or-replicate n (place_of (length all) (k - 1)) (record { number = 0; next = None }) (record { number = 0; next = None }) (subst (λ m. place_of (length all) (k - 1) < m) len within))
        by_slots false none = ap (λ es. next_at (at_place es (k - 1)) k) (ap (λ m. replicate m (record { number = 0; next = None })) (empty n none))
          where
            empty : (n : ℕ) → nat_lt 0 n ≡ false → n ≡ 0
            empty n none = grind (arith, none)

pub begins_by : (t : Turns) (slots servers : ℕ) → t.clients.items ≡ replicate slots (record { number = 0; next = None }) → AreFirst t.servers.items servers → (id : SessionId) →
    next_in t id ≡ begins_at slots servers id
begins_by t slots servers clients first (Client k) = none_next t slots k clients
begins_by t slots servers clients first (Server k) = first_next t servers k first

-- WHO HAS COME

used_zero : (lasts : List ℕ) (q : ℕ) → (q == 0) ≡ true → used_in lasts q ≡ true
used_zero lasts q e = ap (λ b. is_passed (if b then None else slice_get lasts (slot_of (length lasts) q)) q) e

-- of the clients of a slot those have come whose numbers aren't above that of a client that is there
module _ (t : Turns) (k : ℕ) (there : IsSome (next_in t (Client k))) where
  present : IsPresent t k
  present = present_of t k there

  slots_same : length (numbers_of t) ≡ client_slots t
  slots_same = length-map t.clients.items (λ e. e.number)

  pub slot_within : (n : ℕ) → n ≡ length (numbers_of t) → slot_of n k < n
  slot_within n is = subst (λ m. slot_of m k < m) (sym (is ∙ slots_same)) present.within

  pub come_below : (q : ℕ) → share_slot (client_slots t) k q ≡ true → (q == 0) ≡ false → used_in (numbers_of t) q ≡ true → nat_le q k ≡ true
  come_below q share some used =
      let low = sym (ap (λ o. is_passed o q) at_q) ∙ used in
      let high = present.reaches in
      below q present.present.number k low high
    where
      below : (q c k : ℕ) → nat_le q c ≡ true → nat_le c k ≡ true → nat_le q k ≡ true
      below q c k a b = grind (arith, a, b)

      at_q : at_slot (numbers_of t) q ≡ Some present.present.number
      at_q =
          numbers_at t q
          ∙ ap (option_map (λ e. e.number))
          (ap (λ b. if b then None else slice_get t.clients.items (slot_of (client_slots t) q)) some
          ∙ (ap (slice_get t.clients.items) (sym (eqb-true (slot_of (client_slots t) k) (slot_of (client_slots t) q) share))
          ∙ (ap (λ b. if b then None else slice_get t.clients.items (slot_of (client_slots t) k)) (sym present.some) ∙ present.at)))

  numbers_now : (q : ℕ) → (q == 0) ≡ false →
      used_in (lasts_with (Client k) (numbers_of t)) q ≡ (if share_slot (client_slots t) k q then nat_le q k else used_in (numbers_of t) q)
  numbers_now q some =
      used_now (numbers_of t) k q (slot_within (length (numbers_of t)) refl) some
      ∙ ap (λ n. if share_slot n k q then nat_le q k else used_in (numbers_of t) q) slots_same

  numbers_rise : (q : ℕ) → used_in (numbers_of t) q ≡ true → used_in (lasts_with (Client k) (numbers_of t)) q ≡ true
  numbers_rise q used = by_zero (q == 0) refl
    where
      by_share : (q == 0) ≡ false → (b : Bool) → share_slot (client_slots t) k q ≡ b → (if b then nat_le q k else used_in (numbers_of t) q) ≡ true
      by_share some true e = come_below q e some used
      by_share some false e = used

      by_zero : (b : Bool) → (q == 0) ≡ b → used_in (lasts_with (Client k) (numbers_of t)) q ≡ true
      by_zero true e = used_zero (lasts_with (Client k) (numbers_of t)) q e
      by_zero false e = numbers_now q e ∙ by_share e (share_slot (client_slots t) k q) refl

  -- the client is opened
  come_with : (lasts : List ℕ) → HaveCome lasts (numbers_of t) → (q : ℕ) → used_in (lasts_with (Client k) lasts) q ≡ true →
      used_in (lasts_with (Client k) (numbers_of t)) q ≡ true
  come_with lasts h q used = by_zero (q == 0) refl
    where
      same : length lasts ≡ client_slots t
      same = h.slots ∙ slots_same

      was : (q == 0) ≡ false → (if share_slot (client_slots t) k q then nat_le q k else used_in lasts q) ≡ true
      was some =
          ap (λ n. if share_slot n k q then nat_le q k else used_in lasts q) (sym same)
          ∙ (sym (used_now lasts k q (slot_within (length lasts) h.slots) some) ∙ used)

      by_share : (b : Bool) → (if b then nat_le q k else used_in lasts q) ≡ true → (if b then nat_le q k else used_in (numbers_of t) q) ≡ true
      by_share true is = is
      by_share false is = h.come q is

      by_zero : (b : Bool) → (q == 0) ≡ b → used_in (lasts_with (Client k) (numbers_of t)) q ≡ true
      by_zero true e = used_zero (lasts_with (Client k) (numbers_of t)) q e
      by_zero false e = numbers_now q e ∙ by_share (share_slot (client_slots t) k q) (was e)

lasts_slots : (id : SessionId) (ns : List ℕ) → length (lasts_with id ns) ≡ length ns
lasts_slots (Client k) ns = length-set ns (slot_of (length ns) k) k
lasts_slots (Server k) ns = refl

-- a session that is there becomes the present one of its slot
pub come_set : (old new : Turns) (id : SessionId) (lasts : List ℕ) → numbers_of new ≡ lasts_with id (numbers_of old) → IsSome (next_in old id) →
    HaveCome lasts (numbers_of old) → HaveCome lasts (numbers_of new)
come_set old new id lasts numbers there h =
    record {
      slots = h.slots ∙ (sym (lasts_slots id (numbers_of old)) ∙ ap length (sym numbers));
      come = λ q used. ap (λ ns. used_in ns q) numbers ∙ by_side id there q (h.come q used);
    }
  where
    by_side : (id : SessionId) → IsSome (next_in old id) → (q : ℕ) → used_in (numbers_of old) q ≡ true → used_in (lasts_with id (numbers_of old)) q ≡ true
    by_side (Client k) there q used = numbers_rise old k there q used
    by_side (Server k) there q used = used

pub come_opened : (old new : Turns) (id : SessionId) (lasts : List ℕ) (opens : Bool) → numbers_of new ≡ lasts_with id (numbers_of old) → IsSome (next_in old id) →
    HaveCome lasts (numbers_of old) → HaveCome (lasts_if opens id lasts) (numbers_of new)
come_opened old new id lasts false numbers there h = come_set old new id lasts numbers there h
come_opened old new (Server k) lasts true numbers there h = come_set old new (Server k) lasts numbers there h
come_opened old new (Client k) lasts true numbers there h =
    record {
      slots = lasts_slots (Client k) lasts ∙ (h.slots ∙ (sym (lasts_slots (Client k) (numbers_of old)) ∙ ap length (sym numbers)));
      come = λ q used. ap (λ ns. used_in ns q) numbers ∙ come_with old k there lasts h q used;
    }

-- a session that is opened leaves clients as new as they were, but for those of its slot
pub new_beside : (t : Turns) (id : SessionId) (q : ℕ) (lasts : List ℕ) → HaveCome lasts (numbers_of t) → IsSome (next_in t id) →
    are_of_slot (slots_of t) id (Client q) ≡ false → is_some (next_in t (Client q)) ≡ true → used_in (lasts_with id lasts) q ≡ used_in lasts q
new_beside t (Client k) q lasts h there apart there_q =
    used_now lasts k q (slot_within t k there (length lasts) h.slots) (present_of t q there_q).some
    ∙ ap (λ b. if b then nat_le q k else used_in lasts q) (ap (λ n. share_slot n k q) (h.slots ∙ length-map t.clients.items (λ e. e.number)) ∙ apart)
new_beside t (Server k) q lasts h there apart there_q = refl

-- a session has ended, and clients that follow it in its slot weren't opened yet
pub next_new : (t : Turns) (id : SessionId) (q : ℕ) (lasts : List ℕ) → HaveCome lasts (numbers_of t) → IsSome (next_in t id) →
    are_of_slot (slots_of t) id (Client q) ≡ true → comes_behind id (Client q) ≡ true → used_in lasts q ≡ false
next_new t (Client k) q lasts h there share behind = by_used (used_in lasts q) refl
  where
    high : (k q : ℕ) → nat_lt k q ≡ true → (q == 0) ≡ false
    high k q less = grind (arith, less)

    apart : (k q : ℕ) → nat_lt k q ≡ true → nat_le q k ≡ true → ⊥
    apart k q less low = grind (arith, less, low)

    by_used : (b : Bool) → used_in lasts q ≡ b → b ≡ false
    by_used true e = absurd (apart k q behind (come_below t k there q share (high k q behind) (h.come q e)))
    by_used false e = refl
next_new t (Server k) q lasts h there share behind = absurd (cc share)

-- nobody has come before the first
pub none_used : (n k : ℕ) (lasts : List ℕ) → lasts ≡ replicate n 0 → 0 < k → 0 < n → used_in lasts k ≡ false
none_used n k lasts is some slots =
    ap (λ b. is_passed (if b then None else slice_get lasts (slot_of (length lasts) k)) k) (positive k some)
    ∙ (ap (λ o. is_passed o k) (slice_get-get_or lasts (slot_of (length lasts) k) 0 within
    ∙ ap Some (ap (λ l. get_or l (slot_of (length lasts) k) 0) is ∙ get_or-replicate n (slot_of (length lasts) k) 0 0 (subst (λ m. slot_of (length lasts) k < m) same within)))
    ∙ high k some)
  where
    same : length lasts ≡ n
    same = ap length is ∙ length-replicate n 0

    within : slot_of (length lasts) k < length lasts
    within = mod-lt (k - 1) (subst (λ m. 0 < m) (sym same) slots)

    high : (k : ℕ) → 0 < k → nat_le k 0 ≡ false
    high k h = grind (arith, h)

-- a client that was opened isn't new
pub begun_now : (k : ℕ) (lasts : List ℕ) → not (used_in (lasts_if (not (used_in lasts k)) (Client k) lasts) k) ≡ false
begun_now k lasts = by_used (used_in lasts k) refl
  where
    by_used : (b : Bool) → used_in lasts k ≡ b → not (used_in (if not b then lasts_with (Client k) lasts else lasts) k) ≡ false
    by_used true e = ap not e
    by_used false e = let free = free_slot lasts k e in ap not (used_now lasts k k free.1 free.0 ∙ own (slot_of (length lasts) k) k)
      where
        own : (s k : ℕ) → (if s == s then nat_le k k else used_in lasts k) ≡ true
        own s k = ap (λ b. if b then nat_le k k else used_in lasts k) (same s) ∙ low k
          where
            same : (s : ℕ) → (s == s) ≡ true
            same s = grind arith

            low : (k : ℕ) → nat_le k k ≡ true
            low k = grind arith
