-- Records that are taken behind those of one session, and what is told of them.
use Rattle.std.proofs.Common.{ℕ, List, [], ◌∷◌, ◌++◌, ◌+◌, ◌≡◌, ◌<◌, Bool, true, false, true≢false, not, replicate, inl, inr, refl, sym, ◌∙◌, ap, subst, arith, Option, Some, None, length, length-append, length-drop, cond, drop, take}
use Rattle.std.proofs.lemmas.Bool.{or_right}
use Rattle.std.specs.Prelude.{IfErr, IsSome, Result, Ok, Err, is_some, if◌then◌else◌, is_none, map, nat_lt, reverse, slice_range, ◌&&◌, ◌||◌, ◌-◌}
use Rattle.std.specs.List.{enumerate_from}
use Rattle.std.proofs.lemmas.Grind.{flat_map-append}
use Rattle.std.proofs.lemmas.List.{reverse-append, take_all}
use Rattle.std.proofs.lemmas.List.Sums.{sum_by-append}
use Rattle.mux_history.specs.declared.counts.KindCounts.{KindCounts}
use Rattle.mux_history.specs.declared.record.Record.{Record}
use Rattle.mux_history.specs.declared.session.InitMode.{InitMode}
use Rattle.mux_history.specs.declared.session.SessionId.{SessionId}
use Rattle.mux_history.specs.declared.session.SessionId.TheVariants.{Client, Server}
use Rattle.mux_history.specs.declared.shape.Shape.{Shape}
use Rattle.mux_history.specs.Counting.{Each, IsCount, capped, count_kind}
use Rattle.mux_history.specs.Packing.{shape_of}
use Rattle.mux_agree.specs.Walk.{Kept, all_records}
use Rattle.rolling_audit.specs.declared.rolling.RollingAudit.{RollingAudit}
use Rattle.rolling_audit.specs.declared.fault.RollingFault.TheVariants.{Memory as OutOfMemory, NotOpen, Record as FaultyRecord, Dispatch}
use Rattle.rolling_audit.specs.declared.trail.Trail.{Trail}
use Rattle.rolling_audit.specs.Faults.{IsFaulty}
use Rattle.rolling_audit.specs.Histories.{behind, kept_of, same_session}
use Rattle.rolling_audit.specs.Slots.{used_in}
use Rattle.rolling_audit.specs.Steps.{Ends, SameOpen, Stays, TakesAll}
use Rattle.rolling_audit.specs.Taken.{IsTaken, trail_of}
use Rattle.rolling_audit.proofs.Behinds.{behind_none, measured_behind, same_own}
use Rattle.rolling_audit.specs.declared.run.RunAudit.{RunAudit}
use Rattle.rolling_audit.specs.declared.run_fault.RunFault.{RunFault}
use Rattle.rolling_audit.specs.declared.run_fault.RunFault.TheVariants.{Memory, OutOfTurn, Rolling}
use Rattle.rolling_audit.specs.declared.turns.Progress.{Progress}
use Rattle.rolling_audit.specs.declared.turns.Turns.{Turns}
use Rattle.rolling_audit.specs.Covering.{Adds, Covers, HaveCome, LeftBy, Stops, Takes}
use Rattle.rolling_audit.specs.Opening.{AreBegun, IsBegun, IsNoRoom, IsOpen, OpensIf, begun_with, fresh_server, fresh_servers, is_new, lasts_if}
use Rattle.rolling_audit.specs.Turns.{Closes, IsTurn, Sets, are_of_slot, begins_at, comes_behind, first_turn, next_in, numbers_of, slots_of}
use Rattle.rolling_audit.proofs.Turned.{begun_now, come_opened, come_set, new_beside, next_new, none_used, sets_twice, there_before}

-- the counts of two lists that have as many of each kind
same_counts : (c : KindCounts) (xs ys : List Record) → ((p : Shape → Bool) → count_kind p xs ≡ count_kind p ys) → IsCount c xs → IsCount c ys
same_counts c xs ys same is = subst (λ (f : (Shape → Bool) → ℕ). Each (λ p count. count c ≡ capped (f p))) (λ i p. same p i) is

kind-append : (p : Shape → Bool) (xs ys : List Record) → count_kind p (xs ++ ys) ≡ count_kind p xs + count_kind p ys
kind-append p xs ys = sum_by-append (λ r. cond (p (shape_of r.kind)) 1 0) xs ys

counts_behind : (c : KindCounts) (id : SessionId) (rs : List Record) (hs : List Kept) (h : Kept) → kept_of id hs ≡ Some h → IsCount c (all_records hs ++ rs) →
    IsCount c (all_records (behind id rs hs))
counts_behind c id rs hs h at =
    same_counts c (all_records hs ++ rs) (all_records (behind id rs hs))
    (λ p. kind-append p (all_records hs) rs ∙ sym (measured_behind id rs (count_kind p) (kind-append p) hs h at))

-- a session that is open has a history
kept_open : (hs : List Kept) (a : RunAudit) (id : SessionId) → IsTaken hs a.audit → (trail_of a.audit id ≡ None → ⊥) → (h : Kept) × (kept_of id hs ≡ Some h)
kept_open hs a id taken open_it = by_trail (trail_of a.audit id) refl
  where
    by_trail : (o : Option Trail) → trail_of a.audit id ≡ o → (h : Kept) × (kept_of id hs ≡ Some h)
    by_trail None is = absurd (open_it is)
    by_trail (Some s) is = let mine = taken.leads id s is in (mine.0, mine.1)

-- a server that was opened is open, so only clients are looked at
begun_by : (there : SessionId → Bool) (a : RollingAudit) → ((k : ℕ) → there (Client k) ≡ true → not (used_in a.lasts.items k) ≡ false → IsOpen a (Client k)) → AreBegun there a
begun_by there a clients (Client k) is now = clients k is now
begun_by there a clients (Server k) is now = by_trail (trail_of a (Server k)) now
  where
    by_trail : (o : Option Trail) → is_none o ≡ false → is_some o ≡ true
    by_trail None none = absurd (cc none)
    by_trail (Some s) none = refl

-- the parts of what is kept, with more records of a session
pub adds : (old new : RunAudit) (a : RollingAudit) (id : SessionId) (rs : List Record) (p : Progress) → new.audit ≡ a → TakesAll old.audit id rs a → SameOpen old.audit a →
    a.lasts ≡ old.audit.lasts → ((all : List Record) → IsCount old.counts all → IsCount new.counts (all ++ rs)) →
    new.records ≡ capped (old.records + length rs) → Sets old.turns id p new.turns → IsSome (next_in old.turns id) → (trail_of old.audit id ≡ None → ⊥) →
    Adds old id rs new
adds old new a id rs p same takes same_open lasts counts records sets some open_it hs was =
    let mine = kept_open hs old id was.taken open_it in
    record {
      taken = subst (IsTaken (behind id rs hs)) (sym same) (takes hs was.taken);
      counts = counts_behind new.counts id rs hs mine.0 mine.1 (counts (all_records hs) was.counts);
      records = records_on (length (all_records hs)) (length (all_records (behind id rs hs))) was.records
          (measured_behind id rs length length-append hs mine.0 mine.1);
      begun = subst (AreBegun (λ q. is_some (next_in new.turns q))) (sym same) (begun_by (λ q. is_some (next_in new.turns q)) a begun);
      come = subst (λ x. HaveCome x.lasts.items (numbers_of new.turns)) (sym same)
          (subst (λ x. HaveCome x.items (numbers_of new.turns)) (sym lasts) (come_set old.turns new.turns id old.audit.lasts.items sets.numbers some was.come));
    }
  where
    records_on : (n m : ℕ) → old.records ≡ capped n → m ≡ n + length rs → new.records ≡ capped m
    records_on n m is all = omega (arith, is, all, records)

    begun : (k : ℕ) → is_some (next_in new.turns (Client k)) ≡ true → not (used_in a.lasts.items k) ≡ false → IsOpen a (Client k)
    begun k there now =
        same_open (Client k)
        ∙ was.begun (Client k) (there_before old.turns new.turns id p sets some (Client k) there) (subst (λ l. not (used_in l.items k) ≡ false) lasts now)

-- BEFORE ANY RECORD

fresh_written : (es : List (ℕ × InitMode)) → all_records (reverse (map fresh_server es)) ≡ []
fresh_written [] = refl
fresh_written (e ∷ es) =
    ap all_records (reverse-append (fresh_server e ∷ []) (map fresh_server es))
    ∙ (flat_map-append (λ h. h.records) (reverse (map fresh_server es)) (fresh_server e ∷ []) ∙ ap (λ rs. rs ++ []) (fresh_written es))

pub covers_first : (a : RunAudit) (sessions : ℕ) (modes : List InitMode) → IsTaken (fresh_servers modes) a.audit → a.audit.lasts.items ≡ replicate sessions 0 → numbers_of a.turns ≡ replicate sessions 0 →
    ((id : SessionId) → next_in a.turns id ≡ begins_at sessions (length modes) id) → IsCount a.counts [] → a.records ≡ 0 → Covers (fresh_servers modes) a
covers_first a sessions modes taken lasts numbers turns counts records =
    record {
      taken = taken;
      counts = subst (IsCount a.counts) (sym (fresh_written (enumerate_from 0 modes))) counts;
      records = records ∙ ap (λ rs. capped (length rs)) (sym (fresh_written (enumerate_from 0 modes)));
      begun = begun_by (λ id. is_some (next_in a.turns id)) a.audit begun;
      come = record { slots = ap length both; come = λ k used. ap (λ ns. used_in ns k) (sym both) ∙ used };
    }
  where
    both : a.audit.lasts.items ≡ numbers_of a.turns
    both = lasts ∙ sym numbers

    begun : (k : ℕ) → is_some (next_in a.turns (Client k)) ≡ true → not (used_in a.audit.lasts.items k) ≡ false → IsOpen a.audit (Client k)
    begun k there now =
        let first = some (nat_lt 0 k) refl (nat_lt 0 sessions) refl (ap is_some (sym (turns (Client k))) ∙ there) in
        absurd (true≢false (sym (ap not (none_used sessions k a.audit.lasts.items lasts first.0 first.1)) ∙ now))
      where
        some : (b : Bool) → nat_lt 0 k ≡ b → (d : Bool) → nat_lt 0 sessions ≡ d → is_some (if b && d then Some first_turn else None) ≡ true → (0 < k) × (0 < sessions)
        some true e true f is = (grind (arith, e), grind (arith, f))
        some true e false f is = absurd (cc is)
        some false e d f is = absurd (cc is)

-- AN EPOCH THAT IS TAKEN

pub rest_is : (within : ℕ) (rs : List Record) → slice_range rs within (length rs) ≡ drop within rs
rest_is within rs = take_all (length rs - within) (drop within rs) (let len = length-drop within rs in omega (arith, len))

begun_none : (modes : List InitMode) (opens : Bool) (id : SessionId) (hs : List Kept) → all_records (begun_with modes opens id hs) ≡ all_records hs
begun_none modes true id hs = refl
begun_none modes false id hs = refl

-- a session that is there becomes the present one of its slot, and is opened or not
pub covers_opened : (old : RunAudit) (t : Turns) (a : RollingAudit) (id : SessionId) (p : Progress) (opens : Bool) → Sets old.turns id p t → IsSome (next_in old.turns id) →
    OpensIf old.modes.items opens id old.audit a → (hs : List Kept) → Covers hs old → Covers (begun_with old.modes.items opens id hs) (record old { audit = a; turns = t })
covers_opened old t a id p opens sets some o hs was =
    record {
      taken = o.taken hs was.taken;
      counts = subst (IsCount old.counts) (sym (begun_none old.modes.items opens id hs)) was.counts;
      records = was.records ∙ ap (λ rs. capped (length rs)) (sym (begun_none old.modes.items opens id hs));
      begun = begun_by (λ q. is_some (next_in t q)) a (λ k there now. begun opens o k there (subst (λ l. not (used_in l k) ≡ false) o.lasts now));
      come = subst (λ l. HaveCome l (numbers_of t)) (sym o.lasts) (come_opened old.turns t id old.audit.lasts.items opens sets.numbers some was.come);
    }
  where
    there_then : (q : SessionId) → is_some (next_in t q) ≡ true → is_some (next_in old.turns q) ≡ true
    there_then q there = there_before old.turns t id p sets some q there

    apart : (q : SessionId) → same_session id q ≡ false → is_some (next_in t q) ≡ true → are_of_slot (slots_of old.turns) id q ≡ false
    apart q off there =
        by_slot (are_of_slot (slots_of old.turns) id q) refl
        (ap (λ b. is_some (if b then Some p else (if are_of_slot (slots_of old.turns) id q then None else next_in old.turns q))) (sym off) ∙ (sym (ap is_some (sets.next q)) ∙ there))
      where
        by_slot : (b : Bool) → are_of_slot (slots_of old.turns) id q ≡ b → is_some (if b then None else next_in old.turns q) ≡ true → are_of_slot (slots_of old.turns) id q ≡ false
        by_slot true e is = absurd (cc is)
        by_slot false e is = e

    still : (opens : Bool) → OpensIf old.modes.items opens id old.audit a → (q : SessionId) → IsOpen old.audit q → IsOpen a q
    still opens o q was = o.trails q ∙ (ap (λ b. (opens && same_session id q) || b) was ∙ or_right (opens && same_session id q) true refl)

    begun : (opens : Bool) → OpensIf old.modes.items opens id old.audit a → (k : ℕ) → is_some (next_in t (Client k)) ≡ true →
        not (used_in (lasts_if opens id old.audit.lasts.items) k) ≡ false → IsOpen a (Client k)
    begun false o k there now = still false o (Client k) (was.begun (Client k) (there_then (Client k) there) now)
    begun true o k there now = by_test (same_session id (Client k)) refl
      where
        by_test : (b : Bool) → same_session id (Client k) ≡ b → IsOpen a (Client k)
        by_test true e = o.trails (Client k) ∙ ap (λ b. (true && b) || is_some (trail_of old.audit (Client k))) e
        by_test false e =
            still true o (Client k) (was.begun (Client k) (there_then (Client k) there)
            (sym (ap not (new_beside old.turns id k old.audit.lasts.items was.come some (apart (Client k) e there) (there_then (Client k) there))) ∙ now))

-- a session has ended
pub covers_ended : (old : RunAudit) (t : Turns) (a : RollingAudit) (id : SessionId) → Closes old.turns id t → IsSome (next_in old.turns id) → Stays old.audit a →
    Ends (trail_of old.audit) id (trail_of a) → a.lasts ≡ old.audit.lasts → (hs : List Kept) → Covers hs old → Covers hs (record old { audit = a; turns = t })
covers_ended old t a id closes some stays ends lasts hs was =
    record {
      taken = stays hs was.taken;
      counts = was.counts;
      records = was.records;
      begun = begun_by (λ q. is_some (next_in t q)) a (λ k there now. by_test (same_session id (Client k)) k refl there (subst (λ l. not (used_in l.items k) ≡ false) lasts now));
      come = subst (λ l. HaveCome l.items (numbers_of t)) (sym lasts) (come_set old.turns t id old.audit.lasts.items closes.numbers some was.come);
    }
  where
    left : (is_it : Bool) → SessionId → Option Progress
    left is_it q = if is_it then None else (if are_of_slot (slots_of old.turns) id q then (if comes_behind id q then Some first_turn else None) else next_in old.turns q)

    by_slot : (k : ℕ) (b : Bool) → are_of_slot (slots_of old.turns) id (Client k) ≡ b → same_session id (Client k) ≡ false →
        is_some (if b then (if comes_behind id (Client k) then Some first_turn else None) else next_in old.turns (Client k)) ≡ true →
        not (used_in old.audit.lasts.items k) ≡ false → IsOpen a (Client k)
    by_slot k true e off there now =
        absurd (true≢false (sym (ap not (next_new old.turns id k old.audit.lasts.items was.come some e (behind_it (comes_behind id (Client k)) refl there))) ∙ now))
      where
        behind_it : (b : Bool) → comes_behind id (Client k) ≡ b → is_some (if b then Some first_turn else None) ≡ true → comes_behind id (Client k) ≡ true
        behind_it true e is = e
        behind_it false e is = absurd (cc is)
    by_slot k false e off there now = ap is_some (ends.others (Client k) off) ∙ was.begun (Client k) there now

    by_test : (b : Bool) → (k : ℕ) → same_session id (Client k) ≡ b → is_some (next_in t (Client k)) ≡ true →
        not (used_in old.audit.lasts.items k) ≡ false → IsOpen a (Client k)
    by_test true k e there now =
        let gone : is_some (next_in t (Client k)) ≡ false = ap is_some (closes.next (Client k)) ∙ ap (λ b. is_some (left b (Client k))) e in
        absurd (true≢false (sym there ∙ gone))
    by_test false k e there now =
        by_slot k (are_of_slot (slots_of old.turns) id (Client k)) refl e
        (ap (λ b. is_some (left b (Client k))) (sym e) ∙ (sym (ap is_some (closes.next (Client k))) ∙ there)) now

module _ (old : RunAudit) (t : Turns) (a : RollingAudit) (id : SessionId) (epoch within : ℕ) (rs : List Record) (turn : IsTurn old.turns id epoch (length rs) within)
    (sets : Sets old.turns id (record { epoch = epoch; within = within }) t) where
  abbrev mid : RunAudit
  mid = record old { audit = a; turns = t }

  covers_mid : (opens : Bool) → OpensIf old.modes.items opens id old.audit a → (hs : List Kept) → Covers hs old → Covers (begun_with old.modes.items opens id hs) mid
  covers_mid opens o hs was = covers_opened old t a id (record { epoch = epoch; within = within }) opens sets (ap is_some turn.next) o hs was

  pub takes : (opens : Bool) → OpensIf old.modes.items opens id old.audit a → (new : RunAudit) (xs : List Record) (p : Progress) → Adds mid id xs new → new.audit.lasts ≡ a.lasts →
      SameOpen a new.audit → new.modes ≡ old.modes → Sets t id p new.turns → Takes old id opens xs p new
  takes opens o new xs p all lasts still modes next =
      record {
        lasts = ap (λ l. l.items) lasts ∙ o.lasts;
        trails = λ q. still q ∙ o.trails q;
        modes = modes;
        covers = λ hs was. all (begun_with old.modes.items opens id hs) (covers_mid opens o hs was);
        turns = sets_twice old.turns t new.turns id (record { epoch = epoch; within = within }) p sets next;
      }

  -- memory ran out before it was open
  pub left_opening : (e : RunFault) → OpensIf old.modes.items false id old.audit a → IsNoRoom e old.audit → LeftBy e old id epoch rs mid
  left_opening Memory o room =
      record {
        within = within;
        turn = turn;
        taken = 0;
        reaches = let r = turn.reaches in omega (arith, r);
        opens = false;
        opened = inr (refl, refl);
        takes = record {
          lasts = o.lasts;
          trails = o.trails;
          modes = refl;
          covers = λ hs was. subst (λ l. Covers l mid) (sym (behind_none id hs)) (covers_mid false o hs was);
          turns = subst (λ w. Sets old.turns id (record { epoch = epoch; within = w }) t) same sets;
        };
      }
    where
      same : within ≡ within + 0
      same = omega arith
  left_opening (Rolling (NotOpen session)) o room = (within, turn, λ hs was. room hs was.taken)
  left_opening (OutOfTurn session) o room = absurd room
  left_opening (Rolling (OutOfMemory taken)) o room = absurd room
  left_opening (Rolling (FaultyRecord session place cause)) o room = absurd room
  left_opening (Rolling (Dispatch name flaw)) o room = absurd room

  -- it was open, and memory ran out later, or a record was at fault
  module _ (o : OpensIf old.modes.items (is_new old.audit id) id old.audit a) where
    begun : IsBegun a id
    begun = by_side id (is_new old.audit id) refl o.lasts (o.trails id)
      where
        by_side : (q : SessionId) (opens : Bool) → is_new old.audit q ≡ opens → a.lasts.items ≡ lasts_if opens q old.audit.lasts.items →
            is_some (trail_of a q) ≡ ((opens && same_session q q) || is_some (trail_of old.audit q)) → IsBegun a q
        by_side (Client k) opens is lasts trails =
            ap (λ l. not (used_in l k)) (lasts ∙ ap (λ b. lasts_if b (Client k) old.audit.lasts.items) (sym is)) ∙ begun_now k old.audit.lasts.items
        by_side (Server k) opens is lasts trails = by_trail (trail_of a (Server k)) (trails ∙ opened (trail_of old.audit (Server k)) is)
          where
            opened : (x : Option Trail) → is_none x ≡ opens → ((opens && same_session (Server k) (Server k)) || is_some x) ≡ true
            opened None e = ap (λ b. (b && same_session (Server k) (Server k)) || false) (sym e) ∙ ap (λ b. b || false) (same_own (Server k))
            opened (Some x) e = or_right (opens && same_session (Server k) (Server k)) true refl

            by_trail : (x : Option Trail) → is_some x ≡ true → is_none x ≡ false
            by_trail None some = absurd (cc some)
            by_trail (Some x) some = refl

    pub left_rest : {T : Type 0} (r : Result T RunFault) (new : RunAudit) → new.audit.lasts ≡ a.lasts → SameOpen a new.audit → new.modes ≡ old.modes →
        IfErr r (λ e. Stops e mid id (record { epoch = epoch; within = within }) (slice_range rs within (length rs)) new) →
        IfErr r (λ e. LeftBy e old id epoch rs new)
    left_rest (Ok x) new last still modes left = tt
    left_rest (Err e) new last still modes left =
        by_fault e (subst (λ l. Stops e mid id (record { epoch = epoch; within = within }) l new) (rest_is within rs) left)
      where
        by_fault : (e : RunFault) → Stops e mid id (record { epoch = epoch; within = within }) (drop within rs) new → LeftBy e old id epoch rs new
        by_fault Memory left =
            record {
              within = within;
              turn = turn;
              taken = left.0;
              reaches = let fits = left.1 in let r = turn.reaches in let len = length-drop within rs in omega (arith, fits, r, len);
              opens = is_new old.audit id;
              opened = inl refl;
              takes = takes (is_new old.audit id) o new (take left.0 (drop within rs)) (record { epoch = epoch; within = within + left.0 }) left.2 last still modes left.3;
            }
        by_fault (OutOfTurn session) left = absurd left
        by_fault (Rolling (FaultyRecord session place cause)) left = (
          within,
          turn,
          (
            left.0,
            λ hs was.
                let all = begun_with old.modes.items (is_new old.audit id) id hs in
                subst (λ b. IsFaulty b all id (drop within rs) place cause) o.boot (left.1 all (covers_mid (is_new old.audit id) o hs was)),
          ),
        )
        by_fault (Rolling (NotOpen session)) left = (within, turn, λ hs was. left (begun_with old.modes.items (is_new old.audit id) id hs) (covers_mid (is_new old.audit id) o hs was) begun)
        by_fault (Rolling (OutOfMemory taken)) left = (within, turn, λ hs was. left (begun_with old.modes.items (is_new old.audit id) id hs) (covers_mid (is_new old.audit id) o hs was) begun)
        by_fault (Rolling (Dispatch name flaw)) left = (within, turn, λ hs was. left (begun_with old.modes.items (is_new old.audit id) id hs) (covers_mid (is_new old.audit id) o hs was) begun)
