-- Sessions that are opened, that are walked on, and that end.
use Rattle.std.proofs.Common.{ℕ, List, ◌∷◌, ◌≡◌, Bool, true, false, refl, sym, ◌∙◌, ap, subst, true≢false, Option, Some, None, Result, Ok, Err, take}
use Rattle.std.specs.Prelude.{IfErr, IfSome, IsErr, OnErr, if◌then◌else◌, nat_eq, unwrap_or}
use Rattle.indexmap.specs.IndexMap.{get}
use Rattle.std.specs.Map.{lookup}
use Rattle.mux_history.specs.declared.name.Name.{Name}
use Rattle.mux_history.specs.declared.record.Record.{Record}
use Rattle.mux_history.specs.declared.session.InitMode.{InitMode}
use Rattle.mux_history.specs.declared.session.SessionId.{SessionId}
use Rattle.mux_history.specs.declared.session.SessionId.TheVariants.{Client, Server}
use Rattle.mux_agree.specs.Walk.{Kept, all_records, client_records}
use Rattle.rolling_audit.specs.declared.rolling.RollingAudit.{RollingAudit}
use Rattle.rolling_audit.specs.declared.fault.RollingFault.{RollingFault}
use Rattle.rolling_audit.specs.declared.fault.RollingFault.TheVariants.{Memory, NotOpen, Record as FaultyRecord, Dispatch}
use Rattle.rolling_audit.specs.declared.life.Life.{Life}
use Rattle.rolling_audit.specs.declared.trail.Trail.{Trail}
use Rattle.rolling_audit.specs.Histories.{behind, kept_of, same_session, unwritten}
use Rattle.rolling_audit.specs.Lives.{is_done}
use Rattle.rolling_audit.specs.Slots.{used_in}
use Rattle.rolling_audit.specs.Steps.{Ends, LeftAt, LeftBy, Opens, Rests, Stays, Takes, TakesAll, with_trail}
use Rattle.rolling_audit.specs.Taken.{AreTaken, IsKept, IsTaken, IsTrail, life_of, trail_of, spent_by}
use Rattle.rolling_audit.proofs.Behinds.{same_is, same_own}
use Rattle.rolling_audit.proofs.Known.{clients_of_more, known_opened}
use Rattle.rolling_audit.proofs.Taking.{kept_still}

-- A SESSION THAT IS OPENED

same_trails : (s t : Trail) → Some s ≡ Some t → s ≡ t
same_trails s t e = ap (λ o. unwrap_or o s) e

pub opened : (boot : ℕ) (trails more : SessionId → Option Trail) (lives : Name → Option Life) (used now : ℕ → Bool) (id : SessionId) (mode : InitMode) (hs : List Kept) → Opens trails used id mode more now →
    AreTaken boot hs trails lives used → AreTaken boot (unwritten id mode ∷ hs) more lives now
opened boot trails more lives used now id mode hs o a =
    record {
      own = (tt, a.own);
      leads = leads;
      numbered = numbered;
      undone = a.undone;
      dispatches = λ n. subst (λ l. IsKept n l (all_records hs) (spent_by (more (Client n.client)) now n) (lives n)) (sym (clients_of_more id mode hs))
          (kept_still n (client_records hs) (all_records hs) (client_records hs) (all_records hs) (spent_by (trails (Client n.client)) used n)
          (spent_by (more (Client n.client)) now n) (spent n) (λ p. refl) (λ p. refl) (lives n) (a.dispatches n));
      knows = known_opened id mode hs lives used now o.rises o.numbered a.knows;
    }
  where
    leads : (q : SessionId) (x : Trail) → more q ≡ Some x → (h : Kept) × (kept_of q (unwritten id mode ∷ hs) ≡ Some h) × IsTrail boot x h
    leads q x at = by_test (same_session id q) refl
      where
        by_test : (b : Bool) → same_session id q ≡ b → (h : Kept) × ((if b then Some (unwritten id mode) else kept_of q hs) ≡ Some h) × IsTrail boot x h
        by_test true e =
            let trail : o.trail ≡ x = same_trails o.trail x (sym o.own ∙ (ap more (same_is id q e) ∙ at)) in
            (unwritten id mode, refl, subst (λ y. IsTrail boot y (unwritten id mode)) trail (record { id = o.begins.id; mode = o.begins.mode; stands = o.begins.stands boot; given = o.ungiven; taken = o.unwritten }))
        by_test false e = a.leads q x (sym (o.others q e) ∙ at)

    numbered : (k : ℕ) (x : Trail) → more (Client k) ≡ Some x → now k ≡ true
    numbered k x at = by_test (same_session id (Client k)) refl
      where
        by_test : (b : Bool) → same_session id (Client k) ≡ b → now k ≡ true
        by_test true e = (o.numbered k (same_is id (Client k) e)).1
        by_test false e =
            let was : used k ≡ true = a.numbered k x (sym (o.others (Client k) e) ∙ at) in
            o.rises k was

    risen : (s : Option Trail) (n : Name) → spent_by s used n → spent_by s now n
    risen None n was = o.rises n.client was
    risen (Some s) n was = was

    spent : (n : Name) → spent_by (trails (Client n.client)) used n → spent_by (more (Client n.client)) now n
    spent n was = by_test (same_session id (Client n.client)) refl
      where
        by_test : (b : Bool) → same_session id (Client n.client) ≡ b → spent_by (more (Client n.client)) now n
        by_test true e =
            let it : id ≡ Client n.client = same_is id (Client n.client) e in
            let none : trails (Client n.client) ≡ None = ap trails (sym it) ∙ o.closed in
            let low : used n.client ≡ true = subst (λ s. spent_by s used n) none was in
            let high : used n.client ≡ false = (o.numbered n.client it).0 in
            absurd (true≢false (sym low ∙ high))
        by_test false e = subst (λ s. spent_by s now n) (sym (o.others (Client n.client) e)) (risen (trails (Client n.client)) n was)

-- A SESSION THAT ENDS

pub ended : (boot : ℕ) (trails more : SessionId → Option Trail) (lives : Name → Option Life) (used : ℕ → Bool) (id : SessionId) (hs : List Kept) → Ends trails id more →
    AreTaken boot hs trails lives used → AreTaken boot hs more lives used
ended boot trails more lives used id hs e a =
    record {
      own = a.own;
      leads = λ q x at. a.leads q x (was q x at);
      numbered = λ k x at. a.numbered k x (was (Client k) x at);
      undone = a.undone;
      dispatches = λ n. kept_still n (client_records hs) (all_records hs) (client_records hs) (all_records hs) (spent_by (trails (Client n.client)) used n)
          (spent_by (more (Client n.client)) used n) (spent n) (λ p. refl) (λ p. refl) (lives n) (a.dispatches n);
      knows = a.knows;
    }
  where
    was : (q : SessionId) (x : Trail) → more q ≡ Some x → trails q ≡ Some x
    was q x at = by_test (same_session id q) refl
      where
        gone : same_session id q ≡ true → ◌≡◌ {A = Option Trail} None (Some x)
        gone t = sym e.own ∙ (ap more (same_is id q t) ∙ at)

        by_test : (b : Bool) → same_session id q ≡ b → trails q ≡ Some x
        by_test true t = let no = gone t in absurd (cc no)
        by_test false f = sym (e.others q f) ∙ at

    numbered_or : (n : Name) (s : Option Trail) → trails (Client n.client) ≡ s → spent_by s used n → used n.client ≡ true
    numbered_or n None is spent = spent
    numbered_or n (Some s) is spent = a.numbered n.client s is

    spent : (n : Name) → spent_by (trails (Client n.client)) used n → spent_by (more (Client n.client)) used n
    spent n before = by_test (same_session id (Client n.client)) refl
      where
        by_test : (b : Bool) → same_session id (Client n.client) ≡ b → spent_by (more (Client n.client)) used n
        by_test true t =
            let gone : more (Client n.client) ≡ None = ap more (sym (same_is id (Client n.client) t)) ∙ e.own in
            subst (λ s. spent_by s used n) (sym gone) (numbered_or n (trails (Client n.client)) refl before)
        by_test false f = subst (λ s. spent_by s used n) (sym (e.others (Client n.client) f)) before

-- WHAT THE PROGRAM HOLDS

pub rests : (old new : RollingAudit) → Rests old new → new.lives ≡ old.lives → Stays old new
rests old new r lives hs a =
    subst (λ l. AreTaken new.lives.boot hs (trail_of new) (life_of new.lives) l) (ap (λ v. used_in v.items) (sym r.lasts))
    (subst (λ x. AreTaken x.boot hs (trail_of new) (life_of x) (used_in old.lasts.items)) (sym lives)
    (subst (λ s. AreTaken old.lives.boot hs s (life_of old.lives) (used_in old.lasts.items)) (λ i q. sym (r.trails q) i) a))

pub opens : (old new : RollingAudit) (id : SessionId) (mode : InitMode) → Opens (trail_of old) (used_in old.lasts.items) id mode (trail_of new) (used_in new.lasts.items) → new.lives ≡ old.lives →
    (hs : List Kept) → IsTaken hs old → IsTaken (unwritten id mode ∷ hs) new
opens old new id mode o lives hs a =
    subst (λ x. AreTaken x.boot (unwritten id mode ∷ hs) (trail_of new) (life_of x) (used_in new.lasts.items)) (sym lives)
    (opened old.lives.boot (trail_of old) (trail_of new) (life_of old.lives) (used_in old.lasts.items) (used_in new.lasts.items) id mode hs o a)

pub ends : (old new : RollingAudit) (id : SessionId) → Ends (trail_of old) id (trail_of new) → new.lasts ≡ old.lasts → new.lives ≡ old.lives → Stays old new
ends old new id e lasts lives hs a =
    subst (λ l. AreTaken new.lives.boot hs (trail_of new) (life_of new.lives) l) (ap (λ v. used_in v.items) (sym lasts))
    (subst (λ x. AreTaken x.boot hs (trail_of new) (life_of x) (used_in old.lasts.items)) (sym lives) (ended old.lives.boot (trail_of old) (trail_of new) (life_of old.lives) (used_in old.lasts.items) id hs e a))

-- a trail among those of others
with_own : (a : RollingAudit) (id : SessionId) (s : Trail) → trail_of a id ≡ Some s → (q : SessionId) → trail_of a q ≡ with_trail (trail_of a) id s q
with_own a id s was q = by_test (same_session id q) refl
  where
    by_test : (b : Bool) → same_session id q ≡ b → trail_of a q ≡ (if b then Some s else trail_of a q)
    by_test true e = ap (trail_of a) (sym (same_is id q e)) ∙ was
    by_test false e = refl

taken_with : (a : RollingAudit) (id : SessionId) (s : Trail) → trail_of a id ≡ Some s → (hs : List Kept) → IsTaken hs a →
    AreTaken a.lives.boot hs (with_trail (trail_of a) id s) (life_of a.lives) (used_in a.lasts.items)
taken_with a id s was hs taken =
    subst (λ f. AreTaken a.lives.boot hs f (life_of a.lives) (used_in a.lasts.items)) (λ i q. with_own a id s was q i) taken

-- a walk over one trail
pub takes_all : (old new : RollingAudit) (id : SessionId) (s t : Trail) (rs : List Record) → trail_of old id ≡ Some s → trail_of new id ≡ Some t →
    ((q : SessionId) → same_session id q ≡ false → trail_of new q ≡ trail_of old q) → new.lasts ≡ old.lasts → new.lives.boot ≡ old.lives.boot →
    Takes old.lives.boot id s (life_of old.lives) rs t (life_of new.lives) → TakesAll old id rs new
takes_all old new id s t rs was is others lasts boot takes hs a =
    subst (λ f. AreTaken new.lives.boot (behind id rs hs) f (life_of new.lives) (used_in new.lasts.items)) (λ i q. after q i)
    (subst (λ b. AreTaken b (behind id rs hs) (with_trail (trail_of old) id t) (life_of new.lives) (used_in new.lasts.items)) (sym boot)
    (subst (λ l. AreTaken old.lives.boot (behind id rs hs) (with_trail (trail_of old) id t) (life_of new.lives) l) (ap (λ v. used_in v.items) (sym lasts))
    (takes hs (trail_of old) (used_in old.lasts.items) (taken_with old id s was hs a))))
  where
    after : (q : SessionId) → with_trail (trail_of old) id t q ≡ trail_of new q
    after q = by_test (same_session id q) refl
      where
        by_test : (b : Bool) → same_session id q ≡ b → (if b then Some t else trail_of old q) ≡ trail_of new q
        by_test true e = sym is ∙ ap (trail_of new) (same_is id q e)
        by_test false e = sym (others q e)

-- the trail of a client, of a server
pub takes_client : (old new : RollingAudit) (k : ℕ) (s t : Trail) → get nat_eq old.clients k ≡ Some s →
    ((q : ℕ) → get nat_eq new.clients q ≡ (if nat_eq k q then Some t else get nat_eq old.clients q)) → new.servers ≡ old.servers → new.lasts ≡ old.lasts → new.lives.boot ≡ old.lives.boot →
    (rs : List Record) → Takes old.lives.boot (Client k) s (life_of old.lives) rs t (life_of new.lives) → TakesAll old (Client k) rs new
takes_client old new k s t was puts servers lasts boot rs takes =
    takes_all old new (Client k) s t rs was (puts k ∙ ap (λ b. if b then Some t else get nat_eq old.clients k) (same_own (Client k))) others lasts boot takes
  where
    others : (q : SessionId) → same_session (Client k) q ≡ false → trail_of new q ≡ trail_of old q
    others (Client q) off = puts q ∙ ap (λ b. if b then Some t else get nat_eq old.clients q) off
    others (Server q) off = ap (λ m. get nat_eq m q) servers

pub takes_server : (old new : RollingAudit) (k : ℕ) (s t : Trail) → get nat_eq old.servers k ≡ Some s →
    ((q : ℕ) → get nat_eq new.servers q ≡ (if nat_eq k q then Some t else get nat_eq old.servers q)) → new.clients ≡ old.clients → new.lasts ≡ old.lasts → new.lives.boot ≡ old.lives.boot →
    (rs : List Record) → Takes old.lives.boot (Server k) s (life_of old.lives) rs t (life_of new.lives) → TakesAll old (Server k) rs new
takes_server old new k s t was puts clients lasts boot rs takes =
    takes_all old new (Server k) s t rs was (puts k ∙ ap (λ b. if b then Some t else get nat_eq old.servers k) (same_own (Server k))) others lasts boot takes
  where
    others : (q : SessionId) → same_session (Server k) q ≡ false → trail_of new q ≡ trail_of old q
    others (Server q) off = puts q ∙ ap (λ b. if b then Some t else get nat_eq old.servers q) off
    others (Client q) off = ap (λ m. get nat_eq m q) clients

-- where a walk ends early
pub left_by : {T : Type 0} (r : Result T RollingFault) (old new : RollingAudit) (id : SessionId) (s t : Trail) (rs : List Record) → trail_of old id ≡ Some s →
    ((xs : List Record) → Takes old.lives.boot id s (life_of old.lives) xs t (life_of new.lives) → TakesAll old id xs new) →
    IfErr r (λ e. LeftAt e old.lives.boot id s (life_of old.lives) rs t (life_of new.lives)) → IfErr r (λ e. LeftBy e old id rs new)
left_by (Ok x) old new id s t rs was all left = tt
left_by (Err e) old new id s t rs was all left = by_fault e left
  where
    by_fault : (e : RollingFault) → LeftAt e old.lives.boot id s (life_of old.lives) rs t (life_of new.lives) → LeftBy e old id rs new
    by_fault (Memory taken) left = (left.0, all (take taken rs) left.1)
    by_fault (NotOpen session) left = absurd left
    by_fault (FaultyRecord session place cause) left =
        (left.0, λ hs a. left.1 hs (trail_of old) (used_in old.lasts.items) (taken_with old id s was hs a))
    by_fault (Dispatch name flaw) left = absurd left

-- a map that has the entries of before
pub on_err : {T E : Type 0} (r : Result T E) (P : Type 0) → OnErr r P → IsErr r → P
on_err (Ok x) P h is = absurd (cc)
on_err (Err e) P h is = h

pub rests_client : (old new : RollingAudit) → new.clients.entries ≡ old.clients.entries → new.servers ≡ old.servers → new.lasts ≡ old.lasts → Rests old new
rests_client old new clients servers lasts = record { trails = trails; lasts = lasts }
  where
    trails : (q : SessionId) → trail_of new q ≡ trail_of old q
    trails (Client q) = ap (lookup (nat_eq q)) clients
    trails (Server q) = ap (λ m. get nat_eq m q) servers

pub rests_server : (old new : RollingAudit) → new.servers.entries ≡ old.servers.entries → new.clients ≡ old.clients → new.lasts ≡ old.lasts → Rests old new
rests_server old new servers clients lasts = record { trails = trails; lasts = lasts }
  where
    trails : (q : SessionId) → trail_of new q ≡ trail_of old q
    trails (Server q) = ap (lookup (nat_eq q)) servers
    trails (Client q) = ap (λ m. get nat_eq m q) clients

-- what is kept of a dispatch isn't done with
pub get_undone : (a : RollingAudit) (n : Name) (o : Option Life) → o ≡ life_of a.lives n → (hs : List Kept) → IsTaken hs a → IfSome o (λ l. is_done l ≡ false)
get_undone a n None is hs taken = tt
get_undone a n (Some l) is hs taken = taken.undone n l (sym is)
