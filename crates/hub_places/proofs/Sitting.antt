-- A slot stays beside its pass.
use Rattle.std.proofs.Common.{◌≡◌, inl, ℕ, ◌+◌, ◌<◌, ◌≤◌, ◌==◌, Bool, true, false, List, [], ◌∷◌, ◌++◌, Option, Some, None, refl, sym, ap, ◌∙◌, subst, arith}
use Rattle.std.proofs.lemmas.Bool.{eqb-true}
use Rattle.mux_history.specs.declared.session.InitMode.{InitMode}
use Rattle.mux_history.specs.declared.session.InitMode.TheVariants.{Plain}
use Rattle.mux_history.specs.declared.session.SessionId.{SessionId}
use Rattle.mux_history.specs.declared.session.SessionId.TheVariants.{Client, Server}
use Rattle.mux_model.specs.World.{same_session}
use Rattle.client_session.specs.Past as ups
use Rattle.client_session.specs.Belonging as up_belonging
use Rattle.server_session.specs.Past as downs
use Rattle.server_session.specs.Belonging as down_belonging
use Rattle.kept_session.specs.Reached as reached_up
use Rattle.kept_session.specs.Reached.{Kept}
use Rattle.kept_session.specs.ReachedDown as reached_down
use Rattle.kept_session.specs.ReachedDown.{KeptDown}
use Rattle.hub_log.specs.declared.terms.Terms.{Terms}
use Rattle.hub_log.specs.Moves.{Opened, Move, moves_of, connection_of, slot_of}
use Rattle.hub_log.specs.Bag.{IsOwn}
use Rattle.hub_log.specs.Rule.{joined, values_of}
use Rattle.hub_log.specs.Views.{View, Owns, Added, AddedAll, Looked, May}
use Rattle.hub_log.specs.Turns.{Turn, moves_by}
use Rattle.hub_log.proofs.Sessions.{session_same}
use Rattle.hub_log.proofs.Using.{own_more, own_same}
use Rattle.hub_places.specs.Sitting.{Entered, SitsDown, SitsUp, bare_of}
use Rattle.hub_places.specs.Tied.{MadeDown, MadeUp, TiedDown, TiedUp, moves_down, moves_up}
use Rattle.hub_places.proofs.Tying.{tied_down, tied_up}

-- nothing is added
pub may_stay : (t : Terms) (v : View) (P : View → Type 0) → P v → May t v P
may_stay t v P p = ([], tt, λ w same. subst P (sym same) p)

-- whatever is added, the pass adds for the same slots
same_bounds : (t : Terms) (ms : List Move) (v w : View) → AddedAll t ms v w → (w.low ≡ v.low) × (w.high ≡ v.high)
same_bounds t [] v w same = (ap (λ (y : View). y.low) same, ap (λ (y : View). y.high) same)
same_bounds t (m ∷ ms) v w all = let r = same_bounds t ms all.0 w all.2 in (r.0 ∙ all.1.low, r.1 ∙ all.1.high)

pub bounded : {t : Terms} {v : View} {P : View → Type 0} → May t v P → May t v (λ w. P w × (w.low ≡ v.low) × (w.high ≡ v.high))
bounded {t = t} {v = v} m = (m.0, m.1, λ w added. let b = same_bounds t m.0 v w added in (m.2 w added, b.0, b.1))

-- nothing is in hand then
pub no_more : {t : Terms} {v : View} {P : View → Type 0} → May t v P → May t v (λ w. P w × Unit {0})
no_more m = (m.0, m.1, λ w added. (m.2 w added, tt))

-- moves of one session leave the others'
owns_same : (t : Terms) (v w : View) (id : SessionId) → v.low ≡ w.low → v.high ≡ w.high → Owns t w id → Owns t v id
owns_same t v w id low high o = (subst (λ n. n ≤ slot_of t id) (sym low) o.0, subst (λ n. slot_of t id < n) (sym high) o.1)

others_same : (t : Terms) (id other : SessionId) (xs : List Turn) (v w : View) → AddedAll t (moves_by id xs) v w → same_session id other ≡ false → Owns t v other
    → moves_of other w.seen ≡ moves_of other v.seen
others_same t id other [] v w same apart owns = ap (λ (y : View). moves_of other y.seen) same
others_same t id other (x ∷ xs) v w all apart owns =
    let u = all.0 in
    others_same t id other xs u w all.2 apart (owns_same t u v other all.1.low all.1.high owns)
    ∙ own_same t (record { session = id; deed = x.deed; uses = x.uses }) v u other all.1 owns apart

not_equal : (a b : ℕ) → a < b → (a == b) ≡ false
not_equal a b lt = by_test (a == b) refl
  where
    by_test : (c : Bool) → (a == b) ≡ c → c ≡ false
    by_test true e = let same : a ≡ b = eqb-true a b e in absurd (omega arith)
    by_test false e = refl

-- once a session's moves were added
module _ {t : Terms} {v : View} {n next : ℕ} (lt : n < next) where
  pub sat_down : {l : KeptDown} → ((k : ℕ) → next ≤ k → Owns t v (Client k) → moves_of (Client k) v.seen ≡ []) → (made : MadeDown t v l) → made.past.session.number ≡ n
      → (w : View) → AddedAll t (moves_down made) v w → SitsDown t n next (Some l) w
  sat_down {l = l} fresh made number w added =
      let id = Client made.past.session.number in
      let b = same_bounds t (moves_by id made.turns) v w added in
      let tied = tied_down w made added in
      record {
        tied = λ k is. subst (λ x. (s : TiedDown t x w) × (s.past.session.number ≡ n) × (n < next)) (let same : l ≡ k = cc is in same)
            (tied, ap (λ s. s.number) made.same ∙ number, lt);
        fresh = λ k past owns.
            let o = owns_same t v w (Client k) (sym b.0) (sym b.1) owns in
            others_same t id (Client k) made.turns v w added (ap (λ m. m == k) number ∙ not_equal n k (omega arith)) o ∙ fresh k past o;
      }

  pub sat_up : {l : Kept} → ((k : ℕ) → next ≤ k → Owns t v (Server k) → moves_of (Server k) v.seen ≡ []) → (made : MadeUp t v l) → made.past.session.number ≡ n
      → (w : View) → AddedAll t (moves_up made) v w → SitsUp t n next (Some l) w
  sat_up {l = l} fresh made number w added =
      let id = Server made.past.session.number in
      let b = same_bounds t (moves_by id made.turns) v w added in
      let tied = tied_up w made added in
      record {
        tied = λ k is. subst (λ x. (s : TiedUp t x w) × (s.past.session.number ≡ n) × (n < next)) (let same : l ≡ k = cc is in same)
            (tied, ap (λ s. s.number) made.same ∙ number, lt);
        fresh = λ k past owns.
            let o = owns_same t v w (Server k) (sym b.0) (sym b.1) owns in
            others_same t id (Server k) made.turns v w added (ap (λ m. m == k) number ∙ not_equal n k (omega arith)) o ∙ fresh k past o;
      }

-- what is in hand doesn't matter to a slot
pub down_sits : {t : Terms} {n next : ℕ} {s : Option KeptDown} {v : View} (w : View) → w.low ≡ v.low → w.high ≡ v.high
    → ((id : SessionId) → Owns t v id → moves_of id w.seen ≡ moves_of id v.seen) → SitsDown t n next s v → SitsDown t n next s w
down_sits {t = t} {v = v} w low high own sits = record {
  tied = λ k is.
      let s = sits.tied k is in
      let tied = s.0 in
      let id = Client tied.past.session.number in (
        record {
          past = tied.past;
          led = tied.led;
          belongs = tied.belongs;
          limits = tied.limits;
          knows = record {
            owns = owns_same t w v id low high tied.knows.owns;
            seen = ap (connection_of t id) (own id tied.knows.owns) ∙ tied.knows.seen;
          };
        },
        s.1,
        s.2,
      );
  fresh = λ k past owns. let o = owns_same t v w (Client k) (sym low) (sym high) owns in own (Client k) o ∙ sits.fresh k past o;
}

pub up_sits : {t : Terms} {n next : ℕ} {s : Option Kept} {v : View} (w : View) → w.low ≡ v.low → w.high ≡ v.high
    → ((id : SessionId) → Owns t v id → moves_of id w.seen ≡ moves_of id v.seen) → SitsUp t n next s v → SitsUp t n next s w
up_sits {t = t} {v = v} w low high own sits = record {
  tied = λ k is.
      let s = sits.tied k is in
      let tied = s.0 in
      let id = Server tied.past.session.number in (
        record {
          past = tied.past;
          reached = tied.reached;
          belongs = tied.belongs;
          limits = tied.limits;
          knows = record {
            owns = owns_same t w v id low high tied.knows.owns;
            seen = ap (connection_of t id) (own id tied.knows.owns) ∙ tied.knows.seen;
          };
        },
        s.1,
        s.2,
      );
  fresh = λ k past owns. let o = owns_same t v w (Server k) (sym low) (sym high) owns in own (Server k) o ∙ sits.fresh k past o;
}

-- a session that was begun
pub opens_down : (t : Terms) (n : ℕ) (k : KeptDown) (v : View) → SitsDown t n n None v → Owns t v (Client n)
    → down_belonging.Belongs k.state (downs.begun (record { limits = t.limits; boot = t.boot; number = n })) → reached_down.IsLedDown (downs.begun (record { limits = t.limits; boot = t.boot; number = n }))
    → May t v (λ w. SitsDown t n (n + 1) (Some k) w)
opens_down t n k v sits owns belongs led = (
  m ∷ [],
  (record { given = inl refl; used = λ c e. absurd (let no : None ≡ Some c = e in cc); by = owns; own = subst (λ xs. IsOwn t (Client n) (Opened Plain) (connection_of t (Client n) xs)) (sym (sits.fresh n (omega arith) owns)) refl }, λ w a. tt),
  λ w all. subst (SitsDown t n (n + 1) (Some k)) (sym all.2) (after all.0 all.1),
)
  where
    m : Move
    m = record { session = Client n; deed = Opened Plain; uses = None }

    after : (u : View) → Added t m v u → SitsDown t n (n + 1) (Some k) u
    after u a = record {
      tied = λ x is. subst (λ y. (s : TiedDown t y u) × (s.past.session.number ≡ n) × (n < n + 1)) (let same : k ≡ x = cc is in same) (
        record {
          past = downs.begun (record { limits = t.limits; boot = t.boot; number = n });
          led = led;
          belongs = belongs;
          limits = refl;
          knows = record {
            owns = owns_same t u v (Client n) a.low a.high owns;
            seen = ap (connection_of t (Client n)) (own_more t m v u (Client n) a owns (session_same (Client n)) ∙ ap (λ xs. m ∷ xs) (sits.fresh n (omega arith) owns));
          };
        },
        refl,
        omega arith,
      );
      fresh = λ j past o.
          let o' = owns_same t v u (Client j) (sym a.low) (sym a.high) o in
          own_same t m v u (Client j) a o' (not_equal n j (omega (arith, past))) ∙ sits.fresh j (omega (arith, past)) o';
    }

pub opens_up : (t : Terms) (n : ℕ) (mode : InitMode) (k : Kept) (v : View) → k.mode ≡ mode → SitsUp t n n None v → Owns t v (Server n)
    → up_belonging.Belongs k.state (ups.begun (record { limits = t.server_limits; number = n; mode = mode })) → reached_up.IsReached mode (ups.begun (record { limits = t.server_limits; number = n; mode = mode }))
    → May t v (λ w. SitsUp t n (n + 1) (Some k) w)
opens_up t n mode k v kind sits owns belongs led = (
  m ∷ [],
  (record { given = inl refl; used = λ c e. absurd (let no : None ≡ Some c = e in cc); by = owns; own = subst (λ xs. IsOwn t (Server n) (Opened mode) (connection_of t (Server n) xs)) (sym (sits.fresh n (omega arith) owns)) tt }, λ w a. tt),
  λ w all. subst (SitsUp t n (n + 1) (Some k)) (sym all.2) (after all.0 all.1),
)
  where
    m : Move
    m = record { session = Server n; deed = Opened mode; uses = None }

    after : (u : View) → Added t m v u → SitsUp t n (n + 1) (Some k) u
    after u a = record {
      tied = λ x is. subst (λ y. (s : TiedUp t y u) × (s.past.session.number ≡ n) × (n < n + 1)) (let same : k ≡ x = cc is in same) (
        record {
          past = ups.begun (record { limits = t.server_limits; number = n; mode = mode });
          reached = subst (λ x. reached_up.IsReached x (ups.begun (record { limits = t.server_limits; number = n; mode = mode }))) (sym kind) led;
          belongs = belongs;
          limits = refl;
          knows = record {
            owns = owns_same t u v (Server n) a.low a.high owns;
            seen = ap (connection_of t (Server n)) (own_more t m v u (Server n) a owns (session_same (Server n)) ∙ ap (λ xs. m ∷ xs) (sits.fresh n (omega arith) owns));
          };
        },
        refl,
        omega arith,
      );
      fresh = λ j past o.
          let o' = owns_same t v u (Server j) (sym a.low) (sym a.high) o in
          own_same t m v u (Server j) a o' (not_equal n j (omega (arith, past))) ∙ sits.fresh j (omega (arith, past)) o';
    }

-- a pass that has taken in what another had
pub entered_down : {t : Terms} {n next : ℕ} {s : Option KeptDown} {v c w : View} → Entered t v c w → SitsDown t n next s (bare_of v) → SitsDown t n next s w
entered_down {w = w} e sits = down_sits w e.low e.high e.own sits

pub entered_up : {t : Terms} {n next : ℕ} {s : Option Kept} {v c w : View} → Entered t v c w → SitsUp t n next s (bare_of v) → SitsUp t n next s w
entered_up {w = w} e sits = up_sits w e.low e.high e.own sits

pub opened_down : {t : Terms} {n next : ℕ} {s : Option KeptDown} {v : View} → SitsDown t n next s (bare_of v) → SitsDown t n next s v
opened_down {v = v} sits = down_sits v refl refl (λ id o. refl) sits

pub opened_up : {t : Terms} {n next : ℕ} {s : Option Kept} {v : View} → SitsUp t n next s (bare_of v) → SitsUp t n next s v
opened_up {v = v} sits = up_sits v refl refl (λ id o. refl) sits

pub entered : {t : Terms} (v c w : View) → v.hands ≡ [] → Looked t (joined v (values_of c)) w → Entered t v c w
entered v c w bare l = record { low = l.low; high = l.high; own = l.own; hands = l.hands ∙ ap (λ hs. hs ++ c.hands) bare; seen = l.told }
