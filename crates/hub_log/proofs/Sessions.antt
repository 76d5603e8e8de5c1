-- The connections of the sessions of a log, and what one move changes of them.
use Rattle.std.proofs.Common.{ℕ, List, [], ◌∷◌, ◌++◌, ◌≡◌, ◌+◌, ◌==◌, ◌&&◌, Bool, true, false, Option, Some, None, refl, sym, ap, ◌∙◌, subst, length, arith, append_assoc}
use Rattle.std.specs.Prelude.{if◌then◌else◌}
use Rattle.std.proofs.lemmas.Bool.{eq-eqb}
use Rattle.mux_history.specs.declared.session.SessionId.{SessionId}
use Rattle.mux_history.specs.declared.session.SessionId.TheVariants.{Client, Server}
use Rattle.mux_model.specs.World.{Connection, same_session, stepped}
use Rattle.mux_model.specs.Runs.{line_of, lines}
use Rattle.mux_model.specs.Legal.{Line, bearers, bears}
use Rattle.mux_model.proofs.Happens.{same_sessions}
use Rattle.mux_legal.proofs.Worlds.{lines-append}
use Rattle.hub_log.specs.declared.terms.Terms.{Terms}
use Rattle.hub_log.specs.Moves.{Deed, Opened, Did, Quiet, TookOut, Move, EachMove, is_by, moves_of, begun, after, connection_of, connection_in}
use Rattle.hub_log.specs.Bag.{IsOwn}
use Rattle.hub_log.specs.Headline.{with_opened, sessions_of, with_one, connections_at}
use Rattle.hub_log.proofs.Logs.{connection_here, connection_past}

pub session_same : (id : SessionId) → same_session id id ≡ true
session_same (Client k) = eq-eqb k k refl
session_same (Server k) = eq-eqb k k refl

not_same : (a b : SessionId) → same_session a b ≡ false → same_session b a ≡ false
not_same a b e = by_test (same_session b a) refl
  where
    by_test : (x : Bool) → same_session b a ≡ x → x ≡ false
    by_test true h = (let one : true ≡ false = sym (session_same a) ∙ (ap (same_session a) (sym (same_sessions b a h)) ∙ e) in one)
    by_test false h = refl

-- a session that isn't among these
abbrev pub NotIn : SessionId → List SessionId → Type 0
NotIn id [] = Unit {0}
NotIn id (x ∷ xs) = (same_session id x ≡ false) × NotIn id xs

not_in_push : (id x : SessionId) (xs : List SessionId) → same_session id x ≡ false → NotIn id xs → NotIn id (xs ++ x ∷ [])
not_in_push id x [] e n = (e, tt)
not_in_push id x (y ∷ xs) e n = (n.0, not_in_push id x xs e n.1)

-- it stands there once
pub record Split (id : SessionId) (ids : List SessionId) : Type 0 where
  pub before : List SessionId
  pub behind : List SessionId
  pub is : ids ≡ before ++ id ∷ behind
  pub left : NotIn id before
  pub right : NotIn id behind

pub record Listed (id : SessionId) (o : Option Connection) (ids : List SessionId) : Type 0 where
  pub none : o ≡ None → NotIn id ids
  pub one : (c : Connection) → o ≡ Some c → Split id ids

abbrev pub line_in : Option Connection → Option Line
line_in None = None
line_in (Some c) = Some (line_of c)

module _ (t : Terms) where
  own_listed : (id : SessionId) (deed : Deed) (o : Option Connection) (ids : List SessionId) → IsOwn t id deed o → Listed id o ids → Listed id (after t id deed o) (with_opened id deed ids)
  own_listed id (Opened mode) None ids own l = record { none = λ e. absurd cc; one = λ c e. record { before = ids; behind = []; is = refl; left = l.none refl; right = tt } }
  own_listed id (Opened mode) (Some d) ids own l = absurd own
  own_listed id (Did call entry gives) None ids own l = absurd own
  own_listed id (Did call entry gives) (Some d) ids own l = record { none = λ e. absurd cc; one = λ c e. l.one d refl }
  own_listed id (Quiet call) None ids own l = absurd own
  own_listed id (Quiet call) (Some d) ids own l = l
  own_listed id (TookOut frames) None ids own l = absurd own
  own_listed id (TookOut frames) (Some d) ids own l = record { none = λ e. absurd cc; one = λ c e. l.one d refl }

  other_listed : (id x : SessionId) (deed : Deed) (o : Option Connection) (ids : List SessionId) → same_session id x ≡ false → Listed id o ids → Listed id o (with_opened x deed ids)
  other_listed id x (Opened mode) o ids n l = record {
    none = λ e. not_in_push id x ids n (l.none e);
    one = λ c e. (let s = l.one c e in record {
      before = s.before;
      behind = s.behind ++ x ∷ [];
      is = ap (λ ys. ys ++ x ∷ []) s.is ∙ append_assoc s.before (id ∷ s.behind) (x ∷ []);
      left = s.left;
      right = not_in_push id x s.behind n s.right;
    });
  }
  other_listed id x (Did call entry gives) o ids n l = l
  other_listed id x (Quiet call) o ids n l = l
  other_listed id x (TookOut frames) o ids n l = l

  pub listed : (log : List Move) → EachMove (λ m old. IsOwn t m.session m.deed (connection_in t m.session old)) log → (id : SessionId) → Listed id (connection_in t id log) (sessions_of log)
  listed [] own id = record { none = λ e. tt; one = λ c e. absurd cc }
  listed (m ∷ old) own id = by_test (is_by id m) refl (listed old own.1 id)
    where
      by_test : (b : Bool) → is_by id m ≡ b → Listed id (connection_in t id old) (sessions_of old) → Listed id (connection_in t id (m ∷ old)) (sessions_of (m ∷ old))
      by_test true e l =
          let same = same_sessions m.session id e in
          subst (λ x. Listed id x (with_opened m.session m.deed (sessions_of old))) (sym (connection_here t id m old e))
          (subst (λ x. Listed id (after t id m.deed (connection_in t id old)) (with_opened x m.deed (sessions_of old))) (sym same)
          (own_listed id m.deed (connection_in t id old) (sessions_of old) (subst (λ x. IsOwn t x m.deed (connection_in t x old)) same own.0) l))
      by_test false e l =
          subst (λ x. Listed id x (with_opened m.session m.deed (sessions_of old))) (sym (connection_past t id m old e))
          (other_listed id m.session m.deed (connection_in t id old) (sessions_of old) (not_same m.session id e) l)

  -- the connections of others stay
  others : (m : Move) (old : List Move) (ids : List SessionId) → NotIn m.session ids → connections_at t (m ∷ old) ids ≡ connections_at t old ids
  others m old [] n = refl
  others m old (x ∷ xs) n = λ i. with_one (connection_past t x m old n.0 i) (others m old xs n.1 i)

  with_more : (o : Option Connection) (xs ys : List Connection) → with_one o (xs ++ ys) ≡ with_one o xs ++ ys
  with_more None xs ys = refl
  with_more (Some c) xs ys = refl

  connections-append : (log : List Move) (xs ys : List SessionId) → connections_at t log (xs ++ ys) ≡ connections_at t log xs ++ connections_at t log ys
  connections-append log [] ys = refl
  connections-append log (x ∷ xs) ys = ap (with_one (connection_in t x log)) (connections-append log xs ys) ∙ with_more (connection_in t x log) (connections_at t log xs) (connections_at t log ys)

  -- one of them, between those before it and those behind it
  pub placed : (log : List Move) (id : SessionId) (ids : List SessionId) (s : Split id ids) (c : Connection) → connection_in t id log ≡ Some c
      → lines (connections_at t log ids) ≡ lines (connections_at t log s.before) ++ line_of c ∷ lines (connections_at t log s.behind)
  placed log id ids s c e =
      ap (λ xs. lines (connections_at t log xs)) s.is
      ∙ (ap lines (connections-append log s.before (id ∷ s.behind))
      ∙ (ap (λ o. lines (connections_at t log s.before ++ with_one o (connections_at t log s.behind))) e ∙ lines-append (connections_at t log s.before) (c ∷ connections_at t log s.behind)))

  -- after a move of its own
  pub replaced : (m : Move) (old : List Move) (ids : List SessionId) (s : Split m.session ids) (c : Connection) → connection_in t m.session (m ∷ old) ≡ Some c
      → lines (connections_at t (m ∷ old) ids) ≡ lines (connections_at t old s.before) ++ line_of c ∷ lines (connections_at t old s.behind)
  replaced m old ids s c e =
      placed (m ∷ old) m.session ids s c e ∙ (λ i. lines (others m old s.before s.left i) ++ line_of c ∷ lines (others m old s.behind s.right i))

  -- after it was opened
  pub pushed : (m : Move) (old : List Move) (ids : List SessionId) → NotIn m.session ids → (c : Connection) → connection_in t m.session (m ∷ old) ≡ Some c
      → lines (connections_at t (m ∷ old) (ids ++ m.session ∷ [])) ≡ lines (connections_at t old ids) ++ line_of c ∷ []
  pushed m old ids n c e =
      replaced m old (ids ++ m.session ∷ []) (record { before = ids; behind = []; is = refl; left = n; right = tt }) c e

  -- a move that makes no step leaves all lists as they are
  abbrev with_line : Option Line → List Line → List Line
  with_line None ls = ls
  with_line (Some l) ls = l ∷ ls

  lines_with : (o : Option Connection) (cs : List Connection) → lines (with_one o cs) ≡ with_line (line_in o) (lines cs)
  lines_with None cs = refl
  lines_with (Some c) cs = refl

  pub unmoved : (m : Move) (old : List Move) → line_in (connection_in t m.session (m ∷ old)) ≡ line_in (connection_in t m.session old) → (ids : List SessionId)
      → lines (connections_at t (m ∷ old) ids) ≡ lines (connections_at t old ids)
  unmoved m old same [] = refl
  unmoved m old same (x ∷ xs) =
      lines_with (connection_in t x (m ∷ old)) (connections_at t (m ∷ old) xs)
      ∙ ((λ i. with_line (of_one (is_by x m) refl i) (unmoved m old same xs i)) ∙ sym (lines_with (connection_in t x old) (connections_at t old xs)))
    where
      of_one : (b : Bool) → is_by x m ≡ b → line_in (connection_in t x (m ∷ old)) ≡ line_in (connection_in t x old)
      of_one true e = subst (λ y. line_in (connection_in t y (m ∷ old)) ≡ line_in (connection_in t y old)) (same_sessions m.session x e) same
      of_one false e = ap line_in (connection_past t x m old e)

  -- whose connection it is
  pub named : (id : SessionId) (own : List Move) (c : Connection) → connection_of t id own ≡ Some c → (c.boot ≡ t.boot) × (c.session ≡ id)
  named id [] c e = absurd cc
  named id (m ∷ own) c e = by_deed m.deed (connection_of t id own) (λ d at. named id own d at) e
    where
      by_deed : (deed : Deed) (o : Option Connection) → ((d : Connection) → o ≡ Some d → (d.boot ≡ t.boot) × (d.session ≡ id)) → after t id deed o ≡ Some c → (c.boot ≡ t.boot) × (c.session ≡ id)
      by_deed (Opened mode) o rest e = subst (λ (x : Connection). (x.boot ≡ t.boot) × (x.session ≡ id)) (let same : begun t id mode ≡ c = cc in same) (refl, refl)
      by_deed (Did call entry gives) None rest e = absurd cc
      by_deed (Did call entry gives) (Some d) rest e = subst (λ (x : Connection). (x.boot ≡ t.boot) × (x.session ≡ id)) (let same : stepped d call entry ≡ c = cc in same) (rest d refl)
      by_deed (Quiet call) o rest e = rest c e
      by_deed (TookOut frames) None rest e = absurd cc
      by_deed (TookOut frames) (Some d) rest e = subst (λ (x : Connection). (x.boot ≡ t.boot) × (x.session ≡ id)) (let same : record d { out = d.out + length frames } ≡ c = cc in same) (rest d refl)

  -- no other list bears a new session's name
  none_if : (b c : Bool) → c ≡ false → ◌≡◌ {A = ℕ} (if b && c then 1 else 0) 0
  none_if true c e = ap (λ x. if x then 1 else 0) e
  none_if false c e = refl

  pub no_bearers : (id : SessionId) (log : List Move) (ids : List SessionId) → NotIn id ids → bearers t.boot id (lines (connections_at t log ids)) ≡ 0
  no_bearers id log [] n = refl
  no_bearers id log (x ∷ xs) n = by_one (connection_in t x log) refl (no_bearers id log xs n.1)
    where
      by_one : (o : Option Connection) → connection_in t x log ≡ o → bearers t.boot id (lines (connections_at t log xs)) ≡ 0 → bearers t.boot id (lines (with_one o (connections_at t log xs))) ≡ 0
      by_one None e rest = rest
      by_one (Some c) e rest =
          let none : bears t.boot id (line_of c) ≡ 0 = none_if (c.boot == t.boot) (same_session c.session id) (ap (λ y. same_session y id) (named x (moves_of x log) c e).1 ∙ not_same id x n.0) in
          omega (arith, none, rest)
