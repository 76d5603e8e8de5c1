-- The lists that are shown, after one of them has got an entry.
use Rattle.std.proofs.Common.{◌≡◌, ◌+◌, ◌<◌, ◌≤◌, ℕ, zero, suc, List, [], ◌∷◌, Bool, true, false, Some, None, refl, sym, ◌∙◌, ap, subst, map, length, set, slice_index_or, arith, if◌then◌else◌}
use Rattle.std.proofs.lemmas.Grind.{reverse_onto}
use Rattle.std.specs.List.{slice_get}
use Rattle.std.proofs.lemmas.Option.{slice_get_read}
use Rattle.mux_history.specs.declared.session.SessionId.{SessionId}
use Rattle.mux_model.specs.Entries.{Exchange}
use Rattle.mux_model.specs.Steps.{Call, entries}
use Rattle.mux_model.specs.World.{Connection, stepped}
use Rattle.mux_model.specs.Events.{is_at, connection_at, replaced}
use Rattle.router_core.specs.declared.sides.Side.{Side}
use Rattle.router_core.specs.Lists.{side_of, shown_side, with_entry, is_side, entered, IsSideAt}

-- of connections

module _ (b : ℕ) (id : SessionId) where
  one_entry : (call : Call) (e : Exchange) (x : Connection) → side_of (stepped x call e) ≡ with_entry e (side_of x)
  one_entry call e x = ap (λ (l : List Exchange). record { boot = x.boot; session = x.session; entries = l }) (reverse_onto (entries x.steps) e [])

  pub stepped_sides : (call : Call) (e : Exchange) (c : Connection) (cs : List Connection) → connection_at b id cs ≡ Some c → map side_of (replaced b id (stepped c call e) cs) ≡ entered b id e (map side_of cs)
  stepped_sides call e c [] at = refl
  stepped_sides call e c (x ∷ cs) at = by_test (is_at b id x) at (stepped_sides call e c cs)
    where
      by_test : (t : Bool) → (if t then Some x else connection_at b id cs) ≡ Some c
          → (connection_at b id cs ≡ Some c → map side_of (replaced b id (stepped c call e) cs) ≡ entered b id e (map side_of cs))
          → map side_of (if t then stepped c call e ∷ cs else x ∷ replaced b id (stepped c call e) cs)
          ≡ (if t then with_entry e (side_of x) ∷ map side_of cs else side_of x ∷ entered b id e (map side_of cs))
      by_test true at rec = (let same : x ≡ c = cc in ap (λ (y : Connection). side_of (stepped y call e) ∷ map side_of cs) (sym same) ∙ ap (λ s. s ∷ map side_of cs) (one_entry call e x))
      by_test false at rec = ap (λ l. side_of x ∷ l) (rec at)

  -- what is taken out of a queue shows in no list
  pub out_sides : (n : ℕ) (c : Connection) (cs : List Connection) → connection_at b id cs ≡ Some c → map side_of (replaced b id (record c { out = n }) cs) ≡ map side_of cs
  out_sides n c [] at = refl
  out_sides n c (x ∷ cs) at = by_test (is_at b id x) at (out_sides n c cs)
    where
      by_test : (t : Bool) → (if t then Some x else connection_at b id cs) ≡ Some c
          → (connection_at b id cs ≡ Some c → map side_of (replaced b id (record c { out = n }) cs) ≡ map side_of cs)
          → map side_of (if t then record c { out = n } ∷ cs else x ∷ replaced b id (record c { out = n }) cs) ≡ side_of x ∷ map side_of cs
      by_test true at rec = (let same : x ≡ c = cc in ap (λ (y : Connection). side_of y ∷ map side_of cs) (sym same))
      by_test false at rec = ap (λ l. side_of x ∷ l) (rec at)

  -- of what the code keeps: none of the first k is the session's

  abbrev pub NotBefore : List Side → ℕ → Type 0
  NotBefore ss zero = Unit {0}
  NotBefore [] (suc k) = Unit {0}
  NotBefore (s ∷ ss) (suc k) = (is_side b id (shown_side s) ≡ false) × NotBefore ss k

  one_further : (ss : List Side) (k : ℕ) (s : Side) → NotBefore ss k → slice_get ss k ≡ Some s → is_side b id (shown_side s) ≡ false → NotBefore ss (suc k)
  one_further [] zero s before at other = absurd (cc)
  one_further [] (suc k) s before at other = tt
  one_further (x ∷ ss) zero s before at other = (let same : x ≡ s = cc in subst (λ y. is_side b id (shown_side y) ≡ false) (sym same) other, tt)
  one_further (x ∷ ss) (suc k) s before at other = (before.0, one_further ss k s before.1 at other)

  not_there : (ss : List Side) → NotBefore ss (length ss) → (e : Exchange) → entered b id e (map shown_side ss) ≡ map shown_side ss
  not_there [] before e = refl
  not_there (s ∷ ss) before e =
      ap (λ t. if t then with_entry e (shown_side s) ∷ map shown_side ss else shown_side s ∷ entered b id e (map shown_side ss)) before.0 ∙ ap (λ l. shown_side s ∷ l) (not_there ss before.1 e)

  abbrev Enters : List Side → ℕ → Side → Type 0
  Enters ss k s = (t : Side) (e : Exchange) → shown_side t ≡ with_entry e (shown_side s) → map shown_side (set ss k t) ≡ entered b id e (map shown_side ss)

  there : (ss : List Side) (k : ℕ) (s : Side) → NotBefore ss k → slice_get ss k ≡ Some s → is_side b id (shown_side s) ≡ true → Enters ss k s
  there [] k s before at is = absurd (cc)
  there (x ∷ ss) zero s before at is = λ t e shows.
      (let same : x ≡ s = cc in
      let here : is_side b id (shown_side x) ≡ true = subst (λ y. is_side b id (shown_side y) ≡ true) (sym same) is in
      ap (λ y. y ∷ map shown_side ss) (shows ∙ ap (λ y. with_entry e (shown_side y)) (sym same))
      ∙ sym (ap (λ t. if t then with_entry e (shown_side x) ∷ map shown_side ss else shown_side x ∷ entered b id e (map shown_side ss)) here))
  there (x ∷ ss) (suc k) s before at is = λ t e shows.
      ap (λ l. shown_side x ∷ l) (there ss k s before.1 at is t e shows)
      ∙ sym (ap (λ t. if t then with_entry e (shown_side x) ∷ map shown_side ss else shown_side x ∷ entered b id e (map shown_side ss)) before.0)

  pub found : (ss : List Side) (k : ℕ) (s : Side) → NotBefore ss k → k < length ss → s ≡ slice_index_or ss k s → is_side b id (shown_side s) ≡ true → IsSideAt b id ss (Some k)
  found ss k s before within at is = (let get = slice_get_read ss (length ss) k s refl within at in (s, get, there ss k s before get is))

  pub passed : (ss : List Side) (k : ℕ) (s : Side) → NotBefore ss k → k < length ss → s ≡ slice_index_or ss k s → is_side b id (shown_side s) ≡ false → NotBefore ss (k + 1)
  passed ss k s before within at other =
      (let next : suc k ≡ k + 1 = omega arith in subst (λ j. NotBefore ss j) next (one_further ss k s before (slice_get_read ss (length ss) k s refl within at) other))

  pub ended : (ss : List Side) (k : ℕ) → NotBefore ss k → k ≤ length ss → length ss ≤ k → IsSideAt b id ss None
  ended ss k before most past = (let is : k ≡ length ss = omega arith in not_there ss (subst (λ j. NotBefore ss j) is before))
