-- A session that is rolled: all goes on but the records.
use Rattle.std.proofs.Common.{◌≡◌, ℕ, ◌+◌, ◌*◌, ◌<◌, ◌≤◌, Bool, true, false, if◌then◌else◌, List, [], ◌∷◌, ◌++◌, length, suc, None, sym, ◌∙◌, ap, subst, append-nil, arith}
use Rattle.std.specs.Prelude.{max, sum_by}
use Rattle.std.proofs.lemmas.List.Sums.{sum_by-cons}
use Rattle.std.proofs.Math.Nat.{mul-suc, suc-mul, mul-le-mul_left}
use Rattle.mux_history.specs.Bounds.{Bounds}
use Rattle.mux_history.specs.declared.name.Name.{Name}
use Rattle.mux_history.specs.declared.record.Record.{Record}
use Rattle.mux_history.specs.Readings.{note_due, answer_due, gave_recall, book as book_of}
use Rattle.mux_model.specs.Down.{is_held, kept_for, left_of}
use Rattle.mux_history.specs.declared.kind.RecordKind.TheVariants as kinds
use Rattle.mux_model.specs.Steps.{RollCall, records, entries, rolling}
use Rattle.server_session.specs.Past.{Past, add, sent_of}
use Rattle.server_session.specs.State.{State, rolled_in, kept_in}
use Rattle.server_session.specs.Belonging.{Belongs}
use Rattle.server_session.proofs.Figures.{load_same, kept_same}

pub kept_rolled : (s : State) (p : Past) → Belongs s p → Belongs (rolled_in s) (add p RollCall (rolling (records p.steps)))
kept_rolled s p b = record {
  boot = b.boot;
  client = b.client;
  limits = b.limits;
  epoch = ap (λ n. n + 1) b.epoch;
  records = λ i. record { kind = kinds.Rolled (b.epoch i + 1); tag = 0; name = None; reading = max (b.reading i) 0 } ∷ [];
  queue = ap (λ fs. p.out ++ fs) (append-nil s.queue) ∙ b.queue ∙ sym (append-nil (sent_of (entries p.steps)));
  dispatches = b.dispatches;
  reading = ap (λ r. max r 0) b.reading;
  init = b.init;
  drain = b.drain;
  closed = b.closed;
  names = b.names;
  rises = b.rises;
  once = b.once;
  entries = λ seq e is. let m = b.entries seq e is in record { words = m.words; unsaid = m.unsaid; clean = m.clean };
  absent = b.absent;
  later = b.later;
  held = b.held;
  shut = b.shut;
}

-- an entry keeps at most three places, and two more for each try
kept_most : (limits : Bounds) (held : Name → Bool) (rs : List Record) (n : Name) → kept_for limits held rs n ≤ 3 + 2 * limits.retries
kept_most limits held rs n = by (note_due n rs) (answer_due n rs) (gave_recall n rs) (held n) (left_of limits n rs) limits.retries (omega arith)
  where
    one : (a : Bool) → (if a then 1 else 0) ≤ 1
    one true = omega arith
    one false = omega arith

    two : (a b : Bool) → (if a then (if b then 1 else 2) else 0) ≤ 2
    two true true = omega arith
    two true false = omega arith
    two false b = omega arith

    tries : (a : Bool) (left : ℕ) → (if a then 2 * left else 0) ≤ 2 * left
    tries true left = omega arith
    tries false left = omega arith

    by : (a b c d : Bool) (left most : ℕ) → left ≤ most
        → (if a then 1 else 0) + (if b then (if c then 1 else 2) else 0) + (if d then 2 * left else 0) ≤ 3 + 2 * most
    by a b c d left most below = omega (arith, one a, two b c, tries d left, below)

-- a sum of terms none of which is above a bound
at_most : (k : ℕ) (f : Name → ℕ) → ((n : Name) → f n ≤ k) → (ns : List Name) → sum_by f ns ≤ k * length ns
at_most k f below [] = omega arith
at_most k f below (n ∷ ns) = omega (arith, sum_by-cons f n ns, mul-suc k (length ns), below n, at_most k f below ns)

-- what may be held never keeps more than half of a history that is large enough
pub ample : (s : State) (p : Past) → Belongs s p → length s.book ≤ s.limits.window → s.limits.history < 2 * (length s.book + kept_in s.book)
    → s.limits.history < 2 * ((4 + 2 * s.limits.retries) * s.limits.window)
ample s p b within over =
    let r = s.limits.retries in
    let most : kept_in s.book ≤ (3 + 2 * r) * length s.book =
    omega (
      arith,
      kept_same s p b,
      at_most (3 + 2 * p.session.limits.retries) _ (kept_most p.session.limits (λ n. is_held p.session n p.steps) (records p.steps)) (book_of (records p.steps)),
      load_same s p b,
      ap (λ (l : Bounds). (3 + 2 * l.retries) * length s.book) b.limits,
      ap (λ (n : ℕ). (3 + 2 * p.session.limits.retries) * n) (load_same s p b),
    ) in
    by s.limits.history (length s.book) (kept_in s.book) s.limits.window (3 + 2 * r) (4 + 2 * r) (omega arith)
    over most within
  where
    by : (history load kept window k m : ℕ) → m ≡ suc k → history < 2 * (load + kept) → kept ≤ k * load → load ≤ window → history < 2 * (m * window)
    by history load kept window k m is over most within =
        subst (λ (x : ℕ). history < 2 * (x * window)) (sym is) (omega (arith, over, most, suc-mul k load, mul-le-mul_left (suc k) within))
