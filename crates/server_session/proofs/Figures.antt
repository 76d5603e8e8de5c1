-- What the state decides is what the list decides.
use Rattle.std.proofs.Common.{◌≡◌, ℕ, ◌+◌, ◌*◌, Bool, cond, List, [], ◌∷◌, length, Some, refl, sym, ◌∙◌, ap, arith}
use Rattle.std.specs.Prelude.{count_by, sum_by, reverse, if◌then◌else◌}
use Rattle.std.proofs.lemmas.List.{length-map, length-reverse}
use Rattle.std.proofs.lemmas.List.Sums.{sum_by-cons, sum_by-append}
use Rattle.std.proofs.lemmas.Bool.{eq-eqb, ne_eqb}
use mathlib.Core.List.{reverse-cons}
use Rattle.mux_history.specs.declared.name.Name.{Name}
use Rattle.mux_history.specs.declared.session.DrainState.{DrainState}
use Rattle.mux_history.specs.declared.session.DrainState.TheVariants as drains
use Rattle.mux_history.specs.Readings.{book as book_of, drain_of, written}
use Rattle.mux_model.specs.Steps.{records}
use Rattle.mux_model.specs.Down.{is_held, kept_for}
use Rattle.translate_book.specs.declared.entry.Entry.{Entry}
use Rattle.translate_book.specs.Entries.{is_open}
use Rattle.translate_book.specs.Book.{entry_at, open_count, Rises}
use Rattle.server_session.specs.Past.{Past, Words, words_of, figures_of}
use Rattle.server_session.specs.State.{State, figures_in, weight, opening, kept_in, stage, asked_on_one}
use Rattle.server_session.specs.Belonging.{Belongs, name_in}
use Rattle.server_session.proofs.Books.{Entries, open_count-sum}
use Rattle.server_session.proofs.Naming.{naming_of, given}
use Rattle.server_session.proofs.Dispatches.{open_same}
use Rattle.server_session.proofs.Queue.{queued_same}

pub load_same : (s : State) (p : Past) → Belongs s p → length s.book ≡ length (book_of (records p.steps))
load_same s p b =
    sym (length-map s.book (λ e. name_in p.session e.0)) ∙ ap (λ (ns : List Name). length ns) b.names ∙ length-reverse (book_of (records p.steps))

sum_reverse : (g : Name → ℕ) (ns : List Name) → sum_by g (reverse ns) ≡ sum_by g ns
sum_reverse g [] = refl
sum_reverse g (n ∷ ns) =
    let one = sum_by-cons g n ns in
    let two = ap (sum_by g) (reverse-cons n ns) ∙ sum_by-append g (reverse ns) (n ∷ []) in
    let three = sum_by-cons g n [] in
    let rest = sum_reverse g ns in
    omega (arith, one, two, three, rest)

-- a sum over the entries is one over their names, where each entry weighs as its name
summed : (p : Past) (f : Entry → ℕ) (g : Name → ℕ) (low : ℕ) (es : Entries) (high : ℕ) → Rises low es high
    → ((seq : ℕ) (e : Entry) → entry_at seq es ≡ Some e → f e ≡ g (name_in p.session seq))
    → sum_by (λ (e : ℕ × Entry). f e.1) es ≡ sum_by g (naming_of p.session es)
summed p f g low [] high h same = refl
summed p f g low (x ∷ es) high h same =
    let one = sum_by-cons (λ (e : ℕ × Entry). f e.1) x es in
    let two = sum_by-cons g (name_in p.session x.0) (naming_of p.session es) in
    let here = same x.0 x.1 (ap (λ b. cond b (Some x.1) (entry_at x.0 es)) (eq-eqb x.0 x.0 refl)) in
    let rest = summed p f g x.0 es high h.1 (λ seq e at.
    let above = (given seq x.0 es e high h.1 at).0 in
    same seq e (ap (λ b. cond b (Some x.1) (entry_at seq es)) (ne_eqb seq x.0 (λ e. omega (arith, e, above))) ∙ at)) in
    omega (arith, one, two, here, rest)

one_for : Bool → ℕ
one_for z = if z then 1 else 0

pub in_use_same : (s : State) (p : Past) → Belongs s p → open_count s.book ≡ count_by (λ n. is_held p.session n p.steps) (book_of (records p.steps))
in_use_same s p b =
    open_count-sum s.book
    ∙ summed p opening (λ n. cond (is_held p.session n p.steps) 1 0) 0 s.book s.dispatches b.rises (λ seq e at. ap (λ z. if z then 1 else 0) (sym (open_same s p seq e b at)))
    ∙ ap (sum_by (λ n. cond (is_held p.session n p.steps) 1 0)) b.names
    ∙ sum_reverse (λ n. cond (is_held p.session n p.steps) 1 0) (book_of (records p.steps))

abbrev weighing : Bool → Words → ℕ
weighing in_use w = (if w.note then 1 else 0) + (if w.answer then (if w.recalled then 1 else 2) else 0) + (if in_use then 2 * w.left else 0)

pub kept_same : (s : State) (p : Past) → Belongs s p → kept_in s.book ≡ sum_by (kept_for p.session.limits (λ n. is_held p.session n p.steps) (records p.steps)) (book_of (records p.steps))
kept_same s p b =
    summed p weight (kept_for p.session.limits (λ n. is_held p.session n p.steps) (records p.steps)) 0 s.book s.dispatches b.rises
    (λ seq e at. ap (weighing (is_open e)) (b.entries seq e at).words ∙ ap (λ z. weighing z (words_of p.session p.steps (name_in p.session seq))) (sym (open_same s p seq e b at)))
    ∙ ap (sum_by (kept_for p.session.limits (λ n. is_held p.session n p.steps) (records p.steps))) b.names
    ∙ sum_reverse (kept_for p.session.limits (λ n. is_held p.session n p.steps) (records p.steps)) (book_of (records p.steps))

pub staged : (d : DrainState) → stage (asked_on_one d) ≡ d
staged drains.Running = refl
staged drains.Asked = refl
staged drains.Acked = refl

-- by the state and by the list, a session decides alike
pub figures_same : (s : State) (p : Past) → Belongs s p → figures_in s ≡ figures_of p
figures_same s p b = λ i. record {
  limits = b.limits i;
  closed = b.closed i;
  fresh = b.init i;
  drain = (ap stage b.drain ∙ staged (drain_of (records p.steps))) i;
  dispatches = b.dispatches i;
  epoch = b.epoch i;
  records = (ap length b.records ∙ length-reverse (written (records p.steps))) i;
  queued = queued_same s p b i;
  load = load_same s p b i;
  in_use = in_use_same s p b i;
  kept = kept_same s p b i;
}
