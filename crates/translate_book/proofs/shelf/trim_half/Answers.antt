use Rattle.std.proofs.Common.{List, ℕ, ap, arith, sym, length, subst, ◌∙◌}
use Rattle.std.proofs.lemmas.List.{nil_from_length}
use Rattle.translate_book.specs.Book.{held_in, Rises}
use Rattle.translate_book.specs.declared.entry.Entry.{Entry}
use Rattle.translate_book.proofs.Held.{held-held, Rises-held}
use Rattle.translate_book.proofs.shelf.trim_half.Goals as goal

-- none of those that are cleared are in the book
pub returns-then-held-eq0-clause-same : goal.returns-then-held-eq0-clause-same
returns-then-held-eq0-clause-same c =
    ap held_in c.clear.ensures.items ∙ sym (nil_from_length (held_in c.args.entries.now.items) (omega (arith, c.requires, c.if-held-eq0.true)))

pub returns-then-held-eq0-clause-rises : goal.returns-then-held-eq0-clause-rises
returns-then-held-eq0-clause-rises c = λ high rises.
    let none = nil_from_length (held_in c.args.entries.now.items) (omega (arith, c.requires, c.if-held-eq0.true)) in
    rw c.clear.ensures.items (subst (λ (es : List (ℕ × Entry)). Rises 0 es high) none (Rises-held 0 c.args.entries.now.items high rises))

pub returns-then-saturating_sub-min-clause-same : goal.returns-then-saturating_sub-min-clause-same
returns-then-saturating_sub-min-clause-same c = ap held_in c.cut_off.ensures.after ∙ held-held c.args.entries.now.items

pub returns-then-saturating_sub-min-clause-rises : goal.returns-then-saturating_sub-min-clause-rises
returns-then-saturating_sub-min-clause-rises c = λ high rises.
    rw c.cut_off.ensures.after (Rises-held 0 c.args.entries.now.items high rises)

pub returns-then-saturating_sub-min-clause-count : goal.returns-then-saturating_sub-min-clause-count
returns-then-saturating_sub-min-clause-count c =
    c.requires ∙ ap length (sym (ap held_in c.cut_off.ensures.after ∙ held-held c.args.entries.now.items))
