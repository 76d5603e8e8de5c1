use Rattle.std.proofs.Common.{◌≡◌, ℕ, ◌+◌, List, drop, suc, sym, ap, ◌∙◌, true, false, arith}
use Rattle.translate_book.specs.declared.entry.Entry.{Entry}
use Rattle.translate_book.specs.Entries.{owes_recall}
use Rattle.translate_book.specs.Book.{first_owing}
use Rattle.translate_book.proofs.Lists.{read, drop_at, drop_end, first_owing-here, first_owing-later}
use Rattle.translate_book.proofs.Held.{first_owing-held}
use Rattle.translate_book.proofs.book.DownBook.first_due.Goals as goal

pub returns-then-owes_recall : goal.returns-then-owes_recall
returns-then-owes_recall c =
    let es : List (ℕ × Entry) = c.self.inside.entries.items in
    let p : ℕ × Entry = c.index.result.now in
    let e = drop_at es c.loop-i.i p (read es c.loop-i.i p (omega (arith, c.loop-i-test.true, c.len-i-end.ensures)) c.index.ensures) in
    let owes : owes_recall p.1 ≡ true = sym c.owes_recall.ensures ∙ c.if-owes_recall.true in
    rw (← c.self.view_is) (sym (first_owing-held es ∙ c.loop-i.invariant ∙ ap first_owing e ∙ first_owing-here p (drop (suc c.loop-i.i) es) owes))

pub loop-i-preserved : goal.loop-i-preserved
loop-i-preserved c =
    let es : List (ℕ × Entry) = c.self.inside.entries.items in
    let p : ℕ × Entry = c.index.result.now in
    let e = drop_at es c.loop-i.i p (read es c.loop-i.i p (omega (arith, c.loop-i-test.true, c.len-i-end.ensures)) c.index.ensures) in
    let owes : owes_recall p.1 ≡ false = sym c.owes_recall.ensures ∙ c.if-owes_recall.false in
    let next : suc c.loop-i.i ≡ c.loop-i.i + 1 = omega arith in
    let rest = first_owing-later p (drop (suc c.loop-i.i) es) owes in
    c.loop-i.invariant ∙ ap first_owing e ∙ rest ∙ ap (λ n. first_owing (drop n es)) next

pub returns : goal.returns
returns c =
    let es : List (ℕ × Entry) = c.self.inside.entries.items in
    let none = drop_end es c.loop-i.i (omega (arith, c.loop-i-test.false, c.len-i-end.ensures)) in
    rw (← c.self.view_is) (sym (first_owing-held es ∙ c.loop-i.invariant ∙ ap first_owing none))
