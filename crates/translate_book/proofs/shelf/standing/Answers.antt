use Rattle.std.proofs.Common.{ℕ, Some, sym, ap, ◌∙◌, get_or}
use Rattle.translate_book.specs.declared.entry.Entry.{Entry}
use Rattle.translate_book.proofs.Held.{found_at}
use Rattle.translate_book.proofs.Lists.{read}
use Rattle.translate_book.proofs.shelf.standing.Goals as goal

pub returns-clause-place : goal.returns-clause-place
returns-clause-place c =
    let p : ℕ × Entry = c.in-Some.field-0.now in
    let got = c.in-Some.ensures.lookup in
    read c.args.entries.now c.args.guess p got.3.0 got.1 ∙ ap (λ (n : ℕ). Some (n, p.1)) c.if-number-seq.true

pub returns-clause-value : goal.returns-clause-value
returns-clause-value c =
    sym (found_at c.args.seq c.in-Some.field-0.now.1 0 c.args.entries.now c.requires.0 c.args.guess c.requires.1 (returns-clause-place c))

pub returns-2-clause-place : goal.returns-2-clause-place
returns-2-clause-place c =
    let es = c.args.entries.now in
    let got = c.in-Some-look_up.ensures.place in
    let p : ℕ × Entry = c.index-entries-place.result in
    read es c.in-Some-look_up.place p got.0 c.index-entries-place.is
    ∙ ap (λ (n : ℕ). Some (n, p.1)) (ap (λ (q : ℕ × Entry). q.0) c.index-entries-place.is ∙ got.1 p)
    ∙ ap (λ (q : ℕ × Entry). Some (c.args.seq, q.1)) c.index-entries-place.is

pub returns-2-clause-value : goal.returns-2-clause-value
returns-2-clause-value c =
    let es = c.args.entries.now in
    let p : ℕ × Entry = get_or es c.in-Some-look_up.place c.index-entries-place.result in
    sym (found_at c.args.seq p.1 0 es c.requires.0 c.in-Some-look_up.place c.requires.1 (returns-2-clause-place c))
