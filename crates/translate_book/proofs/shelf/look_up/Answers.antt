use Rattle.std.proofs.Common.{ℕ, Err, Ok, rules}
use Rattle.std.proofs.lemmas.List.Sorted.{answers_always}
use Rattle.translate_book.specs.declared.entry.Entry.{Entry}
use Rattle.translate_book.proofs.Search.{searched}
use Rattle.translate_book.proofs.shelf.look_up.Goals as goal

pub returns-in_default-clause-none : goal.returns-in_default-clause-none
returns-in_default-clause-none c =
    let by_number = c.in_default.ensures.position (λ (p : ℕ × Entry). p.0) (answers_always _ _ _ (λ f a r g called. search rules)) in
    (searched c.args.entries.now c.requires.0 c.requires.1 c.args.seq (Err c.in_default.field-0) c.in_default.ensures.bound by_number).absent

pub returns-clause-place : goal.returns-clause-place
returns-clause-place c =
    let by_number = c.in-Ok.ensures.position (λ (p : ℕ × Entry). p.0) (answers_always _ _ _ (λ f a r g called. search rules)) in
    (searched c.args.entries.now c.requires.0 c.requires.1 c.args.seq (Ok c.in-Ok.place) c.in-Ok.ensures.bound by_number).found
