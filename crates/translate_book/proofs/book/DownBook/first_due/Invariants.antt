use Rattle.std.proofs.Common.{◌≡◌, drop}
use Rattle.translate_book.specs.Book.{first_owing}
use Rattle.translate_book.proofs.book.DownBook.first_due.Given as goal

abbrev pub invariant-loop-i : goal.invariant-loop-i
invariant-loop-i l =
    first_owing l.self-inside.entries.items ≡ first_owing (drop l.i l.self-inside.entries.items)
