use Rattle.translate_book.proofs.Held.{Rises-held}
use Rattle.translate_book.proofs.book.DownBook.len.Goals as goal

pub returns-clause-rising : goal.returns-clause-rising
returns-clause-rising c = rw (← c.self.view_is) (Rises-held 0 c.self.inside.entries.items c.self.inside.last c.self.invariant.rises)
