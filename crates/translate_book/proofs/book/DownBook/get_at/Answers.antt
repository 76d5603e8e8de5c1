use Rattle.std.proofs.Common.{◌≡◌, true, false, sym, ap, ◌∙◌}
use Rattle.translate_book.specs.Book.{entry_at}
use Rattle.translate_book.specs.Entries.{is_held}
use Rattle.translate_book.proofs.Held.{held-absent, held-there, held-left}
use Rattle.translate_book.proofs.book.DownBook.get_at.Goals as goal

pub returns-in_err-entry : goal.returns-in_err-entry
returns-in_err-entry c =
    rw (c.from_residual.ensures, ← c.self.view_is) (sym (held-absent c.args.seq c.self.inside.entries.items (ap (entry_at c.args.seq) (sym c.deref.ensures.value) ∙ sym c.in_err-entry.ensures.value)))

pub returns-then-is_held : goal.returns-then-is_held
returns-then-is_held c =
    let e = c.in_ok-entry.entry.now in
    let held : is_held e ≡ true = sym c.is_held.ensures ∙ c.if-is_held.true in
    rw (← c.self.view_is) (sym (held-there c.args.seq c.self.inside.entries.items e (ap (entry_at c.args.seq) (sym c.deref.ensures.value) ∙ sym c.in_ok-entry.ensures.value) held))

pub returns-else-is_held : goal.returns-else-is_held
returns-else-is_held c =
    let e = c.in_ok-entry.entry.now in
    let left : is_held e ≡ false = sym c.is_held.ensures ∙ c.if-is_held.false in
    rw (← c.self.view_is) (sym (held-left c.args.seq 0 c.self.inside.entries.items c.self.inside.last e c.self.invariant.rises (ap (entry_at c.args.seq) (sym c.deref.ensures.value) ∙ sym c.in_ok-entry.ensures.value) left))
