use Rattle.std.proofs.Common.{Some, ◌∙◌, ap, sym}
use Rattle.hub_close.specs.declared.receipt.Stub.{Stub}
use Rattle.hub_close.proofs.Lists.{found_mark, found_packed}
use Rattle.hub_close.proofs.wrong.stub_at.Goals as goal

pub returns-then-is_mark : goal.returns-then-is_mark
returns-then-is_mark c =
    found_mark c.args.boot c.args.place.at c.args.packed.now c.args.whole.now _ c.args.place.marks c.index-whole-place.result c.requires.within c.requires.marks c.requires.whole
    (sym c.is_mark.ensures ∙ c.if-is_mark.true) c.index-whole-place.is

pub returns-else-is_mark : goal.returns-else-is_mark
returns-else-is_mark c =
    found_packed c.args.boot c.args.place.at c.args.packed.now c.args.whole.now _ c.requires.within (sym c.is_mark.ensures ∙ c.if-is_mark.false)
    ∙ ap (λ (x : Stub). Some x) (sym c.stub.ensures)
