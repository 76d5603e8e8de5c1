use Rattle.std.proofs.Common.{ℕ, List, ◌∙◌, ap, drop, length, sym}
use Rattle.std.specs.Prelude.{count_by}
use Rattle.hub_close.specs.declared.packed.Packed.{Packed}
use Rattle.hub_close.specs.declared.receipt.Stub.{Stub}
use Rattle.hub_close.specs.Packing.{is_mark, stubs}
use Rattle.hub_close.proofs.Lists.{marks_left, stubs_drop}
use Rattle.hub_close.proofs.receipts.drop_fronts.Goals as goal

pub returns-clause-list : goal.returns-clause-list
returns-clause-list c boot =
    ap (λ (ps : List Packed). stubs boot ps c.drop_front-2.new.list.items) c.drop_front.ensures.items
    ∙ ap (λ (ws : List Stub). stubs boot (drop c.args.place.at c.args.packed.now.items) ws)
    (c.drop_front-2.ensures.items ∙ ap (λ (n : ℕ). drop n c.args.whole.now.items) c.requires.marks)
    ∙ sym (stubs_drop boot c.args.place.at c.args.packed.now.items c.args.whole.now.items)

pub returns-clause-marks : goal.returns-clause-marks
returns-clause-marks c =
    ap (count_by is_mark) c.drop_front.ensures.items
    ∙ marks_left c.args.packed.now.items c.args.whole.now.items c.args.place.at c.args.place.marks c.requires.marks c.requires.whole
    ∙ sym (ap length c.drop_front-2.ensures.items)
