use Rattle.std.proofs.Common.{◌≡◌, take}
use Rattle.std.specs.Prelude.{count_by}
use Rattle.hub_close.specs.Packing.{before, is_mark, stubs}
use Rattle.hub_close.specs.Receipts.{AreRightFrom}
use Rattle.hub_close.proofs.wrong.first_wrong_of.Given as goal

abbrev pub invariant-loop-at : goal.invariant-loop-at
invariant-loop-at l =
    AreRightFrom l.first l.epochs (stubs l.boot l.packed l.whole) l.at
    × (l.marks ≡ count_by is_mark (take l.at l.packed))
    × (l.last ≡ before (stubs l.boot l.packed l.whole) l.at)
