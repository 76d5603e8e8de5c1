use Rattle.std.proofs.Common.{rules, ◌≡◌, ◌∙◌, Some, ap, length, subst, sym}
use Rattle.std.specs.Prelude.{slice_get}
use Rattle.hub_close.specs.Packing.{stubs}
use Rattle.hub_close.specs.Receiving.{Receiving}
use Rattle.hub_close.proofs.Lists.{last_is, stubs_length}
use Rattle.hub_close.proofs.receipts.Receipts.last.Goals as goal

pub returns : goal.returns
returns c rs r is =
    last_is c.args.self.now.list rs r c.stub_at.result c.last_place.result.at is
    (c.last_place.ensures.at ∙ ap length c.as_slice-packed.ensures.value
    ∙ sym (stubs_length c.self.inside.boot c.self.inside.packed.items c.self.inside.whole.items)
    ∙ ap (λ (v : Receiving). length v.list) c.self.view_is)
    (subst (λ xs. slice_get xs c.last_place.result.at ≡ Some c.stub_at.result)
    {x = stubs c.self.inside.boot c.as_slice-packed.result.now c.as_slice-whole.result.now} (search rules) c.stub_at.ensures)
