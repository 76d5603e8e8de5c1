use Rattle.std.proofs.Common.{rules, ◌≡◌, ◌+◌, ◌∙◌, ap, drop, length, subst, true}
use Rattle.hub_close.specs.Packing.{stubs}
use Rattle.hub_close.specs.Receipts.{IsFirstWrongFrom, Rise, StandAllFrom, is_behind}
use Rattle.hub_close.specs.Receiving.{Receiving}
use Rattle.hub_close.proofs.Fronts.{all_settled, behind_at, settled_by}
use Rattle.hub_close.proofs.receipts.Receipts.settle.Goals as goal

pub returns-in-None-clause-settled : goal.returns-in-None-clause-settled
returns-in-None-clause-settled c =
    all_settled _ _ _ _ (search rules)
    (subst (λ xs. StandAllFrom c.args.first c.args.epochs.now xs) (search rules) c.in-None.ensures.stand)
    (subst (λ xs. Rise xs) (search rules) c.in-None.ensures.rise)

pub returns-then-is_before-clause-wrong : goal.returns-then-is_before-clause-wrong
returns-then-is_before-clause-wrong c =
    subst (λ xs. IsFirstWrongFrom c.args.first c.args.epochs.now xs c.in-Some.place.at) (search rules) c.in-Some.ensures.some

pub returns-then-is_before-clause-within : goal.returns-then-is_before-clause-within
returns-then-is_before-clause-within c =
    let xs = stubs c.self.inside.boot c.as_slice-packed.result.now c.as_slice-whole.result.now in
    subst (λ ys. is_behind (c.args.first + length c.args.epochs.now) (drop c.in-Some.place.at ys) ≡ true) {x = xs} (search rules)
    (behind_at (c.args.first + length c.args.epochs.now) xs c.in-Some.place.at c.stub_at-receipt.result c.stub_at-receipt.ensures
    ∙ search rules)

pub returns-else-is_before-clause-settled : goal.returns-else-is_before-clause-settled
returns-else-is_before-clause-settled c =
    let xs = stubs c.self.inside.boot c.as_slice-packed.result.now c.as_slice-whole.result.now in
    settled_by c.args.first c.args.epochs.now c.in-Some.place.at xs c.args.self.now.list _ (search rules)
    (c.drop_fronts.ensures.list c.self.inside.boot ∙ ap (λ (v : Receiving). drop c.in-Some.place.at v.list) c.self.view_is)
    c.in-Some.ensures.some
    (behind_at (c.args.first + length c.args.epochs.now) xs c.in-Some.place.at c.stub_at-receipt.result c.stub_at-receipt.ensures
    ∙ search rules)
