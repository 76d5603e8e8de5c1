use Rattle.std.proofs.Common.{rules, subst}
use Rattle.hub_close.specs.Receipts.{IsFirstWrongFrom}
use Rattle.hub_close.proofs.receipts.Receipts.first_wrong.Goals as goal

pub returns-clause-some : goal.returns-clause-some
returns-clause-some c =
    subst (λ xs. IsFirstWrongFrom c.args.first c.args.epochs.now xs c.in_ok-place.place.at) (search rules)
    c.in_ok-place.ensures.some
