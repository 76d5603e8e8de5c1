use Rattle.std.proofs.Common.{rules}
use Rattle.hub_close.specs.declared.count.Class.TheVariants.{Gained, Noted, Offered, Used}
use Rattle.hub_close.proofs.Classes.{as_many}
use Rattle.hub_close.proofs.balance.are_used.Goals as goal

pub returns-then-count : goal.returns-then-count
returns-then-count c = λ all is few. search (rules, c.count.ensures all is, c.count-2.ensures all is)

pub returns : goal.returns
returns c =
    λ all is few. (
      λ same. record {
        used = as_many Gained Used all _ _ (c.count.ensures all is) (c.count-2.ensures all is) few (search rules);
        noted = as_many Noted Offered all _ _ (c.count-3.ensures all is) (c.count-4.ensures all is) few (search rules);
      },
      λ used. search (rules, c.count-3.ensures all is, c.count-4.ensures all is),
    )
