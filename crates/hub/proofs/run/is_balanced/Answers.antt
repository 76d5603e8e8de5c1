use Rattle.std.proofs.Common.{rules}
use Rattle.mux_agree.specs.Walk.{all_records}
use Rattle.hub.proofs.run.is_balanced.Goals as goal

pub returns-then-are_used-clause-yes : goal.returns-then-are_used-clause-yes
returns-then-are_used-clause-yes c =
    λ h hs covers small. record {
      used = (c.are_used.ensures (all_records hs) (c.counts.ensures hs covers) small).0 (search rules);
      ended = c.are_recalls_ended.ensures.yes h hs covers;
    }

pub returns-else-are_used-clause-no : goal.returns-else-are_used-clause-no
returns-else-are_used-clause-no c =
    λ h fine hs covers small balanced. search (rules, (c.are_used.ensures (all_records hs) (c.counts.ensures hs covers) small).1 balanced.used)
