use Rattle.std.proofs.Common.{rules}
use Rattle.mux_agree.specs.Walk.{histories, all_records}
use Rattle.hub_close.proofs.balance.is_balanced.Goals as goal

pub returns-then-not-are_used : goal.returns-then-not-are_used
returns-then-not-are_used c =
    let all = all_records (histories c.args.downs.now c.args.ups.now) in (
      λ no. search rules,
      λ balanced. search (rules, (c.are_used.ensures all c.kind_counts.ensures c.requires.few).1 balanced.used),
    )

pub returns-then-are_ended : goal.returns-then-are_ended
returns-then-are_ended c =
    let all = all_records (histories c.args.downs.now c.args.ups.now) in (
      λ ended. record { used = (c.are_used.ensures all c.kind_counts.ensures c.requires.few).0 (search rules); ended = c.requires.seen c.if-are_ended.true },
      λ balanced. search rules,
    )

pub returns-else-are_ended : goal.returns-else-are_ended
returns-else-are_ended c =
    let all = all_records (histories c.args.downs.now c.args.ups.now) in (
      λ ended. record { used = (c.are_used.ensures all c.kind_counts.ensures c.requires.few).0 (search rules); ended = search rules },
      λ balanced. search rules,
    )
