use Rattle.std.proofs.Common.{◌∙◌, ap, get_or}
use Rattle.mux_agree.specs.Outlines.{any_after, is_held}
use Rattle.mux_agree.specs.Seen.{past_of}
use Rattle.mux_agree.proofs.Joined.{read_next}
use Rattle.mux_agree.proofs.agreement.past.Past.holds_after.Goals as goal

pub loop-entry-preserved : goal.loop-entry-preserved
loop-entry-preserved c =
    let step = any_after (is_held c.args.session (past_of c.args.self)) in
    let entry = c.entry-item.result in
    let at = c.loop-entry.entry-index in
    c.holds_with-holds.ensures
    ∙ (ap (λ r. step r c.loop-entry.holds) c.entry-item.is
    ∙ (ap (step (get_or c.args.records.now at entry)) c.loop-entry.invariant ∙ read_next step c.args.before c.args.records.now at entry c.loop-entry-test.true))
