use Rattle.std.proofs.Common.{◌∙◌, false}
use Rattle.mux_agree.specs.Outlines.{any_after, is_held}
use Rattle.mux_agree.specs.Seen.{past_of}
use Rattle.mux_agree.proofs.Joined.{read_more, read_end}
use Rattle.mux_agree.proofs.agreement.past.Past.holds_one.Goals as goal

pub loop-epoch-preserved : goal.loop-epoch-preserved
loop-epoch-preserved c =
    c.holds_after-holds.ensures ∙ read_more (any_after (is_held c.args.session (past_of c.args.self))) false c.args.self.older.now c.loop-epoch.epoch-index
    c.epoch-item.result c.loop-epoch-test.true c.epoch-item.is c.records.result.now c.records.ensures.value c.loop-epoch.holds c.loop-epoch.invariant

pub returns : goal.returns
returns c =
    c.holds_after.ensures ∙ read_end (any_after (is_held c.args.session (past_of c.args.self))) false c.args.self.older.now c.loop-epoch.epoch-index
    c.loop-epoch-test.false c.args.self.present.now c.loop-epoch.holds c.loop-epoch.invariant
