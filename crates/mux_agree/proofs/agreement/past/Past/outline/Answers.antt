use Rattle.std.proofs.Common.{rules, ◌∙◌}
use Rattle.mux_agree.specs.Outlines.{no_outline, outline_after}
use Rattle.mux_agree.proofs.Joined.{read_more, read_end}
use Rattle.mux_agree.proofs.agreement.past.Past.outline.Goals as goal

pub loop-epoch-preserved : goal.loop-epoch-preserved
loop-epoch-preserved c =
    let e = c.after_all-outline.ensures in
    let i = c.loop-epoch.invariant in (
      e.value ∙ read_more (outline_after c.args.about) no_outline c.args.self.older.now c.loop-epoch.epoch-index c.epoch-item.result c.loop-epoch-test.true c.epoch-item.is
          c.records.result.now c.records.ensures.value c.loop-epoch.outline i.0,
      search rules,
      search rules,
    )

pub returns : goal.returns
returns c =
    c.after_all.ensures.value ∙ read_end (outline_after c.args.about) no_outline c.args.self.older.now c.loop-epoch.epoch-index c.loop-epoch-test.false
    c.args.self.present.now c.loop-epoch.outline c.loop-epoch.invariant.0
