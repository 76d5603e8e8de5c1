use Rattle.operator_port.specs.Metrics.{family_lines}
use Rattle.operator_port.proofs.TextLemmas.{block_pushed, blocks_whole}
use Rattle.operator_port.proofs.metrics.push_families.Goals as goal

pub loop-family-preserved : goal.loop-family-preserved
loop-family-preserved c =
    block_pushed (family_lines c.args.figures.now) c.args.text.now.items c.args.families.now c.loop-family.family-index _ _ _
    c.loop-family-test.true c.loop-family.invariant c.in_ok-push_family.ensures

pub returns : goal.returns
returns c =
    blocks_whole (family_lines c.args.figures.now) c.args.text.now.items c.args.families.now c.loop-family.family-index _
    c.loop-family-test.false c.loop-family.invariant
