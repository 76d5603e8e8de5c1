use Rattle.std.proofs.Common.{◌+◌, ◌-◌, ◌&&◌, not, map, length, take_all, drop, length-drop, arith, ap, sym, ◌∙◌}
use Rattle.toml.specs.View.{view}
use Rattle.route_table.specs.Entries.{are_texts}
use Rattle.route_table.proofs.Values.{next_text}
use Rattle.route_table.proofs.route.are_texts.Goals as goal

pub returns-then-has_text : goal.returns-then-has_text
returns-then-has_text c =
    let rest = take_all (length c.args.values.now - (c.loop-i.i + 1)) (drop (c.loop-i.i + 1) c.args.values.now) (simp length-drop (omega arith)) in
    sym (
    c.loop-i.invariant
    ∙ next_text c.args.values.now _ c.loop-i.i c.index-values-i.result c.in-String.text c.as_str.result.now c.has_text.result
    c.loop-i-test.true c.index-values-i.is c.in-String.is c.as_str.ensures.value rest c.has_text.ensures
    ∙ ap (λ b. not b && are_texts (map view (drop (c.loop-i.i + 1) c.args.values.now))) c.if-has_text.true)

pub loop-i-preserved : goal.loop-i-preserved
loop-i-preserved c =
    let rest = take_all (length c.args.values.now - (c.loop-i.i + 1)) (drop (c.loop-i.i + 1) c.args.values.now) (simp length-drop (omega arith)) in
    c.loop-i.invariant
    ∙ next_text c.args.values.now _ c.loop-i.i c.index-values-i.result c.in-String.text c.as_str.result.now c.has_text.result
    c.loop-i-test.true c.index-values-i.is c.in-String.is c.as_str.ensures.value rest c.has_text.ensures
    ∙ ap (λ b. not b && are_texts (map view (drop (c.loop-i.i + 1) c.args.values.now))) c.if-has_text.false
