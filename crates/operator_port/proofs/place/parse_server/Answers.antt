use Rattle.std.proofs.Common.{sym, ◌∙◌}
use Rattle.operator_port.proofs.Placed.{no_name, no_place}
use Rattle.operator_port.proofs.place.parse_server.Goals as goal

pub returns-then-not-is_name : goal.returns-then-not-is_name
returns-then-not-is_name c =
    let d = c.in-Some-split_word in
    no_name c.args.line.now c.in-Some.rest.now c.in-Some.ensures d.name.now d.place.now d.ensures.0 d.ensures.1
    (sym c.is_name.ensures ∙ c.if-not-is_name.true)

pub returns-in-None : goal.returns-in-None
returns-in-None c =
    let d = c.in-Some-split_word in
    no_place c.args.line.now c.in-Some.rest.now c.in-Some.ensures d.name.now d.place.now d.ensures.0 d.ensures.1 c.in-None.ensures
