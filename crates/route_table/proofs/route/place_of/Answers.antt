use Rattle.std.proofs.Common.{Some, None, Err, inr, sym, ap, ◌∙◌}
use Rattle.route_table.specs.Fault.{unknown_server}
use Rattle.route_table.proofs.Values.{placed}
use Rattle.route_table.proofs.route.place_of.Goals as goal

pub returns-in-Some : goal.returns-in-Some
returns-in-Some c =
    inr (placed c.args.servers.now c.args.value.now c.in-String.name c.as_str-name.result.now (Some c.in-Some.place) c.in-String.is c.as_str-name.ensures.value (sym c.in-Some.is ∙ c.position_of.ensures))

pub returns-in_ok-from_str-in-None : goal.returns-in_ok-from_str-in-None
returns-in_ok-from_str-in-None c =
    inr (
    ap (λ n. Err (unknown_server n)) c.in_ok-from_str-in-None.ensures.ok
    ∙ placed c.args.servers.now c.args.value.now c.in-String.name c.as_str-name.result.now None c.in-String.is c.as_str-name.ensures.value (sym c.in-None.is ∙ c.position_of.ensures))
