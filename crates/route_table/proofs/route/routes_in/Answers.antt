use Rattle.std.proofs.Common.{inr}
use Rattle.std.proofs.lemmas.Result.{err_from_is_err_and}
use Rattle.route_table.specs.Entries.{routes_in}
use Rattle.route_table.proofs.Steps.{failed, ended}
use Rattle.route_table.proofs.route.routes_in.Goals as goal

pub returns-in_err-entries : goal.returns-in_err-entries
unfolding routes_in
returns-in_err-entries c =
    let p = err_from_is_err_and c.from_residual.result c.from_residual.ensures.1 in
    rw (p.1, p.2) (inr (failed _ _ _ c.in_err-entries.ensures))

pub returns : goal.returns
unfolding routes_in
returns c = ended _ _ _ _ c.in_ok-entries.ensures c.routes_from.ensures
