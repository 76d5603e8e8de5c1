use Rattle.std.proofs.Common.{[], map, refl}
use Rattle.std.proofs.lemmas.Result.{err_from_is_err_and}
use Rattle.toml.specs.View.{view}
use Rattle.route_table.specs.Fault.{fault_of}
use Rattle.route_table.specs.Entries.{each, place_of, no_clash, places_in}
use Rattle.route_table.specs.Views.{servers_view}
use Rattle.route_table.proofs.Entering.{entering, failing}
use Rattle.route_table.proofs.route.places_in.Goals as goal

pub returns-in_err-place_of : goal.returns-in_err-place_of
unfolding places_in
returns-in_err-place_of c =
    let p = err_from_is_err_and c.from_residual.result c.from_residual.ensures.1 in
    rw (p.1, p.2) (failing (place_of (servers_view c.args.servers.now)) no_clash (each (place_of (servers_view c.args.servers.now)) no_clash [] (map view c.args.names.now)) c.loop-name.places.items
    c.args.names.now c.loop-name.name-index c.loop-name.invariant c.name-item.result (fault_of c.in_err-place_of.field-0.0) c.loop-name-test.true c.name-item.is c.in_err-place_of.ensures)

pub loop-name-preserved : goal.loop-name-preserved
loop-name-preserved c =
    entering (place_of (servers_view c.args.servers.now)) no_clash (each (place_of (servers_view c.args.servers.now)) no_clash [] (map view c.args.names.now)) c.loop-name.places.items
    c.args.names.now c.loop-name.name-index c.loop-name.invariant c.name-item.result c.in_ok-place_of.field-0 c.push.new.self.items c.loop-name-test.true c.name-item.is
    c.in_ok-place_of.ensures refl c.in_ok-push.ensures.items
