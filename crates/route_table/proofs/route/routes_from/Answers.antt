use Rattle.std.proofs.Common.{[], map, Bool, Some, None, if◌then◌else◌, string_bytes, inr, ap, ◌∙◌}
use Rattle.std.proofs.lemmas.Result.{err_from_is_err_and}
use Rattle.toml.specs.View.{view}
use Rattle.route_table.specs.Fault.{double_route, fault_of}
use Rattle.route_table.specs.Entries.{each, route_of, dst_clash}
use Rattle.route_table.specs.Views.{route_view, routes_view, servers_view}
use Rattle.route_table.proofs.Entering.{failing, finished, clashing, adding, dst_taken, dst_noted}
use Rattle.route_table.proofs.route.routes_from.Goals as goal

pub returns-then-branch : goal.returns-then-branch
returns-then-branch c =
    inr (clashing route_view (route_of (servers_view c.args.servers.now)) dst_clash (each (route_of (servers_view c.args.servers.now)) dst_clash [] (map view c.args.entries.now)) c.loop-entry.routes.items c.args.entries.now c.loop-entry.entry-index
    c.entry-item.result c.in_ok-route.route c.loop-entry.invariant.0 c.loop-entry-test.true c.entry-item.is c.in_ok-route.ensures (double_route (string_bytes c.in_ok-route.route.dst))
    (dst_taken c.in_ok-route.route c.loop-entry.routes.items c.in_ok-is_taken.field-0 _ c.in_ok-is_taken.ensures.was (c.loop-entry.invariant.1 (string_bytes c.in_ok-route.route.dst))
    ∙ ap (λ (b : Bool). if b then Some (double_route (string_bytes c.in_ok-route.route.dst)) else None) c.if-branch.true))

pub loop-entry-preserved : goal.loop-entry-preserved
loop-entry-preserved c = (
  adding route_view (route_of (servers_view c.args.servers.now)) dst_clash (each (route_of (servers_view c.args.servers.now)) dst_clash [] (map view c.args.entries.now)) c.loop-entry.routes.items c.args.entries.now c.loop-entry.entry-index
      c.entry-item.result c.in_ok-route.route c.loop-entry.invariant.0 c.loop-entry-test.true c.entry-item.is c.in_ok-route.ensures c.push.new.self.items
      (dst_taken c.in_ok-route.route c.loop-entry.routes.items c.in_ok-is_taken.field-0 _ c.in_ok-is_taken.ensures.was (c.loop-entry.invariant.1 (string_bytes c.in_ok-route.route.dst))
      ∙ ap (λ (b : Bool). if b then Some (double_route (string_bytes c.in_ok-route.route.dst)) else None) c.if-branch.false)
      c.in_ok-push.ensures.items,
  λ d. dst_noted d c.in_ok-route.route c.loop-entry.routes.items c.push.new.self.items _ _ c.in_ok-push.ensures.items
      (c.in_ok-is_taken.ensures.is d) (c.loop-entry.invariant.1 d),
)

pub returns-in_err-route : goal.returns-in_err-route
returns-in_err-route c =
    let p = err_from_is_err_and c.from_residual.result c.from_residual.ensures.1 in
    rw (p.1, p.2) (failing (route_of (servers_view c.args.servers.now)) dst_clash (each (route_of (servers_view c.args.servers.now)) dst_clash [] (map view c.args.entries.now))
    (routes_view c.loop-entry.routes.items) c.args.entries.now c.loop-entry.entry-index c.loop-entry.invariant.0 c.entry-item.result (fault_of c.in_err-route.field-0.0) c.loop-entry-test.true
    c.entry-item.is c.in_err-route.ensures)

pub returns : goal.returns
returns c =
    inr (finished (route_of (servers_view c.args.servers.now)) dst_clash (each (route_of (servers_view c.args.servers.now)) dst_clash [] (map view c.args.entries.now))
    (routes_view c.loop-entry.routes.items) c.args.entries.now c.loop-entry.entry-index c.loop-entry.invariant.0 c.loop-entry-test.false)
