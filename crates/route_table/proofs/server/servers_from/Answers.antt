use Rattle.std.proofs.Common.{[], map, Bool, Some, None, if◌then◌else◌, string_bytes, inr, ap, ◌∙◌}
use Rattle.std.proofs.lemmas.Result.{err_from_is_err_and}
use Rattle.toml.specs.View.{view}
use Rattle.route_table.specs.Fault.{double_name, fault_of}
use Rattle.route_table.specs.Entries.{each, server_of, name_clash}
use Rattle.route_table.specs.Views.{server_view, servers_view}
use Rattle.route_table.proofs.Entering.{failing, finished, clashing, adding, name_taken}
use Rattle.route_table.proofs.server.servers_from.Goals as goal

pub returns-then-is_taken : goal.returns-then-is_taken
returns-then-is_taken c =
    inr (clashing server_view server_of name_clash (each server_of name_clash [] (map view c.args.entries.now)) c.loop-entry.servers.items c.args.entries.now c.loop-entry.entry-index
    c.entry-item.result c.in_ok-server.server c.loop-entry.invariant c.loop-entry-test.true c.entry-item.is c.in_ok-server.ensures (double_name (string_bytes c.in_ok-server.server.name))
    (name_taken c.in_ok-server.server c.loop-entry.servers.items c.as_slice.result.now c.is_taken.result c.as_slice.ensures.value c.is_taken.ensures
    ∙ ap (λ (b : Bool). if b then Some (double_name (string_bytes c.in_ok-server.server.name)) else None) c.if-is_taken.true))

pub loop-entry-preserved : goal.loop-entry-preserved
loop-entry-preserved c =
    adding server_view server_of name_clash (each server_of name_clash [] (map view c.args.entries.now)) c.loop-entry.servers.items c.args.entries.now c.loop-entry.entry-index
    c.entry-item.result c.in_ok-server.server c.loop-entry.invariant c.loop-entry-test.true c.entry-item.is c.in_ok-server.ensures c.push.new.self.items
    (name_taken c.in_ok-server.server c.loop-entry.servers.items c.as_slice.result.now c.is_taken.result c.as_slice.ensures.value c.is_taken.ensures
    ∙ ap (λ (b : Bool). if b then Some (double_name (string_bytes c.in_ok-server.server.name)) else None) c.if-is_taken.false)
    c.in_ok-push.ensures.items

pub returns-in_err-server : goal.returns-in_err-server
returns-in_err-server c =
    let p = err_from_is_err_and c.from_residual.result c.from_residual.ensures.1 in
    rw (p.1, p.2) (failing server_of name_clash (each server_of name_clash [] (map view c.args.entries.now)) (servers_view c.loop-entry.servers.items) c.args.entries.now c.loop-entry.entry-index
    c.loop-entry.invariant c.entry-item.result (fault_of c.in_err-server.field-0.0) c.loop-entry-test.true c.entry-item.is c.in_err-server.ensures)

pub returns : goal.returns
returns c =
    inr (finished server_of name_clash (each server_of name_clash [] (map view c.args.entries.now)) (servers_view c.loop-entry.servers.items) c.args.entries.now c.loop-entry.entry-index
    c.loop-entry.invariant c.loop-entry-test.false)
