use Rattle.std.proofs.Common.{map, codes}
use Rattle.operator_port.specs.Replies.{client_line, head_line, server_line}
use Rattle.operator_port.proofs.TextLemmas.{page_whole}
use Rattle.operator_port.proofs.full.full_page.Goals as goal

pub returns : goal.returns
returns c =
    let f = c.args.figures.now in
    let clients = rw c.as_slice.ensures.value at c.in_ok-push_all.ensures in
    let servers = rw c.as_slice-2.ensures.value at c.in_ok-push_all-2.ensures in
    page_whole (head_line f.boot f.elapsed) (map (client_line f.history) f.clients.items)
    (map (server_line f.server_history f.elapsed) f.servers.items) (codes "end") _ _ _ _ _
    c.new-text.ensures.items c.in_ok-push_head.ensures clients servers c.in_ok-push_line.ensures
