use Rattle.std.proofs.Common.{map, codes}
use Rattle.operator_port.specs.Replies.{address_line}
use Rattle.operator_port.proofs.TextLemmas.{text_ended}
use Rattle.operator_port.proofs.servers.servers_page.Goals as goal

pub returns : goal.returns
returns c =
    text_ended (map address_line c.args.rows.now) (codes "end") _ _ _
    c.new-text.ensures.items c.in_ok-push_all.ensures c.in_ok-push_line.ensures
