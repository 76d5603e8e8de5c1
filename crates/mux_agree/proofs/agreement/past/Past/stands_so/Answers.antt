use Rattle.std.proofs.Common.{sym, ◌∙◌}
use Rattle.mux_agree.specs.Seen.{past_of}
use Rattle.mux_agree.proofs.Standings.{client_so, down_so, server_so, up_so}
use Rattle.mux_agree.proofs.agreement.past.Past.stands_so.Goals as goal

pub returns-then-is_free : goal.returns-then-is_free
returns-then-is_free c =
    let past = past_of c.args.self in
    client_so c.args.mode c.args.session past c.args.standing c.in-Client.field-0 c.is_down_so.result
    c.in-Client.is (sym c.is_free.ensures ∙ c.if-is_free.true)
    (down_so c.args.about past c.outline.result c.outline.ensures c.args.standing c.is_down_so.result c.is_down_so.ensures)

pub returns-then-is_free-2 : goal.returns-then-is_free-2
returns-then-is_free-2 c =
    let past = past_of c.args.self in
    server_so c.args.mode c.args.session past c.args.standing c.in-Server.field-0 c.is_up_so.result
    c.in-Server.is (sym c.is_free-in-Server.ensures ∙ c.if-is_free-2.true)
    (up_so c.args.about past c.outline-then-is_free-2.result c.outline-then-is_free-2.ensures c.args.mode c.args.standing c.is_up_so.result c.is_up_so.ensures)
