-- Why connections end.
use Rattle.std.specs.Prelude.{ℕ, ◌==◌, List, Option, Some, None, cond, codes}
use Rattle.operator_port.specs.declared.ends.End.{End}
use Rattle.operator_port.specs.declared.ends.End.TheVariants.{Closed, Read, Write, Stream, Protocol, Places, Memory, Refused, Drained, Retired, Cut, Silent, Quit}
use Rattle.operator_port.specs.declared.ends.Ends.{Ends}
use Rattle.operator_port.specs.declared.ends.Ends.TheVariants.{Clients, Servers, TurnedAway}
use Rattle.operator_port.specs.declared.figures.Ended.{Ended}
use Rattle.operator_port.specs.declared.figures.EndRow.{EndRow}

-- the cause of a number
abbrev pub end_at : ℕ → Option End
end_at code =
    cond (code == 0) (Some Closed) (cond (code == 1) (Some Read) (cond (code == 2) (Some Write)
    (cond (code == 3) (Some Stream) (cond (code == 4) (Some Protocol) (cond (code == 5) (Some Places)
    (cond (code == 6) (Some Memory) (cond (code == 7) (Some Refused) (cond (code == 8) (Some Drained)
    (cond (code == 9) (Some Retired) (cond (code == 10) (Some Cut) (cond (code == 11) (Some Silent)
    (cond (code == 12) (Some Quit) None))))))))))))

abbrev pub end_text : End → List ℕ
end_text Closed = codes "closed"
end_text Read = codes "read"
end_text Write = codes "write"
end_text Stream = codes "stream"
end_text Protocol = codes "protocol"
end_text Places = codes "places"
end_text Memory = codes "memory"
end_text Refused = codes "refused"
end_text Drained = codes "drained"
end_text Retired = codes "retired"
end_text Cut = codes "cut"
end_text Silent = codes "silent"
end_text Quit = codes "quit"

abbrev pub ends_family : Ends → List ℕ
ends_family Clients = codes "voltgalley_clients_ended_total"
ends_family Servers = codes "voltgalley_servers_ended_total"
ends_family TurnedAway = codes "voltgalley_clients_turned_away_total"

abbrev pub ends_help : Ends → List ℕ
ends_help Clients = codes "Connections of clients that ended, of those that had a session."
ends_help Servers = codes "Connections of servers that ended."
ends_help TurnedAway = codes "Connections of clients that ended, of those that got no session."

abbrev pub ends_rows : Ends → Ended → List EndRow
ends_rows Clients ended = ended.clients.items
ends_rows Servers ended = ended.servers.items
ends_rows TurnedAway ended = ended.turned_away.items
