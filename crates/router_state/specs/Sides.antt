-- What is of a session's side.
use Rattle.std.specs.Prelude.{ℕ, Bool, ◌==◌, ◌&&◌, not}
use Rattle.mux_history.specs.Bounds.{Bounds}
use Rattle.mux_history.specs.declared.session.SessionId.{SessionId}
use Rattle.mux_history.specs.declared.session.SessionId.TheVariants.{Client, Server}

abbrev pub limits_of : (clients servers : Bounds) → SessionId → Bounds
limits_of clients servers (Client number) = clients
limits_of clients servers (Server number) = servers

-- whether a slot's tasks are those of this session, where its own session has this number: a server's slot has the
-- tasks of each of its sessions in turn
abbrev pub is_held_by : (is_free : Bool) → (number : ℕ) → SessionId → Bool
is_held_by is_free number (Client client) = not is_free && number == client
is_held_by is_free number (Server server) = not is_free
