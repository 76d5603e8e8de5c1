-- The address that a text spells.
use Rattle.std.specs.Prelude.{ℕ, List, Option, Some, None}
use Rattle.std.specs.Option.{option_map}
use Rattle.std.specs.declared.net.socket_addr.SocketAddr.{SocketAddr}
use Rattle.std.specs.declared.net.socket_addr.SocketAddr.TheVariants.{V4, V6}
use Rattle.std.specs.Net.Reader.{whole_value, read_socket_v4, read_socket_v6}

-- the octets and the port
abbrev pub v4_address : List ℕ × ℕ → SocketAddr
v4_address parts = V4 (record { ip = record { octets = parts.0 }; port = parts.1 })

-- the segments, the port, the flow information and the scope
abbrev pub v6_address : List ℕ × ℕ × ℕ × ℕ → SocketAddr
v6_address parts =
    V6 (record { ip = record { segments = parts.0 }; port = parts.1; flowinfo = parts.2; scope_id = parts.3 })

abbrev pub either_address : Option (List ℕ × ℕ) → Option (List ℕ × ℕ × ℕ × ℕ) → Option SocketAddr
either_address (Some parts) other = Some (v4_address parts)
either_address None other = option_map v6_address other

-- an IPv4 address and a port, or an IPv6 address in brackets and a port
unfoldable pub address_of : List ℕ → Option SocketAddr
address_of text = either_address (whole_value (read_socket_v4 text)) (whole_value (read_socket_v6 text))
