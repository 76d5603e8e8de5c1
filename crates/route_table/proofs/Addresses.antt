-- Texts that spell addresses.
use Rattle.std.proofs.Common.{◌≡◌, ℕ, List, [], ◌∷◌, Some, None, length, ne_eqb, refl, sym, ap, ◌∙◌, subst, append-nil, arith}
use Rattle.std.specs.declared.net.socket_addr.SocketAddrV4.{SocketAddrV4}
use Rattle.std.specs.declared.net.socket_addr.SocketAddrV6.{SocketAddrV6}
use Rattle.std.specs.declared.net.socket_addr.SocketAddr.{SocketAddr}
use Rattle.std.specs.declared.net.socket_addr.SocketAddr.TheVariants.{V4, V6}
use Rattle.std.specs.Net.Grammar.{IsSocketV4Text, IsSocketV6Text, IsSocketText}
use Rattle.std.specs.Net.Reader.{Read, whole_value, read_socket_v4, read_socket_v6}
use Rattle.std.proofs.NetLemmas.Sockets.{read_socket_v4_complete, read_socket_v4_sound, read_socket_v6_complete, read_socket_v6_sound, IsSocketV4Text-not_v6}
use Rattle.route_table.specs.Address.{address_of, either_address}

no_v4 : (text : List ℕ) → ((a : SocketAddrV4) → IsSocketV4Text text a → ⊥) → (read : Read (List ℕ × ℕ)) → read_socket_v4 text ≡ read → whole_value read ≡ None
no_v4 text none None is = refl
no_v4 text none (Some (parts, [])) is =
    let a : SocketAddrV4 = record { ip = record { octets = parts.0 }; port = parts.1 } in
    let (front, split, spelled) = read_socket_v4_sound text [] a is in
    absurd (none a (subst (λ t. IsSocketV4Text t a) (sym (split ∙ append-nil front)) spelled))
no_v4 text none (Some (parts, b ∷ rest)) is = rw (ne_eqb (length (b ∷ rest)) 0 (omega arith)) refl

no_v6 : (text : List ℕ) → ((a : SocketAddrV6) → IsSocketV6Text text a → ⊥) → (read : Read (List ℕ × ℕ × ℕ × ℕ)) → read_socket_v6 text ≡ read → whole_value read ≡ None
no_v6 text none None is = refl
no_v6 text none (Some (parts, [])) is =
    let a : SocketAddrV6 = record { ip = record { segments = parts.0 }; port = parts.1; flowinfo = parts.2; scope_id = parts.3 } in
    let (front, split, spelled) = read_socket_v6_sound text [] a is in
    absurd (none a (subst (λ t. IsSocketV6Text t a) (sym (split ∙ append-nil front)) spelled))
no_v6 text none (Some (parts, b ∷ rest)) is = rw (ne_eqb (length (b ∷ rest)) 0 (omega arith)) refl

-- a text that spells an address
pub address_spelled : (text : List ℕ) (a : SocketAddr) → IsSocketText text a → address_of text ≡ Some a
unfolding address_of
address_spelled text (V4 a) spelled =
    ap (λ r. either_address (whole_value r) (whole_value (read_socket_v6 text))) (read_socket_v4_complete text a spelled)
address_spelled text (V6 a) spelled =
    ap (λ o. either_address o (whole_value (read_socket_v6 text))) (no_v4 text (λ b is. IsSocketV4Text-not_v6 text b a is spelled) (read_socket_v4 text) refl)
    ∙ ap (λ r. either_address None (whole_value r)) (read_socket_v6_complete text a spelled)

-- and one that spells none
pub address_refused : (text : List ℕ) → ((a : SocketAddr) → IsSocketText text a → ⊥) → address_of text ≡ None
unfolding address_of
address_refused text none =
    ap (λ o. either_address o (whole_value (read_socket_v6 text))) (no_v4 text (λ a. none (V4 a)) (read_socket_v4 text) refl)
    ∙ ap (λ o. either_address None o) (no_v6 text (λ a. none (V6 a)) (read_socket_v6 text) refl)
