-- A socket's address as the rows of the system's table name it.
use Rattle.std.specs.Prelude.{ℕ, ◌+◌, ◌++◌, List, [], ◌∷◌, codes, slice_index}
use Rattle.std.specs.Int.{w16, to_be_bytes}
use Rattle.std.specs.Net.Addr.{ipv4_octets, ipv6_octets}
use Rattle.std.specs.Net.Socket.{socket_ip, socket_port}
use Rattle.std.specs.declared.net.ip_addr.IpAddr.{IpAddr}
use Rattle.std.specs.declared.net.ip_addr.IpAddr.TheVariants.{V4, V6}
use Rattle.std.specs.declared.net.socket_addr.SocketAddr.{SocketAddr}
use Rattle.hex.specs.Hex.{encode_upper}

-- four octets from the last to the first: a machine of little end reads a word of the network so
abbrev pub turned_four : List ℕ → ℕ → List ℕ
turned_four o at = slice_index o (at + 3) ∷ (slice_index o (at + 2) ∷ (slice_index o (at + 1) ∷ (slice_index o at ∷ [])))

abbrev pub four_turned : List ℕ → List ℕ
four_turned o = turned_four o 0 ++ (turned_four o 4 ++ (turned_four o 8 ++ turned_four o 12))

abbrev pub host_octets : IpAddr → List ℕ
host_octets (V4 ip) = turned_four (ipv4_octets ip) 0
host_octets (V6 ip) = four_turned (ipv6_octets ip)

-- the host, a colon and the port, in upper hexadecimal digits
abbrev pub word_of_address : SocketAddr → List ℕ
word_of_address address =
    encode_upper (host_octets (socket_ip address))
    ++ (codes ":" ++ encode_upper (to_be_bytes w16 (socket_port address)))
