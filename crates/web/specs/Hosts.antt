-- Under which names a page is looked at. A name that somebody else lets lead to this machine is none of them (DNS rebinding).
use Rattle.std.specs.Prelude.{◌==◌, ◌&&◌, ◌||◌, ℕ, Bool, false, not, nat_le, List, [], ◌∷◌, codes, length, take}
use Rattle.std.specs.List.{list_all, prefix_len}
use Rattle.std.specs.Str.{bytes_eq}

-- what stands before the port
abbrev pub host_name : List ℕ → List ℕ
host_name host = take (prefix_len (λ b. not (b == 58)) host) host

-- a digit or a dot
abbrev pub is_quad_byte : ℕ → Bool
is_quad_byte b = (nat_le 48 b && nat_le b 57) || (b == 46)

-- an IPv6 address stands in brackets (RFC 3986, section 3.2.2)
abbrev pub is_bracketed : List ℕ → Bool
is_bracketed [] = false
is_bracketed (b ∷ bs) = b == 91

-- An IPv4 address has digits and dots alone. No name that can be looked up has.
abbrev pub is_quad : List ℕ → Bool
is_quad name = not (length name == 0) && list_all is_quad_byte name

-- an address, localhost, or the name that was given
abbrev pub is_known_host : List ℕ → List ℕ → Bool
is_known_host given host =
    is_bracketed host || (is_quad (host_name host)
    || (bytes_eq (host_name host) (codes "localhost") || bytes_eq (host_name host) given))
