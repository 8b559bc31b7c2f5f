-- A packet under another source and sequence number (RFC 7667, section 3.7).
use Rattle.std.specs.Prelude.{ℕ, List, ◌++◌, take, drop}
use Rattle.byteorder.specs.Endian.{big_bytes}

-- the packet's bytes under another source and sequence number (RFC 3550, section 5.1; RFC 7667, section 3.7)
unfoldable pub readdressed_bytes : ℕ → ℕ → List ℕ → List ℕ
readdressed_bytes ssrc number d =
    take 2 d ++ (big_bytes 2 number ++ (take 4 (drop 4 d) ++ (big_bytes 4 ssrc ++ drop 12 d)))
