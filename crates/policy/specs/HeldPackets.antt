-- Packets that are put by, since their sources may have begun anew (RFC 3550, appendix A.1).
use Rattle.std.specs.Prelude.{ℕ, List, map}
use Rattle.std.specs.Global.{Vec}

-- the bytes of each
abbrev pub packets_of : List (Vec ℕ) → List (List ℕ)
packets_of packets = map (λ v. v.items) packets
