-- What an `rtpmap` says of its encoding (RFC 8866, section 6.6).
use Rattle.std.specs.Prelude.{◌==◌, ℕ, Bool, List, codes}
use Rattle.std.specs.List.{ends_with}

-- the encodings of pictures have a clock of 90,000 hertz
abbrev pub is_video : List ℕ → Bool
is_video rtpmap = ends_with (λ a b. a == b) rtpmap (codes "/90000")
