-- The payload types of formats (RFC 8866, section 6.6).
use Rattle.std.specs.Prelude.{◌==◌, ◌||◌, ℕ, Bool, false, true, List, [], ◌∷◌, if◌then◌else◌}
use Rattle.std.specs.List.{before_first}
use Rattle.std.specs.Str.{bytes_eq}

-- the text before the first space
abbrev pub payload_type : List ℕ → List ℕ
payload_type text = before_first (λ b. b == 32) text

-- an encoding has this payload type
abbrev pub is_listed : List (List ℕ) → List ℕ → Bool
is_listed [] payload = false
is_listed (r ∷ rtpmap) payload =
    if bytes_eq (payload_type r) payload then true else is_listed rtpmap payload

-- a format has the payload type of no encoding
abbrev pub has_stray : List (List ℕ) → List (List ℕ) → Bool
has_stray rtpmap [] = false
has_stray rtpmap (f ∷ fmtp) =
    if is_listed rtpmap (payload_type f) then has_stray rtpmap fmtp else true
