-- How long the axes of a picture are, and where rates stand on them. Lengths are tenths of a pixel.
use Rattle.std.specs.Prelude.{◌&&◌, ℕ, Bool, ◌+◌, ◌-◌, ◌*◌, ◌/◌, ◌<◌, ◌≤◌, ◌^◌, min, nat_lt, List, Option, None, Some, fold, unwrap_or, if◌then◌else◌}
use Rattle.tmmbr_tuple.specs.declared.tuple.Tuple.{Tuple}
use Rattle.tmmbr_tuple.specs.Tuple.{rate_of}
use Rattle.rate_cert.specs.declared.request.Request.{Request}
use Rattle.drawing.specs.declared.scale.Scale.{Scale}
use Rattle.drawing.specs.declared.scale.TheConstants.{LEFT, WIDTH, BOTTOM, HEIGHT, REACH, LEVEL}

-- a tuple with a rate and an overhead: at rate / (8 * overhead) packets per second it leaves nothing for media
pub record HasEnd (t : Tuple) : Type 0 where
  pub rate : 1 ≤ rate_of t
  pub overhead : 1 ≤ t.overhead

abbrev pub has_end : Tuple → Bool
has_end t = nat_lt 0 (rate_of t) && nat_lt 0 t.overhead

-- rate / overhead of the one is less than that of the other
abbrev pub ends_sooner : Tuple → Tuple → Bool
ends_sooner t before = nat_lt (rate_of t * before.overhead) (rate_of before * t.overhead)

abbrev pub nearer : Option Tuple → Tuple → Option Tuple
nearer None t = if has_end t then Some t else None
nearer (Some before) t = if has_end t && ends_sooner t before then Some t else Some before

-- the tuple whose line ends first, of those that have an end
abbrev pub first_end : List Request → Option Tuple
first_end rows = fold (λ best (r : Request). nearer best r.tuple) None rows

abbrev pub lesser : Option ℕ → Tuple → Option ℕ
lesser None t = if nat_lt 0 (rate_of t) then Some (rate_of t) else None
lesser (Some before) t =
    if nat_lt 0 (rate_of t) && nat_lt (rate_of t) before then Some (rate_of t) else Some before

-- the least rate that isn't 0
abbrev pub least_rate : List Request → Option ℕ
least_rate rows = fold (λ best (r : Request). lesser best r.tuple) None rows

-- the packet rate and the media rate at four fifths of the axes
abbrev pub scale_with : Option Tuple → ℕ → Scale
scale_with None bits = record { packets = 100; seconds = 1; bits = bits }
scale_with (Some t) bits = record { packets = rate_of t; seconds = 8 * t.overhead; bits = bits }

-- the least packet rate that leaves nothing for media, and the least rate that is
-- asked for, of those that aren't 0
abbrev pub scale_of : List Request → Scale
scale_of rows = scale_with (first_end rows) (unwrap_or (least_rate rows) 100000)

-- the scale's numbers are in range
pub record IsUsable (s : Scale) : Type 0 where
  pub packets : 1 ≤ s.packets
  pub most_packets : s.packets < 2 ^ 80
  pub seconds : 1 ≤ s.seconds
  pub most_seconds : s.seconds < 2 ^ 12
  pub bits : 1 ≤ s.bits
  pub most_bits : s.bits < 2 ^ 80

-- where a packet rate stands: in proportion, the scale's at four fifths of the width
unfoldable pub column : Scale → ℕ → ℕ → ℕ
column s packets seconds =
    LEFT + min (REACH * packets * s.seconds / (seconds * s.packets)) WIDTH

-- where a rate of media stands: in proportion, the scale's at four fifths of the height
unfoldable pub row : Scale → ℕ → ℕ → ℕ
row s bits seconds = BOTTOM - min (LEVEL * bits / (seconds * s.bits)) HEIGHT
