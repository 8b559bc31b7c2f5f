-- Where a request's line runs in a picture: R - 8 H n bits of media beside n packets per second (RFC 5104, section 3.5.4).
use Rattle.std.specs.Prelude.{ℕ, ◌-◌, ◌*◌, ◌==◌, if◌then◌else◌}
use Rattle.tmmbr_tuple.specs.declared.tuple.Tuple.{Tuple}
use Rattle.tmmbr_tuple.specs.Tuple.{rate_of}
use Rattle.drawing.specs.declared.scale.Scale.{Scale}
use Rattle.drawing.specs.declared.scale.TheConstants.{LEFT, RIGHT}
use Rattle.drawing.specs.declared.line.Line.{Line}
use Rattle.drawing.specs.Scale.{column, row}

-- At no packets, or at (4 R - 5 B) / 32 H, which leave 5 B / 4, the rate at the plot's upper edge. A difference is 0
-- if it would be negative.
abbrev pub left_of : Scale → Tuple → ℕ
left_of s t =
    if t.overhead == 0 then LEFT
    else column s (4 * rate_of t - 5 * s.bits) (32 * t.overhead)

-- at R / 8 H packets, which leave nothing for media, or at the plot's right edge
abbrev pub right_of : Scale → Tuple → ℕ
right_of s t = if t.overhead == 0 then RIGHT else column s (rate_of t) (8 * t.overhead)

-- what is left there: R - 8 H n at the plot's right edge, where n is 5 P / 4 S; 0 if that is negative
abbrev pub lower_of : Scale → Tuple → ℕ
lower_of s t =
    row s (4 * rate_of t * s.seconds - 40 * t.overhead * s.packets) (4 * s.seconds)

-- the part of the line that is in the plot
abbrev pub plotted_line : Scale → Tuple → Line
plotted_line s t = record {
  left = left_of s t;
  upper = row s (rate_of t) 1;
  right = right_of s t;
  lower = lower_of s t;
}
