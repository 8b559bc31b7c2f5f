-- The text of a picture: a list of shapes in the order in which they are painted, the later ones over the earlier.
use Rattle.std.specs.Prelude.{◌==◌, ℕ, ◌+◌, ◌-◌, ◌*◌, ◌/◌, ◌%◌, List, [], ◌∷◌, ◌++◌, codes, decimal, flat_map, length, nat_lt, option_map, unwrap_or, slice_get, EachIndex, if◌then◌else◌}
use Rattle.tmmbr_tuple.specs.declared.pair.Pair.{Pair}
use Rattle.tmmbr_tuple.specs.Tuple.{rate_of}
use Rattle.rate_cert.specs.declared.request.Request.{Request}
use Rattle.rate_cert.specs.declared.certificate.Kept.{Kept}
use Rattle.rate_cert.specs.declared.certificate.Implied.{Implied}
use Rattle.rate_cert.specs.Choice.{IsChoice}
use Rattle.rate_cert.specs.Certificate.{IsNamed, named_places}
use Rattle.bounding_set.specs.State.{State}
use Rattle.drawing.specs.declared.scale.Scale.{Scale}
use Rattle.drawing.specs.declared.scale.TheConstants.{LEFT, BOTTOM}
use Rattle.drawing.specs.declared.shapes.TheConstants.{NAMED}
use Rattle.drawing.specs.declared.style.TheConstants.{ACROSS, CLOSING, COUNTS, DESCRIPTION, FORBIDDEN, FRAME, GROUP_END, HEADING, HEADING_END, IMPLIED, KEPT, LINE_END, MARKS, NAME, NAME_END, NAMES, OPENING, PAIR, POINT_END, POINTS, UP, WHOSE}
use Rattle.drawing.specs.Scale.{column, row, scale_of}
use Rattle.drawing.specs.declared.line.Line.{Line}
use Rattle.drawing.specs.Line.{plotted_line}

-- ---- one shape each

unfoldable pub above_text : Line → List ℕ
above_text l =
    codes "<path d='M" ++ (decimal l.left ++ (codes " " ++ (decimal l.upper
    ++ (codes "L" ++ (decimal l.right ++ (codes " " ++ (decimal l.lower
    ++ (codes "H6500V900H" ++ (decimal l.left ++ codes "Z'/>\n")))))))))

-- what is above a request's line, up to the plot's right and upper edges: no sender may go
-- there (RFC 5104, section 3.5.4)
unfoldable pub forbidden_text : Scale → Request → List ℕ
forbidden_text s r = above_text (plotted_line s r.tuple)

unfoldable pub path_text : Line → List ℕ
path_text l =
    codes "<path d='M" ++ (decimal l.left ++ (codes " " ++ (decimal l.upper
    ++ (codes "L" ++ (decimal l.right ++ (codes " " ++ decimal l.lower))))))

-- whose request it is, its rate and its overhead
unfoldable pub asked_text : Request → List ℕ
asked_text r =
    codes "owner " ++ (decimal r.owner.0 ++ (codes ": " ++ (decimal (rate_of r.tuple)
    ++ (codes " bit/s, " ++ (decimal r.tuple.overhead ++ codes " bytes")))))

-- a request's line (RFC 5104, section 3.5.4)
unfoldable pub line_text : Scale → Request → List ℕ
line_text s r = path_text (plotted_line s r.tuple) ++ WHOSE.now ++ asked_text r ++ LINE_END.now

-- the line of the request at a place
unfoldable pub line_at : Scale → List Request → ℕ → List ℕ
line_at s rows place = unwrap_or (option_map (line_text s) (slice_get rows place)) []

unfoldable pub pair_text : Pair → List ℕ
pair_text p =
    decimal p.packets ++ (codes " packets, " ++ (decimal p.bits ++ (codes " bits, "
    ++ decimal p.seconds)))

unfoldable pub circle_text : ℕ → ℕ → List ℕ
circle_text x y = codes "<circle cx='" ++ (decimal x ++ (codes "' cy='" ++ (decimal y ++ codes "' ")))

-- a point where a pair stands
unfoldable pub spot_text : Scale → Pair → List ℕ
spot_text s p =
    circle_text (column s p.packets p.seconds) (row s p.bits p.seconds) ++ PAIR.now ++ pair_text p
    ++ POINT_END.now

-- the pair of a kept request (RFC 5104, section 3.5.4)
abbrev pub point_text : Scale → Kept → List ℕ
point_text s k = spot_text s k.pair

-- from a pair to the name with this number
unfoldable pub thread_text : Scale → ℕ → Pair → List ℕ
thread_text s number p =
    codes "<path d='M" ++ (decimal (column s p.packets p.seconds)
    ++ (codes " " ++ (decimal (row s p.bits p.seconds)
    ++ (codes "L6800 " ++ (decimal (1010 + 205 * number) ++ codes "'/>\n")))))

-- the name with this number
unfoldable pub name_text : ℕ → Request → List ℕ
name_text number r =
    NAME.now ++ (decimal (1060 + 205 * number) ++ codes "'>") ++ asked_text r ++ NAME_END.now

unfoldable pub name_at : List Request → ℕ → ℕ → List ℕ
name_at rows number place = unwrap_or (option_map (name_text number) (slice_get rows place)) []

unfoldable pub name_part : Scale → List Request → ℕ → Kept → List ℕ
name_part s rows number k = thread_text s number k.pair ++ name_at rows number k.place

-- what names a kept request, if there is room
unfoldable pub named_text : Scale → List Request → ℕ → Kept → List ℕ
named_text s rows number k = if nat_lt number NAMED then name_part s rows number k else []

-- each with its number, from the first one's
abbrev pub each_row : {A : Type 0} → (ℕ → A → List ℕ) → ℕ → List A → List ℕ
each_row text number [] = []
each_row text number (x ∷ xs) = text number x ++ each_row text (number + 1) xs

-- a fraction, rounded down to hundredths
abbrev pub hundredths_of : ℕ → List ℕ
hundredths_of all =
    if all % 100 == 0 then decimal (all / 100)
    else decimal (all / 100) ++ (codes "." ++ (decimal (all / 10 % 10) ++ decimal (all % 10)))

unfoldable pub hundredths_text : ℕ → ℕ → List ℕ
hundredths_text amount parts = hundredths_of (100 * amount / parts)

unfoldable pub grid_text : ℕ → ℕ → List ℕ
grid_text x y =
    codes "<path d='M" ++ (decimal x ++ (codes " 900V4900M1000 " ++ (decimal y
    ++ codes "H6500'/>\n")))

unfoldable pub across_text : Scale → ℕ → List ℕ
across_text s quarters =
    ACROSS.now ++ (decimal (LEFT + 1100 * quarters)
    ++ (codes "'>" ++ (hundredths_text (quarters * s.packets) (4 * s.seconds)
    ++ codes "</text>\n")))

unfoldable pub up_text : Scale → ℕ → List ℕ
up_text s quarters =
    UP.now ++ (decimal (BOTTOM - 800 * quarters + 50)
    ++ (codes "'>" ++ (hundredths_text (quarters * s.bits) 4 ++ codes "</text>\n")))

-- a mark on each axis, at so many quarters of the scale's rates
unfoldable pub mark_text : Scale → ℕ → List ℕ
mark_text s quarters =
    grid_text (LEFT + 1100 * quarters) (BOTTOM - 800 * quarters) ++ across_text s quarters
    ++ up_text s quarters

-- ---- the whole

unfoldable pub counts_text : ℕ → ℕ → List ℕ
counts_text live kept = decimal kept ++ (codes " of " ++ (decimal live ++ codes " live requests"))

unfoldable pub description_text : ℕ → ℕ → ℕ → List ℕ
description_text media live kept =
    OPENING.now ++ decimal media ++ DESCRIPTION.now ++ counts_text live kept

unfoldable pub heading_text : ℕ → ℕ → ℕ → List ℕ
heading_text media live kept =
    HEADING.now ++ decimal media ++ COUNTS.now ++ counts_text live kept ++ HEADING_END.now

-- Over the shaded plot: what each request forbids. So what stays shaded is what all of them permit.
unfoldable pub forbidden_part : Scale → List Request → List ℕ
forbidden_part s rows = FORBIDDEN.now ++ flat_map (forbidden_text s) rows ++ GROUP_END.now

unfoldable pub marks_part : Scale → List ℕ
marks_part s =
    MARKS.now ++ mark_text s 1 ++ mark_text s 2 ++ mark_text s 3 ++ mark_text s 4 ++ GROUP_END.now
    ++ FRAME.now

-- a thin line for each request that the certificate says is implied, a strong one for each that it keeps
unfoldable pub lines_part : Scale → List Request → List Kept → List Implied → List ℕ
lines_part s rows kept implied =
    IMPLIED.now ++ flat_map (λ (i : Implied). line_at s rows i.place) implied ++ GROUP_END.now
    ++ KEPT.now ++ flat_map (λ (k : Kept). line_at s rows k.place) kept ++ GROUP_END.now

unfoldable pub points_part : Scale → List Kept → List ℕ
points_part s kept = POINTS.now ++ flat_map (point_text s) kept ++ GROUP_END.now

unfoldable pub more_text : ℕ → List ℕ
more_text kept =
    if nat_lt NAMED kept
    then codes "<text x='6860' y='4800'>and " ++ (decimal (kept - NAMED) ++ codes " more</text>\n")
    else []

unfoldable pub names_part : Scale → List Request → List Kept → List ℕ
names_part s rows kept =
    NAMES.now ++ each_row (named_text s rows) 0 kept ++ more_text (length kept) ++ GROUP_END.now

-- what lies below: the heading, what is permitted, the axes
unfoldable pub ground_part : Scale → ℕ → List Request → List Kept → List ℕ
ground_part s media rows kept =
    description_text media (length rows) (length kept)
    ++ heading_text media (length rows) (length kept) ++ forbidden_part s rows ++ marks_part s

-- what lies above: the names, the lines, the points
unfoldable pub figures_part : Scale → List Request → List Kept → List Implied → List ℕ
figures_part s rows kept implied =
    names_part s rows kept ++ lines_part s rows kept implied ++ points_part s kept ++ CLOSING.now

-- the picture of live requests and of the set that a certificate announces for them
unfoldable pub picture_with : ℕ → List Request → List Kept → List Implied → List ℕ
picture_with media rows kept implied =
    ground_part (scale_of rows) media rows kept ++ figures_part (scale_of rows) rows kept implied

-- the text of the picture of live requests and of the set that is announced for them
abbrev pub picture_text : ℕ → State → List ℕ
picture_text media s = picture_with media s.rows s.cert.kept.items s.cert.implied.items

-- The certificate names each live request once, as kept or as implied: so each has one line.
pub record HasEachLineOnce (s : State) : Type 0 where
  pub once : IsChoice s.rows (named_places s.cert.kept.items s.cert.implied.items)
  pub each : EachIndex s.rows (IsNamed s.cert.kept.items s.cert.implied.items)
