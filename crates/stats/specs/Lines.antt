-- The line of a leg for people.
use Rattle.std.specs.Prelude.{ℕ, ◌++◌, Bool, true, false, List, Option, None, Some, codes}
use Rattle.std.specs.Fmt.{decimal}
use Rattle.stats.specs.declared.leg_count.LegCount.{LegCount}
use Rattle.stats.specs.declared.lines.LegLine.{LegLine}

abbrev pub switch_word : Bool → List ℕ
switch_word true = codes "on"
switch_word false = codes "off"

-- the number that comes next; a leg on which nothing went out says none
abbrev pub next_word : Option ℕ → List ℕ
next_word None = codes "none"
next_word (Some next) = decimal next

-- which leg, between whom, and whether it is on
abbrev pub ends_part : LegLine → List ℕ
ends_part l =
    decimal l.leg
    ++ (codes " from " ++ (decimal l.publisher
    ++ (codes " to " ++ (decimal l.subscriber ++ (codes " " ++ switch_word l.on)))))

-- the stay that stands for it, if one does
abbrev pub stay_part : Option ℕ → List ℕ
stay_part None = codes " stay none"
stay_part (Some stay) = codes " stay " ++ decimal stay

-- what went out on it
abbrev pub flow_part : LegCount → List ℕ
flow_part c =
    codes " packets "
    ++ (decimal c.packets ++ (codes " octets " ++ (decimal c.octets
    ++ (codes " resent " ++ (decimal c.resent
    ++ (codes " missed " ++ (decimal c.missed
    ++ (codes " next " ++ (next_word c.next
    ++ (codes " skipped " ++ decimal c.skipped))))))))))

-- what its ends are called
abbrev pub called_part : List ℕ → List ℕ → List ℕ
called_part publisher subscriber =
    codes " publisher " ++ (publisher ++ (codes " subscriber " ++ (subscriber ++ codes "\n")))

-- the line of a leg between endpoints that are called so: which it is, its stay, what went out on it, and these names
abbrev pub line_of_leg : LegLine → List ℕ → List ℕ → Option ℕ → LegCount → List ℕ
line_of_leg l publisher subscriber stay c =
    ends_part l ++ (stay_part stay ++ (flow_part c ++ called_part publisher subscriber))
