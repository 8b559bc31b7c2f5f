-- The lines of a record: of each event that a unit takes in, and of its head.
use Rattle.std.specs.Prelude.{◌++◌, ◌==◌, ℕ, Bool, true, false, List, [], ◌∷◌, Option, None, Some, codes, flat_map, length, if◌then◌else◌}
use Rattle.std.specs.Fmt.{decimal}
use Rattle.std.specs.Net.Text.{socket_text}
use Rattle.hex.specs.Hex.{encode_lower}
use Rattle.events.specs.declared.event.Event.{Event}
use Rattle.events.specs.declared.event.Event.TheVariants.{Hear, Tick, Select, Ingress, Work}
use Rattle.recording.specs.declared.strangers.UnknownSender.{UnknownSender}

abbrev pub switch_word : Bool → List ℕ
switch_word true = codes "on"
switch_word false = codes "off"

-- the end of an event's line, and the line for what follows from it
abbrev pub follow_line : List ℕ
follow_line = codes "\nfollow\n"

-- An event from outside, and what follows from it. A datagram without bytes is refused and does nothing, so it has no line; a step of
-- the machine's own isn't taken in.
abbrev pub event_lines : Event → List ℕ
event_lines (Hear moment endpoint []) = []
event_lines (Hear moment endpoint (b ∷ bytes)) =
    codes "hear "
    ++ (decimal moment
    ++ (codes " "
    ++ (decimal endpoint ++ (codes " " ++ (encode_lower (b ∷ bytes) ++ follow_line)))))
event_lines (Tick moment) = codes "tick " ++ (decimal moment ++ follow_line)
event_lines (Select moment leg on) =
    codes "select "
    ++ (decimal moment ++ (codes " " ++ (decimal leg ++ (codes " " ++ (switch_word on ++ follow_line)))))
event_lines Ingress = []
event_lines (Work worker) = []

-- the beginning of a datagram's line, before its digits
abbrev pub heard_head : ℕ → ℕ → List ℕ
heard_head moment endpoint =
    codes "hear " ++ (decimal moment ++ (codes " " ++ (decimal endpoint ++ codes " ")))

-- the comment before a datagram that the unit made in an endpoint's name: at which moment one of its own came last, if one did
abbrev pub made_mark : Option ℕ → List ℕ
made_mark None = codes "# made in its name\n"
made_mark (Some heard) = codes "# made in its name, heard at " ++ (decimal heard ++ codes "\n")

-- the lines of a datagram that a policy made, after a comment with what came
abbrev pub after_came : List ℕ → List ℕ → List ℕ
after_came came lines = codes "# came " ++ (encode_lower came ++ (codes "\n" ++ lines))

-- the comment for an unknown sender, who comes at this moment: from where, and with which SSRC
abbrev pub stranger_line : ℕ → UnknownSender → List ℕ
stranger_line moment sender =
    codes "# stranger "
    ++ (socket_text sender.address
    ++ (codes " ssrc "
    ++ (decimal sender.source ++ (codes " at " ++ (decimal moment ++ codes "\n")))))

-- the comment after the head of a record that begins in the middle of a run
abbrev pub begun_line : ℕ → List ℕ
begun_line moment = codes "# begins in the middle of a run, at moment " ++ (decimal moment ++ codes "\n")

-- the version of the program, and the digest of its settings
abbrev pub program_part : List ℕ → List ℕ → List ℕ
program_part version settings =
    codes "# sfu " ++ (version ++ (codes "\n# settings " ++ (encode_lower settings ++ codes "\n")))

-- what the wall clock said at moment 0
abbrev pub time_part : ℕ → List ℕ
time_part began_ms = codes "# moment 0 unix_ms " ++ (decimal began_ms ++ codes "\n")

abbrev pub spaced_number : ℕ → List ℕ
spaced_number number = codes " " ++ decimal number

-- with which numbers legs began, by the legs' own numbers; nothing if they began as the settings say
abbrev pub first_part : List ℕ → List ℕ
first_part numbers =
    if length numbers == 0 then []
    else codes "# first_seq" ++ (flat_map spaced_number numbers ++ codes "\n")

abbrev pub header_text : List ℕ → List ℕ → ℕ → List ℕ → List ℕ
header_text version settings began_ms first =
    program_part version settings ++ (time_part began_ms ++ first_part first)
