-- The lines of a script of `sfu replay`, and what they ask for.
use Rattle.std.specs.Prelude.{◌==◌, ◌<◌, ℕ, ◌^◌, Bool, true, false, List, [], ◌∷◌, Option, None, Some, option_map, option_and_then, codes, if◌then◌else◌}
use Rattle.std.specs.Result.{result_ok}
use Rattle.std.specs.Str.{bytes_eq}
use Rattle.hex.specs.Hex.{decode_of}
use Rattle.events.specs.declared.event.Event.TheVariants.{Hear, Tick, Select, Ingress, Work}
use Rattle.request_text.specs.Words.{number_under, words_in}
use Rattle.replay.specs.declared.script.Command.{Command}
use Rattle.replay.specs.declared.script.Command.TheVariants.{Do, Settle, Follow, Show}
use Rattle.replay.specs.declared.script.Numbers.{Numbers}
use Rattle.replay.specs.declared.script.ScriptLine.{ScriptLine}
use Rattle.replay.specs.declared.script.ScriptLine.TheVariants.{Skipped, Command as ACommand, Unreadable}

abbrev pub switch_in : List ℕ → Option Bool
switch_in word = if bytes_eq word (codes "on") then Some true else if bytes_eq word (codes "off")
    then Some false else None

-- the bytes that hexadecimal digits spell, at least one
abbrev pub datagram_in : List ℕ → Option (List ℕ)
datagram_in [] = None
datagram_in (d ∷ ds) = result_ok (decode_of (d ∷ ds))

-- ---- the words after the first

abbrev pub hear_words : Numbers → List (List ℕ) → Option Command
hear_words n (moment ∷ (endpoint ∷ (datagram ∷ []))) =
    option_and_then
    (λ bytes. option_and_then
    (λ m. option_map (λ e. Do (Hear m e bytes)) (number_under n.endpoints endpoint))
    (number_under (2 ^ 64) moment))
    (datagram_in datagram)
hear_words n words = None

abbrev pub tick_words : List (List ℕ) → Option Command
tick_words (moment ∷ []) = option_map (λ m. Do (Tick m)) (number_under (2 ^ 64) moment)
tick_words words = None

-- a leg may be one that isn't there
abbrev pub select_words : List (List ℕ) → Option Command
select_words (moment ∷ (leg ∷ (on ∷ []))) =
    option_and_then (λ m. option_and_then (λ l. option_map (λ b. Do (Select m l b)) (switch_in on))
    (number_under (2 ^ 16) leg))
    (number_under (2 ^ 64) moment)
select_words words = None

abbrev pub work_words : Numbers → List (List ℕ) → Option Command
work_words n (worker ∷ []) = option_map (λ w. Do (Work w)) (number_under n.workers worker)
work_words n words = None

abbrev pub show_words : Numbers → List (List ℕ) → Option Command
show_words n (publisher ∷ []) = option_map Show (number_under n.endpoints publisher)
show_words n words = None

abbrev pub no_words : Command → List (List ℕ) → Option Command
no_words command [] = Some command
no_words command words = None

-- ---- a line

abbrev pub words_command : Numbers → List (List ℕ) → Option Command
words_command n [] = None
words_command n (first ∷ others) =
    if bytes_eq first (codes "hear") then hear_words n others
    else if bytes_eq first (codes "tick") then tick_words others
    else if bytes_eq first (codes "select") then select_words others
    else if bytes_eq first (codes "ingress") then no_words (Do Ingress) others
    else if bytes_eq first (codes "work") then work_words n others
    else if bytes_eq first (codes "settle") then no_words Settle others
    else if bytes_eq first (codes "follow") then no_words Follow others
    else if bytes_eq first (codes "show") then show_words n others
    else None

abbrev pub command_or_not : Option Command → ScriptLine
command_or_not None = Unreadable
command_or_not (Some command) = ACommand command

-- what a line is: its words are parted by single spaces
abbrev pub script_line_of : Numbers → List ℕ → ScriptLine
script_line_of n [] = Skipped
script_line_of n (b ∷ line) = if b == 35 then Skipped
    else command_or_not (words_command n (words_in (b ∷ line)))

-- a publisher that a command shows is an endpoint
abbrev pub IsAmong : Numbers → Command → Type 0
IsAmong n (Do event) = Unit {0}
IsAmong n Settle = Unit {0}
IsAmong n Follow = Unit {0}
IsAmong n (Show p) = p < n.endpoints
