-- What the words of a command line ask for. How words name subcommands and values is clap's own statement.
use Rattle.std.specs.Prelude.{◌≡◌, ◌||◌, Bool, IfOk, Result, false, [], ◌∷◌, decimal, ℕ, ℤ, List, Option, Some, None, codes, pos, true, ◌<◌, ◌^◌, if◌then◌else◌, map, option_map, option_and_then, unwrap_or}
use Rattle.std.specs.declared.alloc.AllocError.{AllocError}
use Rattle.std.specs.Str.{bytes_eq}
use Rattle.std.specs.Str.Parse.{without_leading_plus}
use Rattle.clap.specs.Words.{App, Kinds, Row, Rule, Text, all_of, app_of, fault_of, first_of, new_app, new_rule, one_of, rule_of, subcommand_of, with_rule, with_subcommand}
use Rattle.clap.specs.declared.builder.ArgAction.TheVariants.{Append, Set, SetTrue}
use Rattle.clap.specs.declared.builder.ValueParser.TheVariants.{Signed, Unsigned}
use Rattle.clap.specs.declared.builder.arg.Arg.{Arg}
use Rattle.clap.specs.declared.builder.command.Command.{Command}
use Rattle.clap.specs.declared.builder.command.Command.TheViews.{out-Command}
use Rattle.clap.specs.declared.error.kind.ErrorKind.{ErrorKind}
use Rattle.clap.specs.declared.error.kind.ErrorKind.TheVariants as kind
use Rattle.request_text.specs.Words.{number_under}
use Rattle.cli.specs.declared.words.Action.{Action}
use Rattle.cli.specs.declared.words.Action.TheVariants as action
use Rattle.cli.specs.declared.words.Offline.{Offline}
use Rattle.cli.specs.declared.words.Offline.TheVariants as offline
use Rattle.cli.specs.declared.words.Record.{Record}

-- a required option with a number below 2 ^ 32
abbrev pub number_rule : Text → Rule
number_rule name = record (new_rule name) {
  long = Some name;
  required = true;
  parser = Some (Signed (pos 0) (pos 4294967295));
  action = Some Set;
}

-- none of its arguments is one of a subcommand, too
abbrev pub HasNoGlobals : Command → Type 0
HasNoGlobals c = (out-Command c).has_globals ≡ false

-- a subcommand with a media sender
abbrev pub sender_app : Text → App
sender_app name = with_rule (new_app name) (number_rule (codes "sender"))

-- a required word
abbrev pub required_rule : Text → Rule
required_rule name = record (new_rule name) { required = true; action = Some Set }

-- a word or several
abbrev pub words_rule : Text → Rule
words_rule name = record (new_rule name) { required = true; action = Some Append }

-- a subcommand with a file
abbrev pub file_app : Text → App
file_app name = with_rule (new_app name) (required_rule (codes "FILE"))

-- an option with a number from 1 to the greatest
abbrev pub optional_rule : Text → ℤ → Rule
optional_rule name most = record (new_rule name) {
  long = Some name;
  parser = Some (Signed (pos 1) most);
  action = Some Set;
}

-- an option with a number from 0 to the greatest
abbrev pub number_to_rule : Text → ℤ → Rule
number_to_rule name most = record (new_rule name) {
  long = Some name;
  parser = Some (Signed (pos 0) most);
  action = Some Set;
}

-- an option with a number below 2 ^ 64, from the least on
abbrev pub moment_rule : Text → ℕ → Rule
moment_rule name least = record (new_rule name) {
  long = Some name;
  value_names = 1;
  parser = Some (Unsigned least 18446744073709551615);
  action = Some Set;
}

-- an option without a value
abbrev pub flag_rule : Text → Rule
flag_rule name = record (new_rule name) { long = Some name; action = Some SetTrue }

-- an option with a word
abbrev pub word_rule : Text → Rule
word_rule name = record (new_rule name) { long = Some name; value_names = 1; action = Some Set }

abbrev pub choosing_app : App
choosing_app =
    with_rule (with_rule (file_app (codes "replay")) (number_to_rule (codes "only-leg") (pos 65535)))
    (number_to_rule (codes "only-endpoint") (pos 65535))

abbrev pub telling_app : App
telling_app =
    with_rule (with_rule choosing_app (moment_rule (codes "from") 0)) (flag_rule (codes "events"))

abbrev pub replay_app : App
replay_app = with_rule
    (with_rule (with_rule telling_app (moment_rule (codes "gaps") 1)) (flag_rule (codes "utc")))
    (flag_rule (codes "other-settings"))

-- how many turns `--ticks` may name, and how many seconds `--status`: a day
abbrev pub max_ticks : ℕ
max_ticks = 1000000

abbrev pub max_status : ℕ
max_status = 86400

abbrev pub counted_app : App
counted_app =
    with_rule (with_rule (file_app (codes "serve")) (optional_rule (codes "ticks") (pos max_ticks)))
    (optional_rule (codes "status") (pos max_status))

abbrev pub steered_app : App
steered_app = with_rule counted_app (word_rule (codes "control"))

abbrev pub recorded_app : App
recorded_app = with_rule
    (with_rule (with_rule steered_app (word_rule (codes "record"))) (moment_rule (codes "record-limit") 1))
    (flag_rule (codes "record-next"))

abbrev pub serve_app : App
serve_app = with_rule
    (with_rule (with_rule recorded_app (word_rule (codes "numbers"))) (flag_rule (codes "log-time")))
    (flag_rule (codes "log-why"))

abbrev pub ask_app : App
ask_app = with_rule (with_rule (new_app (codes "ask")) (required_rule (codes "PATH"))) (words_rule (codes "WORD"))

abbrev pub page_app : App
page_app = with_rule
    (with_rule (with_rule (with_rule (new_app (codes "page")) (required_rule (codes "PATH"))) (required_rule (codes "ADDRESS")))
    (flag_rule (codes "anyone"))) (word_rule (codes "host"))

abbrev pub sdp_app : App
sdp_app = with_rule (file_app (codes "sdp")) (words_rule (codes "ENDPOINT"))

abbrev pub sfu_top : App
sfu_top = record (new_app (codes "sfu")) {
  top = record (new_app (codes "sfu")).top { subcommand_required = true; has_version = true };
}

-- with these subcommands
abbrev pub with_subcommands : App → List App → App
with_subcommands app [] = app
with_subcommands app (first ∷ others) = with_subcommands (with_subcommand app first.top) others

-- the program's command line
abbrev pub sfu : App
sfu = with_subcommands sfu_top
    (sender_app (codes "bound") ∷ file_app (codes "check") ∷ replay_app ∷ serve_app
    ∷ sender_app (codes "draw") ∷ sdp_app ∷ page_app ∷ file_app (codes "settings") ∷ ask_app ∷ [])

-- if a command and one without globals are made, the first is made with the other as a subcommand, or it isn't made
abbrev pub TakesSubcommand : Result Command AllocError → Result Command AllocError
    → Result Command AllocError → Type 0
TakesSubcommand command subcommand made =
    (app below : App) → IfOk command (λ c. app_of c ≡ app) → IfOk subcommand (λ c. app_of c ≡ below)
    → IfOk subcommand HasNoGlobals → IfOk made (λ c. app_of c ≡ with_subcommand app below.top)

-- if a command is made, it is made with an argument that has this rule and isn't global, or it isn't made
pub record TakesArg (command : Result Command AllocError) (arg : Arg) (made : Result Command AllocError)
    : Type 0 where
  pub shape : (app : App) (rule : Rule) → IfOk command (λ c. app_of c ≡ app) → rule_of arg ≡ rule
      → arg.global ≡ false → IfOk made (λ c. app_of c ≡ with_rule app rule)
  pub local : IfOk command HasNoGlobals → arg.global ≡ false → IfOk made HasNoGlobals

-- what can be asked for
pub data Request : Type 0 where
  bound : ℕ → Request
  check : Text → Request
  replay : Text → Option ℕ → Option ℕ → Option ℕ → Bool → Option ℕ → Bool → Bool → Request
  serve : Text → Option ℕ → Option ℕ → Option Text → Option (Text × Option ℕ × Bool) → Bool → Option Text
      → Bool → Request
  draw : ℕ → Request
  version : Request
  ask : Text → List Text → Request
  page : Text → Text → Bool → Option Text → Request
  sdp : Text → List Text → Request
  plan : Text → Request

-- where a unit is recorded, with the limit, and whether in the next file that isn't there
abbrev pub record_of : Record → Text × Option ℕ × Bool
record_of r = (r.path.now, r.limit, r.next)

abbrev pub offline_request : Offline → Request
offline_request (offline.Bound media) = bound media
offline_request (offline.Check file) = check file.now
offline_request (offline.Draw media) = draw media
offline_request offline.Version = version

abbrev pub action_request : Action → Request
action_request (action.Offline what) = offline_request what
action_request (action.Replay file leg endpoint from events gaps utc others) =
    replay file.now leg endpoint from events gaps utc others
action_request (action.Serve file ticks status control recorded log_time numbers log_why) =
    serve file.now ticks status (option_map (λ path. path.now) control) (option_map record_of recorded) log_time
    (option_map (λ path. path.now) numbers) log_why
action_request (action.Ask path words) = ask path.now (map (λ word. word.now) words.items)
action_request (action.Page path address anyone host) =
    page path.now address.now anyone (option_map (λ name. name.now) host)
action_request (action.Sdp file endpoints) = sdp file.now (map (λ word. word.now) endpoints.items)
action_request (action.Settings file) = plan file.now

-- the number that a word spells
abbrev pub number_of : Text → Option ℕ
number_of text = number_under (2 ^ 32) (without_leading_plus text)

abbrev pub number_in : Text → List Row → Option ℕ
number_in id rows = option_and_then number_of (one_of id rows)

-- the moment that a word spells
abbrev pub moment_of : Text → Option ℕ
moment_of text = number_under (2 ^ 64) (without_leading_plus text)

abbrev pub moment_in : Text → List Row → Option ℕ
moment_in id rows = option_and_then moment_of (one_of id rows)

abbrev pub is_yes : Option Text → Bool
is_yes None = false
is_yes (Some text) = bytes_eq text (codes "true")

-- whether an option without a value is there
abbrev pub is_set : Text → List Row → Bool
is_set id rows = is_yes (first_of id rows)

-- the words of an argument that takes several
abbrev pub words_in : Text → List Row → List Text
words_in id rows = unwrap_or (all_of id rows) []

-- a record's path with what is said of it; without a path that says nothing
abbrev pub record_with : Option Text → Option ℕ → Bool → Option (Option (Text × Option ℕ × Bool))
record_with (Some path) limit next = Some (Some (path, limit, next))
record_with None None false = Some None
record_with None None true = None
record_with None (Some limit) next = None

-- what `serve` asks for with these values
abbrev pub serve_named : List Row → Option Request
serve_named rows = option_and_then
    (λ recorded. option_map
    (λ file. serve file (number_in (codes "ticks") rows) (number_in (codes "status") rows)
    (first_of (codes "control") rows) recorded (is_set (codes "log-time") rows)
    (first_of (codes "numbers") rows) (is_set (codes "log-why") rows))
    (first_of (codes "FILE") rows))
    (record_with (first_of (codes "record") rows) (moment_in (codes "record-limit") rows)
    (is_set (codes "record-next") rows))

-- what a subcommand of this name asks for that has no list of words
abbrev pub plain_named : Text → List Row → Option Request
plain_named name rows =
    if bytes_eq name (codes "bound") then option_map bound (number_in (codes "sender") rows)
    else if bytes_eq name (codes "check") then option_map check (first_of (codes "FILE") rows)
    else if bytes_eq name (codes "replay")
    then option_map
    (λ file. replay file (number_in (codes "only-leg") rows) (number_in (codes "only-endpoint") rows)
    (moment_in (codes "from") rows) (is_set (codes "events") rows) (moment_in (codes "gaps") rows)
    (is_set (codes "utc") rows) (is_set (codes "other-settings") rows))
    (first_of (codes "FILE") rows)
    else if bytes_eq name (codes "serve") then serve_named rows
    else if bytes_eq name (codes "draw") then option_map draw (number_in (codes "sender") rows)
    else if bytes_eq name (codes "page")
    then option_and_then
    (λ path. option_map
    (λ address. page path address (is_set (codes "anyone") rows) (first_of (codes "host") rows))
    (first_of (codes "ADDRESS") rows))
    (first_of (codes "PATH") rows)
    else if bytes_eq name (codes "settings") then option_map plan (first_of (codes "FILE") rows)
    else None

-- what the subcommand of this name asks for with these values
abbrev pub asked_named : Text → List Row → Option Request
asked_named name rows =
    if bytes_eq name (codes "ask")
    then option_map (λ path. ask path (words_in (codes "WORD") rows)) (first_of (codes "PATH") rows)
    else if bytes_eq name (codes "sdp")
    then option_map (λ file. sdp file (words_in (codes "ENDPOINT") rows)) (first_of (codes "FILE") rows)
    else plain_named name rows

abbrev pub request_found : Option (Text × List Row) → Option Request
request_found found = option_and_then (λ p. asked_named p.0 p.1) found

abbrev pub is_version : ErrorKind → Bool
is_version kind.DisplayVersion = true
is_version _ = false

-- whether the version is one of these kinds of fault
abbrev pub has_version : Kinds → Bool
has_version [] = false
has_version (k ∷ ks) = is_version k || has_version ks

-- what is asked for if the words have these faults
abbrev pub asked_with : Kinds → Option (Text × List Row) → Option Request
asked_with [] found = request_found found
asked_with (k ∷ ks) found = if has_version (k ∷ ks) then Some version else None

-- What the words ask for, by what clap says of them: nothing if they have a fault, but for the version, which clap tells as one; else by the
-- subcommand and the values that it finds in them.
abbrev pub asked_for : List Text → Option Request
asked_for words = asked_with (fault_of sfu words) (subcommand_of sfu words)

-- a unit is to be served, asked or shown
abbrev pub AsksOfUnit : Option Request → Type 0
AsksOfUnit None = ⊥
AsksOfUnit (Some (bound media)) = ⊥
AsksOfUnit (Some (check file)) = ⊥
AsksOfUnit (Some (replay file leg endpoint from events gaps utc others)) = ⊥
AsksOfUnit (Some (serve file ticks status control recorded log_time numbers log_why)) = Unit {0}
AsksOfUnit (Some (draw media)) = ⊥
AsksOfUnit (Some version) = ⊥
AsksOfUnit (Some (ask path words)) = Unit {0}
AsksOfUnit (Some (page path address anyone host)) = Unit {0}
AsksOfUnit (Some (sdp file endpoints)) = ⊥
AsksOfUnit (Some (plan file)) = ⊥

-- the words are `bound --sender N` after the program's name, with a number below 2 ^ 32
abbrev pub Types : List Text → ℕ → Type 0
Types words media =
    (name : Text) × (words ≡ name ∷ codes "bound" ∷ codes "--sender" ∷ decimal media ∷ []) × (media < 2 ^ 32)
