-- What a line of a peer asks for.
use Rattle.std.specs.Prelude.{ℕ, ◌^◌, Bool, true, false, List, [], ◌∷◌, Option, None, Some, option_map, option_and_then, codes, if◌then◌else◌}
use Rattle.std.specs.Str.{bytes_eq}
use Rattle.request_text.specs.Words.{number_under, words_in}
use Rattle.control_protocol.specs.declared.records.RecordKind.{RecordKind}
use Rattle.control_protocol.specs.declared.records.RecordKind.TheVariants.{File, Peer}
use Rattle.control_protocol.specs.declared.request.Request.{Request}
use Rattle.control_protocol.specs.declared.request.Request.TheVariants.{Select, Present, Legs, Counts, Metrics, Reports, Refusals, Strangers, Record, EndRecord, Follow, Stay, Why, Show, Stop}

-- ---- the words after the first

abbrev pub switched : List ℕ → Option Bool
switched word = if bytes_eq word (codes "on") then Some true else if bytes_eq word (codes "off")
    then Some false else None

-- a leg, and on or off
abbrev pub select_asked : List (List ℕ) → Option Request
select_asked (leg ∷ (on ∷ [])) =
    option_and_then (λ l. option_map (λ b. Select l b) (switched on)) (number_under (2 ^ 16) leg)
select_asked words = None

-- nothing, or a leg
abbrev pub why_asked : List (List ℕ) → Option Request
why_asked [] = Some (Why None)
why_asked (leg ∷ []) = option_map (λ l. Why (Some l)) (number_under (2 ^ 16) leg)
why_asked words = None

-- a publisher
abbrev pub show_asked : List (List ℕ) → Option Request
show_asked (publisher ∷ []) = option_map Show (number_under (2 ^ 16) publisher)
show_asked words = None

-- which record
abbrev pub record_named : List ℕ → Option RecordKind
record_named word = if bytes_eq word (codes "file") then Some File else if bytes_eq word (codes "peer")
    then Some Peer else None

-- nothing; or the end of a record, or of this one
abbrev pub record_asked : List (List ℕ) → Option Request
record_asked [] = Some Record
record_asked (off ∷ []) = if bytes_eq off (codes "off") then Some (EndRecord None) else None
record_asked (off ∷ (which ∷ [])) = if bytes_eq off (codes "off")
    then option_map (λ k. EndRecord (Some k)) (record_named which) else None
record_asked words = None

-- nothing
abbrev pub alone_words : Request → List (List ℕ) → Option Request
alone_words request [] = Some request
alone_words request words = None

-- ---- a line

abbrev pub request_words : List (List ℕ) → Option Request
request_words [] = None
request_words (first ∷ others) =
    if bytes_eq first (codes "select") then select_asked others
    else if bytes_eq first (codes "present") then alone_words Present others
    else if bytes_eq first (codes "legs") then alone_words Legs others
    else if bytes_eq first (codes "counts") then alone_words Counts others
    else if bytes_eq first (codes "metrics") then alone_words Metrics others
    else if bytes_eq first (codes "reports") then alone_words Reports others
    else if bytes_eq first (codes "refusals") then alone_words Refusals others
    else if bytes_eq first (codes "strangers") then alone_words Strangers others
    else if bytes_eq first (codes "record") then record_asked others
    else if bytes_eq first (codes "events") then alone_words Follow others
    else if bytes_eq first (codes "stay") then alone_words Stay others
    else if bytes_eq first (codes "why") then why_asked others
    else if bytes_eq first (codes "show") then show_asked others
    else if bytes_eq first (codes "stop") then alone_words Stop others
    else None

-- what a line without its end asks for: its words are parted by single spaces
abbrev pub request_in : List ℕ → Option Request
request_in line = request_words (words_in line)
