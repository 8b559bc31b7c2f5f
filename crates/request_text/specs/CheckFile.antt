-- The lines of a file of `sfu check`: which certificate they spell, and what is answered for it.
use Rattle.std.specs.Prelude.{◌≡◌, ◌==◌, ◌&&◌, ◌⊎◌, ℕ, ◌+◌, ◌^◌, nat_lt, Bool, List, [], ◌∷◌, ◌++◌, length, map, Option, None, Some, option_map, option_and_then, Result, Ok, Err, codes, if◌then◌else◌}
use Rattle.std.specs.Int.{from_be_bytes, w32}
use Rattle.std.specs.Result.{result_ok}
use Rattle.std.specs.Str.{bytes_eq}
use Rattle.hex.specs.Hex.{decode_sized}
use Rattle.tmmbr_tuple.specs.Tuple.{word_of}
use Rattle.tmmbr_tuple.specs.RatePair.{RatePair, pair_of}
use Rattle.tmmbr_tuple.specs.declared.ssrc.Ssrc.{Ssrc}
use Rattle.rate_cert.specs.Certificate.{MeetsConditions, places_of}
use Rattle.rate_cert.specs.Choice.{IsSmallest}
use Rattle.rate_cert.specs.Fault.{FailsFirst}
use Rattle.rate_cert.specs.declared.request.Request.{Request}
use Rattle.rate_cert.specs.declared.certificate.Kept.{Kept as KeptEntry}
use Rattle.rate_cert.specs.declared.certificate.Implied.{Implied as ImpliedEntry}
use Rattle.rate_cert.specs.declared.certificate.TheConstants.{MAX_REQUESTS}
use Rattle.rate_cert.specs.declared.fault.CertFault.{CertFault}
use Rattle.request_text.specs.declared.entry.Claim.{Claim}
use Rattle.request_text.specs.declared.entry.Entry.{Entry}
use Rattle.request_text.specs.declared.entry.Entry.TheVariants.{Live, Kept, Implied}
use Rattle.request_text.specs.declared.entry.Reading.{Reading}
use Rattle.request_text.specs.declared.entry.Reading.TheVariants.{Skipped, Entry as AnEntry, Unreadable}
use Rattle.request_text.specs.declared.entry.TheConstants.{MAX_LINES}
use Rattle.request_text.specs.Lines.{Asked, lines_of}
use Rattle.request_text.specs.Words.{number_under, words_in}

-- ---- the words of a line

-- such a number, unless it is 0
abbrev pub positive : ℕ → Option ℕ
positive number = if number == 0 then None else Some number

-- the word that eight hexadecimal digits spell
abbrev pub word_in : List ℕ → Option ℕ
word_in digits = option_map (from_be_bytes w32) (result_ok (decode_sized digits 4))

-- OWNER WORD
abbrev pub ask_spelled : List ℕ → List ℕ → Option Asked
ask_spelled owner word =
    option_and_then (λ o. option_map (λ w. record { owner = o; word = w }) (word_in word))
    (number_under (2 ^ 32) owner)

-- N M D: packets and bits below 2^100, and seconds from 1 on below 2^14
abbrev pub pair_in : List ℕ → List ℕ → List ℕ → Option RatePair
pair_in n m d =
    option_and_then
    (λ packets. option_and_then
    (λ bits. option_and_then
    (λ time. option_map (λ seconds. record { packets = packets; bits = bits; seconds = seconds })
    (positive time))
    (number_under (2 ^ 14) d))
    (number_under (2 ^ 100) m))
    (number_under (2 ^ 100) n)

-- P Q R
abbrev pub times_in : ℕ → ℕ → List ℕ → List ℕ → List ℕ → Option Claim
times_in a b p q r =
    option_and_then
    (λ ps. option_and_then
    (λ qs. option_map
    (λ rs. record { a = record { 0 = a }; b = record { 0 = b }; p = ps; q = qs; r = rs })
    (number_under (2 ^ 16) r))
    (number_under (2 ^ 16) q))
    (number_under (2 ^ 16) p)

-- A B and P Q R
abbrev pub claim_in : List ℕ → List ℕ → List ℕ → List ℕ → List ℕ → Option Claim
claim_in a b p q r =
    option_and_then (λ first. option_and_then (λ second. times_in first second p q r)
    (number_under (2 ^ 32) b)) (number_under (2 ^ 32) a)

-- ---- a line

-- what a line spells
pub data Line : Type 0 where
  skipped : Line
  unreadable : Line
  live : Asked → Line
  kept : Asked → RatePair → Line
  implied : Asked → Claim → Line

-- the words after the first
abbrev pub live_words : List (List ℕ) → Option Line
live_words (owner ∷ (word ∷ [])) = option_map live (ask_spelled owner word)
live_words words = None

abbrev pub kept_words : List (List ℕ) → Option Line
kept_words (owner ∷ (word ∷ (pair ∷ (n ∷ (m ∷ (d ∷ [])))))) =
    if bytes_eq pair (codes "pair")
    then option_and_then (λ asked. option_map (kept asked) (pair_in n m d))
    (ask_spelled owner word) else None
kept_words words = None

abbrev pub implied_words : List (List ℕ) → Option Line
implied_words (owner ∷ (word ∷ (by ∷ (a ∷ (b ∷ (times ∷ (p ∷ (q ∷ (r ∷ []))))))))) =
    if bytes_eq by (codes "by") && bytes_eq times (codes "times")
    then option_and_then (λ asked. option_map (implied asked) (claim_in a b p q r))
    (ask_spelled owner word)
    else None
implied_words words = None

abbrev pub or_unreadable : Option Line → Line
or_unreadable None = unreadable
or_unreadable (Some line) = line

-- a line whose first word is another is skipped
abbrev pub words_line : List (List ℕ) → Line
words_line [] = skipped
words_line (first ∷ others) =
    if bytes_eq first (codes "live") then or_unreadable (live_words others)
    else if bytes_eq first (codes "kept") then or_unreadable (kept_words others)
    else if bytes_eq first (codes "implied") then or_unreadable (implied_words others)
    else skipped

-- What a line spells, its words parted by single spaces: a request that is live, kept with its pair or implied;
-- nothing; or what can't be read.
abbrev pub line_of : List ℕ → Line
line_of text = words_line (words_in text)

-- the same of what was read
abbrev pub asked_of : Request → Asked
asked_of r = record { owner = r.owner.0; word = word_of r.tuple }

abbrev pub said_of : Entry → Line
said_of (Live r) = live (asked_of r)
said_of (Kept r pair) = kept (asked_of r) (pair_of pair)
said_of (Implied r claim) = implied (asked_of r) claim

abbrev pub said_by : Reading → Line
said_by Skipped = skipped
said_by Unreadable = unreadable
said_by (AnEntry e) = said_of e

-- ---- the certificate that lines spell

-- each line is a request, in the order of the file
abbrev pub entry_request : Entry → Request
entry_request (Live r) = r
entry_request (Kept r pair) = r
entry_request (Implied r claim) = r

abbrev pub requests_of : List Entry → List Request
requests_of entries = map entry_request entries

-- the kept entries with their owners, of lines the first of which has this place
abbrev pub kept_from : ℕ → List Entry → List (Ssrc × KeptEntry)
kept_from place [] = []
kept_from place (Live r ∷ entries) = kept_from (place + 1) entries
kept_from place (Kept r pair ∷ entries) =
    (r.owner, record { place = place; pair = pair }) ∷ kept_from (place + 1) entries
kept_from place (Implied r claim ∷ entries) = kept_from (place + 1) entries

-- the places of the implied ones, and what they say
abbrev pub claims_from : ℕ → List Entry → List (ℕ × Claim)
claims_from place [] = []
claims_from place (Live r ∷ entries) = claims_from (place + 1) entries
claims_from place (Kept r pair ∷ entries) = claims_from (place + 1) entries
claims_from place (Implied r claim ∷ entries) = (place, claim) ∷ claims_from (place + 1) entries

-- the place of the owner's first kept entry; the one past the last request if it has none
abbrev pub place_for : List (Ssrc × KeptEntry) → ℕ → Ssrc → ℕ
place_for [] past owner = past
place_for (k ∷ kepts) past owner =
    if k.0.0 == owner.0 then k.1.place else place_for kepts past owner

abbrev pub implied_by : List (Ssrc × KeptEntry) → ℕ → ℕ × Claim → ImpliedEntry
implied_by kepts past i = record {
  place = i.0;
  a = place_for kepts past i.1.a;
  b = place_for kepts past i.1.b;
  p = i.1.p;
  q = i.1.q;
  r = i.1.r;
}

-- the certificate's kept entries, in the order of their lines
abbrev pub kept_of : List Entry → List KeptEntry
kept_of entries = map (λ k. k.1) (kept_from 0 entries)

-- its implied entries, in which each owner stands for its first kept line
abbrev pub implied_of : List Entry → List ImpliedEntry
implied_of entries = map (implied_by (kept_from 0 entries) (length entries)) (claims_from 0 entries)

-- ---- a file

-- a certificate holds no more entries of a kind than it may, and a file no more requests
abbrev pub has_room : List Entry → Entry → Bool
has_room entries (Live r) = nat_lt (length entries) MAX_LINES
has_room entries (Kept r pair) =
    nat_lt (length entries) MAX_LINES && nat_lt (length (kept_from 0 entries)) MAX_REQUESTS
has_room entries (Implied r claim) =
    nat_lt (length entries) MAX_LINES && nat_lt (length (claims_from 0 entries)) MAX_REQUESTS

-- the entries after another line; none if it can't be read, or has no room
abbrev pub entries_after : List Entry → Reading → Option (List Entry)
entries_after entries Skipped = Some entries
entries_after entries Unreadable = None
entries_after entries (AnEntry e) = if has_room entries e then Some (entries ++ e ∷ []) else None

pub record LineAdds (line : List ℕ) (entries : List Entry)
    (next : Option (List Entry)) : Type 0 where
  pub reading : Reading
  pub spelled : said_by reading ≡ line_of line
  pub added : next ≡ entries_after entries reading

-- the entries of lines, of which the first has this number, or the number of the first that is refused
abbrev pub LinesSpell : ℕ → List (List ℕ) → List Entry → Result (List Entry) ℕ → Type 0
LinesSpell n [] entries spelled = spelled ≡ Ok entries
LinesSpell n (line ∷ lines) entries spelled =
    ((next : List Entry) × LineAdds line entries (Some next)
    × LinesSpell (n + 1) lines next spelled)
    ⊎ (LineAdds line entries None × (spelled ≡ Err n))

-- the entries that a text's lines spell, or the number of the first line that is refused
abbrev pub FileSpells : List ℕ → Result (List Entry) ℕ → Type 0
FileSpells text spelled = LinesSpell 1 (lines_of text) [] spelled

-- What is answered for entries: yes if the certificate holds of the requests, whose kept ones are then a smallest
-- choice; else the first condition that it fails.
abbrev pub IsCheckAnswer : List Entry → Result (Unit {0}) CertFault → Type 0
IsCheckAnswer entries (Ok done) =
    MeetsConditions (requests_of entries) (kept_of entries) (implied_of entries)
    × IsSmallest (requests_of entries) (places_of (kept_of entries))
IsCheckAnswer entries (Err fault) =
    FailsFirst (requests_of entries) (kept_of entries) (implied_of entries) fault

-- a text spells a certificate, for which this is answered
pub record TextAnswers (text : List ℕ) (answer : Result (Unit {0}) CertFault) : Type 0 where
  pub entries : List Entry
  pub spelled : FileSpells text (Ok entries)
  pub is : IsCheckAnswer entries answer
