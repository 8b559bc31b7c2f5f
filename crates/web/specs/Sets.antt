-- The sets that a unit announces, by its lines for `show`, and their pictures.
use Rattle.std.specs.Prelude.{◌≡◌, ◌==◌, ◌&&◌, ◌⊎◌, ◌<◌, ℕ, ◌^◌, nat_lt, Bool, false, List, [], ◌∷◌, codes, flat_map, length, map, slice_get, Option, None, Some, option_and_then, IsPermutation, if◌then◌else◌}
use Rattle.std.specs.Str.{bytes_eq}
use Rattle.std.specs.List.Sorted.{IsNonDecreasingBy}
use Rattle.rate_cert.specs.declared.request.Request.{Request}
use Rattle.bounding_set.specs.State.{State, AnnouncesSmallest}
use Rattle.bounding_set.specs.Rows.{HasRisingOwners}
use Rattle.bounding_set.specs.declared.rows.TheConstants.{LIVE_LIMIT}
use Rattle.drawing.specs.Picture.{picture_text}
use Rattle.request_text.specs.Lines.{Asked, lines_of}
use Rattle.request_text.specs.Words.{number_under, words_in}
use Rattle.request_text.specs.CheckFile.{Line, skipped, unreadable, live, kept, implied, asked_of, line_of}
use Rattle.web.specs.declared.sets.AnnouncedSet.{AnnouncedSet}
use Rattle.web.specs.Endpoints.{as_list}
use Rattle.web.specs.Words.{word_at}

-- what was said of a publisher's set
abbrev pub set_in : List AnnouncedSet → ℕ → Option (List ℕ)
set_in [] publisher = None
set_in (s ∷ sets) publisher = if s.publisher == publisher then Some s.text.items else set_in sets publisher

-- ---- N ssrc SSRC ..

abbrev pub ssrc_of : List ℕ → Option ℕ
ssrc_of word = option_and_then (λ n. if nat_lt n (2 ^ 32) then Some n else None) (number_under (2 ^ 64) word)

abbrev pub is_number : ℕ → Option ℕ → Bool
is_number n None = false
is_number n (Some m) = m == n

abbrev pub words_media : ℕ → List (List ℕ) → Option ℕ
words_media publisher words =
    if bytes_eq (word_at words 1) (codes "ssrc") && is_number publisher (number_under (2 ^ 16) (word_at words 0))
    then ssrc_of (word_at words 2) else None

abbrev pub line_media : ℕ → List ℕ → List ℕ
line_media publisher line = as_list (words_media publisher (words_in line))

unfoldable pub media_lines : List ℕ → ℕ → List ℕ
media_lines present publisher = flat_map (line_media publisher) (lines_of present)

-- the SSRC of the first endpoint with this number
abbrev pub media_in : List ℕ → ℕ → Option ℕ
media_in present publisher = slice_get (media_lines present publisher) 0

-- ---- the lines of `show`, as `sfu check` reads them

abbrev pub ask_of : Line → Option Asked
ask_of skipped = None
ask_of unreadable = None
ask_of (live a) = Some a
ask_of (kept a pair) = Some a
ask_of (implied a claim) = Some a

abbrev pub line_asks : List ℕ → List Asked
line_asks line = as_list (ask_of (line_of line))

unfoldable pub asked_in : List ℕ → List Asked
asked_in text = flat_map line_asks (lines_of text)

-- the requests that the lines tell of, by owner
pub record AreRequestsOf (text : List ℕ) (rows : List Request) : Type 0 where
  pub told : List Request
  pub asked : map asked_of told ≡ asked_in text
  pub same : IsPermutation told rows
  pub sorted : IsNonDecreasingBy (λ (r : Request). r.owner.0) rows

-- The picture of live requests and of the set that is announced for them. They are none if they are more than may be live, or an owner
-- has two.
abbrev pub IsPicture : ℕ → List Request → Option (List ℕ) → Type 0
IsPicture media rows (Some picture) =
    (s : State) × (s.rows ≡ rows) × AnnouncesSmallest s × (picture ≡ picture_text media s)
IsPicture media rows None = (LIVE_LIMIT < length rows) ⊎ (¬ (HasRisingOwners rows))

abbrev pub IsDrawn : ℕ → List ℕ → Option (List ℕ) → Type 0
IsDrawn media text picture =
    (rows : List Request) × AreRequestsOf text rows × IsPicture media rows picture
