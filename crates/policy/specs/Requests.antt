-- What is held for each leg: what its subscriber asked for last since it left last (RFC 5104, section 4.2.1).
use Rattle.std.specs.Prelude.{◌≡◌, ◌==◌, ℕ, List, [], ◌∷◌, map, Option, None, Some, slice_get, slice_set, if◌then◌else◌}
use Rattle.datagram.specs.declared.reading.Ask.{Ask}
use Rattle.datagram.specs.declared.reading.Ask.TheVariants.{Rate, Resend, Picture}
use Rattle.settings.specs.Links.{LinkTable, leg_to}
use Rattle.settings.specs.declared.settings.LegSettings.{LegSettings}
use Rattle.policy.specs.declared.requests.HeldRequest.{HeldRequest}
use Rattle.policy.specs.declared.requests.LegRequest.{LegRequest}

abbrev pub unasked : LegSettings → LegRequest
unasked leg = record { subscriber = leg.subscriber; request = None }

abbrev pub place_with : List LegRequest → ℕ → HeldRequest → Option LegRequest → List LegRequest
place_with legs leg request None = legs
place_with legs leg request (Some place) =
    slice_set legs leg (record { subscriber = place.subscriber; request = Some request })

-- what is held for each leg, once the subscriber of this one asked for this (RFC 5104, section 4.2.1)
abbrev pub with_request : List LegRequest → ℕ → HeldRequest → List LegRequest
with_request legs leg request = place_with legs leg request (slice_get legs leg)

-- a leg once this endpoint left (RFC 5104, section 4.2.1)
abbrev pub place_without : ℕ → LegRequest → LegRequest
place_without subscriber place = if place.subscriber == subscriber then record place { request = None } else place

-- ---- over all that happened, the latest first

-- on this leg its subscriber asks for this; or this subscriber leaves
pub data Happening : Type 0 where
  asks : ℕ → HeldRequest → Happening
  leaves : ℕ → Happening

abbrev pub after_happening : List LegRequest → Happening → List LegRequest
after_happening legs (asks leg request) = with_request legs leg request
after_happening legs (leaves subscriber) = map (place_without subscriber) legs

-- what is held on these legs by then (RFC 5104, section 4.2.1)
abbrev pub held_after : List LegSettings → List Happening → List LegRequest
held_after legs [] = map unasked legs
held_after legs (h ∷ earlier) = after_happening (held_after legs earlier) h

-- what this subscriber asked for last on this leg, since it left last (RFC 5104, section 4.2.1)
abbrev pub asked_last : ℕ → ℕ → List Happening → Option HeldRequest
asked_last leg subscriber [] = None
asked_last leg subscriber (asks other request ∷ earlier) =
    if leg == other then Some request else asked_last leg subscriber earlier
asked_last leg subscriber (leaves who ∷ earlier) =
    if subscriber == who then None else asked_last leg subscriber earlier

-- what is held for a leg is what its subscriber asked for last (RFC 5104, section 4.2.1)
pub record HoldsLast (legs : List LegSettings) (happenings : List Happening) (leg : ℕ) (s : LegSettings) : Type 0 where
  pub held : slice_get (held_after legs happenings) leg
      ≡ Some (record { subscriber = s.subscriber; request = asked_last leg s.subscriber happenings })

-- ---- what an endpoint asks for

abbrev pub word_on : Option ℕ → ℕ → Option (ℕ × ℕ)
word_on None word = None
word_on (Some leg) word = Some (leg, word)

-- the leg that it asks about, and for which word
abbrev pub asked_by : LinkTable → ℕ → Ask → Option (ℕ × ℕ)
asked_by table endpoint (Rate media word) = word_on (leg_to table endpoint media.0) word
asked_by table endpoint (Resend media nack) = None
asked_by table endpoint (Picture media) = None

abbrev pub with_asked : List LegRequest → ℕ → Option (ℕ × ℕ) → List LegRequest
with_asked legs moment None = legs
with_asked legs moment (Some asked) =
    with_request legs asked.0 (record { word = asked.1; moment = moment })

-- what is held for each leg, once the endpoint asked for this at this moment (RFC 5104, section 4.2.1)
abbrev pub ask_in : LinkTable → ℕ → ℕ → List LegRequest → Ask → List LegRequest
ask_in table endpoint moment legs ask = with_asked legs moment (asked_by table endpoint ask)
