-- How a job is planned: what each leg does for it, and how the legs that it concerns are found.
use Rattle.std.specs.Prelude.{◌≡◌, ◌==◌, ℕ, ◌<◌, nat_eq, false, true, List, [], ◌∷◌, length, map, All, Option, None, Some, Result, Ok, Err, slice_get, if◌then◌else◌}
use Rattle.std.specs.Global.{Vec}
use Rattle.std.specs.HashMap.{get}
use Rattle.std.specs.List.{flat_map, enumerate_from}
use Rattle.members.specs.declared.order.Row.{Row}
use Rattle.resend_ring.specs.Kept.{last_kept_with}
use Rattle.rewrite.specs.declared.skip.Skip.{Skip as Cause}
use Rattle.rewrite.specs.Leg.{held_with}
use Rattle.rtcp_feedback.specs.Nack.{lost_numbers}
use Rattle.events.specs.declared.job.Job.{Job}
use Rattle.events.specs.declared.job.Job.TheVariants as job
use Rattle.legs.specs.declared.leg.LegState.{LegState}
use Rattle.legs.specs.declared.plan.Planned.{Planned}
use Rattle.legs.specs.declared.plan.Change.TheVariants.{Nothing, Keep, Count}
use Rattle.events.specs.declared.output.Out.TheVariants.{Send, Skip, Miss}
use Rattle.legs.specs.Legs.{takes, stands, row_of, answer_on, outgoing_bytes, leg_report_bytes, leg_goodbye_bytes}
use Rattle.settings.specs.Places.{Sources}
use Rattle.shared_packet.specs.Rtp.{sequence_number, payload_octets}

-- ---- what a leg does

-- these bytes go to an endpoint, and no leg changes
abbrev pub sent_alone : ℕ → List ℕ → Planned
sent_alone endpoint bytes = record { out = Send endpoint bytes; change = Nothing }

abbrev pub packet_planned : ℕ → LegState → ℕ → List ℕ → Result ℕ Cause → Planned
packet_planned place s turn bytes (Ok number) = record {
  out = Send s.link.subscriber (outgoing_bytes s bytes number);
  change = Keep place (held_with s.numbers turn (sequence_number bytes) (Ok number)) number
      (payload_octets bytes) (outgoing_bytes s bytes number);
}
packet_planned place s turn bytes (Err cause) =
    record { out = Skip s.number cause; change = Nothing }

abbrev pub resend_planned : ℕ → LegState → ℕ → Option (List ℕ) → Planned
resend_planned place s seq None = record { out = Miss s.number seq; change = Nothing }
resend_planned place s seq (Some bytes) =
    record { out = Send s.link.subscriber bytes; change = Count place (payload_octets bytes) }

abbrev pub resends : ℕ → LegState → List ℕ → List Planned
resends place s numbers =
    map (λ seq. resend_planned place s seq (last_kept_with s.kept.items seq)) numbers

abbrev pub leg_plan : List Row → Job → ℕ × LegState → List Planned
leg_plan rows (job.Packet publisher bytes) (place, s) =
    if takes rows publisher bytes s
    then packet_planned place s (row_of rows s).turn bytes (answer_on rows bytes s) ∷ [] else []
leg_plan rows (job.Resend leg stay nack) (place, s) =
    if stands rows leg stay s then resends place s (lost_numbers nack) else []
leg_plan rows (job.Report leg stay sr) (place, s) =
    if stands rows leg stay s then sent_alone s.link.subscriber (leg_report_bytes s sr) ∷ []
    else []
leg_plan rows (job.Goodbye leg) (place, s) =
    if s.number == leg then sent_alone s.link.subscriber (leg_goodbye_bytes s) ∷ [] else []
leg_plan rows (job.Request leg stay word) (place, s) = []
leg_plan rows (job.Pli leg moment) (place, s) = []

-- the plan of a job
abbrev pub job_plan : List Row → List LegState → Job → List Planned
job_plan rows legs work = flat_map (leg_plan rows work) (enumerate_from 0 legs)

-- what the leg at a place does with a packet of its publisher
abbrev pub plan_by : List Row → List ℕ → ℕ → Option LegState → List Planned
plan_by rows bytes place None = []
plan_by rows bytes place (Some s) =
    if (row_of rows s).on
    then packet_planned place s (row_of rows s).turn bytes (answer_on rows bytes s) ∷ [] else []

abbrev pub plan_of : List Row → List ℕ → List LegState → ℕ → List Planned
plan_of rows bytes legs place = plan_by rows bytes place (slice_get legs place)

-- ---- how legs are found

-- the places of those of these legs that are of this publisher
abbrev pub publisher_places : ℕ → List (ℕ × LegState) → List ℕ
publisher_places publisher [] = []
publisher_places publisher (e ∷ es) =
    if e.1.link.publisher == publisher then e.0 ∷ publisher_places publisher es
    else publisher_places publisher es

-- the place of the first of these legs with this number
abbrev pub leg_place : ℕ → List (ℕ × LegState) → Option ℕ
leg_place number [] = None
leg_place number (e ∷ es) = if e.1.number == number then Some e.0 else leg_place number es

-- the list at each publisher has the places of its legs
pub record ListsPlaces (lists : List (Vec ℕ)) (count : ℕ) (legs : List LegState) : Type 0 where
  pub size : length lists ≡ count
  pub each : (k : ℕ) (v : Vec ℕ) → slice_get lists k ≡ Some v
      → v.items ≡ publisher_places k (enumerate_from 0 legs)

-- the map has the place of the leg with each number
abbrev pub FindsPlaces : Sources → List LegState → Type 0
FindsPlaces places legs = (number : ℕ)
    → get nat_eq places number ≡ leg_place number (enumerate_from 0 legs)

-- each leg's number is greater than those before it
abbrev pub IsRising : List LegState → Type 0
IsRising [] = Unit {0}
IsRising (s ∷ legs) = All (λ t. s.number < t.number) legs × IsRising legs

-- what is known of a worker's legs: their numbers rise, their publishers are endpoints, and how they are found
pub record AreFound (lists : List (Vec ℕ)) (places : Sources) (legs : List LegState) : Type 0 where
  pub rising : IsRising legs
  pub publishers : All (λ s. s.link.publisher < length lists) legs
  pub lists_places : ListsPlaces lists (length lists) legs
  pub finds_places : FindsPlaces places legs

-- none of these legs has the number
abbrev pub HasNoNumber : ℕ → List LegState → Type 0
HasNoNumber number legs = All (λ s. (s.number == number) ≡ false) legs

-- the leg is the one of these that has the number
pub record IsNumbered (number : ℕ) (legs : List LegState) (s : LegState) : Type 0 where
  pub place : ℕ
  pub at : slice_get legs place ≡ Some s
  pub is_number : s.number ≡ number
  pub rising : IsRising legs

-- on none of these legs does the stay stand
abbrev pub IsNowhere : List Row → ℕ → ℕ → List LegState → Type 0
IsNowhere rows number stay legs = All (λ s. stands rows number stay s ≡ false) legs

-- the leg at this place is the one on which the stay stands
pub record IsStandingAt (rows : List Row) (number stay : ℕ) (legs : List LegState) (place : ℕ)
    (s : LegState) : Type 0 where
  pub at : slice_get legs place ≡ Some s
  pub stands_here : stands rows number stay s ≡ true
  pub rising : IsRising legs
