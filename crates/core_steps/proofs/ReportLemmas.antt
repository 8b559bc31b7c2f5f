-- Of sender reports that come at one moment the last stands.
use Rattle.std.proofs.Common.{◌≡◌, ◌∙◌, ℕ, zero, suc, Bool, true, false, List, [], ◌∷◌, Option, None, Some, refl, ap}
use Rattle.std.specs.Prelude.{slice_index_or, slice_set, if◌then◌else◌}
use Rattle.std.specs.List.{last_or}
use Rattle.members.specs.Presence.{is_present_at}
use Rattle.members.specs.Room.{RoomState, after_report}
use Rattle.members.specs.Reception.{Heard}
use Rattle.members.specs.Stream.{heard_report, nothing_heard}
use Rattle.datagram.specs.Saying.{after_reports}

-- what is received after this report, as far as it is present
abbrev reported : Bool → List Heard → ℕ → ℕ → ℕ × ℕ → List Heard
reported present rs at moment report =
    if present then slice_set rs at (heard_report (if present then slice_index_or rs at nothing_heard else nothing_heard) moment report.0 report.1)
    else rs

written_again : (rs : List Heard) (at moment : ℕ) (x y : ℕ × ℕ)
    → reported true (reported true rs at moment x) at moment y ≡ reported true rs at moment y
written_again [] at moment x y = refl
written_again (r ∷ rs) zero moment x y = refl
written_again (r ∷ rs) (suc at) moment x y = ap (λ (l : List Heard). r ∷ l) (written_again rs at moment x y)

reported_again : (present : Bool) (rs : List Heard) (at moment : ℕ) (x y : ℕ × ℕ)
    → reported present (reported present rs at moment x) at moment y ≡ reported present rs at moment y
reported_again true rs at moment x y = written_again rs at moment x y
reported_again false rs at moment x y = refl

again : (room : RoomState) (endpoint : ℕ) (x y : ℕ × ℕ)
    → after_report (after_report room endpoint x.0 x.1) endpoint y.0 y.1 ≡ after_report room endpoint y.0 y.1
again room endpoint x y =
    ap (λ (rs : List Heard). record room { receptions = rs })
    (reported_again (is_present_at room.endpoints endpoint) room.receptions endpoint room.moment x y)

-- the room after the one report that is kept, if there is one
abbrev pub after_last : RoomState → ℕ → Option (ℕ × ℕ) → RoomState
after_last room endpoint None = room
after_last room endpoint (Some report) = after_report room endpoint report.0 report.1

from_one : (room : RoomState) (endpoint : ℕ) (x : ℕ × ℕ) (reports : List (ℕ × ℕ))
    → after_reports (after_report room endpoint x.0 x.1) endpoint reports ≡ after_last room endpoint (last_or (Some x) reports)
from_one room endpoint x [] = refl
from_one room endpoint x (y ∷ reports) =
    ap (λ (r : RoomState). after_reports r endpoint reports) (again room endpoint x y) ∙ from_one room endpoint y reports
