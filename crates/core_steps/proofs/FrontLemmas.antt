-- A front, alone and with what stands beside it.
use Rattle.std.proofs.Common.{◌≡◌, ◌∙◌, ℕ, List, false, refl, ap, arith}
use Rattle.std.specs.Prelude.{not, ◌||◌, Option, is_some}
use Rattle.core_steps.specs.declared.front.Front.{Front}
use Rattle.core_steps.specs.Duties.{Reports}
use Rattle.core_steps.specs.Machine.{Rest, IsIdle, no_rest, alone, whole, tasks_of}
use Rattle.core_steps.specs.Rule.{is_busy, is_empty}
use Rattle.core_steps.specs.World.{WorldState}
use Rattle.desk_calls.specs.Notification.{Pending}

-- the world with this beside its front
abbrev beside : WorldState → Rest → WorldState
beside w rest = record w {
  pending = rest.pending;
  desks = rest.desks;
  rows = rest.rows;
  workers = rest.workers;
  lost = rest.lost;
}

-- ---- whether anything waits

pub not_busy : (f : Front) (rest : Rest) → is_busy (alone f) ≡ false → IsIdle rest → is_busy (whole f rest) ≡ false
not_busy f rest h idle = ap (λ (p : Option Pending). is_some p || not (is_empty (tasks_of f.tasks))) idle.0 ∙ h

pub none_idle : IsIdle no_rest
none_idle = (refl, omega arith)

-- ---- what is so of the front alone

pub reports_beside : (f g : Front) (rest : Rest) (p : ℕ) (bytes : List ℕ) → Reports (alone f) p (alone g) bytes
    → Reports (whole f rest) p (whole g rest) bytes
reports_beside f g rest p bytes r = record {
  block = r.block;
  answer = r.answer;
  datagram = r.datagram;
  room = ap (λ (w : WorldState). beside w rest) r.room;
}
