-- When something is said of a leg unasked.
use Rattle.std.specs.Prelude.{◌≢◌, ◌≤◌, ◌+◌, ℕ, Option, None, Some}
use Rattle.diagnosis.specs.declared.kinds.ReasonKind.{ReasonKind}
use Rattle.diagnosis.specs.declared.remarks.Remark.{Remark}
use Rattle.diagnosis.specs.declared.remarks.TheConstants.{REMARK_EACH_MS}

-- A reason of this kind is said at this moment: nothing was said yet, so long after the start; or what was said last is of another kind, and
-- so old.
abbrev pub IsRemarkDue : Option Remark → ReasonKind → ℕ → Type 0
IsRemarkDue None kind moment = REMARK_EACH_MS ≤ moment
IsRemarkDue (Some said) kind moment =
    (said.kind ≢ kind) × (said.moment + REMARK_EACH_MS ≤ moment)
