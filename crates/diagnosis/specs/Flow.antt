-- How much went out on a leg of late.
use Rattle.std.specs.Prelude.{ℕ, ◌-◌, ◌*◌, ◌/◌, ◌^◌, max, min}
use Rattle.diagnosis.specs.declared.flow.FlowLook.{FlowLook}
use Rattle.diagnosis.specs.declared.flow.FlowWindow.{FlowWindow}
use Rattle.diagnosis.specs.declared.flow.LegFlow.{LegFlow}
use Rattle.diagnosis.specs.declared.flow.TheConstants.{SECOND_MS}

abbrev pub nothing_yet : FlowLook
nothing_yet = record { packets = 0; skipped = 0; moment = 0 }

abbrev pub unseen : FlowWindow
unseen = record { before = nothing_yet; last = nothing_yet }

-- the last two looks, after one more
abbrev pub looked_at : FlowWindow → FlowLook → FlowWindow
looked_at w look = record { before = w.last; last = look }

-- what went out since the older look, by one that is made now
abbrev pub flow_since : FlowWindow → FlowLook → LegFlow
flow_since w now = record {
  packets = now.packets - w.before.packets;
  skipped = now.skipped - w.before.skipped;
  ms = now.moment - w.before.moment;
}

-- so many in so many milliseconds, by the second, as far as a word holds it; in less than a second as if in one
abbrev pub each_second : ℕ → ℕ → ℕ
each_second count ms = min (count * SECOND_MS) (2 ^ 64 - 1) / max ms SECOND_MS
