use Rattle.std.proofs.Common.{◌≡◌, ◌++◌, drop, string_bytes}
use Rattle.serving.specs.ReportText.{announced_lines}
use Rattle.serving.proofs.report_text.push_announced.Given as goal

abbrev pub invariant-loop-number : goal.invariant-loop-number
invariant-loop-number l =
    string_bytes l.text ++ announced_lines (drop l.number l.senders) (drop l.number l.desks) ≡ string_bytes l.fn.text ++ announced_lines l.senders l.desks
