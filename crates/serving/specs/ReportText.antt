-- What `sfu serve` prints after its turns.
use Rattle.std.specs.Prelude.{◌≡◌, ◌++◌, ℕ, List, [], ◌∷◌, Option, codes, length}
use Rattle.std.specs.Io.KnownBytes.{Appends}
use Rattle.std.specs.Fmt.{decimal}
use Rattle.tmmbr_tuple.specs.declared.ssrc.Ssrc.{Ssrc}
use Rattle.bounding_set.specs.State.{announced_of}
use Rattle.settings.specs.Settings.{Configuration, IsInRange}
use Rattle.desk.specs.State.{DeskState}
use Rattle.rate_desk.specs.Gathered.{AreDesksOf}
use Rattle.workers.specs.declared.unit.Report.{Report}
use Rattle.request_text.specs.BoundText.{announced_line}
use Rattle.serving.specs.DrivenReport.{IsDrivenReport}

-- the line of counts
abbrev pub counts_line : Report → List ℕ
counts_line r =
    codes "heard "
    ++ (decimal r.heard
    ++ (codes " sent " ++ (decimal r.sent ++ (codes " failed " ++ (decimal r.failed
    ++ (codes " lost " ++ (decimal r.lost ++ codes "\n")))))))

-- the TMMBN of each publisher, with its own source as the sender
abbrev pub announced_lines : List Ssrc → List DeskState → List ℕ
announced_lines [] desks = []
announced_lines (sender ∷ senders) [] = []
announced_lines (sender ∷ senders) (desk ∷ desks) =
    announced_line sender.0 (announced_of desk.bounds) ++ announced_lines senders desks

abbrev pub report_text : List Ssrc → Report → List ℕ
report_text senders report = counts_line report ++ announced_lines senders report.desks.items

-- What is printed is the text of a report of the unit with these settings, and with a desk for each endpoint; with one worker, of the machine
-- that was driven for so many turns at this pace.
pub record PrintsReport (settings : Configuration) (tick_ms turns : ℕ) (old new : Option (List ℕ))
    : Type 0 where
  pub range : IsInRange settings
  pub report : Report
  pub desks : AreDesksOf settings.pli_gap_ms settings.request_ms
      (length settings.endpoints) report.desks.items
  pub driven : settings.workers ≡ 1 → IsDrivenReport settings tick_ms turns report
  pub printed : Appends old new (report_text settings.endpoints report)
