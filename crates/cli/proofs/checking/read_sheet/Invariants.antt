use Rattle.std.proofs.Common.{◌≡◌, ◌+◌, ℕ, List, Result, drop, map}
use Rattle.request_text.specs.declared.entry.Entry.{Entry}
use Rattle.request_text.specs.CheckFile.{FileSpells, LinesSpell}
use Rattle.cli.specs.Sheet.{IsSheetOf}
use Rattle.cli.proofs.checking.read_sheet.Given as goal

abbrev pub invariant-loop-line : goal.invariant-loop-line
invariant-loop-line l = record {
  counted : l.number ≡ l.line-index;
  left : (now : List Entry) × IsSheetOf now l.sheet.requests.items l.sheet.kept.items l.sheet.claims.items
      × ((left : Result (List Entry) ℕ) → LinesSpell (l.line-index + 1) (drop l.line-index (map (λ x. x.now) l.line-items)) now left → FileSpells l.text left);
}
