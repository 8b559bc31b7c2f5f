-- The settings that tests and benchmarks begin with.
use Rattle.std.specs.Prelude.{◌≡◌, [], None, Some, pos, codes}
use Rattle.settings.specs.declared.parts.Parts.{Parts}
use Rattle.settings.specs.Settings.{name_of}

-- the first example's settings, before any endpoint and any leg: two workers, rings of eight packets, and the name "sfu"
pub record AreExamples (p : Parts) : Type 0 where
  pub workers : p.workers ≡ Some (pos 2)
  pub ring : p.ring ≡ Some (pos 8)
  pub history : p.history ≡ Some (pos 128)
  pub timeout : p.timeout_ms ≡ Some (pos 1000)
  pub report : p.report_ms ≡ Some (pos 60000)
  pub request : p.request_ms ≡ None
  pub gap : p.pli_gap_ms ≡ Some (pos 500)
  pub unit : p.unit_ssrc ≡ Some (pos 9)
  pub cname : name_of p.cname ≡ codes "sfu"
  pub endpoints : p.endpoints.items ≡ []
  pub legs : p.legs.items ≡ []
