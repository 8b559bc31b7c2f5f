-- What a unit would be by its settings.
use Rattle.std.specs.Prelude.{ℕ, zero, suc, ◌+◌, ◌*◌, ◌==◌, List, ◌++◌, length, codes, decimal, if◌then◌else◌}
use Rattle.std.specs.List.{list_any}
use Rattle.settings.specs.Settings.{Configuration}
use Rattle.settings.specs.declared.settings.LegSettings.{LegSettings}
use Rattle.cli.specs.declared.plan.Plan.{Plan}
use Rattle.cli.specs.declared.plan.TheConstants.{ENDPOINT_BYTES, LEG_PACKET_BYTES, PACKET_BYTES, UNIT_BYTES}

-- how many of so many endpoints some leg forwards
abbrev pub count_publishers : List LegSettings → ℕ → ℕ
count_publishers legs zero = 0
count_publishers legs (suc k) =
    if list_any (λ leg. leg.publisher == k) legs then count_publishers legs k + 1
    else count_publishers legs k

abbrev pub plan_of : Configuration → Plan
plan_of c = record {
  endpoints = length c.endpoints;
  publishers = count_publishers c.legs (length c.endpoints);
  legs = length c.legs;
  ring = c.ring;
}

-- The bytes of memory: those of the unit itself, of each endpoint, of the packets kept of each publisher, and of those of each leg.
abbrev pub memory_of : Plan → ℕ
memory_of p =
    UNIT_BYTES + p.endpoints * ENDPOINT_BYTES + p.publishers * p.ring * PACKET_BYTES
    + p.legs * p.ring * LEG_PACKET_BYTES

abbrev pub plan_text : Plan → List ℕ
plan_text p =
    codes "endpoints " ++ (decimal p.endpoints
    ++ (codes "\nlegs " ++ (decimal p.legs
    ++ (codes "\nmemory " ++ (decimal (memory_of p) ++ codes "\n")))))
