-- What is known of the resends on all legs, and what of what is asked for is let through by that.
use Rattle.std.specs.Prelude.{◌≡◌, ◌==◌, ℕ, List, Option, None, Some, length, replicate, slice_get, slice_set, if◌then◌else◌}
use Rattle.datagram.specs.declared.reading.Ask.{Ask}
use Rattle.datagram.specs.declared.reading.Sent.{Sent}
use Rattle.settings.specs.Links.{LinkTable, table_of}
use Rattle.settings.specs.Settings.{Configuration}
use Rattle.policy.specs.Nacks.{Terms, asks_left, books_after}
use Rattle.policy.specs.LegResends.{Book, flow_with}
use Rattle.policy.specs.declared.resend_limiter.LegLookup.{LegLookup}
use Rattle.policy.specs.declared.leg_resends.Flow.{Flow}
use Rattle.policy.specs.declared.leg_resends.ResendBounds.{ResendBounds}
use Rattle.policy.specs.declared.leg_resends.TheConstants.{REMEMBERED}

-- who is sent what, how resends are bounded, what came of each endpoint, and what was let through on each leg
pub record ResendState : Type 0 where
  pub table : LinkTable
  pub bounds : ResendBounds
  pub flows : List Flow
  pub books : List Book

-- nothing came
abbrev pub idle_flow : Flow
idle_flow = record { second = 0; packets = 0; before = 0 }

-- nothing was let through; so many numbers will be remembered
abbrev pub empty_book : ℕ → Book
empty_book remembered = record { last = replicate remembered None; second = 0; count = 0; held = 0 }

-- if no gap is wanted no number is
abbrev pub remembered_by : ResendBounds → ℕ
remembered_by bounds = if bounds.gap_ms == 0 then 0 else REMEMBERED

-- nothing came and nothing was let through in a unit of these settings
abbrev pub idle_resends : Configuration → ResendBounds → ResendState
idle_resends c bounds = record {
  table = table_of c;
  bounds = bounds;
  flows = replicate (length c.endpoints) idle_flow;
  books = replicate (length c.legs) (empty_book (remembered_by bounds));
}

abbrev pub flow_noted : List Flow → ℕ → ℕ → Option Flow → List Flow
flow_noted flows endpoint moment None = flows
flow_noted flows endpoint moment (Some f) = slice_set flows endpoint (flow_with f moment)

-- once a packet more came of this endpoint
abbrev pub flows_with : List Flow → ℕ → ℕ → List Flow
flows_with flows endpoint moment =
    flow_noted flows endpoint moment (slice_get flows endpoint)

-- what is known of resends once a packet of this endpoint came
abbrev pub counted_by : ResendState → ℕ → ℕ → ResendState
counted_by r endpoint moment = record {
  table = r.table;
  bounds = r.bounds;
  flows = flows_with r.flows endpoint moment;
  books = r.books;
}

-- Once this endpoint comes anew: nothing came of it. What was let through on the legs to it stays, as their packets do.
abbrev pub resends_without : ResendState → ℕ → ResendState
resends_without r endpoint = record {
  table = r.table;
  bounds = r.bounds;
  flows = slice_set r.flows endpoint idle_flow;
  books = r.books;
}

abbrev pub terms_of : LegLookup → Terms
terms_of k =
    record { table = k.links.now; bounds = k.bounds; flows = k.flows.now; trips = k.trips.now }

-- what resends are let through by, if these round trips are known
abbrev pub terms_with : ResendState → List (Option ℕ) → Terms
terms_with r trips =
    record { table = r.table; bounds = r.bounds; flows = r.flows; trips = trips }

abbrev pub state_after : ResendState → List (Option ℕ) → Sent → List Ask → ResendState
state_after r trips sent asks = record {
  table = r.table;
  bounds = r.bounds;
  flows = r.flows;
  books = books_after (terms_with r trips) sent r.books asks;
}

-- Of what is asked for that is left which the books of the legs let through, by some round
-- trips (RFC 4585, section 6.2.1).
pub record AdmitsResends (sent : Sent) (before after : ResendState) (asks left : List Ask) : Type 0 where
  pub trips : List (Option ℕ)
  pub is_left : left ≡ asks_left (terms_with before trips) sent before.books asks
  pub noted : after ≡ state_after before trips sent asks
