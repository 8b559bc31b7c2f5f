-- What is left of what feedback asks for: in the entries of NACKs those numbers that are let through; all else as it was asked for
-- (RFC 4585, section 6.2.1).
use Rattle.std.specs.Prelude.{◌≡◌, ◌==◌, ℕ, ◌+◌, ◌-◌, ◌%◌, ◌^◌, ◌≤◌, nat_lt, ◌||◌, bit_or, List, [], ◌∷◌, ◌++◌, Option, None, Some, option_to_list, slice_get, slice_set, unwrap_or, if◌then◌else◌}
use Rattle.std.specs.List.{list_any}
use Rattle.std.specs.Option.{option_map}
use Rattle.datagram.specs.declared.reading.Ask.{Ask}
use Rattle.datagram.specs.declared.reading.Ask.TheVariants.{Rate, Resend, Picture}
use Rattle.datagram.specs.declared.reading.Sent.{Sent}
use Rattle.rewrite.specs.declared.sequence.TheConstants.{SEQ_CYCLE}
use Rattle.rtcp_feedback.specs.Nack.{is_set, lost_numbers}
use Rattle.rtcp_feedback.specs.declared.nack.Nack.{Nack}
use Rattle.settings.specs.Links.{LinkTable, leg_to}
use Rattle.settings.specs.declared.settings.LegSettings.{LegSettings}
use Rattle.policy.specs.LegResends.{Book, book_after, gap_by, most_at, numbers_passed}
use Rattle.policy.specs.declared.leg_resends.Allowance.{Allowance}
use Rattle.policy.specs.declared.leg_resends.Flow.{Flow}
use Rattle.policy.specs.declared.leg_resends.ResendBounds.{ResendBounds}
use Rattle.policy.specs.declared.resend_limiter.LookedUp.{LookedUp}

-- ---- an entry

-- how far a number stands after another one, across the wrap
abbrev pub behind_by : ℕ → ℕ → ℕ
behind_by pid seq = (seq + (SEQ_CYCLE - pid)) % SEQ_CYCLE

-- the bit of BLP for a number: the first, of the value 1, is for the number after PID; there are 16 of them
abbrev pub bit_behind : ℕ → ℕ → ℕ
bit_behind pid seq =
    if (behind_by pid seq == 0) || nat_lt 16 (behind_by pid seq) then 0
    else 2 ^ (behind_by pid seq - 1)

-- the entry that names this number, too
abbrev pub joined : Option Nack → ℕ → Nack
joined None seq = record { pid = seq; blp = 0 }
joined (Some n) seq = record { pid = n.pid; blp = bit_or n.blp (bit_behind n.pid seq) }

abbrev pub entry_from : Option Nack → List ℕ → Option Nack
entry_from part [] = part
entry_from part (seq ∷ seqs) = entry_from (Some (joined part seq)) seqs

-- the entry that names these numbers, of which the first is PID; none if there is none (RFC 4585, section 6.2.1)
abbrev pub entry_of : List ℕ → Option Nack
entry_of seqs = entry_from None seqs

-- PID is this number, and the bit of each number after it is set exactly if that is among the others (RFC 4585, section 6.2.1)
pub record NamesJust (seq : ℕ) (seqs : List ℕ) : Type 0 where
  pub blp : ℕ
  pub entry : entry_of (seq ∷ seqs) ≡ Some (record { pid = seq; blp = blp })
  pub each : (i : ℕ) → 1 ≤ i → i ≤ 16
      → is_set blp i ≡ list_any (λ other. behind_by seq other == i) seqs

-- ---- who asks, of which leg, and what may be let through there

-- who is sent what; how resends are bounded; what came of each endpoint; and the round trip on each leg, in milliseconds, if it is known
pub record Terms : Type 0 where
  pub table : LinkTable
  pub bounds : ResendBounds
  pub flows : List Flow
  pub trips : List (Option ℕ)

abbrev pub most_by : Terms → ℕ → Option Flow → ℕ
most_by t moment None = 0
most_by t moment (Some flow) = most_at t.bounds.share flow moment

abbrev pub most_on : Terms → ℕ → Option LegSettings → ℕ
most_on t moment None = 0
most_on t moment (Some leg) = most_by t moment (slice_get t.flows leg.publisher)

abbrev pub trip_on : Terms → ℕ → Option ℕ
trip_on t leg = unwrap_or (slice_get t.trips leg) None

-- what may be let through on this leg at this moment: its gap, and how many in a second (RFC 4585, section 6.2.1)
abbrev pub allowance_on : Terms → ℕ → ℕ → Allowance
allowance_on t moment leg = record {
  leg = leg;
  moment = moment;
  gap_ms = gap_by t.bounds.gap_ms (trip_on t leg);
  most = most_on t moment (slice_get t.table.legs leg);
}

-- what may be let through on the leg on which who asks is sent this source, if there is one
abbrev pub allowance_to : Terms → Sent → ℕ → Option Allowance
allowance_to t sent source =
    option_map (allowance_on t sent.moment) (leg_to t.table sent.endpoint source)

-- what was looked up last is so
abbrev pub IsLookedUp : Terms → Sent → Option LookedUp → Type 0
IsLookedUp t sent None = Unit {0}
IsLookedUp t sent (Some last) = last.allowance ≡ allowance_to t sent last.media.0

-- ---- one ask

-- what is left of an entry, by what is noted of its leg
abbrev pub entry_left : Option Book → Allowance → Nack → Option Nack
entry_left None a entry = Some entry
entry_left (Some b) a entry = entry_of (numbers_passed b a (lost_numbers entry))

abbrev pub book_noted_on : List Book → ℕ → Allowance → Nack → Option Book → List Book
book_noted_on books leg a entry None = books
book_noted_on books leg a entry (Some b) = slice_set books leg (book_after b a (lost_numbers entry))

-- if there is no leg, nothing is bounded
abbrev pub entry_on : List Book → Nack → Option Allowance → Option Nack
entry_on books entry None = Some entry
entry_on books entry (Some a) = entry_left (slice_get books a.leg) a entry

abbrev pub books_on : List Book → Nack → Option Allowance → List Book
books_on books entry None = books
books_on books entry (Some a) = book_noted_on books a.leg a entry (slice_get books a.leg)

-- What is left of an ask: of a NACK's entry for a leg to who sent it what the leg's book lets through, or nothing; of any other
-- all (RFC 4585, section 6.2.1).
abbrev pub ask_left : Terms → Sent → List Book → Ask → Option Ask
ask_left t sent books (Rate media word) = Some (Rate media word)
ask_left t sent books (Resend media entry) =
    option_map (Resend media) (entry_on books entry (allowance_to t sent media.0))
ask_left t sent books (Picture media) = Some (Picture media)

abbrev pub books_with : Terms → Sent → List Book → Ask → List Book
books_with t sent books (Rate media word) = books
books_with t sent books (Resend media entry) =
    books_on books entry (allowance_to t sent media.0)
books_with t sent books (Picture media) = books

-- ---- asks, one after the other: each by what is noted after those before it

-- what is left of all that is asked for (RFC 4585, section 6.2.1)
abbrev pub asks_left : Terms → Sent → List Book → List Ask → List Ask
asks_left t sent books [] = []
asks_left t sent books (ask ∷ asks) =
    option_to_list (ask_left t sent books ask)
    ++ asks_left t sent (books_with t sent books ask) asks

-- what is noted of each leg then
abbrev pub books_after : Terms → Sent → List Book → List Ask → List Book
books_after t sent books [] = books
books_after t sent books (ask ∷ asks) = books_after t sent (books_with t sent books ask) asks
