-- Requests and entries that have the same numbers.
use Rattle.std.proofs.Common.{◌≡◌, ℕ, ◌/◌, ◌%◌, ◌^◌, ap, sym, ◌∙◌, arith}
use denote.Struct.Record.{values_one}
use Rattle.tmmbr_tuple.specs.declared.tuple.Tuple.{Tuple}
use Rattle.tmmbr_tuple.specs.declared.pair.Pair.{Pair}
use Rattle.tmmbr_tuple.specs.contracts.pair.Pair.{struct, the_propositions}
use Rattle.tmmbr_tuple.proofs.TupleLemmas.{same_tuple}
use Rattle.rate_cert.specs.declared.request.Request.{Request}
use Rattle.rate_cert.specs.declared.certificate.Kept.{Kept}
use Rattle.tmmbr_c.specs.declared.numbers.TmmbrRequest.{TmmbrRequest}
use Rattle.tmmbr_c.specs.declared.numbers.TmmbrKept.{TmmbrKept}
use Rattle.tmmbr_c.specs.Numbers.{asked_request, kept_entry, joined}

-- pairs with the same three numbers are one
pub same_pair : (s t : Pair) → s.packets ≡ t.packets → s.bits ≡ t.bits → s.seconds ≡ t.seconds → s ≡ t
same_pair s t p b d = values_one struct the_propositions s t (λ i. (p i, (b i, (d i, tt))))

-- a tuple of numbers in range is that of the request
pub asked_request-in_range : (c : TmmbrRequest) (t : Tuple) → t.exp ≡ c.exponent → t.mantissa ≡ c.mantissa → t.overhead ≡ c.overhead
    → let r : Request = record { owner = record { 0 = c.ssrc }; tuple = t } in r ≡ asked_request c
asked_request-in_range c t e m o =
    let same : t ≡ (asked_request c).tuple =
    same_tuple t (asked_request c).tuple
    (omega (arith, t.exp_in_range)) (omega (arith, t.mantissa_in_range)) (omega (arith, t.overhead_in_range)) in
    ap (λ (u : Tuple). let r : Request = record { owner = record { 0 = c.ssrc }; tuple = u } in r) same

-- so is an entry
pub kept_entry-in_range : (c : TmmbrKept) (place : ℕ) (pair : Pair) → place ≡ c.place → pair.packets ≡ joined c.packets_high c.packets_low
    → pair.bits ≡ joined c.bits_high c.bits_low → pair.seconds ≡ c.seconds
    → let k : Kept = record { place = place; pair = pair } in k ≡ kept_entry c
kept_entry-in_range c place pair at p b d =
    let same : pair ≡ (kept_entry c).pair =
    same_pair pair (kept_entry c).pair
    (omega (arith, pair.packets_in_range)) (omega (arith, pair.bits_in_range)) (omega (arith, pair.some_time, pair.seconds_in_range)) in
    λ i. record { place = at i; pair = same i }

-- a number is that of its halves
joined-halves : (n : ℕ) → joined (n / 2 ^ 64) (n % 2 ^ 64) ≡ n
joined-halves n = omega arith

-- an entry whose numbers are written
pub kept_entry-written : (c : TmmbrKept) (place : ℕ) (pair : Pair) → c.place ≡ place → c.packets_high ≡ pair.packets / 2 ^ 64
    → c.packets_low ≡ pair.packets % 2 ^ 64 → c.bits_high ≡ pair.bits / 2 ^ 64 → c.bits_low ≡ pair.bits % 2 ^ 64 → c.seconds ≡ pair.seconds
    → let k : Kept = record { place = place; pair = pair } in kept_entry c ≡ k
kept_entry-written c place pair at ph pl bh bl d =
    sym (kept_entry-in_range c place pair (sym at)
    (sym (ap (λ high. joined high c.packets_low) ph ∙ ap (joined (pair.packets / 2 ^ 64)) pl ∙ joined-halves pair.packets))
    (sym (ap (λ high. joined high c.bits_low) bh ∙ ap (joined (pair.bits / 2 ^ 64)) bl ∙ joined-halves pair.bits))
    (sym d))
