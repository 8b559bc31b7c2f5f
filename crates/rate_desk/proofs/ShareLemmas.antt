-- How large the counts of a house may be, and what a recorded call adds to them.
use Rattle.std.proofs.Common.{◌≡◌, ℕ, ◌+◌, ◌-◌, ◌*◌, ◌^◌, ◌<◌, ◌≤◌, List, [], ◌∷◌, length, sym, ap, ◌∙◌, arith, lit<, length-append}
use Rattle.std.specs.Prelude.{min}
use Rattle.std.proofs.lemmas.List.Sums.{sum_by-cons}
use Rattle.tmmbr_tuple.specs.declared.tuple.Tuple.{Tuple}
use Rattle.tmmbr_tuple.specs.Tuple.{word_of}
use Rattle.desk.specs.declared.base.Base.{Base}
use Rattle.desk.specs.declared.base.TheConstants.{CALL_LIMIT}
use Rattle.desk.specs.declared.call.Answer.{Answer}
use Rattle.desk.specs.declared.call.Call.{Call}
use Rattle.desk.specs.declared.call.Call.TheVariants.{Stay, Time}
use Rattle.desk.specs.declared.call.Change.TheVariants.{Arrive, Request as Ask, Depart}
use Rattle.desk.specs.declared.call.Entry.{Entry}
use Rattle.desk.specs.Call.{requested_word}
use Rattle.desk.specs.Trace.{words_of}
use Rattle.desk.specs.State.{DeskState, HoldsLegalDesk, Records, call_count}
use Rattle.desk.proofs.TraceLemmas.{calls-after}

word_of-small : (t : Tuple) → word_of t ≤ 2 ^ 32
word_of-small t = omega (arith, t.exp_in_range, t.mantissa_in_range, t.overhead_in_range)

word-small : (c : Call) → requested_word c ≤ 2 ^ 32
word-small (Stay owner stay Arrive) = omega arith
word-small (Stay owner stay (Ask tuple)) = word_of-small tuple
word-small (Stay owner stay Depart) = omega arith
word-small (Time moment signal) = omega arith

-- the words of so many calls add up to no more than this
words_within : (es : List Entry) → words_of es ≤ length es * 2 ^ 32
words_within [] = omega arith
words_within (e ∷ es) = omega (arith, sum_by-cons (λ (x : Entry). requested_word x.call) e es, word-small e.call, words_within es)

-- a desk that recorded a call has one call more
pub one_more : (former : DeskState) (call : Call) (number : ℕ) (answer : Answer) (desk : DeskState)
    → Records former call number answer desk → call_count desk ≡ call_count former + 1
one_more former call number answer desk r =
    let e : Entry = record { call = call; answer = answer } in
    omega (
      arith,
      ap (λ (b : Base). b.calls) r.stands.stands,
      calls-after former.request_ms former.base r.stands.folded,
      ap (λ (es : List Entry). length es) r.stands.in_turn,
      length-append former.history (e ∷ []),
      length-append r.stands.folded desk.history,
    )

-- a legal desk has fewer calls, and fewer words, than a count can show
pub few_calls : (d : DeskState) → HoldsLegalDesk d → call_count d < 2 ^ 64 - 1
few_calls d legal = let low : CALL_LIMIT < 2 ^ 64 - 1 = lit< tt in omega (arith, legal.within, low)

pub few_words : (d : DeskState) → HoldsLegalDesk d → d.base.words + words_of d.history < 2 ^ 128 - 1
few_words d legal =
    let low : CALL_LIMIT * 2 ^ 32 < 2 ^ 128 - 1 = lit< tt in
    omega (arith, legal.within, legal.base.words, words_within d.history, low)

-- a sum that is cut off above a number is this number exactly if the whole sum is
uncut : (sum most n : ℕ) → n < most → min sum most ≡ n → sum ≡ n
uncut sum most n low is = omega arith

cut : (sum most n : ℕ) → n < most → sum ≡ n → min sum most ≡ n
cut sum most n low is = omega arith

pub shown_sum : (shown sum most n : ℕ) → n < most → shown ≡ min sum most → shown ≡ n → sum ≡ n
shown_sum shown sum most n low cut_off is = uncut sum most n low (sym cut_off ∙ is)

pub sum_shown : (shown sum most n : ℕ) → n < most → shown ≡ min sum most → sum ≡ n → shown ≡ n
sum_shown shown sum most n low cut_off is = cut_off ∙ cut sum most n low is
