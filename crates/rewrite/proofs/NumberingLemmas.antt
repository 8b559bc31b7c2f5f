-- From what a leg holds to the whole list of its packets.
use Rattle.std.proofs.Common.{◌≡◌, ℕ, ◌+◌, ◌-◌, ◌<◌, ◌≤◌, List, [], ◌∷◌, ◌++◌, get_or, length-append, Some, None, Result, Ok, Err, refl, sym, inl, inr, subst, ◌∙◌, arith}
use Rattle.std.specs.Prelude.{◌==◌, All, Any, find, flat_map, Option}
use Rattle.std.proofs.lemmas.Bool.{cases_lt, cases_order}
use Rattle.std.proofs.lemmas.Bool.Decides.{nat_tests}
use Rattle.std.proofs.lemmas.List.Elements.{All-weaker, All-push, All-tail, All-nil}
use Rattle.std.proofs.lemmas.List.Quantifiers.{Any-push}
use Rattle.std.proofs.lemmas.List.{get_or_append_left, append-nil, append_assoc}
use Rattle.std.proofs.lemmas.List.Folds.{find-append}
use Rattle.rewrite.specs.declared.segment.Segment.{Segment}
use Rattle.rewrite.specs.declared.segment.TheConstants.{NUMBER_LIMIT}
use Rattle.rewrite.proofs.SequenceLemmas.{extended_number-is}
use Rattle.rewrite.specs.Sequence.{extended_number}
use Rattle.rewrite.specs.declared.sequence.TheConstants.{SEQ_CYCLE}
use Rattle.rewrite.specs.declared.skip.Skip.{Skip}
use Rattle.rewrite.specs.declared.skip.Skip.TheVariants.{Old, Spent}
use Rattle.rewrite.specs.Leg.{Held, IsWithinLimit, first_segment, last_number, answer_at, answer_in, with_number, answer_to, answer_by, held_with, segment_with, history_of, held_after, LeavesOpen, IsHeldBy}
use Rattle.rewrite.specs.Numbering.{IncomingPacket, Entry, Numbered, entry_numbers, numbered_as, within_limit, IsNextNumber, extended_of, IsHighest, Begins, Continues, IsNumberAnswer, RenumbersAfter, AreApart}

-- what a numbered packet is to the segment that is open
pub record Fits (s : Segment) (p : Numbered) : Type 0 where
  turn : p.turn ≤ s.turn
  number : p.number ≤ last_number s
  own : p.turn ≡ s.turn → s.start ≤ p.number
  lesser : p.turn < s.turn → p.number < s.start

-- the segment holds what its packets say
pub record Holds (s : Segment) (past : List Numbered) : Type 0 where
  within : IsWithinLimit s
  base : Numbered
  is_base : find (λ p. p.turn == s.turn) past ≡ Some base
  base_turn : base.turn ≡ s.turn
  base_at : SEQ_CYCLE + base.seq ≡ s.base
  start_at : base.number ≡ s.start
  each : All (Fits s) past
  highest : Any (λ p. (p.turn ≡ s.turn) × (p.number ≡ last_number s)) past

abbrev pub HoldsFor : Option Segment → List Numbered → Type 0
HoldsFor None past = past ≡ []
HoldsFor (Some s) past = Holds s past

-- ---- lists

any_before : {X : Type 0} (P : X → Type 0) (xs : List X) (y : X) → Any P xs → Any P (xs ++ y ∷ [])
any_before P xs y (k, x, below, at, p) =
    (k, x, omega (arith, length-append xs (y ∷ [])), get_or_append_left xs (y ∷ []) x k below ∙ at, p)

any_weaker : {X : Type 0} (P Q : X → Type 0) (xs : List X) → ((x : X) → P x → Q x) → Any P xs → Any Q xs
any_weaker P Q xs more (k, x, below, at, p) = (k, x, below, at, more x p)

find_none : (past : List Numbered) (turn : ℕ) → All (λ p. p.turn < turn) past → find (λ p. p.turn == turn) past ≡ None
find_none [] turn fresh = refl
find_none (p ∷ past) turn fresh =
    let less : p.turn < turn = fresh 0 p (omega arith) in
    let rest = find_none past turn (All-tail (λ (q : Numbered). q.turn < turn) p past fresh) in
    grind (arith, nat_tests, less, rest)

-- ---- one packet

abbrev entry : ℕ → ℕ → Result ℕ Skip → Entry
entry turn seq answer = record { turn = turn; seq = seq; answer = answer }

abbrev made : ℕ → ℕ → ℕ → Numbered
made turn seq number = record { turn = turn; seq = seq; number = number }

-- what is held after an answer
abbrev after : ℕ → Option Segment → ℕ → ℕ → Result ℕ Skip → Option Segment
after first segment turn seq answer = (held_with (record { first = first; segment = segment }) turn seq answer).segment

-- an answer is that of the list, and what is held after it is what the list with it says
record Steps (first : ℕ) (segment : Option Segment) (past : List Numbered) (turn seq : ℕ) (answer : Result ℕ Skip) : Type 0 where
  answered : IsNumberAnswer first past (entry turn seq answer)
  holds : HoldsFor (after first segment turn seq answer) (past ++ numbered_as turn seq answer)
  apart : AreApart past → AreApart (past ++ numbered_as turn seq answer)

-- the numbers of the segments before this packet's are below its own
abbrev IsAbove : Numbered → Numbered → Type 0
IsAbove y p = (p.turn ≤ y.turn) × (p.turn < y.turn → p.number < y.number)

apart_push : (past : List Numbered) (y : Numbered) → All (IsAbove y) past → AreApart past → AreApart (past ++ y ∷ [])
apart_push past y above apart =
    All-push (λ p. All (λ q. p.turn < q.turn → p.number < q.number) (past ++ y ∷ [])) past y
    (λ k d below. All-push (λ q. (get_or past k d).turn < q.turn → (get_or past k d).number < q.number) past y (apart k d below) (above k d below).1)
    (All-push (λ q. y.turn < q.turn → y.number < q.number) past y
    (λ k d below less. absurd (let e = (above k d below).0 in omega arith))
    (λ less. absurd (omega arith)))

-- a packet that begins a segment
holds_opened : (past : List Numbered) (turn seq number : ℕ) → All (λ p. (p.turn < turn) × (p.number < number)) past
    → seq < SEQ_CYCLE → number < NUMBER_LIMIT → Holds (first_segment turn seq number) (past ++ made turn seq number ∷ [])
holds_opened past turn seq number fresh fits limit = record {
  within = record { cycled = omega arith; first_cycle = omega arith; risen = omega arith; limit = omega arith };
  base = made turn seq number;
  is_base =
      rw (
        find-append (λ p. p.turn == turn) past (made turn seq number ∷ []),
        find_none past turn (All-weaker (λ p. (p.turn < turn) × (p.number < number)) (λ p. p.turn < turn) (λ p f. f.0) past fresh),
      )
      (grind (arith, nat_tests));
  base_turn = refl;
  base_at = refl;
  start_at = refl;
  each = All-push (Fits (first_segment turn seq number)) past (made turn seq number)
      (All-weaker (λ p. (p.turn < turn) × (p.number < number)) (Fits (first_segment turn seq number))
      (λ p f. record { turn = omega (arith, f.0); number = omega (arith, f.1); own = λ same. absurd (omega (arith, f.0)); lesser = λ _. f.1 })
      past fresh)
      (record { turn = omega arith; number = omega arith; own = λ _. omega arith; lesser = λ less. absurd (omega arith) });
  highest = Any-push (λ p. (p.turn ≡ turn) × (p.number ≡ last_number (first_segment turn seq number))) past (made turn seq number) (refl, omega arith);
}

-- a packet of the segment that is open
holds_with : (s : Segment) (past : List Numbered) (seq number : ℕ) → Holds s past → s.start ≤ number → number < NUMBER_LIMIT
    → Holds (with_number s number) (past ++ made s.turn seq number ∷ [])
holds_with s past seq number h above limit = record {
  within = record { cycled = h.within.cycled; first_cycle = h.within.first_cycle; risen = omega (arith, h.within.risen); limit = omega (arith, h.within.limit, h.within.risen) };
  base = h.base;
  is_base = rw (find-append (λ p. p.turn == s.turn) past (made s.turn seq number ∷ []), h.is_base) refl;
  base_turn = h.base_turn;
  base_at = h.base_at;
  start_at = h.start_at;
  each = All-push (Fits (with_number s number)) past (made s.turn seq number)
      (All-weaker (Fits s) (Fits (with_number s number))
      (λ p f. record { turn = f.turn; number = omega (arith, f.number, h.within.risen); own = f.own; lesser = f.lesser })
      past h.each)
      (record { turn = omega arith; number = omega (arith, h.within.risen); own = λ _. above; lesser = λ less. absurd (omega arith) });
  highest = elim (cases_lt (last_number s) number) [
    | inl less ↦ Any-push (λ p. (p.turn ≡ s.turn) × (p.number ≡ last_number (with_number s number))) past (made s.turn seq number) (refl, omega (arith, less, h.within.risen))
    | inr most ↦ any_before (λ p. (p.turn ≡ s.turn) × (p.number ≡ last_number (with_number s number))) past (made s.turn seq number)
        (any_weaker (λ p. (p.turn ≡ s.turn) × (p.number ≡ last_number s)) (λ p. (p.turn ≡ s.turn) × (p.number ≡ last_number (with_number s number))) past
        (λ p f. (f.0, omega (arith, f.1, most, h.within.risen))) h.highest)
  ];
}

-- the answers by cases
within_is : (n : ℕ) → n < NUMBER_LIMIT → within_limit n ≡ Ok n
within_is n less = grind (arith, nat_tests)

spent_is : (n : ℕ) → NUMBER_LIMIT ≤ n → within_limit n ≡ Err Spent
spent_is n more = grind (arith, nat_tests)

answer_fresh : (first : ℕ) (s : Segment) (turn seq : ℕ) → s.turn < turn → answer_by first (Some s) turn seq ≡ within_limit (last_number s + 1)
answer_fresh first s turn seq less = grind (arith, nat_tests)

answer_late : (first : ℕ) (s : Segment) (turn seq : ℕ) → turn < s.turn → answer_by first (Some s) turn seq ≡ Err Old
answer_late first s turn seq less = grind (arith, nat_tests)

answer_same : (first : ℕ) (s : Segment) (seq : ℕ) → answer_by first (Some s) s.turn seq ≡ answer_in s seq
answer_same first s seq = grind (arith, nat_tests)

with_fresh : (s : Segment) (turn seq number : ℕ) → s.turn < turn → segment_with (Some s) turn seq number ≡ first_segment turn seq number
with_fresh s turn seq number less = grind (arith, nat_tests)

with_same : (s : Segment) (seq number : ℕ) → segment_with (Some s) s.turn seq number ≡ with_number s number
with_same s seq number = grind (arith, nat_tests)

-- one above the last number is one above all
next_number : (first : ℕ) (s : Segment) (past : List Numbered) → Holds s past → IsNextNumber first past (last_number s + 1)
next_number first s [] h = let e = h.is_base in cc
next_number first s (p ∷ past) h = (
  All-weaker (Fits s) (λ q. q.number < last_number s + 1) (λ q f. omega (arith, f.number)) (p ∷ past) h.each,
  any_weaker (λ q. (q.turn ≡ s.turn) × (q.number ≡ last_number s)) (λ q. q.number + 1 ≡ last_number s + 1) (p ∷ past)
      (λ q f. omega (arith, f.1)) h.highest,
)

fresh_of : (s : Segment) (past : List Numbered) (turn : ℕ) → Holds s past → s.turn < turn → All (λ p. p.turn < turn) past
fresh_of s past turn h less = All-weaker (Fits s) (λ p. p.turn < turn) (λ p f. omega (arith, f.turn)) past h.each

begins : (first : ℕ) (s : Segment) (past : List Numbered) (turn : ℕ) (answer : Result ℕ Skip) → Holds s past → s.turn < turn
    → answer ≡ within_limit (last_number s + 1) → Begins first past turn answer
begins first s past turn answer h less is = record {
  fresh = fresh_of s past turn h less;
  number = last_number s + 1;
  next = next_number first s past h;
  answered = is;
}

highest_of : (s : Segment) (past : List Numbered) (h : Holds s past) → IsHighest past h.base s.highest
highest_of s past h = record {
  reached = any_weaker (λ p. (p.turn ≡ s.turn) × (p.number ≡ last_number s)) (λ p. (p.turn ≡ h.base.turn) × (extended_of h.base p ≡ s.highest))
      past (λ p f. (f.0 ∙ sym h.base_turn, omega (arith, f.1, h.base_at, h.start_at, h.within.risen))) h.highest;
  greatest = All-weaker (Fits s) (λ p. p.turn ≡ h.base.turn → extended_of h.base p ≤ s.highest)
      (λ p f same. omega (arith, f.number, f.own (same ∙ h.base_turn), h.base_at, h.start_at, h.within.risen)) past h.each;
}

continues : (s : Segment) (past : List Numbered) (seq : ℕ) (answer : Result ℕ Skip) → Holds s past → seq < SEQ_CYCLE
    → answer ≡ answer_in s seq → Continues past s.turn seq answer
continues s past seq answer h fits is = record {
  latest = All-weaker (Fits s) (λ p. p.turn ≤ s.turn) (λ p f. f.turn) past h.each;
  base = h.base;
  is_base = h.is_base;
  highest = s.highest;
  is_highest = highest_of s past h;
  extended = extended_number s.highest seq;
  is_extension = extended_number-is s.highest seq (omega (arith, h.within.cycled, h.within.risen)) fits;
  answered = is ∙ rw (h.base_at, h.start_at) refl;
}

-- a packet that gets no number changes nothing
unanswered : (first : ℕ) (s : Segment) (past : List Numbered) (turn seq : ℕ) (skip : Skip) → Holds s past
    → IsNumberAnswer first past (entry turn seq (Err skip)) → Steps first (Some s) past turn seq (Err skip)
unanswered first s past turn seq skip h is = record {
  answered = is;
  holds = rw append-nil h;
  apart = λ a. rw append-nil a;
}

steps_none : (first turn seq : ℕ) → first < SEQ_CYCLE → seq < SEQ_CYCLE → Steps first None [] turn seq (Ok first)
steps_none first turn seq fits seq_fits = record {
  answered = inl (record { fresh = All-nil (λ p. p.turn < turn); number = first; next = refl; answered = sym (within_is first (omega arith)) });
  holds = holds_opened [] turn seq first (All-nil (λ p. (p.turn < turn) × (p.number < first))) seq_fits (omega arith);
  apart = λ a. apart_push [] (made turn seq first) (All-nil (IsAbove (made turn seq first))) a;
}

steps_fresh : (first : ℕ) (s : Segment) (past : List Numbered) (turn seq : ℕ) → Holds s past → seq < SEQ_CYCLE → s.turn < turn
    → Steps first (Some s) past turn seq (within_limit (last_number s + 1))
steps_fresh first s past turn seq h fits less =
    let n = last_number s + 1 in
    elim (cases_lt n NUMBER_LIMIT) [
      | inl within ↦
          subst (Steps first (Some s) past turn seq) (sym (within_is n within))
          (record {
            answered = inl (begins first s past turn (Ok n) h less (sym (within_is n within)));
            holds = subst (λ x. Holds x (past ++ made turn seq n ∷ [])) (sym (with_fresh s turn seq n less))
                (holds_opened past turn seq n
                (All-weaker (Fits s) (λ p. (p.turn < turn) × (p.number < n)) (λ p f. (omega (arith, f.turn), omega (arith, f.number))) past h.each) fits within);
            apart = apart_push past (made turn seq n)
                (All-weaker (Fits s) (IsAbove (made turn seq n)) (λ p f. (omega (arith, f.turn), λ _. omega (arith, f.number))) past h.each);
          })
      | inr beyond ↦
          subst (Steps first (Some s) past turn seq) (sym (spent_is n beyond))
          (unanswered first s past turn seq Spent h (inl (begins first s past turn (Err Spent) h less (sym (spent_is n beyond)))))
    ]

steps_late : (first : ℕ) (s : Segment) (past : List Numbered) (turn seq : ℕ) → Holds s past → turn < s.turn
    → Steps first (Some s) past turn seq (Err Old)
steps_late first s past turn seq h late =
    unanswered first s past turn seq Old h
    (inr (inr (record {
      later = any_weaker (λ p. (p.turn ≡ s.turn) × (p.number ≡ last_number s)) (λ p. turn < p.turn) past (λ p f. omega (arith, f.0)) h.highest;
      answered = refl;
    })))

old_is : (s : Segment) (extended : ℕ) → extended < s.base → answer_at s extended ≡ Err Old
old_is s extended less = grind (arith, nat_tests)

answer_from : (s : Segment) (extended : ℕ) → s.base ≤ extended → answer_at s extended ≡ within_limit (s.start + (extended - s.base))
answer_from s extended more = grind (arith, nat_tests)

steps_numbered : (first : ℕ) (s : Segment) (past : List Numbered) (seq number : ℕ) → Holds s past → seq < SEQ_CYCLE → s.start ≤ number
    → number < NUMBER_LIMIT → Ok number ≡ answer_in s seq → Steps first (Some s) past s.turn seq (Ok number)
steps_numbered first s past seq number h fits above within is = record {
  answered = inr (inl (continues s past seq (Ok number) h fits is));
  holds = subst (λ x. Holds x (past ++ made s.turn seq number ∷ [])) (sym (with_same s seq number)) (holds_with s past seq number h above within);
  apart = apart_push past (made s.turn seq number)
      (All-weaker (Fits s) (IsAbove (made s.turn seq number)) (λ p f. (f.turn, λ less. let e = f.lesser less in omega arith)) past h.each);
}

steps_same : (first : ℕ) (s : Segment) (past : List Numbered) (seq : ℕ) → Holds s past → seq < SEQ_CYCLE
    → Steps first (Some s) past s.turn seq (answer_in s seq)
steps_same first s past seq h fits =
    let extended = extended_number s.highest seq in
    let n = s.start + (extended - s.base) in
    let refuses = λ (skip : Skip) (is : answer_in s seq ≡ Err skip). subst (Steps first (Some s) past s.turn seq) (sym is)
    (unanswered first s past s.turn seq skip h (inr (inl (continues s past seq (Err skip) h fits (sym is))))) in
    elim (cases_lt extended s.base) [
      | inl less ↦ refuses Old (old_is s extended less)
      | inr more ↦ elim (cases_lt n NUMBER_LIMIT) [
        | inl within ↦
            let is = answer_from s extended more ∙ within_is n within in
            subst (Steps first (Some s) past s.turn seq) (sym is) (steps_numbered first s past seq n h fits (omega arith) within (sym is))
        | inr beyond ↦ refuses Spent (answer_from s extended more ∙ spent_is n beyond)
      ]
    ]

steps_some : (first : ℕ) (s : Segment) (past : List Numbered) (turn seq : ℕ) → Holds s past → seq < SEQ_CYCLE
    → Steps first (Some s) past turn seq (answer_by first (Some s) turn seq)
steps_some first s past turn seq h fits = elim (cases_order turn s.turn) [
  | inl same ↦ subst (λ t. Steps first (Some s) past t seq (answer_by first (Some s) t seq)) (sym same)
      (subst (Steps first (Some s) past s.turn seq) (sym (answer_same first s seq)) (steps_same first s past seq h fits))
  | inr other ↦ elim other [
    | inl late ↦ subst (Steps first (Some s) past turn seq) (sym (answer_late first s turn seq late)) (steps_late first s past turn seq h late)
    | inr less ↦ subst (Steps first (Some s) past turn seq) (sym (answer_fresh first s turn seq less)) (steps_fresh first s past turn seq h fits less)
  ]
]

steps : (first : ℕ) (segment : Option Segment) (past : List Numbered) (turn seq : ℕ) → HoldsFor segment past → first < SEQ_CYCLE → seq < SEQ_CYCLE
    → Steps first segment past turn seq (answer_by first segment turn seq)
steps first None past turn seq h fits seq_fits = subst (λ q. Steps first None q turn seq (Ok first)) (sym h) (steps_none first turn seq fits seq_fits)
steps first (Some s) past turn seq h fits seq_fits = steps_some first s past turn seq h seq_fits

-- ---- a whole list

same_first : (held : Held) (turn seq : ℕ) (answer : Result ℕ Skip) → (held_with held turn seq answer).first ≡ held.first
same_first held turn seq (Ok number) = refl
same_first held turn seq (Err skip) = refl

pub renumbers_after : (first : ℕ) (held : Held) (past : List Numbered) (packets : List IncomingPacket) → held.first ≡ first → first < SEQ_CYCLE
    → All (λ p. p.seq < SEQ_CYCLE) packets → HoldsFor held.segment past → RenumbersAfter first past (history_of held packets)
renumbers_after first held past [] same fits seqs h = tt
renumbers_after first held past (p ∷ packets) same fits seqs h =
    let answer = answer_to held p.turn p.seq in
    let seq_fits : p.seq < SEQ_CYCLE = seqs 0 p (omega arith) in
    let step = steps held.first held.segment past p.turn p.seq h (omega arith) seq_fits in
    let turned : IsNumberAnswer first past (entry p.turn p.seq answer) = subst (λ f. IsNumberAnswer f past (entry p.turn p.seq answer)) same step.answered in (
      turned,
      renumbers_after first (held_with held p.turn p.seq answer) (past ++ numbered_as p.turn p.seq answer) packets
          (same_first held p.turn p.seq answer ∙ same) fits (All-tail (λ (q : IncomingPacket). q.seq < SEQ_CYCLE) p packets seqs) step.holds,
    )

pub apart_after : (held : Held) (past : List Numbered) (packets : List IncomingPacket) → held.first < SEQ_CYCLE
    → All (λ p. p.seq < SEQ_CYCLE) packets → HoldsFor held.segment past → AreApart past
    → AreApart (past ++ flat_map entry_numbers (history_of held packets))
apart_after held past [] fits seqs h apart = rw append-nil apart
apart_after held past (p ∷ packets) fits seqs h apart =
    let answer = answer_to held p.turn p.seq in
    let seq_fits : p.seq < SEQ_CYCLE = seqs 0 p (omega arith) in
    let step = steps held.first held.segment past p.turn p.seq h fits seq_fits in
    let first_fits : (held_with held p.turn p.seq answer).first < SEQ_CYCLE = rw (same_first held p.turn p.seq answer) fits in
    let rest = apart_after (held_with held p.turn p.seq answer) (past ++ numbered_as p.turn p.seq answer) packets
    first_fits (All-tail (λ (q : IncomingPacket). q.seq < SEQ_CYCLE) p packets seqs) step.holds (step.apart apart) in
    rw append_assoc at rest

-- ---- what is held

leaves_open : (segment : Option Segment) (past : List Numbered) → HoldsFor segment past → LeavesOpen past segment
leaves_open None past h = h
leaves_open (Some s) past h = record {
  latest = All-weaker (Fits s) (λ p. p.turn ≤ s.turn) (λ p f. f.turn) past h.each;
  first = h.base;
  is_base = h.is_base;
  base = sym h.base_at;
  start = sym h.start_at;
  is_highest = highest_of s past h;
}

pub held_after-is : (first : ℕ) (held : Held) (past : List Numbered) (packets : List IncomingPacket) → held.first ≡ first → first < SEQ_CYCLE
    → All (λ p. p.seq < SEQ_CYCLE) packets → HoldsFor held.segment past
    → IsHeldBy first (past ++ flat_map entry_numbers (history_of held packets)) (held_after held packets)
held_after-is first held past [] same fits seqs h =
    rw append-nil (record { same_first = same; open_segment = leaves_open held.segment past h })
held_after-is first held past (p ∷ packets) same fits seqs h =
    let answer = answer_to held p.turn p.seq in
    let seq_fits : p.seq < SEQ_CYCLE = seqs 0 p (omega arith) in
    let step = steps held.first held.segment past p.turn p.seq h (omega arith) seq_fits in
    let rest = held_after-is first (held_with held p.turn p.seq answer) (past ++ numbered_as p.turn p.seq answer) packets
    (same_first held p.turn p.seq answer ∙ same) fits (All-tail (λ (q : IncomingPacket). q.seq < SEQ_CYCLE) p packets seqs) step.holds in
    rw append_assoc at rest
