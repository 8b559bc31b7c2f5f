-- From what a reception holds to the whole list of its calls.
use Rattle.std.proofs.Common.{◌≡◌, ℕ, ◌+◌, ◌-◌, ◌<◌, ◌≤◌, max, cond, true, false, List, [], ◌∷◌, ◌++◌, length, take, drop, map, fold, zero, suc, Bool, Some, None, Option, refl, sym, ap, subst, inl, inr, ◌∙◌, arith}
use Rattle.std.specs.Prelude.{All, Contains, filter_map, option_map, slice_get, not}
use Rattle.std.specs.List.{before_last, suffix_len, prefix_len, cons_option}
use Rattle.std.proofs.lemmas.Bool.{cases_lt}
use Rattle.std.proofs.lemmas.Bool.Decides.{nat_tests}
use Rattle.std.proofs.lemmas.List.{append-nil, append_assoc, length_push, take_all, take-append-le, take-append-drop, map-append, reverse-append, length-take, length-take-le}
use Rattle.std.proofs.lemmas.List.Elements.{filter_map-append, All-push, All-tail, All-head, All-nil, All-cons, All-weaker, Contains-push, Contains-append_left}
use Rattle.std.proofs.lemmas.List.Sums.{fold_push}
use Rattle.tmmbr_tuple.specs.declared.ssrc.Ssrc.{Ssrc}
use Rattle.members.specs.declared.reception.SenderReport.{SenderReport}
use Rattle.members.specs.declared.stream.Stream.{Stream}
use Rattle.members.specs.declared.stream.TheConstants.{COUNTED_PACKETS}
use Rattle.rewrite.proofs.SequenceLemmas.{extended_number-is}
use Rattle.rewrite.specs.Sequence.{extended_number}
use Rattle.rewrite.specs.declared.sequence.TheConstants.{SEQ_CYCLE}
use Rattle.members.specs.Reception.{Block, Arrival, ReceptionCall, Received, SenderReported, BlockMade, packet_in, report_in, is_block, counted_packets, last_report, first_number, greatest_number, expected_of, transit_of, apart, differences, jitter_after, jitter_of, last_of, Heard, stream_of, packets_before_block, reception_of, AnswersBlock, IsBlockAfter, IsGreatest, AllStandFor, IsHighest}
use Rattle.members.specs.Stream.{counted_with, with_packet, stream_with, stream_after_block, heard_call, heard_after, IsBlockAnswer, IsAnswerBy}

-- ---- lists

slice_get_last : {X : Type 0} (xs : List X) (x : X) → slice_get (xs ++ x ∷ []) (length xs) ≡ Some x
slice_get_last [] x = refl
slice_get_last (y ∷ xs) x = slice_get_last xs x

get_last : {X : Type 0} (xs : List X) (x : X) → slice_get (xs ++ x ∷ []) (length (xs ++ x ∷ []) - 1) ≡ Some x
get_last xs x =
    let n : length (xs ++ x ∷ []) - 1 ≡ length xs = omega (arith, length_push xs x) in
    ap (slice_get (xs ++ x ∷ [])) n ∙ slice_get_last xs x

suffix_len-push : {X : Type 0} (p : X → Bool) (xs : List X) (x : X) → suffix_len p (xs ++ x ∷ []) ≡ cond (p x) (1 + suffix_len p xs) 0
suffix_len-push p xs x = ap (prefix_len p) (reverse-append xs (x ∷ []))

-- before a last element that passes stands all that came before it
before_last-yes : {X : Type 0} (p : X → Bool) (xs : List X) (x : X) → p x ≡ true → before_last p (xs ++ x ∷ []) ≡ xs
before_last-yes {X} p xs x e =
    let q : X → Bool = λ y. not (p y) in
    let s : suffix_len q (xs ++ x ∷ []) ≡ 0 = suffix_len-push q xs x ∙ ap (λ b. cond (not b) (1 + suffix_len q xs) 0) e in
    let n : length (xs ++ x ∷ []) - suffix_len q (xs ++ x ∷ []) - 1 ≡ length xs = omega (arith, length_push xs x) in
    ap (λ k. take k (xs ++ x ∷ [])) n ∙ (take-append-le (length xs) xs (x ∷ []) (omega arith) ∙ take_all (length xs) xs (omega arith))

before_last-no : {X : Type 0} (p : X → Bool) (xs : List X) (x : X) → p x ≡ false → before_last p (xs ++ x ∷ []) ≡ before_last p xs
before_last-no {X} p xs x e =
    let q : X → Bool = λ y. not (p y) in
    let s : suffix_len q (xs ++ x ∷ []) ≡ 1 + suffix_len q xs = suffix_len-push q xs x ∙ ap (λ b. cond (not b) (1 + suffix_len q xs) 0) e in
    let n : length (xs ++ x ∷ []) - suffix_len q (xs ++ x ∷ []) - 1 ≡ length xs - suffix_len q xs - 1 = omega (arith, length_push xs x) in
    ap (λ k. take k (xs ++ x ∷ [])) n ∙ take-append-le (length xs - suffix_len q xs - 1) xs (x ∷ []) (omega arith)

filter_map-none : {X Y : Type 0} (h : X → Option Y) (xs : List X) (x : X) → h x ≡ None → filter_map h (xs ++ x ∷ []) ≡ filter_map h xs
filter_map-none h xs x e =
    filter_map-append h xs (x ∷ []) ∙ (ap (λ o. filter_map h xs ++ cons_option o []) e ∙ append-nil (filter_map h xs))

filter_map-some : {X Y : Type 0} (h : X → Option Y) (xs : List X) (x : X) (y : Y) → h x ≡ Some y → filter_map h (xs ++ x ∷ []) ≡ filter_map h xs ++ y ∷ []
filter_map-some h xs x y e = filter_map-append h xs (x ∷ []) ∙ ap (λ o. filter_map h xs ++ cons_option o []) e

take-push : {X : Type 0} (n : ℕ) (xs : List X) (x : X) → length xs < n → take n (xs ++ x ∷ []) ≡ take n xs ++ x ∷ []
take-push n xs x below =
    take_all n (xs ++ x ∷ []) (omega (arith, length_push xs x)) ∙ ap (λ ys. ys ++ x ∷ []) (sym (take_all n xs (omega arith)))

-- the empty list has no parts
left_empty : {X : Type 0} (xs ys : List X) → xs ++ ys ≡ [] → xs ≡ []
left_empty [] ys e = refl
left_empty (x ∷ xs) ys e = cc

empty_from_take : {X : Type 0} (n : ℕ) (xs : List X) → 0 < n → take n xs ≡ [] → xs ≡ []
empty_from_take n [] more e = refl
empty_from_take zero (x ∷ xs) more e = absurd (omega arith)
empty_from_take (suc n) (x ∷ xs) more e = cc

filter_map-empty : {X Y : Type 0} (h : X → Option Y) (n : ℕ) (xs : List X) → filter_map h xs ≡ [] → filter_map h (take n xs) ≡ []
filter_map-empty h n xs e =
    left_empty (filter_map h (take n xs)) (filter_map h (drop n xs))
    (sym (filter_map-append h (take n xs) (drop n xs)) ∙ (ap (filter_map h) (take-append-drop n xs) ∙ e))

-- ---- transits

last_of-push : (a : ℕ) (ts : List ℕ) (t : ℕ) → last_of a (ts ++ t ∷ []) ≡ t
last_of-push a [] t = refl
last_of-push a (b ∷ ts) t = last_of-push b ts t

differences-push : (a : ℕ) (ts : List ℕ) (t : ℕ) → differences a (ts ++ t ∷ []) ≡ differences a ts ++ apart (last_of a ts) t ∷ []
differences-push a [] t = refl
differences-push a (b ∷ ts) t = ap (λ ds. apart a b ∷ ds) (differences-push b ts t)

-- ---- the packets as a few numbers

abbrev made : ℕ → ℕ → ℕ → ℕ → ℕ → ℕ → ℕ → Stream
made base highest received expected_prior received_prior transit jitter = record {
  base_seq = base;
  max_seq = highest;
  received = received;
  expected_prior = expected_prior;
  received_prior = received_prior;
  transit = transit;
  jitter = jitter;
}

made_same : (base m m' n n' e r u u' j j' : ℕ) → m ≡ m' → n ≡ n' → u ≡ u' → j ≡ j' → made base m n e r u j ≡ made base m' n' e r u' j'
made_same base m m' n n' e r u u' j j' a b c d =
    ap (λ (x : ℕ). made base x n e r u j) a
    ∙ (ap (λ (x : ℕ). made base m' x e r u j) b
    ∙ (ap (λ (x : ℕ). made base m' n' e r x j) c
    ∙ ap (λ (x : ℕ). made base m' n' e r u' x) d))

counted_below : (s : Stream) (seq t : ℕ) → s.received < COUNTED_PACKETS → counted_with s seq t ≡ with_packet s seq t
counted_below s seq t below = grind (arith, nat_tests)

counted_full : (s : Stream) (seq t : ℕ) → s.received ≡ COUNTED_PACKETS → counted_with s seq t ≡ s
counted_full s seq t full = grind (arith, nat_tests)

-- one more packet that counts
stream_push : (before packets : List Arrival) (p : Arrival) → (packets ≡ [] → before ≡ []) → length packets < COUNTED_PACKETS
    → stream_of before (packets ++ p ∷ []) ≡ Some (stream_with (stream_of before packets) p.seq (transit_of p))
stream_push before [] p empty below = rw (empty refl) refl
stream_push before (first ∷ rest) p empty below =
    let s : Stream = made (first_number first) (greatest_number (first ∷ rest)) (length (first ∷ rest)) (expected_of before) (length before)
    (last_of (transit_of first) (map transit_of rest)) (jitter_of (first ∷ rest)) in
    let a = transit_of first in
    let ts = map transit_of rest in
    let t = transit_of p in
    ap Some
    (made_same _ _ _ _ _ _ _ _ _ _ _
    (fold_push (λ highest q. max highest (extended_number highest q.seq)) (first_number first) rest p)
    (omega (arith, length_push rest p))
    (ap (last_of a) (map-append transit_of rest (p ∷ [])) ∙ last_of-push a ts t)
    (ap (λ us. fold jitter_after 0 (differences a us)) (map-append transit_of rest (p ∷ []))
    ∙ (ap (fold jitter_after 0) (differences-push a ts t) ∙ fold_push jitter_after 0 (differences a ts) (apart (last_of a ts) t)))
    ∙ sym (counted_below s p.seq t below))

-- a packet beyond those that count
stream_full : (before packets : List Arrival) (p : Arrival) → length packets ≡ COUNTED_PACKETS
    → stream_of before packets ≡ Some (stream_with (stream_of before packets) p.seq (transit_of p))
stream_full before [] p full = absurd (omega arith)
stream_full before (first ∷ rest) p full =
    let s : Stream = made (first_number first) (greatest_number (first ∷ rest)) (length (first ∷ rest)) (expected_of before) (length before)
    (last_of (transit_of first) (map transit_of rest)) (jitter_of (first ∷ rest)) in
    ap Some (sym (counted_full s p.seq (transit_of p) full))

stream_closed : (before packets : List Arrival) → stream_of packets packets ≡ option_map stream_after_block (stream_of before packets)
stream_closed before [] = refl
stream_closed before (first ∷ rest) = refl

-- ---- one call

counted-none : (calls : List ReceptionCall) (c : ReceptionCall) → packet_in c ≡ None → counted_packets (calls ++ c ∷ []) ≡ counted_packets calls
counted-none calls c e = ap (take COUNTED_PACKETS) (filter_map-none packet_in calls c e)

before-none : (calls : List ReceptionCall) (c : ReceptionCall) → is_block c ≡ false → packets_before_block (calls ++ c ∷ []) ≡ packets_before_block calls
before-none calls c e = ap counted_packets (before_last-no is_block calls c e)

none_before : (calls : List ReceptionCall) → counted_packets calls ≡ [] → packets_before_block calls ≡ []
none_before calls e =
    ap (take COUNTED_PACKETS)
    (filter_map-empty packet_in _ calls (empty_from_take COUNTED_PACKETS (filter_map packet_in calls) (omega arith) e))

stream_received : (calls : List ReceptionCall) (p : Arrival) → Some (stream_with (reception_of calls).stream p.seq (transit_of p)) ≡ (reception_of (calls ++ Received p ∷ [])).stream
stream_received calls p =
    let before = packets_before_block calls in
    let all = filter_map packet_in calls in
    let packets = counted_packets calls in
    let same_before = before-none calls (Received p) refl in
    let pushed = ap (take COUNTED_PACKETS) (filter_map-some packet_in calls (Received p) p refl) in
    elim (cases_lt (length all) COUNTED_PACKETS) [
      | inl below ↦
          sym (ap (λ b. stream_of b (counted_packets (calls ++ Received p ∷ []))) same_before
          ∙ (ap (stream_of before) (pushed ∙ take-push COUNTED_PACKETS all p below)
          ∙ stream_push before packets p (none_before calls) (omega (arith, length-take COUNTED_PACKETS all))))
      | inr full ↦
          sym (ap (λ b. stream_of b (counted_packets (calls ++ Received p ∷ []))) same_before
          ∙ (ap (stream_of before) (pushed ∙ take-append-le COUNTED_PACKETS all (p ∷ []) full)
          ∙ stream_full before packets p (length-take-le COUNTED_PACKETS all full)))
    ]

stream_block : (calls : List ReceptionCall) → option_map stream_after_block (reception_of calls).stream ≡ (reception_of (calls ++ BlockMade ∷ [])).stream
stream_block calls =
    let packets = counted_packets calls in
    sym (ap (λ b. stream_of b (counted_packets (calls ++ BlockMade ∷ []))) (ap counted_packets (before_last-yes is_block calls BlockMade refl))
    ∙ (ap (stream_of packets) (counted-none calls BlockMade refl) ∙ stream_closed (packets_before_block calls) packets))

stream_reported : (calls : List ReceptionCall) (r : SenderReport) → (reception_of calls).stream ≡ (reception_of (calls ++ SenderReported r ∷ [])).stream
stream_reported calls r =
    let c = SenderReported r in
    sym (ap (λ b. stream_of b (counted_packets (calls ++ c ∷ []))) (before-none calls c refl)
    ∙ ap (stream_of (packets_before_block calls)) (counted-none calls c refl))

report-none : (calls : List ReceptionCall) (c : ReceptionCall) → report_in c ≡ None → last_report calls ≡ last_report (calls ++ c ∷ [])
report-none calls c e = sym (ap (λ reports. slice_get reports (length reports - 1)) (filter_map-none report_in calls c e))

report-some : (calls : List ReceptionCall) (r : SenderReport) → Some r ≡ last_report (calls ++ SenderReported r ∷ [])
report-some calls r =
    sym (ap (λ reports. slice_get reports (length reports - 1)) (filter_map-some report_in calls (SenderReported r) r refl)
    ∙ get_last (filter_map report_in calls) r)

heard_same : (s s' : Option Stream) (r r' : Option SenderReport) → s ≡ s' → r ≡ r'
    → ◌≡◌ {A = Heard} (record { stream = s; report = r }) (record { stream = s'; report = r' })
heard_same s s' r r' a b =
    let h : Option Stream → Option SenderReport → Heard = λ x y. record { stream = x; report = y } in
    ap (λ x. h x r) a ∙ ap (h s') b

-- what the calls come to, and one more call, is what all of them come to
pub one_more : (calls : List ReceptionCall) (c : ReceptionCall) → heard_call (reception_of calls) c ≡ reception_of (calls ++ c ∷ [])
one_more calls (Received p) = heard_same _ _ _ _ (stream_received calls p) (report-none calls (Received p) refl)
one_more calls (SenderReported r) = heard_same _ _ _ _ (stream_reported calls r) (report-some calls r)
one_more calls BlockMade = heard_same _ _ _ _ (stream_block calls) (report-none calls BlockMade refl)

-- ---- a whole list

after : (past calls : List ReceptionCall) → fold heard_call (reception_of past) calls ≡ reception_of (past ++ calls)
after past [] = ap reception_of (sym (append-nil past))
after past (c ∷ calls) =
    ap (λ h. fold heard_call h calls) (one_more past c)
    ∙ (after (past ++ c ∷ []) calls ∙ ap reception_of (append_assoc past (c ∷ []) calls))

pub heard_after-is : (calls : List ReceptionCall) → heard_after calls ≡ reception_of calls
heard_after-is calls = after [] calls

answer_of : (before packets : List Arrival) (report : Option SenderReport) (moment : ℕ) (source : Ssrc) (answer : Option Block)
    → IsAnswerBy (stream_of before packets) report moment source answer → AnswersBlock before packets report moment source answer
answer_of before [] report moment source answer h = h
answer_of before (first ∷ rest) report moment source None h = h
answer_of before (first ∷ rest) report moment source (Some b) h = record {
  about = h.about;
  fraction = h.fraction;
  lost = h.lost;
  highest = h.highest;
  jitter = h.jitter;
  last_sr = h.last_sr;
  delay = h.delay;
}

pub answers_by : (calls : List ReceptionCall) (moment : ℕ) (source : Ssrc) (answer : Option Block) → IsBlockAnswer (heard_after calls) moment source answer → IsBlockAfter calls moment source answer
answers_by calls moment source answer h =
    answer_of (packets_before_block calls) (counted_packets calls) (last_report calls) moment source answer
    (subst (λ held. IsBlockAnswer held moment source answer) (heard_after-is calls) h)

-- ---- the greatest extended number

greatest-push : (past : List ℕ) (highest number : ℕ) → IsGreatest past highest → IsGreatest (past ++ number ∷ []) (max highest number)
greatest-push past highest number g = record {
  reached = elim (cases_lt highest number) [
    | inl less ↦ (let e : number ≡ max highest number = omega arith in subst (Contains (past ++ number ∷ [])) e (Contains-push past number))
    | inr most ↦ (let e : highest ≡ max highest number = omega arith in subst (Contains (past ++ number ∷ [])) e (Contains-append_left past (number ∷ []) highest g.reached))
  ];
  bound = All-push (λ m. m ≤ max highest number) past number
      (All-weaker (λ m. m ≤ highest) (λ m. m ≤ max highest number) (λ m below. omega arith) past g.bound)
      (omega arith);
}

-- the numbers that packets stand for after others, and the greatest of all
record Extends (past : List ℕ) (packets : List Arrival) (highest : ℕ) : Type 0 where
  numbers : List ℕ
  stand_for : AllStandFor past packets numbers
  greatest : IsGreatest (past ++ numbers) (fold (λ highest p. max highest (extended_number highest p.seq)) highest packets)

extends : (m : ℕ) (past : List ℕ) (packets : List Arrival) (highest : ℕ) → IsGreatest (m ∷ past) highest → SEQ_CYCLE ≤ highest
    → All (λ p. p.seq < SEQ_CYCLE) packets → Extends (m ∷ past) packets highest
extends m past [] highest g cycled fits = record { numbers = []; stand_for = tt; greatest = rw append-nil g }
extends m past (p ∷ packets) highest g cycled fits =
    let number = extended_number highest p.seq in
    let more = extends m (past ++ number ∷ []) packets (max highest number) (greatest-push (m ∷ past) highest number g) (omega arith)
    (All-tail (λ (q : Arrival). q.seq < SEQ_CYCLE) p packets fits) in
    record {
      numbers = number ∷ more.numbers;
      stand_for = ((highest, (g, extended_number-is highest p.seq (omega arith) (All-head (λ (q : Arrival). q.seq < SEQ_CYCLE) p packets fits))), more.stand_for);
      greatest = rw append_assoc at more.greatest;
    }

pub highest-is : (first : Arrival) (rest : List Arrival) → All (λ p. p.seq < SEQ_CYCLE) (first ∷ rest) → IsHighest (first ∷ rest) (greatest_number (first ∷ rest))
highest-is first rest fits =
    let n = first_number first in
    let g : IsGreatest (n ∷ []) n = record { reached = Contains-push [] n; bound = All-cons (λ m. m ≤ n) n [] (omega arith) (All-nil (λ m. m ≤ n)) } in
    let more = extends n [] rest n g (omega arith) (All-tail (λ (q : Arrival). q.seq < SEQ_CYCLE) first rest fits) in
    record { numbers = n ∷ more.numbers; stand_for = (refl, more.stand_for); greatest = more.greatest }
