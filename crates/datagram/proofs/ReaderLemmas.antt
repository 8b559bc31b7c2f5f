-- What packets say one after the other, and what is kept of it.
use Rattle.std.proofs.Common.{◌≡◌, ◌∙◌, ℕ, ◌+◌, ◌-◌, ◌^◌, ◌<◌, ◌≤◌, inl, inr, Bool, true, false, List, [], ◌∷◌, ◌++◌, length, map, take, min, Option, None, Some, Result, Ok, Err, refl, sym, ap, ap₂, subst, arith, append_assoc, add_assoc, add-zero, eqb}
use Rattle.std.specs.Prelude.{◌==◌, ◌||◌, not, cond}
use Rattle.std.specs.List.{flat_map, last_or}
use Rattle.std.specs.Option.{option_or}
use Rattle.std.proofs.lemmas.Bool.{cond-false, eq-eqb}
use Rattle.std.proofs.lemmas.List.Folds.{list_any-append}
use Rattle.std.proofs.lemmas.Bool.Decides.{nat_tests}
use Rattle.std.proofs.lemmas.List.{append-nil, length-append, length-take, take-append-le, take_all}
use Rattle.rtcp_compound.specs.Content.{Content, packet_content}
use Rattle.rtcp_compound.specs.Grammar.{RtcpPacket, packet_bytes, ReadsRtcp}
use Rattle.rtcp_feedback.specs.declared.fault.FbFault.{FbFault}
use Rattle.datagram.specs.declared.reading.Ask.{Ask}
use Rattle.datagram.specs.declared.survey.Survey.{Survey}
use Rattle.datagram.specs.declared.reading.What.{What}
use Rattle.datagram.specs.declared.reading.What.TheVariants.{Control}
use Rattle.datagram.specs.declared.reading.Reading.{Reading}
use Rattle.datagram.specs.Reads.{IsListed, IsReadUpTo, IsSaidIn, IsSurveyOf, MayList, first_asks, is_full, was_read, what_of}
use Rattle.datagram.specs.Saying.{Gist, PacketSays, PacketsSay, control, joint_gist, empty_gist, said_by, speaker_of}

-- ---- gists

ok_same : (a b : Gist) → ◌≡◌ {A = Result Gist FbFault} (Ok a) (Ok b) → a ≡ b
ok_same a b e = cc

pub joined_nothing : (a : Gist) → joint_gist a empty_gist ≡ a
joined_nothing a = λ i. record {
  senders = append-nil a.senders i;
  clocks = append-nil a.clocks i;
  goodbyes = append-nil a.goodbyes i;
  reports = append-nil a.reports i;
  tmmbns = add-zero a.tmmbns i;
  asks = append-nil a.asks i;
}

zero_and : (n : ℕ) → 0 + n ≡ n
zero_and n = omega arith

nothing_joined : (a : Gist) → joint_gist empty_gist a ≡ a
nothing_joined a = λ i. record {
  senders = a.senders;
  clocks = a.clocks;
  goodbyes = a.goodbyes;
  reports = a.reports;
  tmmbns = zero_and a.tmmbns i;
  asks = a.asks;
}

pub joined_assoc : (a b c : Gist) → joint_gist a (joint_gist b c) ≡ joint_gist (joint_gist a b) c
joined_assoc a b c = λ i. record {
  senders = sym (append_assoc a.senders b.senders c.senders) i;
  clocks = sym (append_assoc a.clocks b.clocks c.clocks) i;
  goodbyes = sym (append_assoc a.goodbyes b.goodbyes c.goodbyes) i;
  reports = sym (append_assoc a.reports b.reports c.reports) i;
  tmmbns = sym (add_assoc a.tmmbns b.tmmbns c.tmmbns) i;
  asks = sym (append_assoc a.asks b.asks c.asks) i;
}

-- what is said after this gist, with it
abbrev pub behind : Gist → Result Gist FbFault → Result Gist FbFault
behind a (Ok b) = Ok (joint_gist a b)
behind a (Err fault) = Err fault

pub behind_both : (a b : Gist) (said : Result Gist FbFault) → behind a (behind b said) ≡ behind (joint_gist a b) said
behind_both a b (Ok c) = ap Ok (joined_assoc a b c)
behind_both a b (Err fault) = refl

pub say_more : (c : Content) (cs : List Content) (first : Gist) (said : Result Gist FbFault)
    → PacketSays c (Ok first) → PacketsSay cs said → PacketsSay (c ∷ cs) (behind first said)
say_more c cs first (Ok others) one rest = (first, others, one, rest, refl)
say_more c cs first (Err fault) one rest = inr (first, one, rest)

-- what is said of one packet more
pub said_behind : (cs : List Content) (c : Content) (g : Gist) (said : Result Gist FbFault)
    → PacketsSay cs (Ok g) → PacketSays c said → PacketsSay (cs ++ c ∷ []) (behind g said)
said_behind [] c g (Ok s) none one =
    (s, empty_gist, one, refl, ap (λ (a : Gist). joint_gist a s) (ok_same g empty_gist none) ∙ nothing_joined s ∙ sym (joined_nothing s))
said_behind [] c g (Err fault) none one = inl one
said_behind (d ∷ cs) c g said (first, others, here, rest, both) one =
    let say : Gist → Type 0 = λ a. PacketsSay (d ∷ (cs ++ c ∷ [])) (behind a said) in
    let all : Result Gist FbFault → Type 0 = λ r. PacketsSay (d ∷ (cs ++ c ∷ [])) r in
    subst say (sym both)
    (subst all (behind_both first others said)
    (say_more d (cs ++ c ∷ []) first (behind others said) here (said_behind cs c others said rest one)))

-- the first fault stays the first
pub fault_stays : (cs ds : List Content) (fault : FbFault) → PacketsSay cs (Err fault) → PacketsSay (cs ++ ds) (Err fault)
fault_stays [] ds fault say = cc
fault_stays (c ∷ cs) ds fault (inl here) = inl here
fault_stays (c ∷ cs) ds fault (inr (first, here, rest)) = inr (first, here, fault_stays cs ds fault rest)

-- ---- what is kept of both

pub speaker_of-append : (own : ℕ) (xs ys : List ℕ) → speaker_of own (xs ++ ys) ≡ cond (speaker_of own xs == own) (speaker_of own ys) (speaker_of own xs)
speaker_of-append own [] ys = let same : eqb own own ≡ true = eq-eqb own own refl in rw same refl
speaker_of-append own (x ∷ xs) ys = cases (x == own) refl (speaker_of-append own xs ys)
  where
    cases : (b : Bool) → (x == own) ≡ b
        → speaker_of own (xs ++ ys) ≡ cond (speaker_of own xs == own) (speaker_of own ys) (speaker_of own xs)
        → speaker_of own (x ∷ (xs ++ ys)) ≡ cond (speaker_of own (x ∷ xs) == own) (speaker_of own ys) (speaker_of own (x ∷ xs))
    cases true e rest = rw e rest
    cases false e rest = rw e (rw e refl)

option_or_more : {A : Type 0} (o p : Option A) (y : A) → option_or o (Some y) ≡ option_or (option_or o (Some y)) p
option_or_more None p y = refl
option_or_more (Some z) p y = refl

last_or_else : {A : Type 0} (o : Option A) (ys : List A) → last_or o ys ≡ option_or (last_or None ys) o
last_or_else o [] = refl
last_or_else o (y ∷ ys) =
    last_or_else (Some y) ys ∙ option_or_more (last_or None ys) o y ∙ ap (λ p. option_or p o) (sym (last_or_else (Some y) ys))

last_or_after : {A : Type 0} (o : Option A) (xs ys : List A) → last_or o (xs ++ ys) ≡ last_or (last_or o xs) ys
last_or_after o [] ys = refl
last_or_after o (x ∷ xs) ys = last_or_after (Some x) xs ys

pub last_or-append : {A : Type 0} (xs ys : List A) → last_or None (xs ++ ys) ≡ option_or (last_or None ys) (last_or None xs)
last_or-append xs ys = last_or_after None xs ys ∙ last_or_else (last_or None xs) ys

pub not_true : (p : Bool) → not p ≡ true → p ≡ false
not_true true e = cc
not_true false e = refl

or_false : (p q : Bool) → (p || q) ≡ false → (p ≡ false) × (q ≡ false)
or_false true q e = cc
or_false false q e = (refl, e)

-- What is kept of the one and of the other is what is kept of both.
pub kept_of_both : (own : ℕ) (x y z : Survey) (a b : Gist) → IsSurveyOf own x a → IsSurveyOf own y b
    → z.goodbye ≡ (x.goodbye || y.goodbye) → z.asking ≡ (x.asking || y.asking)
    → z.control.speaker.0 ≡ cond (x.control.speaker.0 == own) y.control.speaker.0 x.control.speaker.0
    → z.control.report ≡ option_or y.control.report x.control.report
    → z.control.tmmbns ≡ x.control.tmmbns + y.control.tmmbns
    → z.clocked.0 ≡ cond (x.clocked.0 == own) y.clocked.0 x.clocked.0
    → IsSurveyOf own z (joint_gist a b)
kept_of_both own x y z a b sx sy goodbye asking speaker report tmmbns clocked = record {
  goodbye = goodbye ∙ ap₂ (λ p q. p || q) sx.goodbye sy.goodbye ∙ sym (list_any-append (λ s. s == own) a.goodbyes b.goodbyes);
  asking = λ e.
      let none = or_false x.asking y.asking (sym asking ∙ e) in
      ap₂ (λ (p q : List Ask). p ++ q) (sx.asking none.0) (sy.asking none.1);
  speaker = speaker ∙ ap₂ (λ (p q : ℕ). cond (p == own) q p) sx.speaker sy.speaker ∙ sym (speaker_of-append own a.senders b.senders);
  report = report ∙ ap₂ (λ (p q : Option (ℕ × ℕ)). option_or p q) sy.report sx.report ∙ sym (last_or-append a.reports b.reports);
  tmmbns = tmmbns ∙ ap₂ (λ (p q : ℕ). p + q) sx.tmmbns sy.tmmbns;
  clocked = clocked ∙ ap₂ (λ (p q : ℕ). cond (p == own) q p) sx.clocked sy.clocked ∙ sym (speaker_of-append own a.clocks b.clocks);
}

-- if nobody leaves, what is kept is what is heard
pub control_said : (own : ℕ) (s : Survey) (g : Gist) → IsSurveyOf own s g → s.goodbye ≡ false
    → control (speaker_of own g.senders) g.reports g.tmmbns g.asks ≡ said_by own g
control_said own s g is stays = sym (cond-false _ _ _ (sym is.goodbye ∙ stays))

pub control_heard : (own : ℕ) (s : Survey) (g : Gist) → IsSurveyOf own s g
    → ◌≡◌ {A = What} (Control s.control) (what_of (control (speaker_of own g.senders) g.reports g.tmmbns g.asks))
control_heard own s g is = λ i. Control (record { speaker = record { 0 = is.speaker i }; report = is.report i; tmmbns = is.tmmbns i })

-- ---- what is listed

pub none_listed : (most : Option ℕ) (r : Reading) → r.asks.items ≡ [] → r.beyond ≡ 0 → IsListed most [] r
none_listed None r asks beyond = (asks, beyond)
none_listed (Some most) r asks beyond = (asks ∙ sym (take_all most [] (omega arith)), beyond ∙ omega arith)

-- one more is listed, or counted
pub listed_one : (most : Option ℕ) (asks : List Ask) (ask : Ask) (r s : Reading) → is_full (length r.asks.items) most ≡ false
    → s.asks.items ≡ r.asks.items ++ ask ∷ [] → s.beyond ≡ r.beyond → IsListed most asks r → IsListed most (asks ++ ask ∷ []) s
listed_one None asks ask r s free more beyond (listed, rest) = (more ∙ ap (λ (l : List Ask). l ++ ask ∷ []) listed, beyond ∙ rest)
listed_one (Some most) asks ask r s free more beyond (listed, rest) =
    let few : length r.asks.items < most = grind (arith, nat_tests, free) in
    let cut : length r.asks.items ≡ length (take most asks) = ap length listed in
    let kept = length-take most asks in
    let long = length-append asks (ask ∷ []) in
    let all : take most asks ≡ asks = take_all most asks (omega arith) in
    let both : take most (asks ++ ask ∷ []) ≡ asks ++ ask ∷ [] = take_all most (asks ++ ask ∷ []) (omega arith) in
    (more ∙ ap (λ (l : List Ask). l ++ ask ∷ []) (listed ∙ all) ∙ sym both, beyond ∙ rest ∙ omega arith)

pub counted_one : (most : Option ℕ) (asks : List Ask) (ask : Ask) (r s : Reading) → is_full (length r.asks.items) most ≡ true
    → s.asks.items ≡ r.asks.items → s.beyond ≡ min (r.beyond + 1) (2 ^ 64 - 1) → IsListed most asks r → IsListed most (asks ++ ask ∷ []) s
counted_one None asks ask r s full same beyond listed = absurd (cc)
counted_one (Some most) asks ask r s full same beyond (listed, rest) =
    let many : most ≤ length r.asks.items = grind (arith, nat_tests, full) in
    let cut : length r.asks.items ≡ length (take most asks) = ap length listed in
    let kept = length-take most asks in
    let long = length-append asks (ask ∷ []) in
    (same ∙ listed ∙ sym (take-append-le most asks (ask ∷ []) (omega arith)), beyond ∙ omega arith)

pub may_list : (listed : ℕ) (most : Option ℕ) → is_full listed most ≡ false → MayList most
may_list listed None free = tt
may_list listed (Some most) free = grind (arith, nat_tests, free)

-- something is listed if it may be
pub some_listed : (most : Option ℕ) (asks : List Ask) → MayList most → 0 < length asks → 0 < length (first_asks most asks)
some_listed None asks may some = some
some_listed (Some most) asks may some = let kept = length-take most asks in omega arith

pub listed_more : (most : Option ℕ) (asks done more : List Ask) (r : Reading) → IsListed most ((asks ++ done) ++ more) r
    → IsListed most (asks ++ (done ++ more)) r
listed_more most asks done more r listed = subst (λ (l : List Ask). IsListed most l r) (append_assoc asks done more) listed

-- all of it is listed, if that may be
pub read_whole : (own : ℕ) (datagram : List ℕ) (r : Reading) → IsReadUpTo own datagram None r → IsSaidIn own datagram (was_read r)
read_whole own datagram r read =
    subst (λ (asks : List Ask). IsSaidIn own datagram (record { what = r.what; asks = asks })) (sym read.listed) read.says

-- ---- the number of packets

pub packets_fit : (ps : List RtcpPacket) → length (map packet_content ps) ≤ length (flat_map packet_bytes ps)
packets_fit [] = omega arith
packets_fit (p ∷ ps) =
    let rest = packets_fit ps in
    let long = length-append (packet_bytes p) (flat_map packet_bytes ps) in
    omega arith

pub count_fits : (datagram : List ℕ) (ps : List RtcpPacket) → ReadsRtcp datagram ps → length (map packet_content ps) ≤ length datagram
count_fits datagram ps reads = let fit = packets_fit ps in let long = ap length reads.bytes_are in omega arith
