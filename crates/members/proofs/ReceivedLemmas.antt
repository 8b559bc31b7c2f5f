-- What was received of an endpoint since it came.
use Rattle.std.proofs.Common.{◌≡◌, ℕ, zero, suc, ◌+◌, ◌<◌, ◌≤◌, List, [], ◌∷◌, ◌++◌, length, get_or, set, map, refl, sym, ap, subst, ◌∙◌, arith, Some, None, Ok, Err, Result, Bool, true, false, cond, length-set}
use Rattle.std.specs.Prelude.{◌==◌, not, Option, ◌&&◌, nat_le, nat_lt, max, is_some}
use Rattle.std.proofs.lemmas.Bool.Decides.{nat_tests}
use Rattle.std.proofs.lemmas.List.{append-nil, length-map}
use Rattle.tmmbr_tuple.specs.declared.ssrc.Ssrc.{Ssrc}
use Rattle.settings.specs.declared.fault.RoomFault.{RoomFault}
use Rattle.members.specs.declared.presence.Endpoint.{Endpoint}
use Rattle.members.specs.declared.stays.TheConstants.{MAX_STAY}
use Rattle.members.specs.Presence.{is_present_at, source_at, with_heard}
use Rattle.settings.specs.Settings.{Configuration}
use Rattle.members.specs.Stays.{Told, leave, coming_count}
use Rattle.members.specs.Stream.{nothing_heard, heard_packet, heard_report, heard_block, IsBlockAnswer}
use Rattle.members.specs.Reception.{Block, Heard, ReceptionCall, Received, SenderReported, BlockMade, reception_of, IsBlockAfter}
use Rattle.members.specs.Room.{RoomState, Step, after_leaving, after_bye, leg_at, is_selected, takes_turn, reception_at, with_reception, new_room}
use Rattle.members.specs.Calls.{Call, Hear, Bye, Tick, Select, Receive, Report, MakeBlock, step_of, room_of, if_accepted, room_after, accepted_calls, moment_of, heard_by, is_recent, received_by, received_since, received_in_presence}
use Rattle.members.proofs.CallLemmas.{heard_at, present_heard, lapsed, is_some-fresh, leaving_count, leaving_lapsed, leaving_heard, IfKeeps, keeps, Before, before_new, presence_law}
use Rattle.members.proofs.StandLemmas.{absent_now, other_now, equal_of}
use Rattle.members.proofs.ReceptionLemmas.{one_more, heard_after-is, answers_by}

-- ---- lists of receptions

anew_same : (hs : List Heard) (k : ℕ) → get_or (set hs k nothing_heard) k nothing_heard ≡ nothing_heard
anew_same [] k = refl
anew_same (h ∷ hs) zero = refl
anew_same (h ∷ hs) (suc k) = anew_same hs k

set_same : (hs : List Heard) (k : ℕ) (h : Heard) → k < length hs → get_or (set hs k h) k nothing_heard ≡ h
set_same [] k h below = absurd (omega arith)
set_same (x ∷ hs) zero h below = refl
set_same (x ∷ hs) (suc k) h below = set_same hs k h (omega arith)

set_other : (hs : List Heard) (k j : ℕ) (h : Heard) → ¬ (j ≡ k) → get_or (set hs k h) j nothing_heard ≡ get_or hs j nothing_heard
set_other [] k j h other = refl
set_other (x ∷ hs) zero zero h other = absurd (other refl)
set_other (x ∷ hs) zero (suc j) h other = refl
set_other (x ∷ hs) (suc k) zero h other = refl
set_other (x ∷ hs) (suc k) (suc j) h other = set_other hs k j h (λ same. other (ap suc same))

differ_of : (k j : ℕ) → (k == j) ≡ false → ¬ (j ≡ k)
differ_of k j apart same = absurd (let e : (k == j) ≡ true = rw same (itself k) in cc)
  where
    itself : (n : ℕ) → (n == n) ≡ true
    itself n = grind (arith, nat_tests)

-- ---- who is present

present_lapsed : (t m : ℕ) (heard : Option ℕ) → is_some (lapsed t m heard) ≡ true → is_some heard ≡ true
present_lapsed t m None some = some
present_lapsed t m (Some h) some = refl

-- who is present once those overdue have left was so before
present_before : (r : RoomState) (m e : ℕ) → e < length r.endpoints → is_present_at (after_leaving r m).endpoints e ≡ true
    → is_present_at r.endpoints e ≡ true
present_before r m e inside present =
    present_heard r.endpoints e
    ∙ present_lapsed r.timeout m (heard_at r.endpoints e)
    (ap is_some (sym (leaving_lapsed r m e inside)) ∙ (sym (present_heard (after_leaving r m).endpoints e) ∙ present))

present_gone : (t : Told) (other e : ℕ) → is_present_at (after_bye t other).endpoints e ≡ true → is_present_at t.endpoints e ≡ true
present_gone t other e = step (is_present_at t.endpoints other)
  where
    left_one : (q : Bool) → (other == e) ≡ q → is_present_at (with_heard t.endpoints other None) e ≡ true → is_present_at t.endpoints e ≡ true
    left_one true same present =
        let absent : is_present_at (with_heard t.endpoints other None) e ≡ false =
        subst (λ k. is_present_at (with_heard t.endpoints other None) k ≡ false) (equal_of other e same) (absent_now t.endpoints other _ refl) in
        absurd (cc)
    left_one false apart present = sym (other_now t.endpoints other e _ apart) ∙ present

    step : (b : Bool) → is_present_at (cond b (leave t other) t).endpoints e ≡ true → is_present_at t.endpoints e ≡ true
    step true present = left_one (other == e) refl present
    step false present = present

-- who is present has a recent hear
pub present_recent : (r : RoomState) (m e : ℕ) (heard : Option ℕ) → r.moment ≤ m → Before e heard r
    → is_present_at (after_leaving r m).endpoints e ≡ is_recent r.timeout m heard
present_recent r m e heard more b =
    present_heard (after_leaving r m).endpoints e
    ∙ (ap is_some (leaving_heard r m e heard more b.inside b.is) ∙ is_some-fresh r.timeout m heard)

-- ---- one call

-- what is held of the endpoint, if it is present, are these calls
record Holds (e : ℕ) (since : List ReceptionCall) (r : RoomState) : Type 0 where
  counted : length r.receptions ≡ length r.endpoints
  held : is_present_at r.endpoints e ≡ true → get_or r.receptions e nothing_heard ≡ reception_of since

abbrev IfHolds : ℕ → List ReceptionCall → Result Step RoomFault → Type 0
IfHolds e since (Ok s) = Holds e since s.room
IfHolds e since (Err fault) = Unit {0}

if_holds : (e : ℕ) (since : List ReceptionCall) (b : Bool) (x y : Result Step RoomFault)
    → (b ≡ true → IfHolds e since x) → (b ≡ false → IfHolds e since y) → IfHolds e since (cond b x y)
if_holds e since true x y yeah nope = yeah refl
if_holds e since false x y yeah nope = nope refl

abbrev after_call : ℕ → Option ℕ → List ReceptionCall → RoomState → Call → List ReceptionCall
after_call e heard since r c = received_by r.timeout e (max r.moment (moment_of c)) heard since c

nothing_more : (since : List ReceptionCall) → reception_of since ≡ reception_of (since ++ [])
nothing_more since = ap reception_of (sym (append-nil since))

holds_tick : (e : ℕ) (heard : Option ℕ) (since : List ReceptionCall) (r : RoomState) (handed : ℕ) → Before e heard r → Holds e since r
    → IfHolds e (after_call e heard since r (Tick handed)) (step_of r (Tick handed))
holds_tick e heard since r handed b h = record {
  counted = h.counted ∙ sym (leaving_count r (max r.moment handed));
  held = λ present. h.held (present_before r (max r.moment handed) e b.inside present) ∙ nothing_more since;
}

holds_bye : (e : ℕ) (heard : Option ℕ) (since : List ReceptionCall) (r : RoomState) (handed other : ℕ) → Before e heard r → Holds e since r
    → IfHolds e (after_call e heard since r (Bye handed other)) (step_of r (Bye handed other))
holds_bye e heard since r handed other b h =
    let m = max r.moment handed in
    let t = after_leaving r m in
    if_holds e (since ++ []) (nat_le (length r.endpoints) other) _ _ (λ _. tt)
    (λ _. record {
      counted = h.counted ∙ sym (gone_count (is_present_at t.endpoints other) ∙ leaving_count r m);
      held = λ present. h.held (present_before r m e b.inside (present_gone t other e present)) ∙ nothing_more since;
    })
  where
    gone_count : (p : Bool) → length (cond p (leave (after_leaving r (max r.moment handed)) other) (after_leaving r (max r.moment handed))).endpoints
        ≡ length (after_leaving r (max r.moment handed)).endpoints
    gone_count true = length-set (after_leaving r (max r.moment handed)).endpoints other _
    gone_count false = refl

holds_select : (e : ℕ) (heard : Option ℕ) (since : List ReceptionCall) (r : RoomState) (handed number : ℕ) (on : Bool) → Before e heard r → Holds e since r
    → IfHolds e (after_call e heard since r (Select handed number on)) (step_of r (Select handed number on))
holds_select e heard since r handed number on b h =
    let m = max r.moment handed in
    let t = after_leaving r m in
    let l = leg_at t.legs number in
    let counted = h.counted ∙ sym (leaving_count r m) in
    let held : is_present_at t.endpoints e ≡ true → get_or r.receptions e nothing_heard ≡ reception_of (since ++ []) =
    λ present. h.held (present_before r m e b.inside present) ∙ nothing_more since in
    if_holds e (since ++ []) (nat_le (length r.legs) number) _ _ (λ _. tt)
    (λ _. if_holds e (since ++ []) (is_selected on l) _ _ (λ _. record { counted = counted; held = held })
    (λ _. if_holds e (since ++ []) (takes_turn on l && nat_le MAX_STAY r.next) _ _ (λ _. tt)
    (λ _. record { counted = counted; held = held })))

-- another endpoint is heard again, or this one, which is present
held_again : (e : ℕ) (heard : Option ℕ) (since : List ReceptionCall) (r : RoomState) (m other : ℕ) (mark : Endpoint) → r.moment ≤ m
    → Before e heard r → Holds e since r → is_present_at (after_leaving r m).endpoints other ≡ true
    → is_present_at (set (after_leaving r m).endpoints other mark) e ≡ true
    → get_or r.receptions e nothing_heard ≡ reception_of (cond ((other == e) && not (is_recent r.timeout m heard)) [] (since ++ []))
held_again e heard since r m other mark more b h was present = step (other == e) refl
  where
    step : (q : Bool) → (other == e) ≡ q
        → get_or r.receptions e nothing_heard ≡ reception_of (cond (q && not (is_recent r.timeout m heard)) [] (since ++ []))
    step true same =
        let here : is_present_at (after_leaving r m).endpoints e ≡ true =
        subst (λ k. is_present_at (after_leaving r m).endpoints k ≡ true) (equal_of other e same) was in
        let recent : is_recent r.timeout m heard ≡ true = sym (present_recent r m e heard more b) ∙ here in
        rw recent (h.held (present_before r m e b.inside here) ∙ nothing_more since)
    step false apart =
        h.held (present_before r m e b.inside (sym (other_now (after_leaving r m).endpoints other e mark apart) ∙ present)) ∙ nothing_more since

-- another endpoint comes, or this one, whose reception begins anew
held_anew : (e : ℕ) (heard : Option ℕ) (since : List ReceptionCall) (r : RoomState) (m other : ℕ) (mark : Endpoint) → r.moment ≤ m
    → Before e heard r → Holds e since r → is_present_at (after_leaving r m).endpoints other ≡ false
    → is_present_at (set (after_leaving r m).endpoints other mark) e ≡ true
    → get_or (set r.receptions other nothing_heard) e nothing_heard
    ≡ reception_of (cond ((other == e) && not (is_recent r.timeout m heard)) [] (since ++ []))
held_anew e heard since r m other mark more b h was present = step (other == e) refl
  where
    step : (q : Bool) → (other == e) ≡ q
        → get_or (set r.receptions other nothing_heard) e nothing_heard
        ≡ reception_of (cond (q && not (is_recent r.timeout m heard)) [] (since ++ []))
    step true same =
        let here : is_present_at (after_leaving r m).endpoints e ≡ false =
        subst (λ k. is_present_at (after_leaving r m).endpoints k ≡ false) (equal_of other e same) was in
        let recent : is_recent r.timeout m heard ≡ false = sym (present_recent r m e heard more b) ∙ here in
        let same_place : other ≡ e = equal_of other e same in
        rw (recent, same_place) (anew_same r.receptions e ∙ heard_after-is [])
    step false apart =
        set_other r.receptions other e nothing_heard (differ_of other e apart)
        ∙ (h.held (present_before r m e b.inside (sym (other_now (after_leaving r m).endpoints other e mark apart) ∙ present)) ∙ nothing_more since)

holds_hear : (e : ℕ) (heard : Option ℕ) (since : List ReceptionCall) (r : RoomState) (handed other ssrc : ℕ) → Before e heard r → Holds e since r
    → IfHolds e (after_call e heard since r (Hear handed other ssrc)) (step_of r (Hear handed other ssrc))
holds_hear e heard since r handed other ssrc b h =
    let m = max r.moment handed in
    let t = after_leaving r m in
    let mark : Endpoint = record { ssrc = source_at t.endpoints other; heard = Some m } in
    let after = after_call e heard since r (Hear handed other ssrc) in
    let count = length-set t.endpoints other mark ∙ leaving_count r m in
    if_holds e after (nat_le (length r.endpoints) other) _ _ (λ _. tt)
    (λ _. if_holds e after (not ((source_at r.endpoints other).0 == ssrc)) _ _ (λ _. tt)
    (λ _. if_holds e after (is_present_at t.endpoints other) _ _
    (λ was. record { counted = h.counted ∙ sym count; held = held_again e heard since r m other mark (omega arith) b h was })
    (λ was. if_holds e after (nat_lt MAX_STAY (r.next + coming_count t.endpoints other t.legs)) _ _ (λ _. tt)
    (λ _. record {
      counted = length-set r.receptions other nothing_heard ∙ (h.counted ∙ sym count);
      held = held_anew e heard since r m other mark (omega arith) b h was;
    }))))

-- a call of a reception, this endpoint's or another's
holds_received : (e : ℕ) (since : List ReceptionCall) (r : RoomState) (other : ℕ) (f : Heard → Heard) (c : ReceptionCall)
    → e < length r.endpoints → Holds e since r → f (reception_of since) ≡ reception_of (since ++ c ∷ [])
    → Holds e (since ++ cond (other == e) (c ∷ []) []) (with_reception r other (f (reception_at r other)))
holds_received e since r other f c inside h more = record {
  counted = count (is_present_at r.endpoints other) ∙ h.counted;
  held = λ present. step (other == e) refl present;
}
  where
    count : (p : Bool) → length (cond p (set r.receptions other (f (reception_at r other))) r.receptions) ≡ length r.receptions
    count true = length-set r.receptions other _
    count false = refl

    here : is_present_at r.endpoints e ≡ true → get_or (with_reception r e (f (reception_at r e))).receptions e nothing_heard ≡ reception_of (since ++ c ∷ [])
    here present =
        rw present
        (set_same r.receptions e (f (get_or r.receptions e nothing_heard)) (omega (arith, h.counted)) ∙ (ap f (h.held present) ∙ more))

    elsewhere : (p : Bool) → ¬ (e ≡ other)
        → get_or (cond p (set r.receptions other (f (reception_at r other))) r.receptions) e nothing_heard ≡ get_or r.receptions e nothing_heard
    elsewhere true differ = set_other r.receptions other e _ differ
    elsewhere false differ = refl

    step : (q : Bool) → (other == e) ≡ q → is_present_at r.endpoints e ≡ true
        → get_or (with_reception r other (f (reception_at r other))).receptions e nothing_heard ≡ reception_of (since ++ cond q (c ∷ []) [])
    step true same present =
        subst (λ k. get_or (with_reception r k (f (reception_at r k))).receptions e nothing_heard ≡ reception_of (since ++ c ∷ []))
        (sym (equal_of other e same)) (here present)
    step false apart present =
        elsewhere (is_present_at r.endpoints other) (differ_of other e apart) ∙ (h.held present ∙ nothing_more since)

holds : (e : ℕ) (heard : Option ℕ) (since : List ReceptionCall) (r : RoomState) (c : Call) → Before e heard r → Holds e since r
    → IfHolds e (after_call e heard since r c) (step_of r c)
holds e heard since r (Hear handed other ssrc) b h = holds_hear e heard since r handed other ssrc b h
holds e heard since r (Bye handed other) b h = holds_bye e heard since r handed other b h
holds e heard since r (Tick handed) b h = holds_tick e heard since r handed b h
holds e heard since r (Select handed number on) b h = holds_select e heard since r handed number on b h
holds e heard since r (Receive other seq timestamp) b h =
    let now : r.moment ≡ max r.moment 0 = omega arith in
    holds_received e since r other (λ x. heard_packet x r.moment seq timestamp)
    (Received (record { moment = max r.moment 0; seq = seq; timestamp = timestamp })) b.inside h
    (ap (λ m. heard_packet (reception_of since) m seq timestamp) now
    ∙ one_more since (Received (record { moment = max r.moment 0; seq = seq; timestamp = timestamp })))
holds e heard since r (Report other ntp rtp) b h =
    let now : r.moment ≡ max r.moment 0 = omega arith in
    holds_received e since r other (λ x. heard_report x r.moment ntp rtp)
    (SenderReported (record { moment = max r.moment 0; ntp = ntp; rtp = rtp })) b.inside h
    (ap (λ m. heard_report (reception_of since) m ntp rtp) now
    ∙ one_more since (SenderReported (record { moment = max r.moment 0; ntp = ntp; rtp = rtp })))
holds e heard since r (MakeBlock other) b h = holds_received e since r other heard_block BlockMade b.inside h (one_more since BlockMade)

-- ---- every list of calls

received_after : (e : ℕ) (heard : Option ℕ) (since : List ReceptionCall) (r : RoomState) (calls : List Call) → Before e heard r → Holds e since r
    → is_present_at (room_after r calls).endpoints e ≡ true
    → get_or (room_after r calls).receptions e nothing_heard ≡ reception_of (received_since r.timeout e r.moment heard since (accepted_calls r calls))
received_after e heard since r [] b h = h.held
received_after e heard since r (c ∷ calls) b h =
    step (step_of r c) (keeps e heard r c b) (holds e heard since r c b h) (λ heard' since' r' b' h'. received_after e heard' since' r' calls b' h')
  where
    step : (x : Result Step RoomFault) → IfKeeps e heard r c x → IfHolds e (after_call e heard since r c) x
        → ((heard' : Option ℕ) (since' : List ReceptionCall) (r' : RoomState) → Before e heard' r' → Holds e since' r'
        → is_present_at (room_after r' calls).endpoints e ≡ true
        → get_or (room_after r' calls).receptions e nothing_heard ≡ reception_of (received_since r'.timeout e r'.moment heard' since' (accepted_calls r' calls)))
        → is_present_at (room_after (room_of r x) calls).endpoints e ≡ true
        → get_or (room_after (room_of r x) calls).receptions e nothing_heard
        ≡ reception_of (received_since r.timeout e r.moment heard since (if_accepted c x ++ accepted_calls (room_of r x) calls))
    step (Err fault) k l rest present = rest heard since r b h present
    step (Ok s) k l rest present =
        let now = max r.moment (moment_of c) in
        let heard' = heard_by e now heard c in
        let since' = after_call e heard since r c in
        let before : Before e heard' s.room = record {
          least = rw k.timeout b.least;
          inside = rw k.count b.inside;
          is = rw (k.timeout, k.moment) k.marks;
        } in
        subst (λ t. get_or (room_after s.room calls).receptions e nothing_heard ≡ reception_of (received_since t e now heard' since' (accepted_calls s.room calls)))
        k.timeout
        (subst (λ m. get_or (room_after s.room calls).receptions e nothing_heard
        ≡ reception_of (received_since s.room.timeout e m heard' since' (accepted_calls s.room calls))) k.moment
        (rest heard' since' s.room before l present))

-- ---- a new room

holds_new : (s : Configuration) (e : ℕ) → Holds e [] (new_room s)
holds_new s e = record {
  counted = length-map s.endpoints _ ∙ sym (length-map s.endpoints _);
  held = λ present. nothing s.endpoints e ∙ heard_after-is [];
}
  where
    nothing : (ssrcs : List Ssrc) (k : ℕ) → get_or (map (λ _. nothing_heard) ssrcs) k nothing_heard ≡ nothing_heard
    nothing [] k = refl
    nothing (x ∷ ssrcs) zero = refl
    nothing (x ∷ ssrcs) (suc k) = nothing ssrcs k

pub reception_law : (s : Configuration) (calls : List Call) (e : ℕ) → 1 ≤ s.timeout_ms → e < length s.endpoints
    → reception_at (room_after (new_room s) calls) e ≡ reception_of (received_in_presence s.timeout_ms e (accepted_calls (new_room s) calls))
reception_law s calls e least inside =
    let r = room_after (new_room s) calls in
    let since = received_since s.timeout_ms e 0 None [] (accepted_calls (new_room s) calls) in
    subst (λ q. reception_at r e ≡ reception_of (cond q since [])) (presence_law s calls e least inside) (step (is_present_at r.endpoints e) refl)
  where
    step : (q : Bool) → is_present_at (room_after (new_room s) calls).endpoints e ≡ q
        → cond q (get_or (room_after (new_room s) calls).receptions e nothing_heard) nothing_heard
        ≡ reception_of (cond q (received_since s.timeout_ms e 0 None [] (accepted_calls (new_room s) calls)) [])
    step true present = received_after e None [] (new_room s) calls (before_new s e least inside) (holds_new s e) present
    step false absent = heard_after-is []

pub answer_law : (s : Configuration) (calls : List Call) (e : ℕ) (moment : ℕ) (source : Ssrc) (answer : Option Block) → 1 ≤ s.timeout_ms → e < length s.endpoints
    → IsBlockAnswer (reception_at (room_after (new_room s) calls) e) moment source answer
    → IsBlockAfter (received_in_presence s.timeout_ms e (accepted_calls (new_room s) calls)) moment source answer
answer_law s calls e moment source answer least inside is =
    let since = received_in_presence s.timeout_ms e (accepted_calls (new_room s) calls) in
    answers_by since moment source answer
    (subst (λ h. IsBlockAnswer h moment source answer) (reception_law s calls e least inside ∙ sym (heard_after-is since)) is)
