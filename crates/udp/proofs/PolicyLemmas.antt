-- What is said in a client's name is said still, once it was held; and what is let in of who began anew, and if no rule asks for anything.
use Rattle.std.proofs.Common.{◌≡◌, ◌∙◌, ◌==◌, ℕ, Bool, true, false, List, [], Option, None, Some, ap, refl, subst, sym}
use Rattle.std.specs.Prelude.{if◌then◌else◌, slice_range, IfOk, Result, Ok, Err}
use Rattle.std.specs.declared.alloc.AllocError.{AllocError}
use Rattle.tmmbr_tuple.specs.declared.ssrc.Ssrc.{Ssrc}
use Rattle.datagram.specs.declared.reading.Ask.{Ask}
use Rattle.datagram.specs.declared.reading.Reading.{Reading}
use Rattle.datagram.specs.declared.reading.Sent.{Sent}
use Rattle.datagram.specs.declared.reading.What.{What}
use Rattle.datagram.specs.declared.reading.What.TheVariants.{Media, Goodbye, Control, Refused}
use Rattle.members.specs.declared.view.RoomView.{RoomView}
use Rattle.policy.specs.Asking.{Asking}
use Rattle.policy.specs.HeldRequests.{asks_left, asking_of}
use Rattle.policy.specs.PresenceSignal.{signal_in}
use Rattle.datagram.specs.Reads.{IsReadUpTo, IsSaidIn}
use Rattle.entrance.specs.declared.entrance.Admitted.{Admitted}
use Rattle.entrance.specs.declared.entrance.Admitted.TheVariants.{Taking}
use Rattle.members.specs.Room.{RoomState}
use Rattle.policy.specs.Presence.{is_there}
use Rattle.policy.specs.IngressFilter.{LooksForNothing, come_anew, resends_left, welcomed}
use Rattle.policy.specs.declared.held_requests.HeldRequests.{HeldRequests}
use Rattle.policy.specs.declared.rate_requests.RateRequests.{RateRequests}
use Rattle.policy.specs.RateRequests.{Hears, PacesIf, PacesWord, left_held}
use Rattle.policy.specs.RequestGaps.{GapState}
use Rattle.policy.specs.declared.ingress_filter.IngressFilter.{IngressFilter}
use Rattle.policy.specs.declared.ingress_filter.Judged.{Judged}
use Rattle.policy.specs.declared.ingress_filter.Judged.TheVariants.{Anew as BegunAnew}
use Rattle.udp.specs.Hearing.{AsksNothing, Follows, HearsFar, HearsRead, IsPresentHeld, LetsIn, Stand, TakesAll, TakesIn}
use Rattle.udp.specs.Kept.{IsOfSame, IsSpokenBy, SaysGoodbye}
use Rattle.udp.specs.declared.hearing.Anew.{Anew}
use Rattle.udp.specs.declared.hearing.Hearing.{Hearing}
use Rattle.udp.specs.declared.kept.Kept.{Kept}
use Rattle.udp.specs.Policies.{IsHeld, Ruling, TakesFar, ruling_of}

-- ---- what asks for nothing still does

either_way : {X : Type 0} {Y : Type 0} (f : X → Y) (b : Bool) (x y : X) (z : Y) → f x ≡ z → f y ≡ z → f (if b then x else y) ≡ z
either_way f true x y z e g = e
either_way f false x y z e g = g

either_so : {X : Type 0} (P : X → Type 0) (Q : Type 0) (b : Bool) (x y : X) → P (if b then x else y) → (P x → Q) → (P y → Q) → Q
either_so P Q true x y p f g = f p
either_so P Q false x y p f g = g p

nothing_held : (own : ℕ) (what : What) (asker : Asking) → asks_left (signal_in own what) asker [] ≡ []
nothing_held own (Media packet) asker = either_way (λ w. asks_left w asker []) (packet.ssrc.0 == own) _ _ [] refl refl
nothing_held own Goodbye asker = refl
nothing_held own (Control c) asker = either_way (λ w. asks_left w asker []) (c.speaker.0 == own) _ _ [] refl refl
nothing_held own (Refused refusal) asker = refl

nothing_left : (before : Option HeldRequests) (own : ℕ) (what : What) (asker : Asking) → left_held before (signal_in own what) asker [] ≡ []
nothing_left None own what asker = refl
nothing_left (Some h) own what asker = nothing_held own what asker

nothing_paced : (own : ℕ) (what : What) (s t : GapState) (asker : Asking) (left : List Ask) → PacesWord (signal_in own what) s t asker [] left → left ≡ []
nothing_paced own (Media packet) s t asker left is =
    either_so (λ w. PacesWord w s t asker [] left) (left ≡ []) (packet.ssrc.0 == own) _ _ is (λ h. h.left) (λ h. h.1)
nothing_paced own Goodbye s t asker left is = is.1
nothing_paced own (Control c) s t asker left is =
    either_so (λ w. PacesWord w s t asker [] left) (left ≡ []) (c.speaker.0 == own) _ _ is (λ h. h.left) (λ h. h.1)
nothing_paced own (Refused refusal) s t asker left is = is.1

nothing_after : (before after : Option GapState) (own : ℕ) (what : What) (asker : Asking) (left : List Ask)
    → PacesIf before after (signal_in own what) asker [] left → left ≡ []
nothing_after None after own what asker left is = is.1
nothing_after (Some s) None own what asker left is = absurd is
nothing_after (Some s) (Some t) own what asker left is = nothing_paced own what s t asker left is

asks_nothing : (r q : RateRequests) (own : ℕ) (what : What) (asker : Asking) (old new : Reading) → Hears r q (signal_in own what) asker old new
    → old.asks.items ≡ [] → new.asks.items ≡ []
asks_nothing r q own what asker old new hears none =
    nothing_after r.gaps q.gaps own what asker new.asks.items
    (subst (λ (asks : List Ask). PacesIf r.gaps q.gaps (signal_in own what) asker asks new.asks.items)
    (ap (left_held r.holding (signal_in own what) asker) none ∙ nothing_left r.holding own what asker) hears.paced)

pub still_spoken : (before after : RateRequests) (sent : Sent) (view : RoomView) (speaker : Ssrc) (old new : Reading)
    → IsHeld before after sent view old new → IsSpokenBy speaker [] old → IsSpokenBy speaker [] new
still_spoken before after sent view speaker old new holds says = record {
  what = holds.held.what ∙ says.what;
  asks_for = asks_nothing before after sent.own.0 old.what (asking_of view sent) old new holds.held says.asks_for;
}

through : (k mid l : Kept) → IsOfSame k mid → IsOfSame mid l → IsOfSame k l
through k mid l first second = record {
  heard = second.heard ∙ first.heard;
  buffer = second.buffer ∙ first.buffer;
  sender = second.sender ∙ first.sender;
}

-- what is let in of who began anew
pub lets_anew : (judged : Judged) (p q : Ruling) (k mid l : Kept) (view : RoomView) (anew next : Option Anew) (from to : ℕ)
    → judged ≡ BegunAnew → next ≡ Some (record { endpoint = k.sent.endpoint; is_far_heard = false; from = from; to = to })
    → IsOfSame k mid → SaysGoodbye mid.reading → IsHeld p.requests q.requests mid.sent view mid.reading l.reading → IsOfSame mid l
    → q.ingress_filter ≡ p.ingress_filter → q.held_packets ≡ p.held_packets → q.most ≡ p.most → LetsIn judged p q k l view anew next from to Taking
lets_anew judged p q k mid l view anew next from to is later same goodbye holds still ingress_filter held_packets most = record {
  follows = subst (λ (j : Judged). Follows j p.requests q.requests k l view anew next from to Taking) (sym is)
      (refl, later, record { said = mid; same = same; goodbye = goodbye; holds = holds });
  same = through k mid l same still;
  ingress_filter = ingress_filter;
  held_packets = held_packets;
  most = most;
}

-- ---- if no rule asks for anything

as_left : (r q : RateRequests) (own : ℕ) (what : What) (asker : Asking) (old new : Reading) → r.holding ≡ None → r.gaps ≡ None
    → Hears r q (signal_in own what) asker old new → new.asks.items ≡ old.asks.items
as_left r q own what asker old new unheld unpaced hears =
    (subst (λ (g : Option GapState). PacesIf g q.gaps (signal_in own what) asker (left_held r.holding (signal_in own what) asker old.asks.items) new.asks.items)
    unpaced hears.paced).1
    ∙ ap (λ (h : Option HeldRequests). left_held h (signal_in own what) asker old.asks.items) unheld

carried : (own : ℕ) (bytes : List ℕ) (most : Option ℕ) (r s : Reading) → s.what ≡ r.what → s.asks.items ≡ r.asks.items → s.beyond ≡ r.beyond
    → IsReadUpTo own bytes most r → IsReadUpTo own bytes most s
carried own bytes most r s what asks beyond reads = record {
  asks = reads.asks;
  says = subst (λ (w : What). IsSaidIn own bytes (record { what = w; asks = reads.asks })) (sym what) reads.says;
  listed = asks ∙ reads.listed;
  beyond = beyond ∙ reads.beyond;
}

either : (P : IngressFilter → Type 0) (b : Bool) (x y : IngressFilter) → P x → P y → P (if b then x else y)
either P true x y p q = p
either P false x y p q = q

still_off : (s : IngressFilter) (sent : Sent) (room : RoomState) → LooksForNothing s → LooksForNothing (welcomed s sent room)
still_off s sent room off = either LooksForNothing (is_there room sent.endpoint sent.moment) s (come_anew s sent.endpoint) off (record {
  new_starts = off.new_starts;
  strict_ssrc = off.strict_ssrc;
  unbounded = ap (λ r. resends_left r sent.endpoint) off.unbounded;
})

pub takes_what_came : (sent : Sent) (stand : Stand) (view : RoomView) (from to : ℕ) (k : Hearing) (admitted : Admitted)
    → AsksNothing stand.ruling → HearsRead sent stand view from to k admitted → TakesAll sent (slice_range stand.bytes from to) k admitted
takes_what_came sent stand view from to k admitted off hears =
    let looks = subst LooksForNothing (sym hears.welcomes.ingress_filter) (still_off stand.ruling.ingress_filter hears.read.sent view.room.now off.looks) in
    let as_was = hears.judges.off looks in
    let follows = subst (λ (j : Judged). Follows j hears.between.requests k.policies.requests hears.left k.kept view stand.anew k.anew from to admitted) as_was.is_judged hears.lets.follows in
    let begun = hears.judges.requests ∙ hears.welcomes.requests in
    let left = follows.2.held in
    let same = as_left _ _ hears.left.sent.own.0 hears.left.reading.what _ _ _ (ap (λ (r : RateRequests). r.holding) begun ∙ off.holds) (ap (λ (r : RateRequests). r.gaps) begun ∙ off.gaps) left in
    let all = subst (λ (m : Option ℕ). IsReadUpTo sent.own.0 (slice_range stand.bytes from to) m hears.read.reading) off.all hears.reads.reads in
    record {
      takes = follows.0;
      reads = carried sent.own.0 (slice_range stand.bytes from to) None hears.read.reading k.kept.reading
          (left.what ∙ as_was.what) (same ∙ as_was.asks) (left.unchanged.1 ∙ as_was.beyond) all;
    }

-- ---- what is said and held, and what holds of a result

pub present_held : (held later : RateRequests) (said_as sent : Sent) (view : RoomView) (said now : Reading) → said_as ≡ sent
    → IsSpokenBy sent.own [] said → IsHeld held later said_as view said now → IsPresentHeld held later sent view now
present_held held later said_as sent view said now same speaks holds =
    record { said = said; speaks = speaks; holds = subst (λ (s : Sent). IsHeld held later s view said now) same holds }

pub if_ok : {A E : Type 0} (P Q : A → Type 0) (r : Result A E) → ((a : A) → P a → Q a) → IfOk r P → IfOk r Q
if_ok P Q (Ok a) f p = f a p
if_ok P Q (Err e) f p = p

pub hears_far : (sent : Sent) (h k : Hearing) (view : RoomView) (r : Result Admitted AllocError) (filled : Kept) (counted : Ruling) (to : ℕ)
    → TakesFar (ruling_of h.policies) counted h.kept filled sent.endpoint sent.moment to
    → IfOk r (λ a. TakesIn sent filled.buffer.items counted view 65535 to k a) → IfOk r (λ a. HearsFar sent h k view a)
hears_far sent h k view r filled counted to far takes =
    if_ok (λ a. TakesIn sent filled.buffer.items counted view 65535 to k a) (λ a. HearsFar sent h k view a) r
    (λ a takes_in. record { filled = filled; counted = counted; to = to; far = far; takes = takes_in }) takes
