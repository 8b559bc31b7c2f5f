-- A source begins anew only after a packet that was far, goes on after an outage, and begins once it left.
use Rattle.std.proofs.Common.{◌≡◌, ℕ, zero, suc, inl, inr, Bool, true, false, ◌||◌, List, [], ◌∷◌, refl, sym, ap, ◌∙◌}
use Rattle.std.specs.Prelude.{Option, None, Some, slice_set, if◌then◌else◌}
use Rattle.std.proofs.lemmas.Bool.{cases_Bool, cond-true, cond-false}
use Rattle.std.proofs.lemmas.Option.{same_Some}
use borrow.Author.Tests.{eqb-true}
use Rattle.policy.specs.declared.sequence_tracker.SequenceTracker.{SequenceTracker}
use Rattle.policy.specs.declared.sequence_tracker.Stamp.{Stamp}
use Rattle.policy.specs.declared.sequence_tracker.Placement.{Placement}
use Rattle.policy.specs.declared.sequence_tracker.Placement.TheVariants.{InSequence, Jump, Restart}
use Rattle.datagram.specs.declared.reading.Sent.{Sent}
use Rattle.members.specs.Room.{RoomState}
use Rattle.policy.specs.Presence.{is_there}
use Rattle.policy.specs.IngressFilter.{PlacesOwn, come_anew, judged_by, placement_by, trackers_left, welcomed}
use Rattle.policy.specs.declared.ingress_filter.Judged.{Judged}
use Rattle.policy.specs.declared.ingress_filter.Judged.TheVariants.{Take}
use Rattle.policy.specs.declared.ingress_filter.IngressFilter.{IngressFilter}
use Rattle.policy.specs.SequenceTrackers.{FollowsFar, begun_or_with, first_or_placed, goes_on, is_ahead, is_awaited, is_near, placement_at, placement_in, tracker_from, tracker_of, tracker_placed, tracker_up_to, tracker_with, successor_of}

-- what follows a far packet does so after one more packet, too
one_later : (packets : List Stamp) (p : Stamp) (seq : ℕ) → FollowsFar packets seq → FollowsFar (p ∷ packets) seq
one_later packets p seq f =
    record { later = p ∷ f.later; far = f.far; earlier = f.earlier; stood = ap (λ (l : List Stamp). p ∷ l) f.stood; was_far = f.was_far; next = f.next }

-- a packet that is in sequence leaves it at what is awaited
still_awaited : (run : SequenceTracker) (p : Stamp) (b : Bool) → (if b then tracker_up_to run p else run).awaited ≡ run.awaited
still_awaited run p true = refl
still_awaited run p false = refl

-- the number that is awaited is the one after a far packet's
awaited_with : (packets : List Stamp) (run : SequenceTracker) (p : Stamp) (seq : ℕ) (placed : Placement) → tracker_of packets ≡ Some run
    → placement_in run p ≡ placed → ((w : ℕ) → run.awaited ≡ Some w → FollowsFar packets w)
    → (tracker_placed run p placed).awaited ≡ Some seq → FollowsFar (p ∷ packets) seq
awaited_with packets run p seq InSequence is placed before awaits =
    one_later packets p seq (before seq (sym (still_awaited run p (is_ahead run.highest p)) ∙ awaits))
awaited_with packets run p seq Jump is placed before awaits =
    record {
      later = [];
      far = p;
      earlier = packets;
      stood = refl;
      was_far = ap (λ (r : Option SequenceTracker). first_or_placed r p) is ∙ placed;
      next = sym (same_Some (successor_of p.seq) seq awaits);
    }
awaited_with packets run p seq Restart is placed before awaits = absurd (nothing awaits)
  where
    nothing : (tracker_from p).awaited ≡ Some seq → ⊥
    nothing none = cc

awaited_of : (packets : List Stamp) (run : SequenceTracker) (seq : ℕ) → tracker_of packets ≡ Some run → run.awaited ≡ Some seq → FollowsFar packets seq
awaited_of [] run seq is awaits = absurd (cc)
awaited_of (p ∷ packets) run seq is awaits = here (tracker_of packets) refl (λ former w some so. awaited_of packets former w some so)
  where
    here : (before : Option SequenceTracker) → tracker_of packets ≡ before
        → ((former : SequenceTracker) (w : ℕ) → tracker_of packets ≡ Some former → former.awaited ≡ Some w → FollowsFar packets w)
        → FollowsFar (p ∷ packets) seq
    here None none earlier =
        let same : tracker_from p ≡ run = same_Some (tracker_from p) run (sym (ap (λ (r : Option SequenceTracker). Some (begun_or_with r p)) none) ∙ is) in
        absurd (nothing (ap (λ (r : SequenceTracker). r.awaited) same ∙ awaits))
      where
        nothing : (tracker_from p).awaited ≡ Some seq → ⊥
        nothing never = cc
    here (Some former) some earlier =
        let same : tracker_with former p ≡ run = same_Some (tracker_with former p) run (sym (ap (λ (r : Option SequenceTracker). Some (begun_or_with r p)) some) ∙ is) in
        awaited_with packets former p seq (placement_in former p) some refl
        (λ w so. earlier former w some so)
        (ap (λ (r : SequenceTracker). r.awaited) same ∙ awaits)

-- who begins anew with this packet awaited its number
anew_awaited : (run : SequenceTracker) (stamp : Stamp) → placement_in run stamp ≡ Restart → run.awaited ≡ Some stamp.seq
anew_awaited run stamp anew =
    elim (cases_Bool (is_near run.highest stamp || goes_on run stamp)) [
      | inl near ↦ absurd (not_near (sym (cond-true (is_near run.highest stamp || goes_on run stamp) InSequence (if is_awaited run.awaited stamp.seq then Restart else Jump) near) ∙ anew))
      | inr far ↦ elim (cases_Bool (is_awaited run.awaited stamp.seq)) [
        | inl awaited ↦ is_number run.awaited awaited
        | inr odd ↦ absurd (not_far (sym (cond-false (is_near run.highest stamp || goes_on run stamp) InSequence (if is_awaited run.awaited stamp.seq then Restart else Jump) far
            ∙ cond-false (is_awaited run.awaited stamp.seq) Restart Jump odd) ∙ anew))
      ]
    ]
  where
    not_near : InSequence ≡ Restart → ⊥
    not_near same = cc

    not_far : Jump ≡ Restart → ⊥
    not_far same = cc

    is_number : (awaited : Option ℕ) → is_awaited awaited stamp.seq ≡ true → awaited ≡ Some stamp.seq
    is_number None never = absurd (cc)
    is_number (Some number) same = ap (λ (n : ℕ). Some n) (eqb-true number stamp.seq same)

pub anew_follows : (packets : List Stamp) (stamp : Stamp) → first_or_placed (tracker_of packets) stamp ≡ Restart → FollowsFar packets stamp.seq
anew_follows packets stamp anew = here (tracker_of packets) refl anew
  where
    here : (run : Option SequenceTracker) → tracker_of packets ≡ run → first_or_placed run stamp ≡ Restart → FollowsFar packets stamp.seq
    here None none near = absurd (cc)
    here (Some run) some same = awaited_of packets run stamp.seq some (anew_awaited run stamp same)

-- ---- who goes on with the clock

or_true : (b c : Bool) → c ≡ true → (b || c) ≡ true
or_true true c is = refl
or_true false c is = is

pub goes_on_in_sequence : (packets : List Stamp) (run : SequenceTracker) (stamp : Stamp) → tracker_of packets ≡ Some run → goes_on run stamp ≡ true
    → first_or_placed (tracker_of packets) stamp ≡ InSequence
goes_on_in_sequence packets run stamp is goes =
    ap (λ (r : Option SequenceTracker). first_or_placed r stamp) is
    ∙ cond-true (is_near run.highest stamp || goes_on run stamp) InSequence (if is_awaited run.awaited stamp.seq then Restart else Jump)
    (or_true (is_near run.highest stamp) (goes_on run stamp) goes)

-- ---- who left

-- of whose numbers nothing is known begins
begins : (runs : List (Option SequenceTracker)) (endpoint : ℕ) (stamp : Stamp) → placement_at (slice_set runs endpoint None) endpoint stamp ≡ InSequence
begins [] endpoint stamp = refl
begins (run ∷ runs) zero stamp = refl
begins (run ∷ runs) (suc endpoint) stamp = begins runs endpoint stamp

begins_by : (starts : Bool) (runs : List (Option SequenceTracker)) (endpoint : ℕ) (stamp : Stamp)
    → placement_by starts (trackers_left starts runs endpoint) endpoint stamp ≡ InSequence
begins_by true runs endpoint stamp = begins runs endpoint stamp
begins_by false runs endpoint stamp = refl

pub begins_in_sequence : (before after : IngressFilter) (sent : Sent) (room : RoomState) (stamp : Stamp) (judged : Judged)
    → is_there room sent.endpoint sent.moment ≡ false → PlacesOwn (welcomed before sent room) after sent stamp judged → judged ≡ Take
begins_in_sequence before after sent room stamp judged away places =
    places.is_judged
    ∙ ap (λ (s : IngressFilter). judged_by (placement_by s.rules.new_starts s.starts sent.endpoint stamp))
    (cond-false (is_there room sent.endpoint sent.moment) before (come_anew before sent.endpoint) away)
    ∙ ap judged_by (begins_by before.rules.new_starts before.starts sent.endpoint stamp)
