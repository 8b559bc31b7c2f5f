-- A set that is asked for again wasn't told, and who is lifted again is gone and was named.
use Rattle.std.proofs.Common.{◌≡◌, ◌≢◌, ◌∙◌, ◌==◌, ◌++◌, ℕ, Bool, true, false, List, [], ◌∷◌, refl, sym, ap}
use Rattle.std.specs.Prelude.{◌&&◌, ◌||◌, not, Option, if◌then◌else◌}
use Rattle.std.specs.Cmp.Lexicographic.{pointwise}
use Rattle.std.specs.List.{list_any}
use Rattle.std.proofs.lemmas.Bool.{eqb-true}
use Rattle.std.proofs.lemmas.List.Folds.{list_any-append}
use Rattle.tmmbr_tuple.specs.declared.ssrc.Ssrc.{Ssrc}
use Rattle.rtcp_feedback.specs.declared.tmmb.TmmbrEntry.{TmmbrEntry}
use Rattle.policy.specs.AnnouncedSets.{IsHeldInVain, IsUnacknowledged, SetHappening, SetState, are_acknowledged, asked_for, asks_again, came_anew, has_asked_last, has_notified, is_among, is_lifted_again, is_own, is_same, is_some_set, live_last, looked_at, may_be_named, may_hold, named_before, named_since, names_owner, notified, set_after, acknowledged_last, with_passers}

told_is : (happenings : List SetHappening) → (set_after happenings).acknowledged ≡ acknowledged_last happenings
told_is [] = refl
told_is (asked_for owner ∷ earlier) = told_is earlier
told_is (notified entries ∷ earlier) = refl
told_is (came_anew ∷ earlier) = refl
told_is (looked_at set live ∷ earlier) = told_is earlier

not_second : (a b : Bool) → (a && not b) ≡ true → b ≡ false
not_second true true h = absurd (cc)
not_second true false h = refl
not_second false b h = absurd (cc)

first_of_three : (a b c : Bool) → ((a && b) && c) ≡ true → a ≡ true
first_of_three true b c h = refl
first_of_three false b c h = absurd (cc)

not_empty : (set : List TmmbrEntry) → is_some_set set ≡ true → set ≢ []
not_empty [] h = absurd (cc)
not_empty (e ∷ es) h = λ same. cc

pub asks_untold : (happenings : List SetHappening) (set : List TmmbrEntry) → asks_again (set_after happenings) set ≡ true
    → IsUnacknowledged happenings set
asks_untold happenings set again =
    let s : SetState = set_after happenings in
    record {
      some = not_empty set (first_of_three (is_some_set set) (pointwise is_same set s.seen) (not (are_acknowledged s.acknowledged set)) again);
      untold = ap (λ (acknowledged : List TmmbrEntry). are_acknowledged acknowledged set) (sym (told_is happenings))
          ∙ not_second (is_some_set set && pointwise is_same set s.seen) (are_acknowledged s.acknowledged set) again;
    }

has_told_is : (happenings : List SetHappening) → (set_after happenings).has_acknowledged ≡ has_notified happenings
has_told_is [] = refl
has_told_is (asked_for owner ∷ earlier) = has_told_is earlier
has_told_is (notified entries ∷ earlier) = refl
has_told_is (came_anew ∷ earlier) = refl
has_told_is (looked_at set live ∷ earlier) = has_told_is earlier

-- ---- who is noted as one that asked is among those that asked, once each

same_among : (owners : List Ssrc) (who owner : Ssrc) → (who.0 == owner.0) ≡ true → is_among owners owner ≡ is_among owners who
same_among owners who owner same =
    ap (λ (n : ℕ). list_any (λ (o : Ssrc). o.0 == n) owners) (sym (eqb-true who.0 owner.0 same))

among_kept : (owners : List Ssrc) (who owner : Ssrc) (b : Bool) → (who.0 == owner.0) ≡ b → is_among owners who ≡ true
    → is_among owners owner ≡ (b || is_among owners owner)
among_kept owners who owner true same is = same_among owners who owner same ∙ is
among_kept owners who owner false other is = refl

or_other : (a b : Bool) → (a || (b || false)) ≡ (b || a)
or_other true true = refl
or_other true false = refl
or_other false true = refl
or_other false false = refl

among_noted : (owners : List Ssrc) (who owner : Ssrc) (b : Bool) → is_among owners who ≡ b
    → is_among (if b then owners else owners ++ who ∷ []) owner ≡ ((who.0 == owner.0) || is_among owners owner)
among_noted owners who owner true is = among_kept owners who owner (who.0 == owner.0) refl is
among_noted owners who owner false is =
    list_any-append (λ (o : Ssrc). o.0 == owner.0) owners (who ∷ []) ∙ or_other (is_among owners owner) (who.0 == owner.0)

recent_is : (happenings : List SetHappening) (owner : Ssrc)
    → is_among (set_after happenings).recent owner ≡ is_among (named_since happenings) owner
recent_is [] owner = refl
recent_is (asked_for who ∷ earlier) owner =
    let recent : List Ssrc = (set_after earlier).recent in
    among_noted recent who owner (is_among recent who) refl ∙ ap (λ (b : Bool). (who.0 == owner.0) || b) (recent_is earlier owner)
recent_is (notified entries ∷ earlier) owner = recent_is earlier owner
recent_is (came_anew ∷ earlier) owner = refl
recent_is (looked_at set live ∷ earlier) owner = refl

live_is : (happenings : List SetHappening) → (set_after happenings).live ≡ live_last happenings
live_is [] = refl
live_is (asked_for who ∷ earlier) = live_is earlier
live_is (notified entries ∷ earlier) = live_is earlier
live_is (came_anew ∷ earlier) = refl
live_is (looked_at set live ∷ earlier) = refl

asked_is : (happenings : List SetHappening) → (set_after happenings).has_asked_since ≡ has_asked_last happenings
asked_is [] = refl
asked_is (asked_for who ∷ earlier) = refl
asked_is (notified entries ∷ earlier) = asked_is earlier
asked_is (came_anew ∷ earlier) = refl
asked_is (looked_at set live ∷ earlier) = refl

-- whom the set may have named is noted behind those that asked
passers_are : (happenings : List SetHappening) (live : List TmmbrEntry) (owner : Ssrc)
    → is_among (with_passers live (set_after happenings)).recent owner
    ≡ is_among (named_since happenings ++ may_be_named (has_asked_last happenings) live (live_last happenings)) owner
passers_are happenings live owner =
    let s : SetState = set_after happenings in
    list_any-append (λ (o : Ssrc). o.0 == owner.0) s.recent (may_be_named s.has_asked_since live s.live)
    ∙ ap (λ (b : Bool). b || is_among (may_be_named s.has_asked_since live s.live) owner) (recent_is happenings owner)
    ∙ ap (λ (owners : List Ssrc). is_among (named_since happenings) owner || is_among (may_be_named s.has_asked_since live owners) owner) (live_is happenings)
    ∙ ap (λ (b : Bool). is_among (named_since happenings) owner || is_among (may_be_named b live (live_last happenings)) owner) (asked_is happenings)
    ∙ sym (list_any-append (λ (o : Ssrc). o.0 == owner.0) (named_since happenings) (may_be_named (has_asked_last happenings) live (live_last happenings)))

earlier_is : (happenings : List SetHappening) (owner : Ssrc)
    → is_among (set_after happenings).earlier owner ≡ is_among (named_before happenings) owner
earlier_is [] owner = refl
earlier_is (asked_for who ∷ earlier) owner = earlier_is earlier owner
earlier_is (notified entries ∷ earlier) owner = earlier_is earlier owner
earlier_is (came_anew ∷ earlier) owner = refl
earlier_is (looked_at set live ∷ earlier) owner = passers_are earlier live owner

not_the_first : (a b c : Bool) → ((not a && not b) && c) ≡ true → a ≡ false
not_the_first true b c h = absurd (cc)
not_the_first false b c h = refl

not_the_second : (a b c : Bool) → ((not a && not b) && c) ≡ true → b ≡ false
not_the_second true true c h = absurd (cc)
not_the_second false true c h = absurd (cc)
not_the_second a false c h = refl

the_third : (a b c : Bool) → ((not a && not b) && c) ≡ true → c ≡ true
the_third true b c h = absurd (cc)
the_third false true c h = absurd (cc)
the_third false false c h = h

if_told : (acknowledged named same was : Bool) → (if acknowledged then named && same else was) ≡ true → acknowledged ≡ true → named ≡ true
if_told true true same was h is = refl
if_told true false same was h is = absurd (cc)
if_told false named same was h is = absurd (cc)

if_silent : (acknowledged named was : Bool) → (if acknowledged then named else was) ≡ true → acknowledged ≡ false → was ≡ true
if_silent true named was h is = absurd (cc)
if_silent false named was h is = h

pub lifts_the_gone : (happenings : List SetHappening) (set live : List TmmbrEntry) (own : Option Ssrc) (owner : Ssrc)
    → is_lifted_again (with_passers live (set_after happenings)) set own owner ≡ true → IsHeldInVain happenings set live own owner
lifts_the_gone happenings set live own owner lifted =
    let s : SetState = with_passers live (set_after happenings) in
    let by_told : Bool = names_owner s.acknowledged owner in
    let same : Bool = pointwise is_same set s.seen in
    let lately : Bool = is_among s.recent owner || is_among s.earlier owner in
    let holds : may_hold s set owner ≡ true =
    the_third (is_own own owner) (names_owner set owner) (may_hold s set owner) lifted in
    record {
      other = not_the_first (is_own own owner) (names_owner set owner) (may_hold s set owner) lifted;
      gone = not_the_second (is_own own owner) (names_owner set owner) (may_hold s set owner) lifted;
      named = λ notifies.
          ap (λ (acknowledged : List TmmbrEntry). names_owner acknowledged owner) (sym (told_is happenings))
          ∙ if_told s.has_acknowledged by_told same lately holds (has_told_is happenings ∙ notifies);
      lately = λ silent.
          ap (λ (b : Bool). b || is_among (named_before happenings) owner) (sym (passers_are happenings live owner))
          ∙ ap (λ (b : Bool). is_among s.recent owner || b) (sym (earlier_is happenings owner))
          ∙ if_silent s.has_acknowledged (by_told && same) lately holds (has_told_is happenings ∙ silent);
    }
