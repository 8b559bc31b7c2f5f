-- What a publisher is asked again: its announced set, if it was seen before and the publisher didn't notify of it; and to take a bound for
-- lifted whose owner the set hasn't, if it may not know (RFC 5104, sections 4.2.1.2 and 4.2.2).
use Rattle.std.specs.Prelude.{◌≡◌, ◌≢◌, ◌==◌, ◌&&◌, ◌||◌, ℕ, ◌+◌, nat_lt, nat_le, min, not, Bool, true, false, List, [], ◌∷◌, ◌++◌, filter, map, Option, None, Some, option_map, slice_get, slice_set, if◌then◌else◌}
use Rattle.std.specs.Cmp.Lexicographic.{pointwise}
use Rattle.std.specs.List.{list_all, list_any}
use Rattle.tmmbr_tuple.specs.declared.ssrc.Ssrc.{Ssrc}
use Rattle.rtcp_feedback.specs.declared.tmmb.TmmbrEntry.{TmmbrEntry}
use Rattle.policy.specs.declared.announced_sets.DueLook.{DueLook}
use Rattle.policy.specs.declared.announced_sets.DueLook.TheVariants.{Presence, Desk}

-- since a publisher came last: whether anybody asked it for a rate, and since the last look; the announced set that was seen then, and the owners
-- whose requests were live; the owners that the set named, and those that it may have named since; the same of the look before, up to that;
-- whether it notified, and of what last
pub record SetState : Type 0 where
  pub is_asked : Bool
  pub has_asked_since : Bool
  pub seen : List TmmbrEntry
  pub live : List Ssrc
  pub recent : List Ssrc
  pub earlier : List Ssrc
  pub has_acknowledged : Bool
  pub acknowledged : List TmmbrEntry

abbrev pub new_set : SetState
new_set = record { is_asked = false; has_asked_since = false; seen = []; live = []; recent = []; earlier = []; has_acknowledged = false; acknowledged = [] }

-- this owner is among these
abbrev pub is_among : List Ssrc → Ssrc → Bool
is_among owners owner = list_any (λ (o : Ssrc). o.0 == owner.0) owners

abbrev pub with_owner : Ssrc → List Ssrc → List Ssrc
with_owner owner owners = if is_among owners owner then owners else owners ++ owner ∷ []

abbrev pub owner_of : TmmbrEntry → Ssrc
owner_of e = e.ssrc

-- this owner asks for a rate, so that the set may name it (RFC 5104, section 4.2.1)
abbrev pub set_asked : Ssrc → SetState → SetState
set_asked owner s =
    record s { is_asked = true; has_asked_since = true; recent = with_owner owner s.recent }

abbrev pub set_acknowledged : List TmmbrEntry → SetState → SetState
set_acknowledged entries s = record s { has_acknowledged = true; acknowledged = entries }

-- the set that was seen last, with what is live: its owners are the latest, until others ask or leave
abbrev pub set_seen : List TmmbrEntry → List TmmbrEntry → SetState → SetState
set_seen set live s = record s {
  has_asked_since = false;
  seen = set;
  live = map owner_of live;
  recent = map owner_of set;
  earlier = s.recent;
}

-- its desk is looked at: it was asked for a rate, or notified
abbrev pub is_watched : SetState → Bool
is_watched s = s.is_asked || s.has_acknowledged

-- the same owner and word
abbrev pub is_same : TmmbrEntry → TmmbrEntry → Bool
is_same entry other = (entry.ssrc.0 == other.ssrc.0) && (entry.word == other.word)

-- each member of the set is among these
abbrev pub are_acknowledged : List TmmbrEntry → List TmmbrEntry → Bool
are_acknowledged acknowledged set = list_all (λ e. list_any (is_same e) acknowledged) set

abbrev pub is_some_set : List TmmbrEntry → Bool
is_some_set [] = false
is_some_set (entry ∷ entries) = true

-- a set is asked for again: it isn't empty, it is the one that was seen last, and the publisher didn't notify of all of it
-- (RFC 5104, sections 4.2.1.2 and 4.2.2)
abbrev pub asks_again : SetState → List TmmbrEntry → Bool
asks_again s set = (is_some_set set && pointwise is_same set s.seen) && not (are_acknowledged s.acknowledged set)

-- these entries name this owner
abbrev pub names_owner : List TmmbrEntry → Ssrc → Bool
names_owner entries owner = list_any (λ (e : TmmbrEntry). e.ssrc.0 == owner.0) entries

-- one of these owners left: none of its requests is live any more
abbrev pub has_left : List TmmbrEntry → List Ssrc → Bool
has_left live owners = list_any (λ o. not (names_owner live o)) owners

-- Whom the set may have named for a while since a look at which requests of these owners were live. While nobody asks and nobody leaves it stays as
-- it is. Else each of them may have come into it, since others left, and out of it again (RFC 5104, section 4.2.1).
abbrev pub may_be_named : Bool → List TmmbrEntry → List Ssrc → List Ssrc
may_be_named has_asked live owners = if has_asked || has_left live owners then owners else []

-- what is known as a look begins at which these requests are live
abbrev pub with_passers : List TmmbrEntry → SetState → SetState
with_passers live s =
    record s { recent = s.recent ++ may_be_named s.has_asked_since live s.live }

-- a look at a set, with what is live
abbrev pub set_looked : List TmmbrEntry → List TmmbrEntry → SetState → SetState
set_looked set live s = set_seen set live (with_passers live s)

-- The publisher may still keep to a bound of this owner: its last notification names it, and the set has been so since the last look; or, if
-- it never notified, one of the last two sets that were seen named it, or may have named it since the earlier one.
abbrev pub may_hold : SetState → List TmmbrEntry → Ssrc → Bool
may_hold s set owner =
    if s.has_acknowledged then names_owner s.acknowledged owner && pointwise is_same set s.seen
    else is_among s.recent owner || is_among s.earlier owner

-- the publisher's own source, if it has one
abbrev pub is_own : Option Ssrc → Ssrc → Bool
is_own None owner = false
is_own (Some own) owner = own.0 == owner.0

-- an owner is lifted again that isn't the publisher itself, and that the set doesn't name, if the publisher may still keep to its bound
abbrev pub is_lifted_again : SetState → List TmmbrEntry → Option Ssrc → Ssrc → Bool
is_lifted_again s set own owner =
    (not (is_own own owner) && not (names_owner set owner)) && may_hold s set owner

-- whether the set is asked for again, and who is lifted again
pub record SaidState : Type 0 where
  pub asks : Bool
  pub lifted : List Ssrc

-- What is said again to a publisher at a look at this set, of the sources of the unit's endpoints, in whose names alone it speaks.
abbrev pub said_again : SetState → List TmmbrEntry → Option Ssrc → List Ssrc → SaidState
said_again s set own sources = record {
  asks = asks_again s set;
  lifted = filter (is_lifted_again s set own) sources;
}

abbrev pub said_nothing : SaidState
said_nothing = record { asks = false; lifted = [] }

abbrev pub said_of : Option SetState → List TmmbrEntry → List TmmbrEntry → Option Ssrc → List Ssrc → SaidState
said_of None set live own sources = said_nothing
said_of (Some s) set live own sources = said_again (with_passers live s) set own sources

-- ---- all publishers

pub record SetsState : Type 0 where
  pub publishers : List SetState
  pub every_ms : ℕ
  pub due_ms : ℕ
  pub next : Option ℕ

abbrev pub changed_at : List SetState → ℕ → (SetState → SetState) → Option SetState → List SetState
changed_at sets publisher change None = sets
changed_at sets publisher change (Some s) = slice_set sets publisher (change s)

-- what is known of this publisher is changed so
abbrev pub with_set : SetsState → ℕ → (SetState → SetState) → SetsState
with_set s publisher change =
    record s { publishers = changed_at s.publishers publisher change (slice_get s.publishers publisher) }

-- what is said again to the publisher with this number, of endpoints with these sources, at a look at this set and these live requests
abbrev pub said_to : SetsState → ℕ → List TmmbrEntry → List TmmbrEntry → List Ssrc → SaidState
said_to s publisher set live sources =
    said_of (slice_get s.publishers publisher) set live (slice_get sources publisher) sources

-- ---- rounds of looks

-- the least number from this one on of a publisher that is looked at, of publishers of which the first has number n
abbrev pub next_watched : ℕ → ℕ → List SetState → Option ℕ
next_watched from n [] = None
next_watched from n (s ∷ sets) =
    if nat_le from n && is_watched s then Some n else next_watched from (n + 1) sets

abbrev pub look_at_desk : Option ℕ → Option DueLook
look_at_desk None = None
look_at_desk (Some number) = Some (Desk number)

-- as a round goes on the next desk of it is looked at; one that begins looks first who is present
abbrev pub look_in : Option ℕ → Bool → List SetState → Option DueLook
look_in (Some from) is_early sets = look_at_desk (next_watched from 0 sets)
look_in None is_early sets = if is_early then None else Some Presence

-- from which number on the round looks then
abbrev pub next_in : Option ℕ → Bool → List SetState → Option ℕ
next_in (Some from) is_early sets = option_map (λ number. number + 1) (next_watched from 0 sets)
next_in None is_early sets = if is_early then None else Some 0

abbrev pub due_after_look : Option ℕ → Bool → ℕ → ℕ → ℕ
due_after_look (Some from) is_early due_ms next_ms = due_ms
due_after_look None is_early due_ms next_ms = if is_early then due_ms else next_ms

-- what is looked at at this moment; nothing if there are no rounds
abbrev pub look_due : SetsState → ℕ → Option DueLook
look_due s moment =
    if s.every_ms == 0 then None else look_in s.next (nat_lt moment s.due_ms) s.publishers

abbrev pub after_look : SetsState → ℕ → SetsState
after_look s moment = record {
  publishers = s.publishers;
  every_ms = s.every_ms;
  due_ms = due_after_look s.next (nat_lt moment s.due_ms) s.due_ms (min (moment + s.every_ms) 18446744073709551615);
  next = next_in s.next (nat_lt moment s.due_ms) s.publishers;
}

-- who is named had its turn, and a round without anybody left ends; the next is due so long after this one began
abbrev pub sets_after : SetsState → ℕ → SetsState
sets_after s moment = if s.every_ms == 0 then s else after_look s moment

-- an endpoint is seen: of one that isn't present nothing is known, so that it is told nothing
abbrev pub with_presence : SetsState → ℕ → Bool → SetsState
with_presence s endpoint is_present = if is_present then s else with_set s endpoint (λ _. new_set)

-- ---- over all that happened, the latest first

-- this owner asks the publisher for a rate; the publisher notifies of these, or comes anew; or this announced set is seen, with these requests
-- live
pub data SetHappening : Type 0 where
  asked_for : Ssrc → SetHappening
  notified : List TmmbrEntry → SetHappening
  came_anew : SetHappening
  looked_at : List TmmbrEntry → List TmmbrEntry → SetHappening

abbrev pub set_with : SetState → SetHappening → SetState
set_with s (asked_for owner) = set_asked owner s
set_with s (notified entries) = set_acknowledged entries s
set_with s came_anew = new_set
set_with s (looked_at set live) = set_looked set live s

abbrev pub set_after : List SetHappening → SetState
set_after [] = new_set
set_after (h ∷ earlier) = set_with (set_after earlier) h

-- what it notified of last, since it came
abbrev pub acknowledged_last : List SetHappening → List TmmbrEntry
acknowledged_last [] = []
acknowledged_last (asked_for owner ∷ earlier) = acknowledged_last earlier
acknowledged_last (notified entries ∷ earlier) = entries
acknowledged_last (came_anew ∷ earlier) = []
acknowledged_last (looked_at set live ∷ earlier) = acknowledged_last earlier

abbrev pub has_notified : List SetHappening → Bool
has_notified [] = false
has_notified (asked_for owner ∷ earlier) = has_notified earlier
has_notified (notified entries ∷ earlier) = true
has_notified (came_anew ∷ earlier) = false
has_notified (looked_at set live ∷ earlier) = has_notified earlier

-- whom the set named when it was seen last, and who asked since; nobody before the publisher came
abbrev pub named_since : List SetHappening → List Ssrc
named_since [] = []
named_since (asked_for owner ∷ earlier) = owner ∷ named_since earlier
named_since (notified entries ∷ earlier) = named_since earlier
named_since (came_anew ∷ earlier) = []
named_since (looked_at set live ∷ earlier) = map owner_of set

-- whether anybody asked since the set was seen last
abbrev pub has_asked_last : List SetHappening → Bool
has_asked_last [] = false
has_asked_last (asked_for owner ∷ earlier) = true
has_asked_last (notified entries ∷ earlier) = has_asked_last earlier
has_asked_last (came_anew ∷ earlier) = false
has_asked_last (looked_at set live ∷ earlier) = false

-- whose requests were live when the set was seen last
abbrev pub live_last : List SetHappening → List Ssrc
live_last [] = []
live_last (asked_for owner ∷ earlier) = live_last earlier
live_last (notified entries ∷ earlier) = live_last earlier
live_last (came_anew ∷ earlier) = []
live_last (looked_at set live ∷ earlier) = map owner_of live

-- whom the set named before the look at which it was seen last, who asked between that one and this, and whom it may have named there
abbrev pub named_before : List SetHappening → List Ssrc
named_before [] = []
named_before (asked_for owner ∷ earlier) = named_before earlier
named_before (notified entries ∷ earlier) = named_before earlier
named_before (came_anew ∷ earlier) = []
named_before (looked_at set live ∷ earlier) =
    named_since earlier ++ may_be_named (has_asked_last earlier) live (live_last earlier)

-- The set isn't empty, and what the publisher notified of last doesn't list all of it (RFC 5104, section 4.2.2).
pub record IsUnacknowledged (happenings : List SetHappening) (set : List TmmbrEntry) : Type 0 where
  pub some : set ≢ []
  pub untold : are_acknowledged (acknowledged_last happenings) set ≡ false

-- The set doesn't name the owner, which isn't the publisher itself. If the publisher notified since it came, its last notification names the
-- owner; if not, one of the last two sets that were seen named it, or it asked since the earlier one, or the set may have named it since: so no third
-- look after finds it.
pub record IsHeldInVain (happenings : List SetHappening) (set live : List TmmbrEntry) (own : Option Ssrc) (owner : Ssrc)
    : Type 0 where
  pub other : is_own own owner ≡ false
  pub gone : names_owner set owner ≡ false
  pub named : has_notified happenings ≡ true → names_owner (acknowledged_last happenings) owner ≡ true
  pub lately : has_notified happenings ≡ false
      → (is_among (named_since happenings ++ may_be_named (has_asked_last happenings) live (live_last happenings)) owner
      || is_among (named_before happenings) owner) ≡ true
