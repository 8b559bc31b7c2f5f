-- Who is a peer: which place one who comes finds, and who makes room for it.
use Rattle.std.specs.Prelude.{◌≡◌, ◌≤◌, ◌<◌, ◌-◌, ◌++◌, ◌⊎◌, ℕ, Bool, true, false, nat_lt, List, [], ◌∷◌, length, map, count_by, take, slice_index, slice_set, if◌then◌else◌}
use Rattle.control_protocol.specs.declared.places.Place.{Place}
use Rattle.control_protocol.specs.declared.places.Place.TheVariants.{Free, Of, Nowhere}
use Rattle.control_protocol.specs.declared.places.TheConstants.{MAX_PEERS, MAX_STAYING, ROOM_AFTER_MS}

-- of peers that have said no whole line for so many milliseconds each, this one has said none for the longest
pub record IsMostSilent (silences : List ℕ) (k : ℕ) : Type 0 where
  pub there : k < length silences
  pub longest : (j : ℕ) → j < length silences → slice_index silences j ≤ slice_index silences k

-- A place is free while there are fewer peers than there may be. Else the one that has said no whole line for the longest makes room, if
-- that is long enough; if it isn't, nobody does.
abbrev pub IsPlaceAmong : List ℕ → Place → Type 0
IsPlaceAmong silences Free = length silences < MAX_PEERS
IsPlaceAmong silences (Of k) =
    (MAX_PEERS ≤ length silences) × (IsMostSilent silences k × (ROOM_AFTER_MS ≤ slice_index silences k))
IsPlaceAmong silences Nowhere =
    (MAX_PEERS ≤ length silences)
    × ((j : ℕ) → j < length silences → slice_index silences j < ROOM_AFTER_MS)

-- a peer: at which moment its last line came, and whether it said that it stays
pub record PeerState : Type 0 where
  pub since : ℕ
  pub stays : Bool

abbrev pub peer_of : ℕ → Bool → PeerState
peer_of since stays = record { since = since; stays = stays }

-- for how many milliseconds a peer has said no whole line by a moment; one that stays is never silent
abbrev pub silence_at : ℕ → PeerState → ℕ
silence_at moment p = if p.stays then 0 else moment - p.since

abbrev pub silences_at : ℕ → List PeerState → List ℕ
silences_at moment = map (silence_at moment)

-- the peers, once one who came at this moment has its place: who made room is gone
abbrev pub peers_with : Place → ℕ → List PeerState → List PeerState
peers_with Free moment peers = peers ++ peer_of moment false ∷ []
peers_with (Of k) moment peers = slice_set peers k (peer_of moment false)
peers_with Nowhere moment peers = peers

-- one who comes at this moment is let go, and the peers stay; or it has the place that it finds among them
abbrev pub TakesPlace : List PeerState → ℕ → List PeerState → Type 0
TakesPlace before moment after =
    (after ≡ before)
    ⊎ ((place : Place) × (IsPlaceAmong (silences_at moment before) place
    × (after ≡ peers_with place moment before)))

-- how many of these stay
abbrev pub staying : List PeerState → ℕ
staying peers = count_by (λ (p : PeerState). p.stays) peers

-- the last of these may stay: fewer of the others do than may
abbrev pub may_stay : List PeerState → Bool
may_stay peers = nat_lt (staying (take (length peers - 1) peers)) MAX_STAYING

-- the last of these stays from now on, and nothing else changes
abbrev pub LetsStay : List PeerState → List PeerState → Type 0
LetsStay before after =
    ((length before ≡ 0) × (after ≡ before))
    ⊎ ((others : List PeerState) × ((last : PeerState) × ((before ≡ others ++ last ∷ [])
    × (after ≡ others ++ peer_of last.since true ∷ []))))
