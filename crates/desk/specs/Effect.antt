-- What a call changed in the announced set.
use Rattle.std.specs.Prelude.{◌≡◌, ◌==◌, ℕ, ◌<◌, ◌↔◌, not, Bool, ◌&&◌, List, map, filter, AllPairs, Contains}
use Rattle.std.specs.List.{list_any}
use Rattle.tmmbr_tuple.specs.declared.ssrc.Ssrc.{Ssrc}
use Rattle.tmmbr_tuple.specs.Tuple.{word_of}
use Rattle.rate_cert.specs.declared.request.Request.{Request}
use Rattle.desk.specs.declared.effect.Effect.{Effect}

abbrev pub owners_of : List Request → List ℕ
owners_of requests = map (λ (r : Request). r.owner.0) requests

abbrev pub ssrcs_of : List Ssrc → List ℕ
ssrcs_of sources = map (λ (s : Ssrc). s.0) sources

-- a member of the set is an owner with its word, so that another spelling of its rate is another member
abbrev pub is_same : Request → Request → Bool
is_same x y = (x.owner.0 == y.owner.0) && (word_of x.tuple == word_of y.tuple)

abbrev pub is_member : List Request → Request → Bool
is_member requests r = list_any (is_same r) requests

-- the owners of the former set that have no request in the new one, by rising owner
-- (RFC 5104, sections 4.2.1 and 4.2.2)
pub record IsLifted (former now : List Request) (owners : List ℕ) : Type 0 where
  pub rising : AllPairs (λ x y. x < y) owners
  pub members : (owner : ℕ) → (Contains owners owner
      ↔ (Contains (owners_of former) owner × ¬ Contains (owners_of now) owner))

-- The set that is announced now; whose bounds it lifts; and its members that weren't in the former one, in listed order
-- (RFC 5104, sections 4.2.1 and 4.2.2).
pub record IsEffect (former now : List Request) (e : Effect) : Type 0 where
  pub announced : e.set.items ≡ now
  pub lifted : IsLifted former now (ssrcs_of e.lifted.items)
  pub fresh : e.fresh.items ≡ filter (λ r. not (is_member former r)) now
