-- What is heard of a datagram if no more than so many entries of its feedback are.
use Rattle.std.specs.Prelude.{◌≡◌, ◌==◌, ◌+◌, ℕ, List, [], ◌∷◌, Option, None, Some, if◌then◌else◌}
use Rattle.desk_calls.specs.DeskCalls.{source_of}
use Rattle.datagram.specs.Reads.{Admission, IsSaidBy, IsSaidIn, asks_beyond, first_asks}
use Rattle.datagram.specs.declared.reading.Ask.{Ask}
use Rattle.datagram.specs.declared.reading.Reading.{Reading}
use Rattle.datagram.specs.declared.reading.What.{What}
use Rattle.events.specs.declared.event.Event.TheVariants.{Hear}
use Rattle.events.specs.declared.output.Out.{Out}
use Rattle.core_steps.specs.Run.{HasRun}
use Rattle.core_steps.specs.Waits.{as_counted}
use Rattle.core_steps.specs.World.{WorldState}
use Rattle.conference.specs.declared.limited.Limit.{Limit}

-- how many entries of one datagram are heard, if that is bounded, and how many were passed over
pub record EntryLimit : Type 0 where
  pub most : Option ℕ
  pub beyond : ℕ

abbrev pub limit_of : Limit → EntryLimit
limit_of l = record { most = l.most; beyond = l.beyond }

-- how many are heard by this key of the settings: all, if it is 0
abbrev pub most_by : ℕ → Option ℕ
most_by entry_limit = if entry_limit == 0 then None else Some entry_limit

-- none was passed over yet
abbrev pub limit_by : ℕ → EntryLimit
limit_by entry_limit = record { most = most_by entry_limit; beyond = 0 }

-- so many more were
abbrev pub passing : EntryLimit → ℕ → EntryLimit
passing limit more = record limit { beyond = as_counted (limit.beyond + more) }

-- What is heard for a datagram of the endpoint with this source: a datagram that says the same, but asks for the first so many entries alone;
-- the others are passed over. If there are none, it is the datagram itself.
pub record IsHeardFor (most : Option ℕ) (own : ℕ) (datagram heard : List ℕ) (beyond : ℕ)
    : Type 0 where
  pub what : What
  pub asks : List Ask
  pub says : IsSaidIn own datagram (record { what = what; asks = asks })
  pub cut : IsSaidIn own heard (record { what = what; asks = first_asks most asks })
  pub passed : beyond ≡ asks_beyond most asks
  pub whole : beyond ≡ 0 → heard ≡ datagram

-- what was read, as it is taken in
abbrev pub admitted : ℕ → Reading → List ℕ → Admission
admitted endpoint r bytes = record {
  endpoint = endpoint;
  what = r.what;
  asks = r.asks.items;
  bytes = bytes;
}

-- what is taken in is said by what is heard for the datagram
pub record IsTakenFor (most : Option ℕ) (own : ℕ) (datagram : List ℕ) (t : Admission) (beyond : ℕ)
    : Type 0 where
  pub heard : List ℕ
  pub is_heard : IsHeardFor most own datagram heard beyond
  pub said : IsSaidBy own t heard

-- what is heard for the datagram was taken in
pub record RunsLimited (moment endpoint : ℕ) (bytes : List ℕ) (most : Option ℕ) (beyond : ℕ)
    (old : WorldState) (outs : List Out) (new : WorldState) (all : List Out) : Type 0 where
  pub heard : List ℕ
  pub is_heard : IsHeardFor most (source_of old.setup.table endpoint).0 bytes heard beyond
  pub run : HasRun (Hear moment endpoint heard ∷ []) old outs new all

-- and what was passed over is counted
pub record TakesLimited (moment endpoint : ℕ) (bytes : List ℕ) (limit next : EntryLimit)
    (old : WorldState) (outs : List Out) (new : WorldState) (all : List Out) : Type 0 where
  pub beyond : ℕ
  pub runs : RunsLimited moment endpoint bytes limit.most beyond old outs new all
  pub passes : next ≡ passing limit beyond
