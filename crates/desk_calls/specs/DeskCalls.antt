-- The calls of desks that the unit makes: whom a job asks, and for what.
use Rattle.std.specs.Prelude.{◌==◌, ℕ, Option, None, option_map, slice_get, slice_index_or, if◌then◌else◌, ◌≡◌, Some}
use Rattle.tmmbr_tuple.specs.declared.ssrc.Ssrc.{Ssrc}
use Rattle.settings.specs.declared.settings.LegSettings.{LegSettings}
use Rattle.desk.specs.declared.call.Call.{Call as DeskCall}
use Rattle.desk.specs.declared.call.Call.TheVariants.{Stay, Time}
use Rattle.desk.specs.declared.call.Change.{Change}
use Rattle.desk.specs.declared.call.Change.TheVariants as change
use Rattle.desk.specs.declared.call.Signal.TheVariants as signal
use Rattle.settings.specs.Links.{LinkTable}
use Rattle.tmmbr_tuple.specs.declared.tuple.Tuple.{Tuple}
use Rattle.tmmbr_tuple.specs.Tuple.{word_of}
use Rattle.desk.specs.Call.{HasStay}
use Rattle.events.specs.declared.job.Job.{Job}
use Rattle.events.specs.declared.job.Job.TheVariants.{Packet, Request, Resend, Pli, Report, Goodbye}
use Rattle.desk_calls.specs.declared.calls.Asks.{Asks}
use Rattle.desk_calls.specs.declared.calls.Asks.TheVariants.{Desk, Nobody, Legs}

-- the source of an endpoint
abbrev pub source_of : LinkTable → ℕ → Ssrc
source_of t endpoint = slice_index_or t.endpoints endpoint (record { 0 = 0 })

-- The publisher of a leg, and what its subscriber asks it for in a stay (RFC 5104, section 4.2.1); none where there is
-- no such leg, or the stay is 0.
abbrev pub stay_call : LinkTable → ℕ → ℕ → Change → Option (ℕ × DeskCall)
stay_call t leg stay change =
    if stay == 0 then None
    else option_map
    (λ (l : LegSettings). (l.publisher, Stay (source_of t l.subscriber) stay change))
    (slice_get t.legs leg)

-- the publisher of a leg, and that a picture of it is wanted (RFC 4585, section 6.3.1)
abbrev pub picture_call : LinkTable → ℕ → ℕ → Option (ℕ × DeskCall)
picture_call t leg moment =
    option_map (λ (l : LegSettings). (l.publisher, Time moment signal.Pli)) (slice_get t.legs leg)

-- the call of a desk, where there is one, by this leg where a rate is asked for
abbrev pub asks_by : Option ℕ → Option (ℕ × DeskCall) → Asks
asks_by leg None = Nobody
asks_by leg (Some (p, call)) = Desk (record { publisher = p; asked_by = leg; call = call })

-- Whom a job asks: for a rate (RFC 5104, section 4.2.1) or a picture (RFC 4585, section 6.3.1) the desk of its leg's
-- publisher, or nobody if there is no such leg or stay; else the worker's legs.
abbrev pub AsksOf : LinkTable → Job → Asks → Type 0
AsksOf t (Packet publisher bytes) asks = asks ≡ Legs
AsksOf t (Resend leg stay nack) asks = asks ≡ Legs
AsksOf t (Report leg stay sr) asks = asks ≡ Legs
AsksOf t (Goodbye leg) asks = asks ≡ Legs
AsksOf t (Request leg stay word) asks =
    (tuple : Tuple) × (word_of tuple ≡ word)
    × (asks ≡ asks_by (Some leg) (stay_call t leg stay (change.Request tuple)))
AsksOf t (Pli leg moment) asks = asks ≡ asks_by None (picture_call t leg moment)

-- a call of a desk is in a stay
abbrev pub IsCallable : Asks → Type 0
IsCallable (Desk q) = HasStay q.call
IsCallable Nobody = Unit {0}
IsCallable Legs = Unit {0}
