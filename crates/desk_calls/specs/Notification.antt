-- The datagrams that follow from a desk's call, to the publisher whose rate is asked for and to its
-- subscribers (RFC 5104, sections 4.2.1 and 4.2.2; RFC 4585, section 6.3.1).
use Rattle.std.specs.Prelude.{◌≡◌, ◌==◌, ℕ, ◌+◌, ◌*◌, ◌^◌, ◌<◌, nat_lt, Bool, false, not, ◌&&◌, ◌||◌, List, [], ◌∷◌, ◌++◌, length, filter, flat_map, Option, None, Some, IfSome, is_some, slice_get, if◌then◌else◌}
use Rattle.std.specs.Option.{option_map_or}
use Rattle.tmmbr_tuple.specs.declared.ssrc.Ssrc.{Ssrc}
use Rattle.tmmbr_tuple.specs.Tuple.{word_of}
use Rattle.rate_cert.specs.declared.request.Request.{Request}
use Rattle.desk.specs.declared.effect.Effect.{Effect}
use Rattle.desk.specs.Effect.{is_member}
use Rattle.rtcp_feedback.specs.declared.tmmb.TmmbrEntry.{TmmbrEntry}
use Rattle.rtcp_feedback.specs.Writing.{packet_bytes, tmmb_body, pli_body}
use Rattle.announcement.specs.Entries.{entries_of}
use Rattle.members.specs.declared.order.Row.{Row}
use Rattle.settings.specs.declared.settings.LegSettings.{LegSettings}
use Rattle.events.specs.declared.output.Out.{Out}
use Rattle.events.specs.declared.output.Out.TheVariants.{Send}
use Rattle.desk_calls.specs.declared.notification.Notification.{Notification}
use Rattle.desk_calls.specs.Head.{Identity, report_head}
use Rattle.settings.specs.Links.{LinkTable, legs_of}
use Rattle.rtcp_compound.specs.declared.packet.TheConstants.{RTPFB, PSFB}
use Rattle.desk.specs.declared.call.Answer.{Answer}
use Rattle.desk.specs.Call.{is_done, is_answered_up}

-- the word of the greatest rate that can be spelled, without overhead: it lifts a bound
abbrev pub no_limit : ℕ
no_limit = 63 * 2 ^ 26 + 131071 * 2 ^ 9

-- whether the announced set changed: a member that came is fresh; one that is gone is lifted, or its
-- owner has another word now, which is fresh
abbrev pub is_changed : Effect → Bool
is_changed e = nat_lt 0 (length e.lifted.items) || nat_lt 0 (length e.fresh.items)

-- the same members: owners with their words
abbrev pub HasSameMembers : List Request → List Request → Type 0
HasSameMembers former now = (r : Request) → is_member former r ≡ is_member now r

-- what is told of: an accepted request, a changed set, and a PLI that is due
abbrev pub tells : Notification → Effect → Bool
tells n e = is_some n.asked_by || (is_changed e || n.pli)

-- the publisher and the leg that asked are those of this table
pub record IsAmong (table : LinkTable) (n : Notification) : Type 0 where
  pub publisher : n.publisher < length table.endpoints
  pub asked_by : IfSome n.asked_by (λ leg. leg < length table.legs)

-- a TMMBR of this owner that asks the publisher for the rate and the overhead of the word
abbrev pub tmmbr_bytes : Ssrc → ℕ → Ssrc → List ℕ
tmmbr_bytes publisher word owner =
    packet_bytes 3 RTPFB (tmmb_body owner.0 (record { ssrc = publisher; word = word } ∷ []))

-- what the publisher is asked for: no limit by each owner that is lifted, then each fresh request
abbrev pub lifted_bytes : Ssrc → List Ssrc → List ℕ
lifted_bytes publisher owners = flat_map (tmmbr_bytes publisher no_limit) owners

abbrev pub fresh_bytes : Ssrc → List Request → List ℕ
fresh_bytes publisher requests =
    flat_map (λ r. tmmbr_bytes publisher (word_of r.tuple) r.owner) requests

abbrev pub requests_bytes : Ssrc → Effect → List ℕ
requests_bytes publisher e =
    lifted_bytes publisher e.lifted.items ++ fresh_bytes publisher e.fresh.items

-- a PLI of the unit about this source
abbrev pub pli_bytes : Identity → Ssrc → List ℕ
pli_bytes unit source = packet_bytes 1 PSFB (pli_body unit.ssrc source.0)

-- a TMMBN of the source that a leg's subscriber sees
abbrev pub tmmbn_bytes : Ssrc → List TmmbrEntry → List ℕ
tmmbn_bytes sender entries = packet_bytes 4 RTPFB (tmmb_body sender.0 entries)

-- the notice with these entries that goes to the subscriber of this leg
abbrev pub notice_to : LinkTable → Identity → List TmmbrEntry → ℕ → List Out
notice_to table unit entries leg = option_map_or
    (λ (l : LegSettings).
    Send l.subscriber (report_head unit ++ tmmbn_bytes l.out_ssrc entries) ∷ [])
    (slice_get table.legs leg) []

-- whether a stay stands in the leg, by the published rows
abbrev pub has_stay : List Row → ℕ → Bool
has_stay rows leg = option_map_or (λ (r : Row). nat_lt 0 r.stay) (slice_get rows leg) false

-- whether it is a leg with a stay, and not the one that asked
abbrev pub is_other : List Row → Option ℕ → ℕ → Bool
is_other rows asked_by leg =
    has_stay rows leg && not (option_map_or (λ asked. asked == leg) asked_by false)

-- the other legs of the publisher, rising
abbrev pub others_of : LinkTable → List Row → Notification → List ℕ
others_of table rows n = filter (is_other rows n.asked_by) (legs_of table n.publisher)

-- a datagram to the publisher with what follows for its source
abbrev pub to_publisher : LinkTable → Identity → ℕ → (Ssrc → List ℕ) → List Out
to_publisher table unit publisher bytes_for = option_map_or
    (λ source. Send publisher (report_head unit ++ bytes_for source) ∷ [])
    (slice_get table.endpoints publisher) []

-- 1. where the set changed: what the publisher is asked for
abbrev pub requests_upstream : LinkTable → Identity → Notification → Effect → List Out
requests_upstream table unit n e =
    if is_changed e
    then to_publisher table unit n.publisher (λ source. requests_bytes source e)
    else []

-- 2. after an accepted request: the set, to who asked
abbrev pub notice_to_owner : LinkTable → Identity → Notification → Effect → List Out
notice_to_owner table unit n e =
    option_map_or (notice_to table unit (entries_of e.set.items)) n.asked_by []

-- 3. where the set changed: the set, to each other leg of the publisher in which a stay stands
abbrev pub notices_to_others : LinkTable → Identity → List Row → Notification → Effect → List Out
notices_to_others table unit rows n e =
    if is_changed e
    then flat_map (notice_to table unit (entries_of e.set.items)) (others_of table rows n)
    else []

-- 4. where a picture is wanted: a picture loss indication to the publisher
abbrev pub picture_upstream : LinkTable → Identity → Notification → List Out
picture_upstream table unit n =
    if n.pli then to_publisher table unit n.publisher (pli_bytes unit) else []

-- all that follows from a desk's call, in this order
-- (RFC 5104, sections 4.2.1 and 4.2.2; RFC 4585, section 6.3.1)
abbrev pub notification_datagrams :
    LinkTable → Identity → List Row → Notification → Effect → List Out
notification_datagrams table unit rows n e =
    requests_upstream table unit n e
    ++ (notice_to_owner table unit n e
    ++ (notices_to_others table unit rows n e ++ picture_upstream table unit n))

-- a notification that waits, and the effect that it tells
pub record Pending : Type 0 where
  pub notification : Notification
  pub effect : Effect

abbrev pub pending_with : Effect → Notification → Pending
pending_with effect n = record { notification = n; effect = effect }

-- what is to be told of a call of this publisher's desk that is answered so
abbrev pub told_of : ℕ → Option ℕ → Answer → Notification
told_of p leg answer = record {
  publisher = p;
  asked_by = if is_done answer then leg else None;
  pli = is_answered_up answer;
}

-- it waits with the call's effect, where there is anything to tell
abbrev pub pending_of : ℕ → Option ℕ → Answer → Effect → Option Pending
pending_of p leg answer effect =
    if tells (told_of p leg answer) effect
    then Some (pending_with effect (told_of p leg answer))
    else None
