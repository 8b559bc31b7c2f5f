-- What is printed of what a script gives.
use Rattle.std.specs.Prelude.{◌==◌, ◌&&◌, ◌||◌, ℕ, ◌-◌, zero, suc, nat_le, Bool, true, false, List, [], ◌∷◌, ◌++◌, drop, length, map, replicate, slice_get, slice_index_or, Option, None, Some, codes, is_some, if◌then◌else◌}
use Rattle.std.specs.Fmt.{decimal}
use Rattle.settings.specs.Links.{LinkTable, leg_to}
use Rattle.settings.specs.Settings.{Configuration}
use Rattle.settings.specs.declared.settings.LegSettings.{LegSettings}
use Rattle.events.specs.declared.event.Event.{Event}
use Rattle.events.specs.declared.event.Event.TheVariants.{Hear, Tick, Select, Ingress, Work}
use Rattle.events.specs.declared.output.Out.{Out}
use Rattle.events.specs.declared.output.Out.TheVariants.{Send, Refused, Busy, Lost, Skip, Miss, Idle}
use Rattle.rtcp_compound.specs.Mux.{is_rtcp}
use Rattle.datagram.specs.Naming.{heard_size, source_named}
use Rattle.replay.specs.declared.last_packets.LastPacket.{LastPacket}
use Rattle.replay.specs.declared.latest.DatedInput.{DatedInput}
use Rattle.replay.specs.declared.latest.Incoming.{Incoming}
use Rattle.replay.specs.declared.latest.Incoming.TheVariants.{Moment, Datagram, Selection}
use Rattle.replay.specs.declared.latest.Latest.{Latest}
use Rattle.replay.specs.declared.script.Command.{Command}
use Rattle.replay.specs.declared.script.Command.TheVariants.{Do, Settle, Follow, Show}
use Rattle.replay.specs.declared.script.ScriptLine.{ScriptLine}
use Rattle.replay.specs.declared.script.ScriptLine.TheVariants.{Skipped, Command as ACommand, Unreadable}
use Rattle.replay.specs.declared.shown.Shown.{Shown}
use Rattle.replay.specs.declared.shown.Unknown.{Unknown}
use Rattle.replay.specs.declared.shown.Unknown.TheVariants as unknown
use Rattle.replay.specs.LastPackets.{no_packet, packets_after}
use Rattle.replay.specs.Marks.{is_made_mark, is_stranger_line}
use Rattle.replay.specs.OutText.{out_line}
use Rattle.replay.specs.Utc.{clock_text, moment_text}

-- ---- what a script gives

-- The event from which something follows: the number of its line, from 1, or 0 before the first event; its moment, what came, and the
-- line; and, of it and of the one that comes next, the comment before it that says that the unit made it, or nothing.
pub record Cause : Type 0 where
  pub number : ℕ
  pub moment : ℕ
  pub incoming : Incoming
  pub line : List ℕ
  pub mark : List ℕ
  pub next_mark : List ℕ

abbrev pub cause_of : Latest → Cause
cause_of latest = record {
  number = latest.number;
  moment = latest.input.moment;
  incoming = latest.input.incoming;
  line = latest.line.now;
  mark = latest.mark.now;
  next_mark = latest.next_mark.now;
}

abbrev pub no_cause : Cause
no_cause = record {
  number = 0;
  moment = 0;
  incoming = Moment;
  line = [];
  mark = [];
  next_mark = [];
}

abbrev pub event_input : Event → Option DatedInput
event_input (Hear moment endpoint bytes) =
    Some (record { moment = moment; incoming = Datagram endpoint })
event_input (Tick moment) = Some (record { moment = moment; incoming = Moment })
event_input (Select moment leg on) = Some (record { moment = moment; incoming = Selection leg })
event_input Ingress = None
event_input (Work worker) = None

abbrev pub command_input : Command → Option DatedInput
command_input (Do event) = event_input event
command_input Settle = None
command_input Follow = None
command_input (Show publisher) = None

-- what comes from outside by a line, and its moment
abbrev pub script_line_input : ScriptLine → Option DatedInput
script_line_input Skipped = None
script_line_input (ACommand command) = command_input command
script_line_input Unreadable = None

abbrev pub cause_at : ℕ → List ℕ → Option DatedInput → Cause → Cause
cause_at number line None before =
    if is_made_mark line then record before { next_mark = line } else before
cause_at number line (Some input) before = record {
  number = number;
  moment = input.moment;
  incoming = input.incoming;
  line = line;
  mark = before.next_mark;
  next_mark = [];
}

-- the latest event once the line of this number is read
abbrev pub cause_after : ℕ → List ℕ → ScriptLine → Cause → Cause
cause_after number line reading before = cause_at number line (script_line_input reading) before

-- that an event came, what the machine gave out, the line of a set that the script shows, a comment for an unknown sender, or that the script
-- is over
pub data Told : Type 0 where
  an_event : Told
  an_out : Out → Told
  a_set : List ℕ → Told
  a_comment : List ℕ → Told
  the_end : Told

-- what is told first of a line, by whether it is an event
abbrev pub event_told : Bool → List Told
event_told true = an_event ∷ []
event_told false = []

-- what is told of a line that is no command
abbrev pub comment_told : List ℕ → List Told
comment_told line = if is_stranger_line line then a_comment line ∷ [] else []

-- what is told of a command that gave these out
abbrev pub all_told : Command → List Out → List Told
all_told command outs = event_told (is_some (command_input command)) ++ map an_out outs

-- Something that a script gives, and the event from which it follows.
pub record Given : Type 0 where
  pub cause : Cause
  pub told : Told

abbrev pub given_at : Cause → List Told → List Given
given_at cause told = map (λ t. record { cause = cause; told = t }) told

-- ---- what is shown of it

-- By which legs it is judged what is shown, what is asked for, and what the wall clock said at moment 0, if moments are shown by it.
pub record Scene : Type 0 where
  pub table : LinkTable
  pub shown : Shown
  pub clock : Option ℕ

-- all of it, and nothing besides
abbrev pub all_shown : Shown
all_shown = record {
  only_leg = None;
  only_endpoint = None;
  from_ms = 0;
  events = false;
  gaps_ms = None;
  utc = false;
}

abbrev pub is_named : ℕ → Option ℕ → Bool
is_named source None = false
is_named source (Some other) = source == other

-- Whether a datagram names the source: RTP by its SSRC, RTCP by the word after the header of one of its packets, of which so many
-- are looked at.
abbrev pub names_source : ℕ → ℕ → List ℕ → Bool
names_source zero source datagram = false
names_source (suc left) source datagram =
    if is_named source (source_named datagram) then true
    else if is_rtcp datagram then names_source left source (drop (heard_size datagram) datagram)
    else false

-- a leg that is there, and goes to this endpoint
abbrev pub is_to : ℕ → Option LegSettings → Bool
is_to number None = false
is_to number (Some leg) = leg.subscriber == number

abbrev pub is_leg_to : LinkTable → ℕ → ℕ → Bool
is_leg_to t number leg = is_to number (slice_get t.legs leg)

-- an event is of an endpoint if it is a datagram of it, or a selection of a leg to it
abbrev pub is_of_endpoint : LinkTable → ℕ → Incoming → Bool
is_of_endpoint t number Moment = false
is_of_endpoint t number (Datagram endpoint) = endpoint == number
is_of_endpoint t number (Selection leg) = is_leg_to t number leg

-- an event is of a leg, which has this number, if it is a datagram of its publisher or its subscriber, or a selection of it
abbrev pub is_of_leg : ℕ → LegSettings → Incoming → Bool
is_of_leg number leg Moment = false
is_of_leg number leg (Datagram endpoint) =
    (endpoint == leg.publisher) || (endpoint == leg.subscriber)
is_of_leg number leg (Selection other) = other == number

-- A datagram to this endpoint, what isn't sent on a leg to it, and what is refused of an event of it.
abbrev pub goes_to : LinkTable → ℕ → Incoming → Out → Bool
goes_to t number incoming (Send endpoint bytes) = endpoint == number
goes_to t number incoming (Refused refusal) = is_of_endpoint t number incoming
goes_to t number incoming Busy = false
goes_to t number incoming (Lost worker) = false
goes_to t number incoming (Skip leg skip) = is_leg_to t number leg
goes_to t number incoming (Miss leg seq) = is_leg_to t number leg
goes_to t number incoming Idle = false

-- A datagram to the leg's subscriber that names the leg's source, what isn't sent on the leg, and what is refused of an event of it.
abbrev pub is_on_leg : ℕ → LegSettings → Incoming → Out → Bool
is_on_leg number leg incoming (Send endpoint bytes) =
    (endpoint == leg.subscriber) && names_source (length bytes) leg.out_ssrc.0 bytes
is_on_leg number leg incoming (Refused refusal) = is_of_leg number leg incoming
is_on_leg number leg incoming Busy = false
is_on_leg number leg incoming (Lost worker) = false
is_on_leg number leg incoming (Skip other skip) = other == number
is_on_leg number leg incoming (Miss other seq) = other == number
is_on_leg number leg incoming Idle = false

-- a leg that is there, with what this says of it
abbrev pub is_some_leg : (LegSettings → Bool) → Option LegSettings → Bool
is_some_leg test None = false
is_some_leg test (Some leg) = test leg

-- ---- by endpoint and by leg: whatever it is, if none is chosen

abbrev pub is_to_chosen : LinkTable → Option ℕ → Incoming → Out → Bool
is_to_chosen t None incoming out = true
is_to_chosen t (Some number) incoming out = goes_to t number incoming out

abbrev pub is_on_chosen : LinkTable → Option ℕ → Incoming → Out → Bool
is_on_chosen t None incoming out = true
is_on_chosen t (Some number) incoming out =
    is_some_leg (λ leg. is_on_leg number leg incoming out) (slice_get t.legs number)

abbrev pub is_of_chosen_endpoint : LinkTable → Option ℕ → Incoming → Bool
is_of_chosen_endpoint t None incoming = true
is_of_chosen_endpoint t (Some number) incoming = is_of_endpoint t number incoming

abbrev pub is_of_chosen_leg : LinkTable → Option ℕ → Incoming → Bool
is_of_chosen_leg t None incoming = true
is_of_chosen_leg t (Some number) incoming =
    is_some_leg (λ leg. is_of_leg number leg incoming) (slice_get t.legs number)

abbrev pub is_chosen_leg : Option ℕ → ℕ → Bool
is_chosen_leg None leg = true
is_chosen_leg (Some number) leg = leg == number

abbrev pub is_leg_to_chosen : LinkTable → Option ℕ → ℕ → Bool
is_leg_to_chosen t None leg = true
is_leg_to_chosen t (Some number) leg = is_leg_to t number leg

-- a leg of the endpoint and the number chosen, if any
abbrev pub is_leg_chosen : LinkTable → Shown → ℕ → Bool
is_leg_chosen t s leg = is_leg_to_chosen t s.only_endpoint leg && is_chosen_leg s.only_leg leg

abbrev pub is_selection : Incoming → Bool
is_selection Moment = false
is_selection (Datagram endpoint) = false
is_selection (Selection leg) = true

-- events are shown if they are asked for; of a leg or an endpoint that is chosen, selections are shown in any case
abbrev pub shows_event : Shown → Incoming → Bool
shows_event s incoming =
    s.events || (is_selection incoming && (is_some s.only_leg || is_some s.only_endpoint))

-- a set that the script shows is shown whatever is chosen
abbrev pub is_chosen : LinkTable → Shown → Incoming → Told → Bool
is_chosen t s incoming an_event =
    shows_event s incoming
    && (is_of_chosen_endpoint t s.only_endpoint incoming && is_of_chosen_leg t s.only_leg incoming)
is_chosen t s incoming (an_out out) =
    is_to_chosen t s.only_endpoint incoming out && is_on_chosen t s.only_leg incoming out
is_chosen t s incoming (a_set text) = true
is_chosen t s incoming (a_comment text) = false
is_chosen t s incoming the_end = false

-- whether what a script gives is shown: it follows from an event of this moment or a later one, and is of
-- the endpoint and the leg chosen, if any
abbrev pub is_shown : Scene → Given → Bool
is_shown v given =
    nat_le v.shown.from_ms given.cause.moment
    && is_chosen v.table v.shown given.cause.incoming given.told

-- ---- gaps

-- the leg on which a packet goes out: RTP to its subscriber, under its source
abbrev pub leg_taken : LinkTable → ℕ → List ℕ → Option ℕ → Option ℕ
leg_taken t endpoint bytes None = None
leg_taken t endpoint bytes (Some source) = if is_rtcp bytes then None else leg_to t endpoint source

abbrev pub leg_sent : LinkTable → Out → Option ℕ
leg_sent t (Send endpoint bytes) = leg_taken t endpoint bytes (source_named bytes)
leg_sent t (Refused refusal) = None
leg_sent t Busy = None
leg_sent t (Lost worker) = None
leg_sent t (Skip leg skip) = None
leg_sent t (Miss leg seq) = None
leg_sent t Idle = None

abbrev pub packet_at : Cause → LastPacket
packet_at cause = record { number = cause.number; moment = cause.moment }

abbrev pub is_long : Option ℕ → ℕ → Bool
is_long None gap = false
is_long (Some least) gap = nat_le least gap

-- a gap is shown of a leg that is chosen, if so many milliseconds lie between the last packet and an event of this moment or a later one
abbrev pub is_gap : Scene → Cause → ℕ → LastPacket → Bool
is_gap v cause leg last =
    is_long v.shown.gaps_ms (cause.moment - last.moment)
    && (nat_le v.shown.from_ms cause.moment && is_leg_chosen v.table v.shown leg)

-- the leg, the moments between which no packet went out on it, and the line of the event from which the last one followed
abbrev pub gap_line : Scene → Cause → ℕ → LastPacket → List ℕ
gap_line v cause leg last =
    codes "gap "
    ++ (decimal leg
    ++ (codes " "
    ++ (moment_text v.clock last.moment
    ++ (codes " "
    ++ (moment_text v.clock cause.moment
    ++ (codes " line " ++ (decimal last.number ++ codes "\n")))))))

-- a gap that the leg's next packet ends; there is none before its first
abbrev pub ended_gap : Scene → Cause → ℕ → LastPacket → List ℕ
ended_gap v cause leg last =
    if last.number == 0 then [] else if is_gap v cause leg last then gap_line v cause leg last else []

abbrev pub gap_before : Scene → List LastPacket → Cause → Option ℕ → List ℕ
gap_before v last cause None = []
gap_before v last cause (Some leg) = ended_gap v cause leg (slice_index_or last leg no_packet)

-- a gap that lasts when the script is over
abbrev pub open_gap : Scene → Cause → ℕ → LastPacket → List ℕ
open_gap v cause leg last = if is_gap v cause leg last then gap_line v cause leg last else []

-- the same of the first legs, so many
abbrev pub open_gaps : Scene → List LastPacket → Cause → ℕ → List ℕ
open_gaps v last cause zero = []
open_gaps v last cause (suc leg) =
    open_gaps v last cause leg ++ open_gap v cause leg (slice_index_or last leg no_packet)

-- a comment is shown among events, behind an event of this moment or a later one, whichever leg or endpoint is chosen
abbrev pub comment_line : Scene → Cause → List ℕ → List ℕ
comment_line v cause text =
    if v.shown.events && nat_le v.shown.from_ms cause.moment then text ++ codes "\n" else []

-- the gaps that end where this is told, or the comment that it is
abbrev pub told_beside : Scene → List LastPacket → Cause → Told → List ℕ
told_beside v last cause an_event = []
told_beside v last cause (an_out out) = gap_before v last cause (leg_sent v.table out)
told_beside v last cause (a_set text) = []
told_beside v last cause (a_comment text) = comment_line v cause text
told_beside v last cause the_end = open_gaps v last cause (length v.table.legs)

-- the last packet of each leg once this is told
abbrev pub last_told : Scene → List LastPacket → Cause → Told → List LastPacket
last_told v last cause an_event = last
last_told v last cause (an_out out) = packets_after last (leg_sent v.table out) (packet_at cause)
last_told v last cause (a_set text) = last
last_told v last cause (a_comment text) = last
last_told v last cause the_end = last

-- ---- its text

-- the comment before an event, if there is one
abbrev pub mark_line : List ℕ → List ℕ
mark_line [] = []
mark_line (b ∷ mark) = (b ∷ mark) ++ codes "\n"

-- the line of an event, after its moment if the wall clock is shown
abbrev pub dated_line : Scene → Cause → List ℕ
dated_line v cause = clock_text v.clock cause.moment ++ (cause.line ++ codes "\n")

-- the same, after that comment
abbrev pub event_line : Scene → Cause → List ℕ
event_line v cause = mark_line cause.mark ++ dated_line v cause

-- the same, if it isn't the one that stands there already
abbrev pub new_line : Scene → ℕ → Cause → List ℕ
new_line v said cause = if said == cause.number then [] else event_line v cause

-- the same, if events are to stand there
abbrev pub heading : Scene → ℕ → Cause → List ℕ
heading v said cause = if v.shown.events then new_line v said cause else []

-- the lines of this, with the event from which it follows; what stands before follows from the event of this number
abbrev pub told_text : Scene → ℕ → Cause → Told → List ℕ
told_text v said cause an_event = new_line v said cause
told_text v said cause (an_out out) = heading v said cause ++ out_line out
told_text v said cause (a_set text) = heading v said cause ++ text
told_text v said cause (a_comment text) = []
told_text v said cause the_end = []

abbrev pub shown_line : Scene → ℕ → Given → List ℕ
shown_line v said g = if is_shown v g then told_text v said g.cause g.told else []

abbrev pub said_after : Scene → ℕ → Given → ℕ
said_after v said g = if is_shown v g then g.cause.number else said

-- What the next lines depend on: the number of the event from which the last printed line follows, and the last packet of each leg.
pub record Trail : Type 0 where
  pub said : ℕ
  pub last : List LastPacket

abbrev pub trail : ℕ → List LastPacket → Trail
trail said last = record { said = said; last = last }

abbrev pub trail_after : Scene → Trail → Given → Trail
trail_after v t g = trail (said_after v t.said g) (last_told v t.last g.cause g.told)

-- the lines of one that a script gives: of the gaps that end there, and its own, if it is shown
abbrev pub lines_at : Scene → Trail → Given → List ℕ
lines_at v t g = told_beside v t.last g.cause g.told ++ shown_line v t.said g

-- the lines of these, one after the other
abbrev pub lines_behind : Scene → Trail → List Given → List ℕ
lines_behind v t [] = []
lines_behind v t (g ∷ given) = lines_at v t g ++ lines_behind v (trail_after v t g) given

abbrev pub trail_behind : Scene → Trail → List Given → Trail
trail_behind v t [] = t
trail_behind v t (g ∷ given) = trail_behind v (trail_after v t g) given

-- nothing is printed, and no packet went out
abbrev pub first_trail : Scene → Trail
first_trail v = trail 0 (replicate (length v.table.legs) no_packet)

-- the text of what is shown of all that a script gives
abbrev pub shown_text : Scene → List Given → List ℕ
shown_text v given = lines_behind v (first_trail v) given

-- ---- whom it names

abbrev pub is_missing : Option ℕ → ℕ → Bool
is_missing None count = false
is_missing (Some number) count = nat_le count number

-- an endpoint, or a leg, that is to be shown and isn't there
abbrev pub unknown_in : Configuration → Shown → Option Unknown
unknown_in c s =
    if is_missing s.only_endpoint (length c.endpoints) then Some unknown.Endpoint
    else if is_missing s.only_leg (length c.legs) then Some unknown.Leg
    else None
