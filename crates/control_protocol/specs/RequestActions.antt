-- What a request leads to.
use Rattle.std.specs.Prelude.{ℕ, nat_lt, Option, None, Some, if◌then◌else◌}
use Rattle.ports.specs.declared.feed.Received.TheVariants as received
use Rattle.ports.specs.declared.watch.Look.TheVariants.{Presence, Desk}
use Rattle.control_protocol.specs.declared.answer.Refused.TheVariants.{Full, Leg, Publisher, Recorded, Unrecorded}
use Rattle.control_protocol.specs.declared.request.Request.{Request}
use Rattle.control_protocol.specs.declared.request.Request.TheVariants.{Select, Present, Legs as AskLegs, Counts as AskCounts, Metrics as AskMetrics, Reports as AskReports, Refusals as AskRefusals, Strangers as AskStrangers, Record as AskRecord, EndRecord as AskEndRecord, Follow as AskFollow, Stay as AskStay, Why as AskWhy, Show, Stop}
use Rattle.control_protocol.specs.Records.{record_meant}
use Rattle.control_protocol.specs.declared.records.RecordKind.{RecordKind}
use Rattle.control_protocol.specs.declared.request_action.RequestAction.{RequestAction}
use Rattle.control_protocol.specs.declared.request_action.UnitState.{UnitState}
use Rattle.control_protocol.specs.declared.request_action.RequestAction.TheVariants.{Refuse, Do, Counts, Look, Legs, Metrics, Reports, Refusals, Strangers, Why, Record, EndRecord, Follow, Stay}

-- of each leg, or of one; one that isn't there is refused
abbrev pub why_action : Option ℕ → ℕ → RequestAction
why_action None legs = Why None
why_action (Some leg) legs = if nat_lt leg legs then Why (Some leg) else Refuse Leg

-- the record that is meant ends, if one is
abbrev pub end_action : Option RecordKind → RequestAction
end_action None = Refuse Unrecorded
end_action (Some kind) = EndRecord kind

-- A selection or a stop comes to the unit as it was asked for; a leg or an endpoint that isn't there is refused. There is one record for peers at
-- a time, beside that of the file. Who may not follow or stay, since too many do, is told that.
abbrev pub action_for : Request → UnitState → RequestAction
action_for (Select leg on) unit = if nat_lt leg unit.legs then Do (received.Select leg on) else Refuse Leg
action_for Present unit = Look Presence
action_for AskLegs unit = Legs
action_for AskCounts unit = Counts
action_for AskMetrics unit = Metrics
action_for AskReports unit = Reports
action_for AskRefusals unit = Refusals
action_for AskStrangers unit = Strangers
action_for AskRecord unit = if unit.records.peer then Refuse Recorded else Record
action_for (AskEndRecord named) unit = end_action (record_meant unit.records named)
action_for AskFollow unit = if unit.may_follow then Follow else Refuse Full
action_for AskStay unit = if unit.may_stay then Stay else Refuse Full
action_for (AskWhy leg) unit = why_action leg unit.legs
action_for (Show publisher) unit =
    if nat_lt publisher unit.endpoints then Look (Desk publisher) else Refuse Publisher
action_for Stop unit = Do received.Stop
