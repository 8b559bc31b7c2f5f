-- Each figure of the counts as a metric: its name, what it is, and its value.
use Rattle.std.specs.Prelude.{ℕ, ◌++◌, List, [], ◌∷◌, codes, flat_map, map}
use Rattle.stats.specs.declared.figures.EndpointFigure.{EndpointFigure}
use Rattle.stats.specs.declared.figures.EndpointFigure.TheVariants as endpoint
use Rattle.stats.specs.declared.figures.LegFigure.{LegFigure}
use Rattle.stats.specs.declared.figures.LegFigure.TheVariants as leg
use Rattle.stats.specs.declared.figures.Numbered.{Numbered}
use Rattle.stats.specs.declared.leg_count.LegCount.{LegCount}
use Rattle.stats.specs.declared.metrics.MetricType.TheVariants.{Counter}
use Rattle.stats.specs.declared.metrics.Sample.{Sample}
use Rattle.stats.specs.declared.endpoint_count.EndpointCount.{EndpointCount}
use Rattle.stats.specs.declared.subjects.Subject.{Subject}
use Rattle.stats.specs.Metrics.{metric_text}

-- ---- of an endpoint

abbrev pub endpoint_figures : List EndpointFigure
endpoint_figures =
    endpoint.HeardRtp
    ∷ endpoint.HeardRtcp
    ∷ endpoint.HeardBytes
    ∷ endpoint.HeardNacks
    ∷ endpoint.HeardPlis
    ∷ endpoint.HeardTmmbrs
    ∷ endpoint.HeardTmmbns
    ∷ endpoint.Sent
    ∷ endpoint.SentBytes
    ∷ endpoint.Failed
    ∷ endpoint.SentPlis
    ∷ endpoint.SentTmmbrs
    ∷ endpoint.SentTmmbns ∷ []

abbrev pub endpoint_value : EndpointFigure → EndpointCount → ℕ
endpoint_value endpoint.HeardRtp c = c.heard_rtp
endpoint_value endpoint.HeardRtcp c = c.heard_rtcp
endpoint_value endpoint.HeardBytes c = c.heard_octets
endpoint_value endpoint.HeardNacks c = c.asked.nacks
endpoint_value endpoint.HeardPlis c = c.asked.plis
endpoint_value endpoint.HeardTmmbrs c = c.asked.tmmbrs
endpoint_value endpoint.HeardTmmbns c = c.asked.tmmbns
endpoint_value endpoint.Sent c = c.sent
endpoint_value endpoint.SentBytes c = c.sent_octets
endpoint_value endpoint.Failed c = c.failed
endpoint_value endpoint.SentPlis c = c.told.plis
endpoint_value endpoint.SentTmmbrs c = c.told.tmmbrs
endpoint_value endpoint.SentTmmbns c = c.told.tmmbns

abbrev pub endpoint_name : EndpointFigure → List ℕ
endpoint_name endpoint.HeardRtp = codes "sfu_rtp_packets_received_total"
endpoint_name endpoint.HeardRtcp = codes "sfu_rtcp_datagrams_received_total"
endpoint_name endpoint.HeardBytes = codes "sfu_received_bytes_total"
endpoint_name endpoint.HeardNacks = codes "sfu_nacks_received_total"
endpoint_name endpoint.HeardPlis = codes "sfu_plis_received_total"
endpoint_name endpoint.HeardTmmbrs = codes "sfu_tmmbrs_received_total"
endpoint_name endpoint.HeardTmmbns = codes "sfu_tmmbns_received_total"
endpoint_name endpoint.Sent = codes "sfu_datagrams_sent_total"
endpoint_name endpoint.SentBytes = codes "sfu_sent_bytes_total"
endpoint_name endpoint.Failed = codes "sfu_send_failures_total"
endpoint_name endpoint.SentPlis = codes "sfu_plis_sent_total"
endpoint_name endpoint.SentTmmbrs = codes "sfu_tmmbrs_sent_total"
endpoint_name endpoint.SentTmmbns = codes "sfu_tmmbns_sent_total"

abbrev pub endpoint_help : EndpointFigure → List ℕ
endpoint_help endpoint.HeardRtp = codes "RTP packets that came from the endpoint."
endpoint_help endpoint.HeardRtcp = codes "RTCP datagrams that came from the endpoint."
endpoint_help endpoint.HeardBytes = codes "Bytes of the datagrams that came from the endpoint."
endpoint_help endpoint.HeardNacks = codes "Generic NACKs that came from the endpoint."
endpoint_help endpoint.HeardPlis = codes "Picture loss indications that came from the endpoint."
endpoint_help endpoint.HeardTmmbrs = codes "TMMBR packets that came from the endpoint."
endpoint_help endpoint.HeardTmmbns = codes "TMMBN packets that came from the endpoint."
endpoint_help endpoint.Sent = codes "Datagrams that were sent to the endpoint."
endpoint_help endpoint.SentBytes = codes "Bytes of the datagrams that were sent to the endpoint."
endpoint_help endpoint.Failed = codes "Datagrams that couldn't be sent to the endpoint."
endpoint_help endpoint.SentPlis = codes "Picture loss indications that were sent to the endpoint."
endpoint_help endpoint.SentTmmbrs = codes "TMMBR packets that were sent to the endpoint."
endpoint_help endpoint.SentTmmbns = codes "TMMBN packets that were sent to the endpoint."

abbrev pub endpoint_sample : EndpointFigure → Numbered EndpointCount → Sample
endpoint_sample f n = record { number = n.number; value = endpoint_value f n.count }

abbrev pub endpoint_text : EndpointFigure → List Subject → List (Numbered EndpointCount) → List ℕ
endpoint_text f subjects counts =
    metric_text (endpoint_name f) (endpoint_help f) Counter subjects (map (endpoint_sample f) counts)

-- ---- of a leg

abbrev pub leg_figures : List LegFigure
leg_figures = leg.Packets ∷ leg.Bytes ∷ leg.Resent ∷ leg.Missed ∷ leg.Skipped ∷ []

abbrev pub leg_value : LegFigure → LegCount → ℕ
leg_value leg.Packets c = c.packets
leg_value leg.Bytes c = c.octets
leg_value leg.Resent c = c.resent
leg_value leg.Missed c = c.missed
leg_value leg.Skipped c = c.skipped

abbrev pub leg_name : LegFigure → List ℕ
leg_name leg.Packets = codes "sfu_leg_packets_sent_total"
leg_name leg.Bytes = codes "sfu_leg_payload_bytes_sent_total"
leg_name leg.Resent = codes "sfu_leg_packets_resent_total"
leg_name leg.Missed = codes "sfu_leg_packets_missed_total"
leg_name leg.Skipped = codes "sfu_leg_packets_skipped_total"

abbrev pub leg_help : LegFigure → List ℕ
leg_help leg.Packets = codes "RTP packets that were sent on the leg, repeated ones too."
leg_help leg.Bytes = codes "Payload bytes that were sent on the leg."
leg_help leg.Resent = codes "RTP packets that were sent on the leg once more."
leg_help leg.Missed = codes "RTP packets that were asked for on the leg and not kept."
leg_help leg.Skipped = codes "RTP packets that were too old to be sent on on the leg."

abbrev pub leg_sample : LegFigure → Numbered LegCount → Sample
leg_sample f n = record { number = n.number; value = leg_value f n.count }

abbrev pub leg_text : LegFigure → List Subject → List (Numbered LegCount) → List ℕ
leg_text f subjects counts =
    metric_text (leg_name f) (leg_help f) Counter subjects (map (leg_sample f) counts)

-- ---- all of them

-- each figure of endpoints and of legs as a metric
abbrev pub figures_text : List Subject → List Subject → List (Numbered EndpointCount) → List (Numbered LegCount)
    → List ℕ
figures_text endpoint_subjects leg_subjects endpoints legs =
    flat_map (λ (f : EndpointFigure). endpoint_text f endpoint_subjects endpoints) endpoint_figures
    ++ flat_map (λ (f : LegFigure). leg_text f leg_subjects legs) leg_figures
