-- How many octets came from each endpoint and went to it, by a unit's lines for `metrics`.
use Rattle.std.specs.Prelude.{ℕ, ◌==◌, ◌&&◌, ◌^◌, not, take, Bool, true, false, List, [], ◌∷◌, codes, flat_map, Option, None, Some, option_map, option_and_then, if◌then◌else◌}
use Rattle.std.specs.List.{prefix_len}
use Rattle.request_text.specs.Lines.{lines_of}
use Rattle.request_text.specs.Words.{number_under, words_in}
use Rattle.web.specs.declared.octets.Flow.{Flow}
use Rattle.web.specs.declared.octets.FlowCount.{FlowCount}
use Rattle.web.specs.declared.octets.Way.{Way}
use Rattle.web.specs.declared.octets.Way.TheVariants.{Heard, Sent}
use Rattle.web.specs.Endpoints.{as_list}
use Rattle.web.specs.Words.{without_start, word_at}

-- ---- NAME{endpoint="N",name="CALLED"} OCTETS

abbrev pub quote_place : List ℕ → ℕ
quote_place text = prefix_len (λ b. not (b == 34)) text

-- what stands before the first quotation mark
abbrev pub before_quote : List ℕ → List ℕ
before_quote text = take (quote_place text) text

abbrev pub endpoint_labelled : List ℕ → List ℕ → Option ℕ
endpoint_labelled start name =
    option_and_then (λ rest. number_under (2 ^ 16) (before_quote rest)) (without_start start name)

abbrev pub flow_of : Way → ℕ → Flow
flow_of way n = record { endpoint = n; way = way }

abbrev pub sent_called : List ℕ → Option Flow
sent_called name = option_map (flow_of Sent) (endpoint_labelled (codes "sfu_sent_bytes_total{endpoint=\"") name)

abbrev pub heard_or : Option ℕ → Option Flow → Option Flow
heard_or (Some n) other = Some (flow_of Heard n)
heard_or None other = other

abbrev pub flow_called : List ℕ → Option Flow
flow_called name =
    heard_or (endpoint_labelled (codes "sfu_received_bytes_total{endpoint=\"") name) (sent_called name)

abbrev pub words_flow : List (List ℕ) → Option FlowCount
words_flow words = option_and_then
    (λ flow. option_map (λ n. record { flow = flow; octets = n }) (number_under (2 ^ 64) (word_at words 1)))
    (flow_called (word_at words 0))

abbrev pub line_flows : List ℕ → List FlowCount
line_flows line = as_list (words_flow (words_in line))

unfoldable pub flows_in : List ℕ → List FlowCount
flows_in metrics = flat_map line_flows (lines_of metrics)

-- ---- one of them

abbrev pub is_same_way : Way → Way → Bool
is_same_way Heard Heard = true
is_same_way Heard Sent = false
is_same_way Sent Heard = false
is_same_way Sent Sent = true

abbrev pub is_same_flow : Flow → Flow → Bool
is_same_flow f g = is_same_way f.way g.way && (f.endpoint == g.endpoint)

-- the first count of the flow
abbrev pub octets_of : List FlowCount → Flow → Option ℕ
octets_of [] flow = None
octets_of (c ∷ flows) flow = if is_same_flow flow c.flow then Some c.octets else octets_of flows flow
