-- The texts of answers: lines, of which the last is `ok`, or `refused` and why.
use Rattle.std.specs.Prelude.{◌++◌, ℕ, Bool, true, false, Option, None, Some, List, [], codes}
use Rattle.std.specs.Fmt.{decimal}
use Rattle.std.specs.Net.Text.{socket_text}
use Rattle.std.specs.declared.net.socket_addr.SocketAddr.{SocketAddr}
use Rattle.ports.specs.declared.watch.Status.{Status}
use Rattle.tmmbr_tuple.specs.declared.ssrc.Ssrc.{Ssrc}
use Rattle.control_protocol.specs.declared.answer.EndpointLine.{EndpointLine}
use Rattle.control_protocol.specs.declared.answer.Refused.{Refused}
use Rattle.control_protocol.specs.declared.answer.Unheard.{Unheard}
use Rattle.control_protocol.specs.declared.answer.Refused.TheVariants.{Unknown, Leg, Publisher, Recorded, Unrecorded, Long, Full, Memory}

-- the text of a refusal, by what is refused
abbrev pub refusal_text : Refused → List ℕ
refusal_text Unknown = codes "refused unknown\n"
refusal_text Leg = codes "refused leg\n"
refusal_text Publisher = codes "refused publisher\n"
refusal_text Recorded = codes "refused recorded\n"
refusal_text Unrecorded = codes "refused unrecorded\n"
refusal_text Long = codes "refused long\n"
refusal_text Full = codes "refused full\n"
refusal_text Memory = codes "refused memory\n"

-- who is present, what came, what was sent, and what couldn't be
abbrev pub flow_part : Status → List ℕ
flow_part s =
    codes "present "
    ++ (decimal s.present ++ (codes " heard " ++ (decimal s.heard
    ++ (codes " sent " ++ (decimal s.sent ++ (codes " failed " ++ decimal s.failed))))))

-- what was lost or given up
abbrev pub loss_part : Status → List ℕ
loss_part s = codes " lost " ++ (decimal s.lost ++ (codes " dropped " ++ decimal s.dropped))

-- what came from strangers
abbrev pub unheard_part : Unheard → List ℕ
unheard_part u = codes " strangers " ++ decimal u.strangers

-- what the system dropped, if it says so
abbrev pub unread_part : Option ℕ → List ℕ
unread_part None = codes "\n"
unread_part (Some dropped) = codes " unread " ++ (decimal dropped ++ codes "\n")

-- the totals of a unit
abbrev pub counts_lines : Status → Unheard → List ℕ
counts_lines s u = flow_part s ++ (loss_part s ++ (unheard_part u ++ unread_part u.unread))

-- a stranger: its address, how many datagrams came from there, and how many milliseconds ago the last did
abbrev pub stranger_line : SocketAddr → ℕ → ℕ → List ℕ
stranger_line address count ago_ms =
    socket_text address
    ++ (codes " datagrams " ++ (decimal count ++ (codes " heard " ++ (decimal ago_ms ++ codes " ms ago\n"))))

abbrev pub presence_word : Bool → List ℕ
presence_word true = codes "present"
presence_word false = codes "absent"

-- an endpoint: its number, its source, its address, and whether it is present
abbrev pub who_part : ℕ → ℕ → SocketAddr → Bool → List ℕ
who_part endpoint source address is_present =
    decimal endpoint
    ++ (codes " ssrc " ++ (decimal source ++ (codes " at " ++ (socket_text address
    ++ (codes " " ++ presence_word is_present)))))

-- how many milliseconds ago it was heard last
abbrev pub heard_part : Option ℕ → List ℕ
heard_part None = codes " never heard"
heard_part (Some ago_ms) = codes " heard " ++ (decimal ago_ms ++ codes " ms ago")

-- how often something was refused of what came from it
abbrev pub refused_part : ℕ → List ℕ
refused_part refused = codes " refused " ++ decimal refused

-- whether it only listens
abbrev pub listening_word : Bool → List ℕ
listening_word true = codes " receive_only"
listening_word false = []

-- under which SSRC its client sends, and under which it asks
abbrev pub sends_part : Option Ssrc → List ℕ
sends_part None = []
sends_part (Some source) = codes " sends " ++ decimal source.0

abbrev pub asks_part : Option Ssrc → List ℕ
asks_part None = []
asks_part (Some source) = codes " asks " ++ decimal source.0

-- under which SSRC that isn't its own an RTP packet came from its address last
abbrev pub other_source_part : Option Ssrc → List ℕ
other_source_part None = []
other_source_part (Some source) = codes " under ssrc " ++ decimal source.0

-- what it is called
abbrev pub name_end : List ℕ → List ℕ
name_end name = codes " name " ++ (name ++ codes "\n")

abbrev pub end_part : EndpointLine → List ℕ
end_part l =
    listening_word l.only_listens
    ++ (sends_part l.sends ++ (asks_part l.asks ++ (other_source_part l.other_source ++ name_end l.name.now)))

-- The line of an endpoint: who it is, when it was heard last, how often something of it was refused, whether it only listens, under which SSRCs its
-- client sends and asks, and sent otherwise, and what it is called.
abbrev pub presence_line : EndpointLine → List ℕ
presence_line l =
    who_part l.endpoint l.source.0 l.address l.is_present
    ++ (heard_part l.heard_ago_ms ++ (refused_part l.refused ++ end_part l))
