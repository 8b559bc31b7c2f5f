-- A session description (RFC 8866).
use Rattle.std.specs.Prelude.{◌==◌, ℕ, List, [], ◌∷◌, ◌++◌, codes, decimal, flat_map, String, if◌then◌else◌}
use Rattle.std.specs.Global.{Global}
use Rattle.std.specs.String.{string_bytes}
use Rattle.std.specs.Net.Socket.{socket_ip, socket_port}
use Rattle.std.specs.Net.Text.{ip_text}
use Rattle.std.specs.declared.net.ip_addr.IpAddr.{IpAddr}
use Rattle.std.specs.declared.net.ip_addr.IpAddr.TheVariants.{V4, V6}
use Rattle.cli.specs.declared.sdp.session.Session.{Session}
use Rattle.cli.specs.declared.sdp.stream.Stream.{Stream}
use Rattle.cli.specs.declared.sdp.session.TheConstants.{NAME}
use Rattle.cli.specs.declared.sdp.stream.TheConstants.{FEEDBACK, SHARED}
use Rattle.cli.specs.Encoding.{is_video}
use Rattle.settings_toml.specs.Formats.{payload_type}

abbrev pub version_word : IpAddr → List ℕ
version_word (V4 address) = codes "IP4 "
version_word (V6 address) = codes "IP6 "

unfoldable pub origin_line : IpAddr → List ℕ
origin_line unit =
    codes "v=0\r\no=- 0 0 IN " ++ (version_word unit ++ (ip_text unit ++ codes "\r\n"))

-- pictures or sound, by the first encoding
abbrev pub kind_word : List (String Global) → List ℕ
kind_word [] = codes "m=audio "
kind_word (first ∷ others) =
    if is_video (string_bytes first) then codes "m=video " else codes "m=audio "

-- the port; and the profile with feedback, which the lines `rtcp-fb` of each stream need (RFC 4585, section 4)
unfoldable pub port_words : ℕ → List ℕ
port_words port = decimal port ++ codes " RTP/AVPF"

unfoldable pub payload_word_of : List ℕ → List ℕ
payload_word_of encoding = codes " " ++ payload_type encoding

abbrev pub payload_word : String Global → List ℕ
payload_word encoding = payload_word_of (string_bytes encoding)

unfoldable pub media_line : ℕ → List (String Global) → List ℕ
media_line port rtpmap =
    kind_word rtpmap ++ (port_words port ++ (flat_map payload_word rtpmap ++ codes "\r\n"))

unfoldable pub connection_line : IpAddr → List ℕ
connection_line address =
    codes "c=IN " ++ (version_word address ++ (ip_text address ++ codes "\r\n"))

unfoldable pub rtpmap_line_of : List ℕ → List ℕ
rtpmap_line_of encoding = codes "a=rtpmap:" ++ (encoding ++ codes "\r\n")

abbrev pub rtpmap_line : String Global → List ℕ
rtpmap_line encoding = rtpmap_line_of (string_bytes encoding)

unfoldable pub fmtp_line_of : List ℕ → List ℕ
fmtp_line_of parameters = codes "a=fmtp:" ++ (parameters ++ codes "\r\n")

abbrev pub fmtp_line : String Global → List ℕ
fmtp_line parameters = fmtp_line_of (string_bytes parameters)

unfoldable pub encodings_text : List (String Global) → List (String Global) → List ℕ
encodings_text rtpmap fmtp = flat_map rtpmap_line rtpmap ++ flat_map fmtp_line fmtp

unfoldable pub rtcp_words : ℕ → List ℕ
rtcp_words port = codes "a=rtcp:" ++ (decimal port ++ codes "\r\n")

-- RTCP comes to the same port (RFC 5761), or to its own (RFC 3605)
abbrev pub rtcp_line : ℕ → ℕ → List ℕ
rtcp_line port rtcp = if rtcp == port then SHARED.now else rtcp_words rtcp

unfoldable pub ssrc_line : ℕ → List ℕ → List ℕ
ssrc_line ssrc cname =
    codes "a=ssrc:" ++ (decimal ssrc ++ (codes " cname:" ++ (cname ++ codes "\r\n")))

-- a media description: what comes to which port, how it is encoded, where RTCP goes, the source, and the feedback that is taken
unfoldable pub stream_text : Stream → List ℕ
stream_text stream =
    media_line (socket_port stream.address) stream.rtpmap.now
    ++ (connection_line (socket_ip stream.address)
    ++ (encodings_text stream.rtpmap.now stream.fmtp.now
    ++ (rtcp_line (socket_port stream.address) (socket_port stream.rtcp)
    ++ (ssrc_line stream.ssrc stream.cname.now ++ FEEDBACK.now))))

abbrev pub streams_text : List Stream → List ℕ
streams_text streams = flat_map stream_text streams

unfoldable pub session_text : Session → List ℕ
session_text session =
    origin_line session.unit
    ++ (NAME.now ++ streams_text session.streams.now)
