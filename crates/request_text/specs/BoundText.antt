-- The text that `sfu bound` prints.
use Rattle.std.specs.Prelude.{ℕ, List, ◌++◌, codes, flat_map, option_map, unwrap_or, slice_get, Result, Ok, Err}
use Rattle.std.specs.Fmt.{decimal}
use Rattle.hex.specs.Hex.{encode_lower}
use Rattle.byteorder.specs.Endian.{big_bytes}
use Rattle.tmmbr_tuple.specs.Tuple.{word_of}
use Rattle.rate_cert.specs.declared.request.Request.{Request}
use Rattle.rate_cert.specs.declared.certificate.Kept.{Kept}
use Rattle.rate_cert.specs.declared.certificate.Implied.{Implied}
use Rattle.rate_cert.specs.declared.fault.CertFault.{CertFault}
use Rattle.rate_cert.specs.declared.fault.CertFault.TheVariants.{Place, PairNotForbidden, TwoPairsForbidden, NotImplied, Missing}
use Rattle.bounding_set.specs.State.{State, announced_of}
use Rattle.rtcp_compound.specs.Fault.{rtcp_fault_number as rtcp_number}
use Rattle.rtcp_feedback.specs.Fault.{feedback_fault_number as feedback_number}
use Rattle.rtcp_feedback.specs.Writing.{packet_bytes, tmmb_body}
use Rattle.announcement.specs.Entries.{entries_of}
use Rattle.request_text.specs.declared.fault.LineFault.{LineFault}
use Rattle.request_text.specs.declared.fault.LineFault.TheVariants.{Hex, Rtcp, Feedback, Full, Text}
use Rattle.request_text.specs.Lines.{Refused}
use Rattle.rtcp_compound.specs.declared.packet.TheConstants.{RTPFB}

-- the TMMBN that announces a set (RFC 5104, section 4.2.2)
abbrev pub announcement : ℕ → List Request → List ℕ
announcement sender announced = packet_bytes 4 RTPFB (tmmb_body sender (entries_of announced))

-- the owner and the tuple of the row at a place
unfoldable pub owner_at : List Request → ℕ → ℕ
owner_at rows place = unwrap_or (option_map (λ (r : Request). r.owner.0) (slice_get rows place)) 0

unfoldable pub word_at : List Request → ℕ → ℕ
word_at rows place =
    unwrap_or (option_map (λ (r : Request). word_of r.tuple) (slice_get rows place)) 0

-- a row: its owner in decimal, and its word in eight hexadecimal digits
unfoldable pub row_text : List Request → ℕ → List ℕ
row_text rows place =
    decimal (owner_at rows place) ++ (codes " " ++ encode_lower (big_bytes 4 (word_at rows place)))

abbrev pub kept_line : List Request → Kept → List ℕ
kept_line rows k =
    codes "kept "
    ++ (row_text rows k.place
    ++ (codes " pair " ++ (decimal k.pair.packets ++ (codes " " ++ (decimal k.pair.bits
    ++ (codes " " ++ (decimal k.pair.seconds ++ codes "\n")))))))

abbrev pub implied_line : List Request → Implied → List ℕ
implied_line rows i =
    codes "implied "
    ++ (row_text rows i.place ++ (codes " by "
    ++ (decimal (owner_at rows i.a) ++ (codes " " ++ (decimal (owner_at rows i.b)
    ++ (codes " times "
    ++ (decimal i.p
    ++ (codes " " ++ (decimal i.q ++ (codes " " ++ (decimal i.r ++ codes "\n")))))))))))

-- all that is printed for these live requests: the TMMBN in hexadecimal, then the certificate
abbrev pub bound_text : ℕ → State → List ℕ
bound_text media s =
    encode_lower (announcement media (announced_of s)) ++ codes "\n"
    ++ flat_map (kept_line s.rows) s.cert.kept.items
    ++ flat_map (implied_line s.rows) s.cert.implied.items

-- a fault by its number
abbrev pub fault_text : LineFault → List ℕ
fault_text Hex = codes "hex\n"
fault_text (Rtcp f) = codes "rtcp " ++ (decimal (rtcp_number f) ++ codes "\n")
fault_text (Feedback f) = codes "feedback " ++ (decimal (feedback_number f) ++ codes "\n")
fault_text Full = codes "full\n"
fault_text Text = codes "text\n"

-- what goes to the error output for a refused line
abbrev pub refused_text : Refused → List ℕ
refused_text r = codes "line " ++ (decimal r.line ++ (codes ": " ++ fault_text r.fault))

-- what `sfu check` prints: yes, or no with the number of the first condition that fails and its place
abbrev pub answer_text : Result (Unit {0}) CertFault → List ℕ
answer_text (Ok done) = codes "yes\n"
answer_text (Err Place) = codes "no 1\n"
answer_text (Err PairNotForbidden) = codes "no 2\n"
answer_text (Err (TwoPairsForbidden place)) = codes "no 3 " ++ (decimal place ++ codes "\n")
answer_text (Err (NotImplied place)) = codes "no 4 " ++ (decimal place ++ codes "\n")
answer_text (Err (Missing place)) = codes "no 5 " ++ (decimal place ++ codes "\n")

-- the TMMBN of a set, in hexadecimal
abbrev pub announced_line : ℕ → List Request → List ℕ
announced_line sender announced = encode_lower (announcement sender announced) ++ codes "\n"
