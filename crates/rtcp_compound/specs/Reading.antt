-- How the packets of a datagram are read: the packet at the front, or the first of seven faults. What the faults are is
-- said in Fault.
use Rattle.std.specs.Prelude.{◌≡◌, ◌==◌, ℕ, zero, suc, ◌+◌, ◌-◌, ◌/◌, ◌%◌, not, ◌&&◌, ◌||◌, Bool, nat_lt, List, [], ◌∷◌, length, take, drop, slice_index, Option, None, Some, Result, Ok, Err, MatchResult, if◌then◌else◌, option_and_then, is_some}
use Rattle.rtcp_compound.specs.declared.fault.RtcpFault.{RtcpFault}
use Rattle.rtcp_compound.specs.declared.fault.RtcpFault.TheVariants.{Short, Version, Length, PaddingNotLast, Padding, CountOver, SdesUnended}
use Rattle.rtcp_compound.specs.declared.packet.Packet.{Packet as ReadPacket}
use Rattle.rtcp_compound.specs.Fault.{ends_in_padding, size_of}
use Rattle.rtcp_compound.specs.Grammar.{RtcpPacket, last_byte, reports_end, sources_end}
use Rattle.rtcp_compound.specs.declared.packet.TheConstants.{SR, RR, SDES, BYE}

infixl 10 ◌>>=◌
abbrev pub ◌>>=◌ : {A B : Type 0} → Result A RtcpFault → (A → Result B RtcpFault)
    → Result B RtcpFault
(Ok x) >>= f = f x
(Err e) >>= f = Err e

-- what a call gives is what reading gives, seen by view
abbrev pub Gives : {X Y : Type 0} → (X → Y) → Result X RtcpFault → Result Y RtcpFault → Type 0
Gives view r read = MatchResult r (λ x. read ≡ Ok (view x)) (λ f. read ≡ Err f)

abbrev pub is_padded : List ℕ → Bool
is_padded bytes = slice_index bytes 0 / 32 % 2 == 1

-- what follows the header at the front, as long as the header says, and the bytes after it
unfoldable pub content_at : List ℕ → Result (List ℕ × List ℕ) RtcpFault
content_at bytes =
    if nat_lt (length bytes) 4 then Err Short
    else if not (slice_index bytes 0 / 64 == 2) then Err Version
    else if nat_lt (length bytes) (size_of bytes) then Err Length
    else if is_padded bytes && nat_lt (size_of bytes) (length bytes) then Err PaddingNotLast
    else Ok (take (size_of bytes - 4) (drop 4 bytes), drop (size_of bytes) bytes)

-- how many bytes of padding end this: as many as its last byte says
unfoldable pub padding_in : Bool → List ℕ → Result ℕ RtcpFault
padding_in padded content =
    if not padded then Ok 0
    else if ends_in_padding content then Ok (last_byte content)
    else Err Padding

-- the bytes after the zero byte that ends the items; so many bytes of an item's text are still to come
abbrev pub after_items : ℕ → List ℕ → Option (List ℕ)
after_items (suc n) (b ∷ bs) = after_items n bs
after_items (suc n) [] = None
after_items zero [] = None
after_items zero (kind ∷ []) = if kind == 0 then Some [] else None
after_items zero (kind ∷ (len ∷ bs)) = if kind == 0 then Some (len ∷ bs) else after_items len bs

-- the bytes after a chunk, in a body that ends at a word boundary
unfoldable pub after_chunk : List ℕ → Option (List ℕ)
after_chunk body =
    if nat_lt (length body) 4 then None
    else option_and_then (λ rest. Some (drop (length rest % 4) rest)) (after_items 0 (drop 4 body))

abbrev pub after_chunks : ℕ → List ℕ → Option (List ℕ)
after_chunks zero body = Some body
after_chunks (suc n) body = option_and_then (after_chunks n) (after_chunk body)

-- the sources of a goodbye, and the reason if there is one, stand within the body
abbrev pub fits_bye : ℕ → List ℕ → Bool
fits_bye count body =
    not (nat_lt (length body) (sources_end count))
    && ((length body == sources_end count)
    || not (nat_lt (length body) (sources_end count + 1 + slice_index body (sources_end count))))

unfoldable pub fault_in : ℕ → ℕ → List ℕ → Option RtcpFault
fault_in kind count body =
    if kind == SR
    then (if nat_lt (length body) (reports_end SR count) then Some CountOver else None)
    else if kind == RR
    then (if nat_lt (length body) (reports_end RR count) then Some CountOver else None)
    else if kind == SDES then (if is_some (after_chunks count body) then None else Some SdesUnended)
    else if kind == BYE then (if fits_bye count body then None else Some CountOver)
    else None

abbrev pub unless : Option RtcpFault → RtcpPacket → Result RtcpPacket RtcpFault
unless None p = Ok p
unless (Some f) p = Err f

-- the packet at the front, and the bytes after it
unfoldable pub packet_at : List ℕ → Result (RtcpPacket × List ℕ) RtcpFault
packet_at bytes =
    content_at bytes >>= λ c.
    padding_in (is_padded bytes) c.0 >>= λ n.
    unless (fault_in (slice_index bytes 1) (slice_index bytes 0 % 32) (take (length c.0 - n) c.0))
    (record {
      count = slice_index bytes 0 % 32;
      kind = slice_index bytes 1;
      body = take (length c.0 - n) c.0;
      padding = drop (length c.0 - n) c.0;
    }) >>= λ p.
    Ok (p, c.1)

abbrev pub found_then : (List ℕ → List RtcpPacket) → Result (RtcpPacket × List ℕ) RtcpFault
    → List RtcpPacket
found_then others (Ok x) = x.0 ∷ others x.1
found_then others (Err f) = []

-- the packets that the bytes hold from the front up to a fault, at most so many
abbrev pub packets_within : ℕ → List ℕ → List RtcpPacket
packets_within zero bytes = []
packets_within (suc n) bytes = found_then (packets_within n) (packet_at bytes)

unfoldable pub packets_in : List ℕ → List RtcpPacket
packets_in bytes = packets_within (length bytes) bytes

-- header, body and padding
abbrev pub sizes : List RtcpPacket → ℕ
sizes [] = 0
sizes (p ∷ ps) = 4 + (length p.body + length p.padding) + sizes ps

-- the packets read from the front go on to the end: there is no fault
abbrev pub IsReadWhole : List ℕ → Type 0
IsReadWhole bytes = sizes (packets_in bytes) ≡ length bytes

-- the packet at the front by its header and padding alone, whatever its body holds, and the bytes after it
unfoldable pub frame_at : List ℕ → Result (RtcpPacket × List ℕ) RtcpFault
frame_at bytes =
    content_at bytes >>= λ c.
    padding_in (is_padded bytes) c.0 >>= λ n.
    Ok (
      record {
        count = slice_index bytes 0 % 32;
        kind = slice_index bytes 1;
        body = take (length c.0 - n) c.0;
        padding = drop (length c.0 - n) c.0;
      },
      c.1,
    )

-- what a packet that was read stands for
abbrev pub rtcp_packet_of : ReadPacket → RtcpPacket
rtcp_packet_of p =
    record { count = p.count; kind = p.kind; body = p.body.now; padding = p.padding.now }
