-- How a body is read: its entries one after the other, and what it says by its FMT and type.
use Rattle.std.specs.Prelude.{◌≡◌, ◌==◌, ℕ, ◌%◌, ◌&&◌, List, [], ◌∷◌, length, Result, Ok, Err, MatchResult, if◌then◌else◌}
use Rattle.byteorder.specs.Endian.{big_number}
use Rattle.rtcp_feedback.specs.declared.fault.FbFault.{FbFault}
use Rattle.rtcp_feedback.specs.declared.fault.FbFault.TheVariants.{OddFci}
use Rattle.rtcp_feedback.specs.declared.nack.Nack.{Nack}
use Rattle.rtcp_feedback.specs.declared.nack.Nacks.{Nacks}
use Rattle.rtcp_feedback.specs.declared.tmmb.TmmbrEntry.{TmmbrEntry}
use Rattle.rtcp_feedback.specs.declared.tmmb.TmmbEntries.{TmmbEntries}
use Rattle.rtcp_feedback.specs.declared.feedback.Feedback.{Feedback}
use Rattle.rtcp_feedback.specs.declared.feedback.Feedback.TheVariants.{Nack as Lost, Pli, Tmmbr, Tmmbn, Unknown}
use Rattle.rtcp_feedback.specs.Grammar.{Message, nack, pli, tmmbr, tmmbn, unknown}
use Rattle.rtcp_feedback.specs.declared.packet.TheConstants.{RTPFB, PSFB}

-- the entries of a NACK, four bytes each; fewer at the end are none
abbrev pub nacks_in : List ℕ → List Nack
nacks_in (a ∷ (b ∷ (c ∷ (d ∷ rest)))) =
    record { pid = big_number 2 (a ∷ (b ∷ [])); blp = big_number 2 (c ∷ (d ∷ [])) } ∷ nacks_in rest
nacks_in _ = []

-- the entries of a TMMBR or a TMMBN, eight bytes each; fewer at the end are none
abbrev pub entries_in : List ℕ → List TmmbrEntry
entries_in (a ∷ (b ∷ (c ∷ (d ∷ (e ∷ (f ∷ (g ∷ (h ∷ rest)))))))) =
    record {
      ssrc = record { 0 = big_number 4 (a ∷ (b ∷ (c ∷ (d ∷ [])))) };
      word = big_number 4 (e ∷ (f ∷ (g ∷ (h ∷ []))));
    } ∷ entries_in rest
entries_in _ = []

-- what iterators have left to yield
abbrev pub nacks_left : Nacks → List Nack
nacks_left n = nacks_in n.rest.now

abbrev pub entries_left : TmmbEntries → List TmmbrEntry
entries_left e = entries_in e.rest.now

-- what was read stands for
abbrev pub message_of : Feedback → Message
message_of (Lost sender media entries) = nack sender.0 media.0 (nacks_left entries)
message_of (Pli sender media) = pli sender.0 media.0
message_of (Tmmbr sender entries) = tmmbr sender.0 (entries_left entries)
message_of (Tmmbn sender entries) = tmmbn sender.0 (entries_left entries)
message_of (Unknown sender) = unknown sender.0

-- what a packet of this FMT and type says after its two sources
unfoldable pub message_at : ℕ → ℕ → ℕ → ℕ → List ℕ → Result Message FbFault
message_at fmt kind sender media fci =
    if (kind == RTPFB) && (fmt == 1)
    then (if length fci % 4 == 0 then Ok (nack sender media (nacks_in fci)) else Err OddFci)
    else if (kind == RTPFB) && (fmt == 3)
    then (if length fci % 8 == 0 then Ok (tmmbr sender (entries_in fci)) else Err OddFci)
    else if (kind == RTPFB) && (fmt == 4)
    then (if length fci % 8 == 0 then Ok (tmmbn sender (entries_in fci)) else Err OddFci)
    else if (kind == PSFB) && (fmt == 1) then Ok (pli sender media)
    else Ok (unknown sender)

-- what a call gives is what reading gives, seen by view
abbrev pub Gives : {X Y : Type 0} → (X → Y) → Result X FbFault → Result Y FbFault → Type 0
Gives view r read = MatchResult r (λ x. read ≡ Ok (view x)) (λ f. read ≡ Err f)
