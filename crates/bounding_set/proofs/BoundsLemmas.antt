-- What is announced: the lines, or the stops, and when that changes.
use Rattle.std.proofs.Common.{None, ◌≡◌, ◌≢◌, IsTrue, Bool, List, [], ◌∷◌, length, refl, sym, ap, ◌∙◌, subst, arith}
use Rattle.std.specs.Prelude.{◌↔◌, All, Any, Contains, is_some}
use Rattle.std.proofs.lemmas.Bool.{false≢true}
use Rattle.std.proofs.lemmas.List.Elements.{All-contains}
use Rattle.rate_cert.specs.declared.request.Request.{Request}
use Rattle.rate_cert.specs.declared.certificate.Cert.{Cert}
use Rattle.rate_cert.specs.Choice.{chosen_requests}
use Rattle.rate_cert.specs.Certificate.{kept_places}
use Rattle.bounding_set.specs.Rows.{HasRisingOwners, tuple_of}
use Rattle.bounding_set.specs.Canonical.{StopsMedia}
use Rattle.bounding_set.specs.Announced.{AnnouncesList, HoldsStops, announced_among}
use Rattle.bounding_set.specs.Envelope.{IsEnvelopeOf}
use Rattle.bounding_set.proofs.EssentialLemmas.{AnnouncesList-from_envelope}
use Rattle.bounding_set.proofs.SplicedLemmas.{IsEnvelope-from_sending}
use Rattle.bounding_set.proofs.MemberLemmas.{HasOneMore, All-fewer}
use Rattle.bounding_set.proofs.DropLemmas.{owner_has}

-- if all rows send, the lines of their envelope are announced
pub AnnouncesList-lines : (rows lines : List Request) → HasRisingOwners rows → IsEnvelopeOf rows lines → All (λ r. ¬ StopsMedia r) rows
    → AnnouncesList rows lines
AnnouncesList-lines rows lines rising envelope send =
    AnnouncesList-from_envelope rows lines (IsEnvelope-from_sending rows lines envelope send) send rising

-- a list in which some request stops the media isn't one whose requests all send
stops_send_not : (stops lines : List Request) → Any StopsMedia stops → All (λ l. ¬ StopsMedia l) lines → stops ≢ lines
stops_send_not stops lines (k, r, below, is, stopped) send same =
    All-contains (λ l. ¬ StopsMedia l) lines r send (subst (λ ls. Contains ls r) same (k, below, is)) stopped

-- a row that stops the media is among rows that hold stops
one_stops : (rows stops : List Request) → AnnouncesList rows stops → Any StopsMedia stops → All (λ r. ¬ StopsMedia r) rows → ⊥
one_stops rows stops list (k, r, below, is, stopped) send =
    All-contains (λ q. ¬ StopsMedia q) rows r send (All-contains (Contains rows) stops r list.are_rows (k, below, is)) stopped

-- if all rows send, there are no stops
pub no_stops : (rows stops : List Request) → HoldsStops rows stops → All (λ r. ¬ StopsMedia r) rows → stops ≡ []
no_stops rows [] holds send = refl
no_stops rows (s ∷ ss) holds send = absurd (one_stops rows (s ∷ ss) (holds.announced (omega arith)) (holds.stopped (omega arith)) send)

-- if they did before one more came that does, there were none
pub no_stops_before : (rows rows' stops : List Request) (x : Request) → HoldsStops rows stops → HasOneMore rows' rows x → All (λ r. ¬ StopsMedia r) rows'
    → stops ≡ []
no_stops_before rows rows' stops x holds one send = no_stops rows stops holds (All-fewer (λ r. ¬ StopsMedia r) rows' rows x one send)

-- what is announced, if slices have what the lists have
pub chosen_among : (rows rows' lines lines' stops stops' : List Request) (cert : Cert) → rows' ≡ rows → lines' ≡ lines → stops' ≡ stops
    → chosen_requests rows' (kept_places cert) ≡ announced_among stops' lines' → chosen_requests rows (kept_places cert) ≡ announced_among stops lines
chosen_among rows rows' lines lines' stops stops' cert same_rows same_lines same_stops chosen =
    ap (λ rs. chosen_requests rs (kept_places cert)) (sym same_rows)
    ∙ chosen
    ∙ ap (announced_among stops') same_lines
    ∙ ap (λ ss. announced_among ss lines) same_stops

-- What is announced changes with the stops, and with the lines if there are no stops.
module _ (rows rows' : List Request) where
  pub other_stops : (stops stops' lines lines' : List Request) → HoldsStops rows stops → HoldsStops rows' stops' → All (λ l. ¬ StopsMedia l) lines
      → All (λ l. ¬ StopsMedia l) lines' → stops' ≢ stops → announced_among stops' lines' ≢ announced_among stops lines
  other_stops [] [] lines lines' holds holds' send send' differ same = differ refl
  other_stops [] (s ∷ ss) lines lines' holds holds' send send' differ same = stops_send_not (s ∷ ss) lines (holds'.stopped (omega arith)) send same
  other_stops (t ∷ ts) [] lines lines' holds holds' send send' differ same =
      stops_send_not (t ∷ ts) lines' (holds.stopped (omega arith)) send' (sym same)
  other_stops (t ∷ ts) (s ∷ ss) lines lines' holds holds' send send' differ same = differ same

  pub other_lines : (stops stops' lines lines' : List Request) (empty : Bool) → HoldsStops rows stops → All (λ l. ¬ StopsMedia l) lines'
      → (stops' ≢ stops → ⊥) → lines' ≢ lines → (IsTrue empty ↔ (length stops' ≡ 0))
      → (IsTrue empty ↔ (announced_among stops' lines' ≢ announced_among stops lines))
  other_lines [] [] lines lines' empty holds send' stays differ is_empty = (λ is. differ, λ other. is_empty.1 refl)
  other_lines (t ∷ ts) [] lines lines' empty holds send' stays differ is_empty = (
    λ is same. stops_send_not (t ∷ ts) lines' (holds.stopped (omega arith)) send' (sym same),
    λ other. is_empty.1 refl,
  )
  other_lines stops (s ∷ ss) lines lines' empty holds send' stays differ is_empty = (
    λ is. absurd (omega (arith, is_empty.0 is)),
    λ other. absurd (stays (λ same. other (subst (λ zs. s ∷ ss ≡ announced_among zs lines) same refl))),
  )

pub nothing_other : (stops stops' lines lines' : List Request) → (stops' ≢ stops → ⊥) → (lines' ≢ lines → ⊥)
    → announced_among stops' lines' ≢ announced_among stops lines → ⊥
nothing_other stops stops' lines lines' stops_stay lines_stay other =
    stops_stay (λ same. lines_stay (λ same_lines.
    other (ap (announced_among stops') same_lines ∙ ap (λ ss. announced_among ss lines) same)))

-- if all rows send, whose request isn't announced has no line
pub no_line : (rows stops lines announced : List Request) (r : Request) → HoldsStops rows stops → All (λ q. ¬ StopsMedia q) rows
    → announced ≡ announced_among stops lines → tuple_of announced r.owner.0 ≡ None → Contains lines r → ⊥
no_line rows stops lines announced r holds send is absent has =
    let lines_are : announced ≡ lines = is ∙ ap (λ ss. announced_among ss lines) (no_stops rows stops holds send) in
    let none : tuple_of lines r.owner.0 ≡ None = sym (ap (λ ls. tuple_of ls r.owner.0) lines_are) ∙ absent in
    false≢true (sym (ap is_some none) ∙ owner_has lines has.0 r has.1 has.2)
