-- Envelopes and their rows: one row more or less, and a line that is put in.
use Rattle.std.proofs.Common.{◌≡◌, ℕ, zero, suc, ◌+◌, ◌≤◌, ◌↔◌, Bool, IsTrue, List, [], ◌∷◌, length, get_or, take, drop, inl, inr, refl, sym, ap, ◌∙◌, subst, arith}
use Rattle.std.specs.Prelude.{All, Contains, ◌⊎◌}
use Rattle.std.proofs.lemmas.Bool.{cases_Bool}
use Rattle.std.proofs.lemmas.List.{length-append, length-take, length-drop}
use Rattle.std.proofs.lemmas.List.Elements.{All-contains, All-cons, All-tail, All-append, All-take, All-drop, Contains-get_or, Contains-append_right, AllWithin-from_all}
use Rattle.rate_cert.specs.declared.request.Request.{Request}
use Rattle.bounding_set.specs.Canonical.{HasSameLine, StopsMedia}
use Rattle.bounding_set.specs.Envelope.{Covers, TakesOver, KeepsLeastOwner, IsEnvelope, IsEnvelopeOf}
use Rattle.bounding_set.specs.Spliced.{IsSpliced, IsSplicedEnvelope}
use Rattle.bounding_set.proofs.WalkLemmas.{Covers-through}

-- an element is the first, or stands after it
pub Contains-cons_cases : {X : Type 0} (x : X) (xs : List X) (y : X) → Contains (x ∷ xs) y → (x ≡ y) ⊎ Contains xs y
Contains-cons_cases x xs y (zero, below, is) = inl is
Contains-cons_cases x xs y (suc k, below, is) = inr (k, omega arith, is)

pub Contains-head : {X : Type 0} (x : X) (xs : List X) → Contains (x ∷ xs) x
Contains-head x xs = (0, omega arith, refl)

pub Contains-tail : {X : Type 0} (x : X) (xs : List X) (y : X) → Contains xs y → Contains (x ∷ xs) y
Contains-tail x xs y is = Contains-append_right (x ∷ []) xs y is

-- l has the least owner of the rows with its line
abbrev pub IsLeastOf : List Request → Request → Type 0
IsLeastOf rows l = All (λ y. HasSameLine l y → l.owner.0 ≤ y.owner.0) rows

-- lists with the same members have the same envelopes
pub IsEnvelopeOf-members : (rows others lines : List Request) → ((r : Request) → Contains rows r → Contains others r)
    → ((r : Request) → Contains others r → Contains rows r) → IsEnvelopeOf rows lines → IsEnvelopeOf others lines
IsEnvelopeOf-members rows others lines to back envelope =
    let all_of : (P : Request → Type 0) → All P rows → All P others =
    λ P all k d below. All-contains P rows (get_or others k d) all (back (get_or others k d) (Contains-get_or others k d below)) in
    record {
      hull = envelope.hull;
      covers = all_of (λ r. ¬ StopsMedia r → Covers lines r) envelope.covers;
      are_rows = λ k d below. to (get_or lines k d) (envelope.are_rows k d below);
      send = envelope.send;
      least_owner = λ k d below. all_of (λ y. HasSameLine (get_or lines k d) y → (get_or lines k d).owner.0 ≤ y.owner.0) (envelope.least_owner k d below);
    }

-- a row that is no line may go
pub IsEnvelopeOf-without : (gone : Request) (rows lines : List Request) → IsEnvelopeOf (gone ∷ rows) lines → (¬ Contains lines gone)
    → IsEnvelopeOf rows lines
IsEnvelopeOf-without gone rows lines envelope not_line = record {
  hull = envelope.hull;
  covers = All-tail (λ r. ¬ StopsMedia r → Covers lines r) gone rows envelope.covers;
  are_rows = λ k d below. elim (Contains-cons_cases gone rows (get_or lines k d) (envelope.are_rows k d below)) [
    | inl is ↦ absurd (not_line (subst (Contains lines) (sym is) (Contains-get_or lines k d below)))
    | inr row ↦ row
  ];
  send = envelope.send;
  least_owner = λ k d below. All-tail (λ y. HasSameLine (get_or lines k d) y → (get_or lines k d).owner.0 ≤ y.owner.0) gone rows
      (envelope.least_owner k d below);
}

-- a row that the lines cover comes in, if no line of its own has a greater owner
pub IsEnvelopeOf-covered : (x : Request) (rows lines : List Request) → IsEnvelopeOf rows lines → (¬ StopsMedia x → Covers lines x)
    → KeepsLeastOwner lines x → IsEnvelopeOf (x ∷ rows) lines
IsEnvelopeOf-covered x rows lines envelope covers least = record {
  hull = envelope.hull;
  covers = All-cons (λ r. ¬ StopsMedia r → Covers lines r) x rows covers envelope.covers;
  are_rows = λ k d below. Contains-tail x rows (get_or lines k d) (envelope.are_rows k d below);
  send = envelope.send;
  least_owner = λ k d below. All-cons (λ y. HasSameLine (get_or lines k d) y → (get_or lines k d).owner.0 ≤ y.owner.0) x rows
      (least k d below) (envelope.least_owner k d below);
}

-- a row of rate 0 more or less makes no difference
pub IsEnvelopeOf-stopped : (x : Request) (rows lines : List Request) → StopsMedia x → (IsEnvelopeOf rows lines ↔ IsEnvelopeOf (x ∷ rows) lines)
IsEnvelopeOf-stopped x rows lines stops = (
  λ envelope. IsEnvelopeOf-covered x rows lines envelope (λ sends. absurd (sends stops))
      (λ k d below same. absurd (envelope.send k d below (same.rate ∙ stops))),
  λ envelope. IsEnvelopeOf-without x rows lines envelope (λ is. All-contains (λ l. ¬ StopsMedia l) lines x envelope.send is stops),
)

-- if all rows send, it is the envelope of all
pub IsEnvelope-from_sending : (rows lines : List Request) → IsEnvelopeOf rows lines → All (λ r. ¬ StopsMedia r) rows → IsEnvelope rows lines
IsEnvelope-from_sending rows lines envelope send = record {
  hull = envelope.hull;
  covers = AllWithin-from_all (Covers lines) rows (λ k d below. envelope.covers k d below (send k d below));
  are_rows = envelope.are_rows;
  least_owner = λ k d below. AllWithin-from_all (λ y. HasSameLine (get_or lines k d) y → (get_or lines k d).owner.0 ≤ y.owner.0) rows
      (envelope.least_owner k d below);
}

-- how many lines there are then
pub length-spliced : (old new : List Request) (x : Request) (tests : ℕ) → (s : IsSpliced old x new tests) → length new + s.high ≡ s.low + length old + 1
length-spliced old new x tests s =
    omega (
      arith,
      ap length s.is,
      length-append (take s.low old) (x ∷ drop s.high old),
      length-take s.low old,
      length-drop s.high old,
      s.rising,
      s.in_range,
    )

-- what holds of the old lines and of the one that is put in holds of the new ones
pub All-spliced : (P : Request → Type 0) (old new : List Request) (x : Request) (tests : ℕ) → IsSpliced old x new tests → All P old → P x → All P new
All-spliced P old new x tests spliced all here =
    subst (All P) (sym spliced.is)
    (All-append P (take spliced.low old) (x ∷ drop spliced.high old) (All-take P spliced.low old all)
    (All-cons P x (drop spliced.high old) here (All-drop P spliced.high old all)))

module _ (rows old new : List Request) (x : Request) (put : Bool) (tests : ℕ) (envelope : IsEnvelopeOf rows old) (sends : ¬ StopsMedia x)
    (spliced : IsSplicedEnvelope old x put new tests) where
  -- no row with its line has a lesser owner
  least_of_rows : TakesOver old x → IsLeastOf rows x
  least_of_rows takes k d below same =
      let y = get_or rows k d in
      let y_sends : ¬ StopsMedia y = λ stops. sends (same.rate ∙ stops) in
      let before = takes y (envelope.covers k d below y_sends) same in
      let l = before.1 in
      let no_later = All-contains (IsLeastOf rows) old l envelope.least_owner (before.0, before.2, before.3) in
      let same_line : HasSameLine l y = record { rate = sym before.4.0.rate ∙ same.rate; overhead = sym before.4.0.overhead ∙ same.overhead } in
      omega (arith, no_later k d below same_line, before.4.1)

  IsEnvelopeOf-put : IsTrue put → IsEnvelopeOf (x ∷ rows) new
  IsEnvelopeOf-put is =
      let put_in = spliced.spliced is in
      let least_in_rows : All (IsLeastOf rows) new =
      All-spliced (IsLeastOf rows) old new x tests put_in envelope.least_owner (least_of_rows (spliced.least_new is)) in
      record {
        hull = spliced.hull;
        covers = All-cons (λ r. ¬ StopsMedia r → Covers new r) x rows (λ _. spliced.covers)
            (λ k d below y_sends. Covers-through old new (get_or rows k d) spliced.covers_old (envelope.covers k d below y_sends));
        are_rows = All-spliced (Contains (x ∷ rows)) old new x tests put_in
            (λ k d below. Contains-tail x rows (get_or old k d) (envelope.are_rows k d below)) (Contains-head x rows);
        send = All-spliced (λ l. ¬ StopsMedia l) old new x tests put_in envelope.send sends;
        least_owner = λ k d below. All-cons (λ y. HasSameLine (get_or new k d) y → (get_or new k d).owner.0 ≤ y.owner.0) x rows
            (spliced.least k d below) (least_in_rows k d below);
      }

  -- the envelope of the rows with x, whether it was put in or left out
  pub IsEnvelopeOf-spliced : IsEnvelopeOf (x ∷ rows) new
  IsEnvelopeOf-spliced =
      elim (cases_Bool put) [
        | inl is ↦ IsEnvelopeOf-put is
        | inr isn't ↦
            let same = spliced.unchanged isn't in
            IsEnvelopeOf-covered x rows new (subst (IsEnvelopeOf rows) (sym same) envelope) (λ _. spliced.covers) spliced.least
      ]
