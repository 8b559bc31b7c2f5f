-- Which kept requests a dropped one follows from, found by how many of them have no more overhead.
use Rattle.std.proofs.Common.{◌≡◌, inl, inr, ℕ, zero, suc, ◌+◌, ◌-◌, ◌<◌, ◌≤◌, true, false, cond, nat_lt, nat_le, List, [], ◌∷◌, length, get_or, sym, ap, ◌∙◌, arith, refl}
use Rattle.std.specs.Prelude.{AllPairs}
use Rattle.std.specs.List.{AllWithin}
use Rattle.std.proofs.lemmas.Bool.{cases_eq}
use Rattle.std.proofs.lemmas.Bool.Decides.{nat_tests}
use Rattle.std.proofs.lemmas.List.{get_or-map, get_or_default, length-map}
use Rattle.std.specs.List.Sorted.{IsNonDecreasingBy}
use Rattle.rate_cert.specs.declared.request.Request.{Request}
use Rattle.rate_cert.specs.declared.certificate.Kept.{Kept}
use Rattle.rate_cert.specs.declared.certificate.Implied.{Implied}
use Rattle.rate_cert.specs.Certificate.{places_of}
use Rattle.bounding_set.specs.Announced.{Follows}
use Rattle.bounding_set.specs.Certificate.{Listed, implied_above, implied_by}
use Rattle.bounding_set.specs.Kept.{KeepsRequests, Lists, listed_at, listed_of}
use Rattle.bounding_set.proofs.KeptLemmas.{request_at, as_many_places, as_many_requests}

less_passes : (m n : ℕ) → m < n → nat_lt m n ≡ true
less_passes m n less = grind (arith, nat_tests)

not_less_fails : (m n : ℕ) → n ≤ m → nat_lt m n ≡ false
not_less_fails m n le = grind (arith, nat_tests)

at_most_passes : (m n : ℕ) → m ≤ n → nat_le m n ≡ true
at_most_passes m n le = grind (arith, nat_tests)

more_fails : (m n : ℕ) → n < m → nat_le m n ≡ false
more_fails m n less = grind (arith, nat_tests)

-- the entry for two neighbours, and for the last request
abbrev pub entry_between : ℕ → ℕ → Listed → Listed → Implied
entry_between place overhead a b = record {
  place = place;
  a = a.place;
  b = b.place;
  p = b.overhead - overhead;
  q = overhead - a.overhead;
  r = b.overhead - a.overhead;
}

abbrev pub entry_past : ℕ → ℕ → Listed → Implied
entry_past place overhead a = record { place = place; a = a.place; b = a.place; p = overhead; q = 0; r = a.overhead }

module _ (place overhead : ℕ) where
  above_first : (a b : Listed) (bs : List Listed) → overhead < b.overhead → implied_above place overhead a (b ∷ bs) ≡ entry_between place overhead a b
  above_first a b bs less =
      ap (λ t. cond t (entry_between place overhead a b) (implied_above place overhead b bs)) (less_passes overhead b.overhead less)

  above_next : (a b : Listed) (bs : List Listed) → b.overhead ≤ overhead → implied_above place overhead a (b ∷ bs) ≡ implied_above place overhead b bs
  above_next a b bs le =
      ap (λ t. cond t (entry_between place overhead a b) (implied_above place overhead b bs)) (not_less_fails overhead b.overhead le)

  -- so many of those that come after have no more overhead, and the next one has more
  implied_between : (a : Listed) (ls : List Listed) (at : ℕ) (d : Listed) → at < length ls → ((k : ℕ) → k < at → (get_or ls k d).overhead ≤ overhead)
      → overhead < (get_or ls at d).overhead → implied_above place overhead a ls ≡ entry_between place overhead (get_or (a ∷ ls) at d) (get_or ls at d)
  implied_between a [] at d below upto above = absurd (omega (arith, below))
  implied_between a (b ∷ bs) zero d below upto above = above_first a b bs above
  implied_between a (b ∷ bs) (suc n) d below upto above =
      above_next a b bs (upto 0 (omega arith))
      ∙ implied_between b bs n d (omega (arith, below)) (λ k less. upto (suc k) (omega arith)) above

  -- none of those that come after has more
  implied_past : (a : Listed) (ls : List Listed) (d : Listed) → ((k : ℕ) → k < length ls → (get_or ls k d).overhead ≤ overhead)
      → implied_above place overhead a ls ≡ entry_past place overhead (get_or (a ∷ ls) (length ls) d)
  implied_past a [] d upto = refl
  implied_past a (b ∷ bs) d upto =
      above_next a b bs (upto 0 (omega arith)) ∙ implied_past b bs d (λ k less. upto (suc k) (omega arith))

module _ (announced : List Request) (kept : List Kept) (place overhead : ℕ) (first : Listed) (behind : List Listed)
    (lists : Lists announced kept (first ∷ behind)) (as_many : length kept ≡ length announced) (next at : ℕ) (is_next : next ≡ suc at)
    (within : next ≤ length announced) (upto : AllWithin (λ l. l.tuple.overhead ≤ overhead) announced 0 next)
    (a : Kept) (x : Request) (a_is : a ≡ get_or kept at a) (x_is : x ≡ get_or announced at x) where
  long : length behind + 1 ≡ length kept
  long = omega (arith, lists.as_many)

  left : get_or (first ∷ behind) at first ≡ record { place = a.place; overhead = x.tuple.overhead }
  left =
      lists.each at first a x (omega (arith, is_next, within, as_many))
      ∙ ap (λ (k : Kept). record { place = k.place; overhead = (get_or announced at x).tuple.overhead }) (sym a_is)
      ∙ ap (λ (r : Request). record { place = a.place; overhead = r.tuple.overhead }) (sym x_is)

  before : (k : ℕ) → k < at → (get_or behind k first).overhead ≤ overhead
  before k less =
      let here = ap (λ (l : Listed). l.overhead) (lists.each (suc k) first a x (omega (arith, is_next, within, as_many))) in
      omega (arith, here, upto (suc k) x (omega arith) (omega (arith, is_next)))

  pub past_is : next ≡ length kept → entry_past place overhead (record { place = a.place; overhead = x.tuple.overhead })
      ≡ implied_above place overhead first behind
  past_is last =
      let all : length behind ≡ at = omega (arith, long, is_next, last) in
      sym (implied_past place overhead first behind first (λ k less. before k (omega (arith, all)))
      ∙ ap (λ n. entry_past place overhead (get_or (first ∷ behind) n first)) all
      ∙ ap (entry_past place overhead) left)

  pub between_is : (b : Kept) (y : Request) → b ≡ get_or kept next b → y ≡ get_or announced next y → next < length kept
      → AllWithin (λ l. overhead < l.tuple.overhead) announced next (length announced)
      → entry_between place overhead (record { place = a.place; overhead = x.tuple.overhead }) (record { place = b.place; overhead = y.tuple.overhead })
      ≡ implied_above place overhead first behind
  between_is b y b_is y_is inner above =
      let b_at : b ≡ get_or kept (suc at) b = b_is ∙ ap (λ n. get_or kept n b) is_next in
      let y_at : y ≡ get_or announced (suc at) y = y_is ∙ ap (λ n. get_or announced n y) is_next in
      let right : get_or behind at first ≡ record { place = b.place; overhead = y.tuple.overhead } =
      lists.each (suc at) first b y (omega (arith, is_next, inner))
      ∙ ap (λ (k : Kept). record { place = k.place; overhead = (get_or announced (suc at) y).tuple.overhead }) (sym b_at)
      ∙ ap (λ (r : Request). record { place = b.place; overhead = r.tuple.overhead }) (sym y_at) in
      let more : overhead < y.tuple.overhead =
      omega (arith, above next y (omega arith) (omega (arith, inner, as_many)), ap (λ (r : Request). r.tuple.overhead) y_is) in
      let there : overhead < (get_or behind at first).overhead = omega (arith, more, ap (λ (l : Listed). l.overhead) right) in
      sym (implied_between place overhead first behind at first (omega (arith, long, is_next, inner)) before there
      ∙ ap (λ (l : Listed). entry_between place overhead l (get_or behind at first)) left
      ∙ ap (entry_between place overhead (record { place = a.place; overhead = x.tuple.overhead })) right)

-- with no request kept, with no more overhead than the first, and with more
abbrev pub entry_of_none : ℕ → Implied
entry_of_none place = record { place = place; a = 0; b = 0; p = 0; q = 0; r = 0 }

abbrev pub entry_by_first : ℕ → ℕ → Implied
entry_by_first place a = record { place = place; a = a; b = a; p = 1; q = 0; r = 1 }

module _ (announced : List Request) (kept : List Kept) (place overhead : ℕ) where
  pub by_none : (listed : List Listed) → Lists announced kept listed → length kept ≡ 0 → entry_of_none place ≡ implied_by listed place overhead
  by_none [] lists none = refl
  by_none (l ∷ ls) lists none = absurd (omega (arith, lists.as_many))

  pub by_first : (listed : List Listed) → Lists announced kept listed → (k : Kept) (r : Request) → 0 < length kept → k ≡ get_or kept 0 k
      → r ≡ get_or announced 0 r → overhead ≤ r.tuple.overhead → entry_by_first place k.place ≡ implied_by listed place overhead
  by_first [] lists k r some k_is r_is low = absurd (omega (arith, lists.as_many))
  by_first (l ∷ ls) lists k r some k_is r_is low =
      let each = lists.each 0 l k r some in
      let at : k.place ≡ l.place = ap (λ (e : Kept). e.place) k_is ∙ sym (ap (λ (e : Listed). e.place) each) in
      let over : l.overhead ≡ r.tuple.overhead = ap (λ (e : Listed). e.overhead) each ∙ sym (ap (λ (q : Request). q.tuple.overhead) r_is) in
      let test : nat_le overhead l.overhead ≡ true = at_most_passes overhead l.overhead (omega (arith, over, low)) in
      ap (entry_by_first place) at
      ∙ sym (ap (λ t. cond t (entry_by_first place l.place) (implied_above place overhead l ls)) test)

  pub by_others : (listed : List Listed) → Lists announced kept listed → (entry : Implied)
      → ((first : Listed) (behind : List Listed) → Lists announced kept (first ∷ behind) → entry ≡ implied_above place overhead first behind)
      → (k : Kept) (r : Request) → 0 < length kept → r ≡ get_or announced 0 r → r.tuple.overhead < overhead → entry ≡ implied_by listed place overhead
  by_others [] lists entry is k r some r_is more = absurd (omega (arith, lists.as_many))
  by_others (l ∷ ls) lists entry is k r some r_is more =
      let over : l.overhead ≡ r.tuple.overhead =
      ap (λ (e : Listed). e.overhead) (lists.each 0 l k r some) ∙ sym (ap (λ (q : Request). q.tuple.overhead) r_is) in
      let test : nat_le overhead l.overhead ≡ false = more_fails overhead l.overhead (omega (arith, over, more)) in
      is l ls lists
      ∙ sym (ap (λ t. cond t (entry_by_first place l.place) (implied_above place overhead l ls)) test)

-- overheads rise along the announced requests
pub overheads_follow : (announced : List Request) → AllPairs Follows announced → IsNonDecreasingBy (λ (l : Request). l.tuple.overhead) announced
overheads_follow announced in_order i j d le below =
    elim (cases_eq i j) [
      | inl same ↦ rw same (omega arith)
      | inr before ↦ omega (arith, (in_order i j d (omega (arith, before)) below).overhead)
    ]

-- what kept entries show of the rows is what they keep
pub Lists-listed_of : (rows announced : List Request) (kept : List Kept) (d : Request) → KeepsRequests rows announced kept
    → Lists announced kept (listed_of rows d kept)
Lists-listed_of rows announced kept d keeps =
    let places = places_of kept in
    let many : length places ≡ length kept = as_many_places rows announced kept keeps in
    record {
      as_many = length-map places (listed_at rows d) ∙ many;
      each = λ j l k r below.
          let in_places : j < length places = omega (arith, many, below) in
          let place : get_or places j 0 ≡ (get_or kept j k).place = get_or-map (λ (e : Kept). e.place) kept j k 0 below in
          let in_announced : j < length announced = omega (arith, below, as_many_requests rows announced kept keeps d) in
          let request : get_or rows (get_or places j 0) d ≡ get_or announced j r =
          request_at rows announced kept keeps j 0 d in_places ∙ get_or_default announced j d r in_announced in
          get_or-map (listed_at rows d) places j 0 l in_places
          ∙ ap (λ (q : Request). record { place = get_or places j 0; overhead = q.tuple.overhead }) request
          ∙ ap (λ p. record { place = p; overhead = (get_or announced j r).tuple.overhead }) place;
    }

-- if the first has no more overhead, some have
pub one_at_least : (announced : List Request) (overhead next : ℕ) → 0 < length announced → ((d : Request) → (get_or announced 0 d).tuple.overhead < overhead)
    → AllWithin (λ l. overhead < l.tuple.overhead) announced next (length announced) → 1 ≤ next
one_at_least [] overhead next some low above = absurd (omega arith)
one_at_least (x ∷ xs) overhead zero some low above = absurd (omega (arith, low x, above 0 x (omega arith) (omega arith)))
one_at_least (x ∷ xs) overhead (suc n) some low above = omega arith
