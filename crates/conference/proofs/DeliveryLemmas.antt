-- Where datagrams stand among what was given out.
use Rattle.std.proofs.Common.{◌≡◌, ◌∙◌, ℕ, ◌+◌, ◌<◌, ◌≤◌, List, [], ◌++◌, length, drop, true, false, refl, sym, ap, None, Some, slice_get, slice_index_or}
use Rattle.std.proofs.lemmas.List.{drop_all, drop_more}
use Rattle.std.proofs.lemmas.Option.{get_or_from_slice_get, slice_get_within}
use Rattle.events.specs.declared.output.Out.{Out}
use Rattle.events.specs.declared.output.Out.TheVariants.{Send, Refused, Busy, Lost, Skip, Miss, Idle}
use Rattle.ports.specs.declared.datagram.Datagram.{Datagram}
use Rattle.ports.specs.Outside.{datagram_in, datagrams_of}
use Rattle.conference.specs.Conference.{is_datagram}

no_datagram : (o : Out) → is_datagram o ≡ false → datagram_in o ≡ []
no_datagram (Send endpoint bytes) b = absurd (cc)
no_datagram (Refused refusal) b = refl
no_datagram Busy b = refl
no_datagram (Lost worker) b = refl
no_datagram (Skip leg skip) b = refl
no_datagram (Miss leg seq) b = refl
no_datagram Idle b = refl

-- a datagram stands first, and what comes after it stands after it
first_of : (o : Out) (rest : List Datagram) → is_datagram o ≡ true → slice_get (datagram_in o ++ rest) 0 ≡ slice_get (datagram_in o) 0
first_of (Send endpoint bytes) rest b = refl
first_of (Refused refusal) rest b = absurd (cc)
first_of Busy rest b = absurd (cc)
first_of (Lost worker) rest b = absurd (cc)
first_of (Skip leg skip) rest b = absurd (cc)
first_of (Miss leg seq) rest b = absurd (cc)
first_of Idle rest b = absurd (cc)

rest_of : (o : Out) (rest : List Datagram) → is_datagram o ≡ true → drop 1 (datagram_in o ++ rest) ≡ rest
rest_of (Send endpoint bytes) rest b = refl
rest_of (Refused refusal) rest b = absurd (cc)
rest_of Busy rest b = absurd (cc)
rest_of (Lost worker) rest b = absurd (cc)
rest_of (Skip leg skip) rest b = absurd (cc)
rest_of (Miss leg seq) rest b = absurd (cc)
rest_of Idle rest b = absurd (cc)

opened : (xs : List Out) (at : ℕ) (d : Out) → at < length xs
    → datagrams_of (drop at xs) ≡ datagram_in (slice_index_or xs at d) ++ datagrams_of (drop (at + 1) xs)
opened xs at d low = ap datagrams_of (drop_more xs at d low)

pub passes : (xs : List Out) (at : ℕ) (d : Out) → at < length xs → is_datagram (slice_index_or xs at d) ≡ false
    → datagrams_of (drop (at + 1) xs) ≡ datagrams_of (drop at xs)
passes xs at d low none =
    sym (opened xs at d low ∙ ap (λ (l : List Datagram). l ++ datagrams_of (drop (at + 1) xs)) (no_datagram (slice_index_or xs at d) none))

pub all_done : (xs : List Out) (at : ℕ) → length xs ≤ at → datagrams_of (drop at xs) ≡ []
all_done xs at high = ap datagrams_of (drop_all at xs high)

-- what is said of the first place
abbrev pub IsDatagramAt : List Out → ℕ → Type 0
IsDatagramAt xs at = (d : Out) → at < length xs → is_datagram (slice_index_or xs at d) ≡ true

some_first : (o : Out) (rest : List Datagram) → is_datagram o ≡ true → datagram_in o ++ rest ≡ [] → ⊥
some_first (Send endpoint bytes) rest b none = absurd (cc)
some_first (Refused refusal) rest b none = absurd (cc)
some_first Busy rest b none = absurd (cc)
some_first (Lost worker) rest b none = absurd (cc)
some_first (Skip leg skip) rest b none = absurd (cc)
some_first (Miss leg seq) rest b none = absurd (cc)
some_first Idle rest b none = absurd (cc)

-- where a datagram stands, some are left
pub some_left : (xs : List Out) (from at : ℕ) → at < length xs → IsDatagramAt xs at
    → datagrams_of (drop at xs) ≡ datagrams_of (drop from xs)
    → datagrams_of (drop from xs) ≡ [] → xs ≡ []
some_left xs from at low is same none =
    absurd (some_first (slice_index_or xs at Idle) (datagrams_of (drop (at + 1) xs)) (is Idle low)
    (sym (opened xs at Idle low) ∙ same ∙ none))

pub first_there : (xs : List Out) (from at : ℕ) (o : Out) → slice_get xs at ≡ Some o → IsDatagramAt xs at
    → datagrams_of (drop at xs) ≡ datagrams_of (drop from xs)
    → slice_get (datagram_in o) 0 ≡ slice_get (datagrams_of (drop from xs)) 0
first_there xs from at o there is same =
    let low = slice_get_within xs at o there in
    let e : slice_index_or xs at o ≡ o = get_or_from_slice_get xs at o o there in
    let after = datagrams_of (drop (at + 1) xs) in
    sym (ap (λ (l : List Datagram). slice_get l 0)
    (sym same ∙ opened xs at o low ∙ ap (λ (x : Out). datagram_in x ++ after) e)
    ∙ first_of o after (ap is_datagram (sym e) ∙ is o low))

pub none_there : (xs : List Out) (from at : ℕ) → length xs ≤ at → datagrams_of (drop at xs) ≡ datagrams_of (drop from xs)
    → slice_get (datagrams_of (drop from xs)) 0 ≡ None
none_there xs from at high same = ap (λ (l : List Datagram). slice_get l 0) (sym same ∙ all_done xs at high)

pub after_first : (xs : List Out) (from at : ℕ) (d : Out) → at < length xs → IsDatagramAt xs at
    → datagrams_of (drop at xs) ≡ datagrams_of (drop from xs)
    → datagrams_of (drop (at + 1) xs) ≡ drop 1 (datagrams_of (drop from xs))
after_first xs from at d low is same =
    sym (rest_of (slice_index_or xs at d) (datagrams_of (drop (at + 1) xs)) (is d low))
    ∙ ap (λ (l : List Datagram). drop 1 l) (sym (opened xs at d low) ∙ same)

pub after_none : (xs : List Out) (from at : ℕ) → length xs ≤ at → datagrams_of (drop at xs) ≡ datagrams_of (drop from xs)
    → datagrams_of (drop at xs) ≡ drop 1 (datagrams_of (drop from xs))
after_none xs from at high same =
    let none = all_done xs at high in
    none ∙ ap (λ (l : List Datagram). drop 1 l) (sym none ∙ same)
