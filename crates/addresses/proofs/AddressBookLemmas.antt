-- What is made of the rest of a numbered list, once one element more is passed.
use Rattle.std.proofs.Common.{◌≡◌, ◌∙◌, ℕ, ◌+◌, ◌<◌, Option, None, Some, List, [], ◌∷◌, ◌++◌, length, drop, map, get_or, drop-cons, add-one, refl, sym, ap, ap₂, append_assoc}
use Rattle.std.specs.Prelude.{option_to_list}
use Rattle.std.specs.Prelude.{slice_get}
use Rattle.std.specs.declared.net.socket_addr.SocketAddr.{SocketAddr}
use Rattle.tmmbr_tuple.specs.declared.ssrc.Ssrc.{Ssrc}
use Rattle.addresses.specs.declared.learners.Learner.{Learner}
use Rattle.addresses.specs.declared.sender_table.SourceAddress.{SourceAddress}
use Rattle.addresses.specs.Learners.{LearnersState, learner_at}
use Rattle.addresses.specs.declared.clients.Client.{Client}
use Rattle.addresses.specs.AddressBook.{endpoint_at, kept_ms, learners_of, learning_source, new_learner, numbered_learner, numbered_origins, numbered_source, origins_at, places_of, senders_of, with_client}
use Rattle.std.specs.List.{cons_option, enumerate_from, filter_map, flat_map}

rest_at : {X : Type 0} (xs : List X) (i : ℕ) (d : X) → i < length xs → enumerate_from i (drop i xs) ≡ (i, get_or xs i d) ∷ enumerate_from (i + 1) (drop (i + 1) xs)
rest_at {X} xs i d below =
    ap (λ (ys : List X). enumerate_from i ys) (drop-cons xs i d below) ∙ ap (λ n. (i, get_or xs i d) ∷ enumerate_from (i + 1) (drop n xs)) (sym (add-one i))

cons_of : {X : Type 0} (x : Option X) (xs : List X) → option_to_list x ++ xs ≡ cons_option x xs
cons_of None xs = refl
cons_of (Some x) xs = refl

-- whatever the rest gives, put after these
passed : {X : Type 0} (before new after rest rest_before all : List X) → after ≡ before ++ new → rest_before ≡ new ++ rest → before ++ rest_before ≡ all
    → after ++ rest ≡ all
passed {X} before new after rest rest_before all is ahead left =
    ap (λ (ys : List X). ys ++ rest) is ∙ append_assoc before new rest ∙ ap (λ (ys : List X). before ++ ys) (sym ahead) ∙ left

pub flat_passed : {X Y : Type 0} (h : ℕ × X → List Y) (i : ℕ) (xs : List X) (d : X) (before after all : List Y) → i < length xs
    → after ≡ before ++ h (i, get_or xs i d) → before ++ flat_map h (enumerate_from i (drop i xs)) ≡ all
    → after ++ flat_map h (enumerate_from (i + 1) (drop (i + 1) xs)) ≡ all
flat_passed h i xs d before after all below is left =
    passed before (h (i, get_or xs i d)) after (flat_map h (enumerate_from (i + 1) (drop (i + 1) xs))) (flat_map h (enumerate_from i (drop i xs))) all is
    (ap (flat_map h) (rest_at xs i d below)) left

pub filter_passed : {X Y : Type 0} (h : ℕ × X → Option Y) (i : ℕ) (xs : List X) (d : X) (before after all : List Y) → i < length xs
    → after ≡ before ++ option_to_list (h (i, get_or xs i d)) → before ++ filter_map h (enumerate_from i (drop i xs)) ≡ all
    → after ++ filter_map h (enumerate_from (i + 1) (drop (i + 1) xs)) ≡ all
filter_passed h i xs d before after all below is left =
    let rest = filter_map h (enumerate_from (i + 1) (drop (i + 1) xs)) in
    passed before (option_to_list (h (i, get_or xs i d))) after rest (filter_map h (enumerate_from i (drop i xs))) all is
    (ap (filter_map h) (rest_at xs i d below) ∙ sym (cons_of (h (i, get_or xs i d)) rest)) left

pub map_passed : {X Y : Type 0} (h : ℕ × X → Y) (i : ℕ) (xs : List X) (d : X) (before after all : List Y) → i < length xs
    → after ≡ before ++ h (i, get_or xs i d) ∷ [] → before ++ map h (enumerate_from i (drop i xs)) ≡ all
    → after ++ map h (enumerate_from (i + 1) (drop (i + 1) xs)) ≡ all
map_passed h i xs d before after all below is left =
    passed before (h (i, get_or xs i d) ∷ []) after (map h (enumerate_from (i + 1) (drop (i + 1) xs))) (map h (enumerate_from i (drop i xs))) all is
    (ap (map h) (rest_at xs i d below)) left

-- where those of the clients from here on come from, put after these, are all
abbrev pub OriginsLeft : List Ssrc → List Client → LearnersState → ℕ → List (SourceAddress × ℕ) → Type 0
OriginsLeft sources clients learners i before =
    before ++ flat_map (numbered_origins sources learners) (enumerate_from i (drop i clients)) ≡ senders_of sources clients learners

pub origins_passed : (sources : List Ssrc) (clients : List Client) (learners : LearnersState) (i : ℕ) (d : Client) (before after : List (SourceAddress × ℕ)) (endpoint : ℕ)
    (source : Option Ssrc) (learner : Option Learner) (places : Option SocketAddr × Option SocketAddr) → endpoint ≡ endpoint_at i → source ≡ slice_get sources i
    → learner ≡ learner_at learners endpoint → places ≡ places_of (get_or clients i d).location learner → after ≡ before ++ origins_at endpoint source places
    → i < length clients → OriginsLeft sources clients learners i before → OriginsLeft sources clients learners (i + 1) after
origins_passed sources clients learners i d before after endpoint source learner places number own seated placed is below left =
    flat_passed (numbered_origins sources learners) i clients d before after (senders_of sources clients learners) below (rw (is, placed, seated, own, number) refl) left

-- those of the clients from here on, put after these, are all
pub record ClientsLeft (sources : List Ssrc) (clients : List Client) (timeout_ms i : ℕ) (s : LearnersState) : Type 0 where
  pub named : s.sources ++ filter_map (numbered_source sources) (enumerate_from i (drop i clients)) ≡ (learners_of sources clients timeout_ms).sources
  pub learned : s.learners ++ map (numbered_learner sources) (enumerate_from i (drop i clients)) ≡ (learners_of sources clients timeout_ms).learners
  pub kept : s.keep_ms ≡ kept_ms timeout_ms

pub client_passed : (sources : List Ssrc) (clients : List Client) (timeout_ms i : ℕ) (d : Client) (before after : LearnersState) (endpoint : ℕ) (source : Option Ssrc)
    → endpoint ≡ endpoint_at i → source ≡ slice_get sources i → after ≡ with_client before endpoint source (get_or clients i d).location → i < length clients
    → ClientsLeft sources clients timeout_ms i before → ClientsLeft sources clients timeout_ms (i + 1) after
client_passed sources clients timeout_ms i d before after endpoint source number own is below left =
    let whole = learners_of sources clients timeout_ms in
    let client = get_or clients i d in
    record {
      named = filter_passed (numbered_source sources) i clients d before.sources after.sources whole.sources below
          (ap (λ s. s.sources) is ∙ ap₂ (λ n (o : Option Ssrc). before.sources ++ option_to_list (learning_source n o client.location)) number own) left.named;
      learned = map_passed (numbered_learner sources) i clients d before.learners after.learners whole.learners below
          (ap (λ s. s.learners) is ∙ ap (λ (o : Option Ssrc). before.learners ++ new_learner o client.location ∷ []) own) left.learned;
      kept = ap (λ s. s.keep_ms) is ∙ left.kept;
    }
