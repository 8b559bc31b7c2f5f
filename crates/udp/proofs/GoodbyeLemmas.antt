-- What a sink is handed as a unit leaves.
use Rattle.std.proofs.Common.{◌≡◌, ◌++◌, ◌∷◌, [], refl, ℕ, Bool, List, Option, Some, true, slice_get, sym, ap, ◌∙◌}
use Rattle.std.proofs.lemmas.List.Elements.{All-append, All-cons, All-nil}
use Rattle.settings.specs.Settings.{Configuration}
use Rattle.ports.specs.Outside.{Grows}
use Rattle.ports.specs.declared.datagram.Datagram.{Datagram}
use Rattle.ports.proofs.GrowsLemmas.{grows_more, grows_nothing}
use Rattle.udp.specs.Goodbyes.{IsGoodbyeOf, IsGoodbyeToPresent, LeavesEndpoint, LeavesPresent, goodbye_bytes}

pub says_nothing : (c : Configuration) (present : List Bool) (known : Option (List Datagram)) → LeavesPresent c present known known
says_nothing c present known = record { sent = []; goodbyes = All-nil _; handed = grows_nothing known }

pub tells_nothing : (c : Configuration) (endpoint : ℕ) (known : Option (List Datagram)) → LeavesEndpoint c endpoint known known
tells_nothing c endpoint known = record { sent = []; goodbyes = All-nil _; handed = grows_nothing known }

-- what one that is present is told
to_present : (c : Configuration) (present : List Bool) (endpoint : ℕ) (d : Datagram)
    → slice_get present endpoint ≡ Some true → IsGoodbyeOf c endpoint d → IsGoodbyeToPresent c present d
to_present c present endpoint d there is = record {
  there = ap (slice_get present) is.to_it ∙ there;
  goodbye = is.goodbye ∙ ap (goodbye_bytes c) (sym is.to_it);
}

-- one that is present is told, and nobody else
pub says_one : (c : Configuration) (present : List Bool) (endpoint : ℕ) (old new : Option (List Datagram))
    → slice_get present endpoint ≡ Some true → LeavesEndpoint c endpoint old new → LeavesPresent c present old new
says_one c present endpoint old new there said = record {
  sent = said.sent;
  goodbyes = λ k d below. to_present c present endpoint _ there (said.goodbyes k d below);
  handed = said.handed;
}

pub says_on : (c : Configuration) (present : List Bool) (old mid new : Option (List Datagram))
    → LeavesPresent c present old mid → LeavesPresent c present mid new → LeavesPresent c present old new
says_on c present old mid new said more = record {
  sent = said.sent ++ more.sent;
  goodbyes = All-append (IsGoodbyeToPresent c present) said.sent more.sent said.goodbyes more.goodbyes;
  handed = grows_more old said.sent more.sent mid new said.handed more.handed;
}

pub tells_one : (c : Configuration) (endpoint : ℕ) (bytes : List ℕ) (old new : Option (List Datagram))
    → bytes ≡ goodbye_bytes c endpoint → Grows old (record { endpoint = endpoint; bytes = bytes } ∷ []) new
    → LeavesEndpoint c endpoint old new
tells_one c endpoint bytes old new is handed = record {
  sent = record { endpoint = endpoint; bytes = bytes } ∷ [];
  goodbyes = All-cons (IsGoodbyeOf c endpoint) (record { endpoint = endpoint; bytes = bytes }) [] (record { to_it = refl; goodbye = is }) (All-nil (IsGoodbyeOf c endpoint));
  handed = handed;
}
