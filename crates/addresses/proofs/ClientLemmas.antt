-- Clients that texts spell, one after the other.
use Rattle.std.proofs.Common.{◌≡◌, ◌∙◌, ℕ, Bool, Option, None, Some, MatchOption, ◌+◌, ◌<◌, ◌≤◌, List, [], ◌∷◌, ◌++◌, length, drop, get_or, drop-cons, add-one, Result, Ok, Err, refl, sym, ap, subst, inl, inr}
use Rattle.std.proofs.lemmas.List.{drop_all}
use Rattle.std.specs.declared.net.socket_addr.SocketAddr.{SocketAddr}
use Rattle.std.specs.declared.string.String.{String}
use Rattle.settings_toml.specs.declared.settings_file.ClientText.{ClientText}
use Rattle.addresses.specs.declared.clients.Client.{Client}
use Rattle.addresses.specs.declared.clients.Listening.{Listening}
use Rattle.addresses.specs.declared.clients.AddressKey.{AddressKey}
use Rattle.addresses.specs.declared.clients.ClientFault.{ClientFault}
use Rattle.addresses.specs.declared.clients.ClientFault.TheVariants.{NoMemory, Endpoint}
use Rattle.addresses.specs.Network.{SpellsNoNetwork}
use Rattle.std.specs.String.{string_bytes}
use Rattle.addresses.specs.Clients.{AreSpelled, AreSpelledBehind, ClientFaults, FaultOfClient, SpellsClient, SpellsNoBound, SpellsNoRtcp, SpellsNowhere, SpellsReachable, SpellsRtcp}

abbrev pub Same : Type 0
Same = SocketAddr → SocketAddr → Bool

-- whatever is spelled from here on, all texts spell
abbrev pub Left : Same → Listening → List ClientText → ℕ → List Client → Type 0
Left same listen texts k before =
    (read : Result (List Client) (ℕ × AddressKey)) → AreSpelledBehind same listen before (drop k texts) read → AreSpelled same listen texts read

-- the texts spell this client after those
abbrev pub Puts : Same → Listening → ClientText → List Client → List Client → Type 0
Puts same listen text before after = (client : Client) × SpellsClient same listen text client × (after ≡ before ++ client ∷ [])

at_text : (texts : List ClientText) (k : ℕ) (text : ClientText) → text ≡ get_or texts k text → k < length texts
    → drop k texts ≡ text ∷ drop (k + 1) texts
at_text texts k text is below =
    drop-cons texts k text below ∙ ap (λ n. get_or texts k text ∷ drop n texts) (sym (add-one k)) ∙ ap (λ t. t ∷ drop (k + 1) texts) (sym is)

pub goes_on : (same : Same) (listen : Listening) (texts : List ClientText) (k : ℕ) (text : ClientText) (before after : List Client)
    → text ≡ get_or texts k text → k < length texts → Puts same listen text before after → Left same listen texts k before → Left same listen texts (k + 1) after
goes_on same listen texts k text before after is below put left read rest =
    left read (subst (λ ts. AreSpelledBehind same listen before ts read) (sym (at_text texts k text is below))
    (inl (put.0, put.1, subst (λ b. AreSpelledBehind same listen b (drop (k + 1) texts) read) put.2 rest)))

pub stops : (same : Same) (listen : Listening) (texts : List ClientText) (k : ℕ) (text : ClientText) (before : List Client) (fault : ClientFault)
    → text ≡ get_or texts k text → k < length texts → FaultOfClient same listen (length before) text fault → Left same listen texts k before
    → ClientFaults same listen texts fault
stops same listen texts k text before NoMemory is below here left = tt
stops same listen texts k text before (Endpoint number key) is below here left =
    left (Err (number, key)) (subst (λ ts. AreSpelledBehind same listen before ts (Err (number, key))) (sym (at_text texts k text is below))
    (inr (key, here.1, ap (λ n. Err (n, key)) here.0)))

pub ends : (same : Same) (listen : Listening) (texts : List ClientText) (k : ℕ) (before : List Client) → length texts ≤ k → Left same listen texts k before
    → AreSpelled same listen texts (Ok before)
ends same listen texts k before past left = left (Ok before) (subst (λ ts. AreSpelledBehind same listen before ts (Ok before)) (sym (drop_all k texts past)) refl)

-- of a text that is there: what it spells is the address of RTCP
pub spells_rtcp : {A : Type 0} (same : Same) (listen : Listening) (address : SocketAddr) (text : Option (String A)) (found : Option SocketAddr) (there : String A) → text ≡ Some there
    → MatchOption found (SpellsNowhere same listen text) (SpellsReachable same listen text)
    → MatchOption found (SpellsNoRtcp same listen text) (SpellsRtcp same listen text address)
spells_rtcp same listen address None found there e spelled = absurd cc
spells_rtcp same listen address (Some text) None there e spelled = spelled
spells_rtcp same listen address (Some text) (Some other) there e spelled = spelled

-- a text that is there, and spells no network
pub no_bound : {A : Type 0} (listen : Listening) (text : Option (String A)) (there : String A) (bytes : List ℕ) → text ≡ Some there → bytes ≡ string_bytes there
    → SpellsNoNetwork bytes → SpellsNoBound listen text
no_bound {A = A} listen text there bytes is spelled none =
    subst (λ (t : Option (String A)). SpellsNoBound listen t) (sym is) (inl (subst (λ (s : List ℕ). SpellsNoNetwork s) spelled none))
