-- What is read of a datagram is one value.
use Rattle.std.proofs.Common.{◌≡◌, ◌∙◌, ℕ, List, [], Result, Ok, Err, sym, ap}
use Rattle.events.specs.declared.output.Refusal.{Refusal}
use Rattle.datagram.specs.declared.reading.Ask.{Ask}
use Rattle.datagram.specs.declared.reading.What.{What}
use Rattle.datagram.specs.declared.reading.What.TheVariants.{Media, Goodbye, Control, Refused}
use Rattle.datagram.specs.Reads.{IsSaidIn, ReadsSaid, WasRead, asks_of, what_of}
use Rattle.datagram.specs.Saying.{Said, Says}
use Rattle.datagram.proofs.OneSaidLemmas.{says_one}

-- what is read of what is said, or refused
abbrev read_of : Result Said Refusal → WasRead
read_of (Ok said) = record { what = what_of said; asks = asks_of said }
read_of (Err refusal) = record { what = Refused refusal; asks = [] }

-- a datagram says something of which this is read
abbrev IsReadOf : ℕ → List ℕ → WasRead → Type 0
IsReadOf own datagram r = (said : Result Said Refusal) × Says own datagram said × (r ≡ read_of said)

of_said : (own : ℕ) (datagram : List ℕ) (what : What) (asks : List Ask) → ReadsSaid (Says own datagram) asks what
    → IsReadOf own datagram (record { what = what; asks = asks })
of_said own datagram what asks (said, says, is, more) = (Ok said, says, λ i. record { what = is i; asks = more i })

is_read_of : (own : ℕ) (datagram : List ℕ) (what : What) (asks : List Ask) → IsSaidIn own datagram (record { what = what; asks = asks })
    → IsReadOf own datagram (record { what = what; asks = asks })
is_read_of own datagram (Media m) asks reads = of_said own datagram (Media m) asks reads
is_read_of own datagram Goodbye asks reads = of_said own datagram Goodbye asks reads
is_read_of own datagram (Control c) asks reads = of_said own datagram (Control c) asks reads
is_read_of own datagram (Refused refusal) asks (says, none) = (Err refusal, says, λ i. record { what = Refused refusal; asks = none i })

pub read_one : (own : ℕ) (datagram : List ℕ) (one other : WasRead) → IsSaidIn own datagram one → IsSaidIn own datagram other → other ≡ one
read_one own datagram one other reads again =
    let (said, says, is) = is_read_of own datagram one.what one.asks reads in
    let (said', says', is') = is_read_of own datagram other.what other.asks again in
    is' ∙ ap read_of (says_one own datagram said' said says' says) ∙ sym is
