use Rattle.std.proofs.Common.{◌≡◌, ◌+◌, drop}
use Rattle.std.specs.contracts.net.socket_addr.SocketAddrPartialEq.TheImpl.{eq-value}
use Rattle.addresses.specs.Strangers.{place_in}
use Rattle.addresses.proofs.latest.place_of.Given as goal

-- none before this place is the one
abbrev pub invariant-loop-place : goal.invariant-loop-place
invariant-loop-place l =
    place_in eq-value.it l.fn.strangers l.fn.address
    ≡ l.place + place_in eq-value.it (drop l.place l.fn.strangers) l.fn.address
