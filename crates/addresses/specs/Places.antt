-- Where what is sent to an endpoint goes, and under which names it is told.
use Rattle.std.specs.Prelude.{Bool, true, false, Option, Some, None}
use Rattle.std.specs.declared.net.socket_addr.SocketAddr.{SocketAddr}
use Rattle.tmmbr_tuple.specs.declared.ssrc.Ssrc.{Ssrc}
use Rattle.addresses.specs.declared.learned_address.Kind.{Kind}
use Rattle.addresses.specs.declared.learned_address.Kind.TheVariants.{Rtp, Rtcp}
use Rattle.addresses.specs.declared.clients.Addresses.{Addresses}
use Rattle.addresses.specs.declared.clients.Client.{Client}
use Rattle.addresses.specs.declared.clients.Location.{Location}
use Rattle.addresses.specs.declared.clients.Location.TheVariants as location
use Rattle.addresses.specs.declared.directory.Entry.{Entry}
use Rattle.addresses.specs.declared.directory.Entry.TheVariants as entry
use Rattle.addresses.specs.declared.directory.Naming.{Naming}
use Rattle.addresses.specs.declared.directory.Naming.TheVariants as naming
use Rattle.addresses.specs.declared.directory.Sign.{Sign}
use Rattle.addresses.specs.declared.directory.Sign.TheVariants as sign

-- the addresses of an entry; none if they are learned
abbrev pub fixed_in : Entry → Option Addresses
fixed_in (entry.Fixed places) = Some places
fixed_in (entry.Learned seat) = None

abbrev pub fixed_of : Location → Option Addresses
fixed_of (location.Fixed places) = Some places
fixed_of (location.Learned within) = None

-- the addresses of a client that has its own
abbrev pub fixed_at : Client → Option Addresses
fixed_at client = fixed_of client.location

-- of a client's addresses the one for what is of this kind
abbrev pub place_for : Kind → Addresses → SocketAddr
place_for Rtp places = places.media
place_for Rtcp places = places.rtcp

-- the names of a client are learned
abbrev pub is_learned_sign : Sign → Bool
is_learned_sign sign.Given = false
is_learned_sign (sign.Learned names) = true

abbrev pub learns_at : Client → Bool
learns_at client = client.learns_ssrc

-- under which name a client sends, and under which it asks, as far as that is known
abbrev pub sender_in : Naming → Option Ssrc
sender_in naming.Given = None
sender_in (naming.Own names) = names.sends
sender_in naming.Changing = None

abbrev pub asker_in : Naming → Option Ssrc
asker_in naming.Given = None
asker_in (naming.Own names) = names.asks
asker_in naming.Changing = None
