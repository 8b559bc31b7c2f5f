-- The lines for what can't be read, and for where a unit can't listen.
use Rattle.std.specs.Prelude.{ℕ, List, ◌++◌, codes}
use Rattle.std.specs.Net.Text.{socket_text}
use Rattle.std.specs.declared.net.socket_addr.SocketAddr.{SocketAddr}
use Rattle.std.specs.declared.io.ErrorKind.{ErrorKind}
use Rattle.std.specs.declared.io.ErrorKind.TheVariants.{AddrInUse, AddrNotAvailable, IsADirectory, NotFound, PermissionDenied}

abbrev pub why_unreadable : ErrorKind → List ℕ
why_unreadable NotFound = codes "there is no such file"
why_unreadable PermissionDenied = codes "it may not be read"
why_unreadable IsADirectory = codes "it is a folder"
why_unreadable kind = codes "it can't be read"

abbrev pub file_line : List ℕ → ErrorKind → List ℕ
file_line file kind = file ++ (codes ": " ++ (why_unreadable kind ++ codes "\n"))

-- a taken port, a foreign address and a missing right are told apart
abbrev pub why_unbound : ErrorKind → List ℕ
why_unbound AddrInUse = codes "somebody else listens there"
why_unbound AddrNotAvailable = codes "it is no address of this machine"
why_unbound PermissionDenied = codes "a right is missing: ports below 1024 are the system's"
why_unbound kind = codes "the system refuses it"

abbrev pub bind_line : SocketAddr → ErrorKind → List ℕ
bind_line address kind =
    socket_text address ++ (codes ": " ++ (why_unbound kind ++ codes "\n"))
