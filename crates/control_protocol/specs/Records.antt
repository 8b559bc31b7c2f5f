-- Which records there are of a unit, and which of them somebody means.
use Rattle.std.specs.Prelude.{Option, None, Some, if◌then◌else◌}
use Rattle.control_protocol.specs.declared.records.RecordKind.{RecordKind}
use Rattle.control_protocol.specs.declared.records.RecordKind.TheVariants.{File, Peer}
use Rattle.control_protocol.specs.declared.records.Records.{Records}

-- this record, if it is being made
abbrev pub record_made : Records → RecordKind → Option RecordKind
record_made r File = if r.file then Some File else None
record_made r Peer = if r.peer then Some Peer else None

-- the one that is named; if none is, a peer's, and the file's only if there is no peer's
abbrev pub record_meant : Records → Option RecordKind → Option RecordKind
record_meant r None = if r.peer then Some Peer else record_made r File
record_meant r (Some kind) = record_made r kind
