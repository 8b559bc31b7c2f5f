-- What a TMMBN says of a set of requests (RFC 5104, section 4.2.2).
use Rattle.std.specs.Prelude.{List, map}
use Rattle.tmmbr_tuple.specs.Tuple.{word_of}
use Rattle.rate_cert.specs.declared.request.Request.{Request}
use Rattle.rtcp_feedback.specs.declared.tmmb.TmmbrEntry.{TmmbrEntry}

-- an entry for each request of a set, in its order: its owner and its word
abbrev pub tmmbr_entry_of : Request → TmmbrEntry
tmmbr_entry_of r = record { ssrc = r.owner; word = word_of r.tuple }

-- the entries of a TMMBN for a set: the owners of its requests, with their words (RFC 5104, section 4.2.2)
abbrev pub entries_of : List Request → List TmmbrEntry
entries_of set = map tmmbr_entry_of set
