-- What is noted of a datagram if there is room for all of it.
use Rattle.std.specs.Prelude.{◌≡◌, ◌/◌, ℕ, List, map}
use Rattle.std.specs.List.{flat_map}
use Rattle.rtcp_compound.specs.Content.{Content}
use Rattle.rtcp_compound.specs.Report.{block_of}
use Rattle.datagram.specs.Blocks.{blocks_said}
use Rattle.datagram.specs.Kinds.{kinds_in}
use Rattle.datagram.specs.Notice.{last_notice}
use Rattle.datagram.specs.declared.notes.Notes.{Notes}

-- Room for as many blocks as fill the longest datagram (RFC 3550, section 6.4.1), and for as many entries of a TMMBN (RFC 5104, section 4.2.2.1).
pub record HasRoom (n : Notes) : Type 0 where
  pub blocks : n.most_blocks ≡ 65535 / 24
  pub entries : n.most_entries ≡ 65535 / 8

-- How many packets there are of each kind of feedback, all of their report blocks (RFC 3550, section 6.4), and all entries of the last TMMBN
-- (RFC 5104, section 4.2.2).
pub record NotesAll (n : Notes) (contents : List Content) : Type 0 where
  pub kinds : n.kinds ≡ kinds_in contents
  pub blocks : map block_of n.blocks.items ≡ flat_map blocks_said contents
  pub notice : n.notice.items ≡ last_notice contents
