-- Report blocks as trees and their bytes (RFC 3550, section 6.4.1).
use Rattle.std.specs.Prelude.{ℕ, ◌-◌, ◌/◌, ◌^◌, ◌<◌, ◌≤ℤ◌, ℤ, pos, negsuc, List, ◌∷◌, ◌++◌, length, drop, slice_index}
use Rattle.byteorder.specs.Endian.{big_number, big_bytes, twos_complement}
use Rattle.rtcp_compound.specs.declared.report.Block.{Block}
use Rattle.rtcp_compound.specs.declared.report.Blocks.{Blocks}
use Rattle.rtcp_compound.specs.Entries.{entries_from}
use Rattle.rtcp_compound.specs.declared.sizes.TheConstants.{BLOCK_BYTES}

-- A report block: the source, the fraction lost, the packets lost, the extended highest sequence number, the jitter, and
-- the last sender report with the delay since it (RFC 3550, section 6.4.1).
pub record ReportBlock : Type 0 where
  pub source : ℕ
  pub fraction : ℕ
  pub lost : ℤ
  pub highest : ℕ
  pub jitter : ℕ
  pub last_sr : ℕ
  pub delay : ℕ

-- a number of packets lost in 24 bits, as two's complement
abbrev pub lost_word : ℤ → ℕ
lost_word (pos n) = n
lost_word (negsuc n) = 2 ^ 24 - 1 - n

-- each number within its field; of the packets lost, 24 bits with their sign (RFC 3550, section 6.4.1)
pub record IsReportBlock (b : ReportBlock) : Type 0 where
  pub source : b.source < 2 ^ 32
  pub fraction : b.fraction < 2 ^ 8
  pub lost_low : negsuc 8388607 ≤ℤ b.lost
  pub lost_high : b.lost ≤ℤ pos 8388607
  pub highest : b.highest < 2 ^ 32
  pub jitter : b.jitter < 2 ^ 32
  pub last_sr : b.last_sr < 2 ^ 32
  pub delay : b.delay < 2 ^ 32

-- the bytes of a block, BLOCK_BYTES of them (RFC 3550, section 6.4.1)
abbrev pub block_bytes : ReportBlock → List ℕ
block_bytes b =
    big_bytes 4 b.source ++ (b.fraction ∷ (big_bytes 3 (lost_word b.lost)
    ++ (big_bytes 4 b.highest
    ++ (big_bytes 4 b.jitter ++ (big_bytes 4 b.last_sr ++ big_bytes 4 b.delay)))))

-- the block that the bytes begin with
unfoldable pub block_in : List ℕ → ReportBlock
block_in bytes = record {
  source = big_number 4 bytes;
  fraction = slice_index bytes 4;
  lost = twos_complement 3 (big_number 3 (drop 5 bytes));
  highest = big_number 4 (drop 8 bytes);
  jitter = big_number 4 (drop 12 bytes);
  last_sr = big_number 4 (drop 16 bytes);
  delay = big_number 4 (drop 20 bytes);
}

-- the blocks that stand whole in the bytes
unfoldable pub blocks_in : List ℕ → List ReportBlock
blocks_in bytes = entries_from block_in BLOCK_BYTES (length bytes / BLOCK_BYTES) bytes

-- what a block of the program stands for
abbrev pub block_of : Block → ReportBlock
block_of b = record {
  source = b.source.0;
  fraction = b.fraction;
  lost = b.lost;
  highest = b.highest;
  jitter = b.jitter;
  last_sr = b.last_sr;
  delay = b.delay;
}

-- the blocks that are left
abbrev pub blocks_left : Blocks → List ReportBlock
blocks_left b = blocks_in b.bytes.now
