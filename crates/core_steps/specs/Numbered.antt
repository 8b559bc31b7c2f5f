-- What was numbered and kept on each leg over a run.
use Rattle.std.specs.Prelude.{◌≡◌, ◌==◌, ◌&&◌, ℕ, ◌%◌, List, [], ◌∷◌, ◌++◌, map, slice_get, slice_index_or, Some, Result, Ok, Err, if◌then◌else◌}
use Rattle.std.specs.List.{flat_map}
use Rattle.circular_buffer.specs.Buffer.{keep_last}
use Rattle.members.specs.declared.order.Row.{Row}
use Rattle.settings.specs.declared.settings.LegSettings.{LegSettings}
use Rattle.resend_ring.specs.Kept.{SentPacket as Sent, kept_in_turn}
use Rattle.rewrite.specs.declared.skip.Skip.{Skip as Cause}
use Rattle.rewrite.specs.Leg.{Held, new_leg, held_after, history_of}
use Rattle.rewrite.specs.Numbering.{IncomingPacket as Incoming, Entry as Numbered}
use Rattle.members.specs.Stays.{opening_row}
use Rattle.events.specs.declared.job.Job.{Job}
use Rattle.events.specs.declared.job.Job.TheVariants.{Packet, Request, Resend, Pli, Report, Goodbye}
use Rattle.legs.specs.declared.leg.LegState.{LegState}
use Rattle.core_steps.specs.Happening.{Happening, Worked, no_worker, world_after}
use Rattle.shared_packet.specs.Rtp.{is_rtp, sequence_number}
use Rattle.shared_packet.specs.Readdressed.{readdressed_bytes}
use Rattle.core_steps.specs.World.{WorldState}
use Rattle.rewrite.specs.declared.sequence.TheConstants.{SEQ_CYCLE}

-- ---- the jobs that a worker finished, in order, with the rows by which it did

pub record Finished : Type 0 where
  pub rows : List Row
  pub job : Job

abbrev pub finished_by : List Row → Job → Finished
finished_by rows job = record { rows = rows; job = job }

abbrev pub jobs_of_worker : ℕ → Worked → List Job
jobs_of_worker k d = if d.worker == k then d.finished else []

abbrev pub finished_at : ℕ → WorldState → Happening → List Finished
finished_at k w h = map (finished_by w.rows) (flat_map (jobs_of_worker k) h.worked)

abbrev pub finished_over : ℕ → WorldState → List Happening → List Finished
finished_over k w [] = []
finished_over k w (h ∷ history) = finished_at k w h ++ finished_over k (world_after w h) history

-- ---- the packets among them that a leg took

-- a packet, with the turn of the leg's row as it was taken
pub record Taken : Type 0 where
  pub turn : ℕ
  pub bytes : List ℕ

-- the row of the leg of this number; nothing stands on a leg without a row
abbrev pub row_at : List Row → ℕ → Row
row_at rows number = slice_index_or rows number opening_row

-- the leg of this number takes a packet of its publisher, while its row is on
abbrev pub packets_taken_by : ℕ → LegSettings → List Row → Job → List Taken
packets_taken_by number l rows (Packet publisher bytes) =
    if (l.publisher == publisher) && ((row_at rows number).on && is_rtp bytes)
    then record { turn = (row_at rows number).turn; bytes = bytes } ∷ []
    else []
packets_taken_by number l rows (Request leg stay word) = []
packets_taken_by number l rows (Resend leg stay nack) = []
packets_taken_by number l rows (Pli leg moment) = []
packets_taken_by number l rows (Report leg stay sr) = []
packets_taken_by number l rows (Goodbye leg) = []

-- over a run: the packets that the leg of this number took, by the rows as they were then (RFC 3550, section 5.1)
abbrev pub taken_on : ℕ → LegSettings → List Finished → List Taken
taken_on number l jobs = flat_map (λ (f : Finished). packets_taken_by number l f.rows f.job) jobs

-- ---- what the leg makes of them

-- as the leg's numbers see them
abbrev pub incoming_packet : Taken → Incoming
incoming_packet t = record { turn = t.turn; seq = sequence_number t.bytes }

-- what the leg answers to them in turn
abbrev pub answers_to : Held → List Taken → List Numbered
answers_to held taken = history_of held (map incoming_packet taken)

-- a packet that got a number as it goes out: under the leg's source, with the number's low 16 bits
abbrev pub sent_as : LegSettings → Taken → Result ℕ Cause → List (Sent (List ℕ))
sent_as l t (Ok number) =
    record { number = number; packet = readdressed_bytes l.out_ssrc.0 (number % SEQ_CYCLE) t.bytes }
    ∷ []
sent_as l t (Err cause) = []

abbrev pub sent_with : LegSettings → List Taken → List Numbered → List (Sent (List ℕ))
sent_with l [] answers = []
sent_with l (t ∷ taken) [] = []
sent_with l (t ∷ taken) (a ∷ answers) = sent_as l t a.answer ++ sent_with l taken answers

-- those that got a number, in turn
abbrev pub sent_on : LegSettings → Held → List Taken → List (Sent (List ℕ))
sent_on l held taken = sent_with l taken (answers_to held taken)

-- this holds of the leg at this place, which is there
pub record AtLeg (P : LegState → Type 0) (legs : List LegState) (place : ℕ) : Type 0 where
  pub leg : LegState
  pub there : slice_get legs place ≡ Some leg
  pub is : P leg

-- The leg once these packets were taken: the same leg with the same name. Its numbers (RFC 3550, section 5.1) are what they leave of
-- what it held. For NACKs (RFC 4585, section 6.2.1) it keeps the last of those that it kept and of those that got a number.
pub record HasTaken (taken : List Taken) (old new : LegState) : Type 0 where
  pub number : new.number ≡ old.number
  pub link : new.link ≡ old.link
  pub cname : new.cname ≡ old.cname
  pub numbers : new.numbers ≡ held_after old.numbers (map incoming_packet taken)
  pub capacity : new.kept.capacity ≡ old.kept.capacity
  pub kept : new.kept.items
      ≡ kept_in_turn old.kept.capacity old.kept.items (sent_on old.link old.numbers taken)

-- A new leg with this name once these packets were taken. Its numbers (RFC 3550, section 5.1) are what they leave of a new leg's. For
-- NACKs (RFC 4585, section 6.2.1) it keeps the last of those that got one, as many as its ring has room for.
pub record HasTakenAll (ring number : ℕ) (l : LegSettings) (name : List ℕ) (taken : List Taken)
    (now : LegState) : Type 0 where
  pub same_number : now.number ≡ number
  pub link : now.link ≡ l
  pub cname : now.cname ≡ name
  pub numbers : now.numbers ≡ held_after (new_leg l.first_seq) (map incoming_packet taken)
  pub kept : now.kept.items ≡ keep_last ring (sent_on l (new_leg l.first_seq) taken)

-- the legs of this worker
abbrev pub legs_at : ℕ → WorldState → List LegState
legs_at k w = (slice_index_or w.workers k no_worker).legs
