-- The trace of a desk: a base, which stands for calls that aren't listed any more, and the listed calls with their answers.
use Rattle.std.specs.Prelude.{ℕ, ◌+◌, ◌*◌, ◌^◌, ◌≤◌, nat_le, Bool, true, false, not, ◌&&◌, ◌||◌, List, [], length, fold, sum_by, Option, Some, None, if◌then◌else◌}
use Rattle.std.specs.Option.{option_map_or}
use Rattle.rate_cert.specs.declared.request.Request.{Request}
use Rattle.desk.specs.declared.call.Call.{Call}
use Rattle.desk.specs.declared.call.Answer.{Answer}
use Rattle.desk.specs.declared.call.Entry.{Entry}
use Rattle.desk.specs.declared.presence.Present.{Present}
use Rattle.desk.specs.declared.presence.TheConstants.{PRESENT_LIMIT}
use Rattle.desk.specs.declared.base.Base.{Base}
use Rattle.desk.specs.Call.{moment_after, requested_word, wishes, can_send, is_done, went_up}
use Rattle.desk.specs.Presence.{HasRisingOwners, HasStays, present_by, live_requests, refusal_of}

-- nobody is present, no picture is wanted, no call was recorded
abbrev pub empty_base : Base
empty_base = record {
  present = record { items = [] };
  wanted = false;
  greatest = 0;
  last_up = None;
  calls = 0;
  words = 0;
}

-- who is present once the call was done
abbrev pub present_behind : ℕ → Base → Call → List Present
present_behind request_ms base call =
    present_by request_ms (moment_after base.greatest call) base.present.items call

-- What the base and one entry come to. Who is present changes if the call was done. A PLI that was sent upstream leaves no
-- wish and its moment. Each entry counts, and its word.
abbrev pub base_with : ℕ → Base → Entry → Base
base_with request_ms base e = record {
  present = record {
    items = if is_done e.answer then present_behind request_ms base e.call
        else base.present.items;
  };
  wanted = not (went_up e) && (wishes e.call || base.wanted);
  greatest = moment_after base.greatest e.call;
  last_up = if went_up e then Some (moment_after base.greatest e.call) else base.last_up;
  calls = base.calls + 1;
  words = base.words + requested_word e.call;
}

-- what the base and these entries come to, one after the other
abbrev pub base_after : ℕ → Base → List Entry → Base
base_after request_ms base entries = fold (base_with request_ms) base entries

-- the live requests after these calls, by rising owner
abbrev pub live_after : ℕ → Base → List Entry → List Request
live_after request_ms base entries =
    live_requests (base_after request_ms base entries).present.items

-- the sum of the requested words, of calls accepted or refused
abbrev pub words_of : List Entry → ℕ
words_of entries = sum_by (λ e. requested_word e.call) entries

-- what holds of every base
pub record IsBase (base : Base) : Type 0 where
  pub rising : HasRisingOwners base.present.items
  pub stays : HasStays base.present.items
  pub few : length base.present.items ≤ PRESENT_LIMIT
  pub words : base.words ≤ base.calls * 2 ^ 32

-- ---- a call after a trace

-- no PLI was sent upstream before, or the last one so long ago
abbrev pub is_due : ℕ → Option ℕ → ℕ → Bool
is_due gap last now = option_map_or (λ up. nat_le (up + gap) now) last true

-- A PLI is sent upstream at a `pli` or a `tick` if a picture is wanted, by this call or since the last PLI, and if that
-- one was sent at least the gap ago (RFC 4585, section 6.3.1; the gap is this project's own).
abbrev pub goes_up : ℕ → Base → Call → Bool
goes_up gap base call =
    can_send call && (wishes call || base.wanted)
    && is_due gap base.last_up (moment_after base.greatest call)

-- who is present after a call, done or refused
abbrev pub present_unless : ℕ → Base → Call → Option Answer → List Present
present_unless request_ms base call None = present_behind request_ms base call
present_unless request_ms base call (Some refusal) = base.present.items

abbrev pub present_with : ℕ → Base → Call → List Present
present_with request_ms base call =
    present_unless request_ms base call (refusal_of base.present.items call)
