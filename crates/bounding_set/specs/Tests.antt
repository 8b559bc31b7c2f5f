-- How many tests whether two lines imply a third are counted while lines change: from one count to the other.
use Rattle.std.specs.Prelude.{◌≡◌, ℕ, ◌+◌, ◌-◌, ◌*◌, ◌^◌, ◌<◌, ◌≤◌, Bool, false, List, None, length}
use Rattle.rate_cert.specs.declared.request.Request.{Request}
use Rattle.rate_cert.specs.declared.certificate.TheConstants.{MAX_REQUESTS}
use Rattle.bounding_set.specs.Rows.{tuple_of}
use Rattle.bounding_set.specs.State.{dropped_count}

-- Of so many lines some are dropped, from one end on: each of these takes a test, and at most one more is made, of the first
-- that stays. If there is a line, one is made.
pub record CountsDropped (before after lines dropped : ℕ) : Type 0 where
  pub counted : before ≤ after
  pub asked : 0 < lines → before + 1 ≤ after
  pub each : before + dropped ≤ after
  pub few : after ≤ before + dropped + 1

-- Of so many lines those from `low` to `high` are dropped beside one that takes the place of those from `at` to `from`: each
-- but one takes a test, and at most two more are made. If there is a line on a side of it, one is made.
pub record CountsBeside (before after lines at from low high : ℕ) : Type 0 where
  pub counted : before ≤ after
  pub asked_before : 0 < at → before + 1 ≤ after
  pub asked_behind : from < lines → before + 1 ≤ after
  pub each : high + before ≤ low + after + 1
  pub few : after ≤ before + (high - low) + 2

-- A line is put among the old ones, or left out: at most four tests if it is left out, and in any case at most four more than
-- there are old lines. There is at most one line more, and if that comes with no test, it stands alone.
pub record CountsSplice (before after : ℕ) (old new : List Request) (put : Bool) : Type 0 where
  pub counted : before ≤ after
  pub few : put ≡ false → after ≤ before + 4
  pub bounded : after ≤ before + length old + 4
  pub one_more : length new ≤ length old + 1
  pub untested : after ≡ before → length old < length new → length new ≤ 1

-- Of so many rows some return among the lines that stay: the lines grow by no more than the tests, and a row takes at most four
-- tests more than there may be lines.
pub record CountsReturns (before after rows stay now : ℕ) : Type 0 where
  pub grows : now + before ≤ stay + after
  pub counted : after ≤ before + rows * (MAX_REQUESTS + 4)

-- A row of a new owner comes, and its line is put among the old ones, or left out: at most four tests more than owners are
-- dropped, and at most one fewer. There is at most one line more, and none without a test if there were any. Lines and tests
-- together grow by at most five.
pub record CountsPut (before after : ℕ) (old new : List Request) : Type 0 where
  pub counted : before ≤ after
  pub each : before + dropped_count old new ≤ after + 1
  pub few : after ≤ before + dropped_count old new + 4
  pub one_more : length new ≤ length old + 1
  pub tested : 0 < length old → length new + before ≤ length old + after
  pub each_few : after + length new ≤ before + length old + 5
  pub bounded : after ≤ before + MAX_REQUESTS + 4

-- An owner's row comes, or takes the place of the one that it had: so many tests, which are at most four more than owners are
-- dropped if it had none, and at most one fewer. The lines grow by at most one more than the tests.
pub record CountsReplaced (tests : ℕ) (rows : List Request) (owner : ℕ)
    (old new : List Request) : Type 0 where
  pub each : tuple_of rows owner ≡ None → dropped_count old new ≤ tests + 1
  pub few : tuple_of rows owner ≡ None → tests ≤ dropped_count old new + 4
  pub each_more : length new ≤ length old + tests + 1
  pub bounded : tests ≤ MAX_REQUESTS * (MAX_REQUESTS + 4) + MAX_REQUESTS + 4

-- there is room for a row, and for its tests after those of another that went
pub record HasRoomToPut (rows : List Request) (count : ℕ) : Type 0 where
  pub room : length rows < MAX_REQUESTS
  pub countable : count ≤ MAX_REQUESTS * (MAX_REQUESTS + 4)

-- there is room for each of these rows as a line, and for the tests of all in a count of 32 bits
pub record HasRoomToReturn (rows : List Request) (count : ℕ) : Type 0 where
  pub within : length rows < MAX_REQUESTS
  pub countable : count + length rows * (MAX_REQUESTS + 4) < 2 ^ 32

-- no line changed, and no test was made
pub record IsUntouched (before after : ℕ) (old new : List Request) : Type 0 where
  pub lines : new ≡ old
  pub tests : after ≡ before
