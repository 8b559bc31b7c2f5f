-- What a call says.
use Rattle.std.specs.Prelude.{ℕ, ◌≤◌, max, Bool, true, false}
use Rattle.tmmbr_tuple.specs.Tuple.{word_of}
use Rattle.desk.specs.declared.call.Call.{Call}
use Rattle.desk.specs.declared.call.Call.TheVariants.{Stay, Time}
use Rattle.desk.specs.declared.call.Change.{Change}
use Rattle.desk.specs.declared.call.Change.TheVariants.{Arrive, Request as Ask, Depart}
use Rattle.desk.specs.declared.call.Signal.{Signal}
use Rattle.desk.specs.declared.call.Signal.TheVariants.{Pli, Tick, Expire}
use Rattle.desk.specs.declared.call.Answer.{Answer}
use Rattle.desk.specs.declared.call.Answer.TheVariants.{Done, NotPresent, AlreadyPresent, Full}
use Rattle.desk.specs.declared.call.Entry.{Entry}

-- stays are numbered from 1
abbrev pub HasStay : Call → Type 0
HasStay (Stay owner stay change) = 1 ≤ stay
HasStay (Time moment signal) = Unit {0}

-- the greatest moment so far, once this call is made
abbrev pub moment_after : ℕ → Call → ℕ
moment_after greatest (Stay owner stay change) = greatest
moment_after greatest (Time moment signal) = max greatest moment

-- the word that is requested, 0 if none is
abbrev pub word_in : Change → ℕ
word_in Arrive = 0
word_in (Ask tuple) = word_of tuple
word_in Depart = 0

abbrev pub requested_word : Call → ℕ
requested_word (Stay owner stay change) = word_in change
requested_word (Time moment signal) = 0

-- somebody wants a picture
abbrev pub is_wish : Signal → Bool
is_wish Pli = true
is_wish Tick = false
is_wish Expire = false

abbrev pub wishes : Call → Bool
wishes (Stay owner stay change) = false
wishes (Time moment signal) = is_wish signal

-- a PLI may be sent upstream
abbrev pub lets_up : Signal → Bool
lets_up Pli = true
lets_up Tick = true
lets_up Expire = false

abbrev pub can_send : Call → Bool
can_send (Stay owner stay change) = false
can_send (Time moment signal) = lets_up signal

-- requests may come or go
abbrev pub moves_request : Change → Bool
moves_request Arrive = false
moves_request (Ask tuple) = true
moves_request Depart = true

abbrev pub takes_requests : Signal → Bool
takes_requests Pli = false
takes_requests Tick = false
takes_requests Expire = true

abbrev pub may_change : Call → Bool
may_change (Stay owner stay change) = moves_request change
may_change (Time moment signal) = takes_requests signal

-- ---- answers

abbrev pub is_done : Answer → Bool
is_done (Done pli kept) = true
is_done (NotPresent stay) = false
is_done (AlreadyPresent stay) = false
is_done Full = false

-- a PLI was sent upstream at this call
abbrev pub is_answered_up : Answer → Bool
is_answered_up (Done pli kept) = pli
is_answered_up (NotPresent stay) = false
is_answered_up (AlreadyPresent stay) = false
is_answered_up Full = false

abbrev pub went_up : Entry → Bool
went_up e = is_answered_up e.answer
