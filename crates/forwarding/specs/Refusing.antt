-- Why a desk refuses a call.
use Rattle.std.specs.Prelude.{Option, None, Some}
use Rattle.desk.specs.declared.call.Answer.{Answer}
use Rattle.desk.specs.declared.call.Answer.TheVariants as answer
use Rattle.events.specs.declared.output.DeskRefusal.{DeskRefusal}
use Rattle.events.specs.declared.output.DeskRefusal.TheVariants as desk
use Rattle.rate_desk.specs.declared.receipt.HouseFault.{HouseFault}
use Rattle.rate_desk.specs.declared.receipt.HouseFault.TheVariants.{HistoryFull, Behind}

-- why a desk refuses a call, by its answer
abbrev pub refusal_in : Answer → Option DeskRefusal
refusal_in (answer.Done pli kept) = None
refusal_in (answer.NotPresent stay) = Some desk.NotPresent
refusal_in (answer.AlreadyPresent stay) = Some desk.AlreadyPresent
refusal_in answer.Full = Some desk.Full

-- why a desk doesn't record a call; that a seat is ahead of its desk is no refusal of the desk's
abbrev pub refusal_by : HouseFault → Option DeskRefusal
refusal_by HistoryFull = Some desk.HistoryFull
refusal_by (Behind calls) = None
