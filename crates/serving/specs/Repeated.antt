-- What is said to a publisher again.
use Rattle.std.specs.Prelude.{◌≡◌, ℕ, Bool, false, List, [], ◌++◌, None, if◌then◌else◌}
use Rattle.rate_cert.specs.declared.request.Request.{Request}
use Rattle.announcement.specs.Entries.{entries_of}
use Rattle.desk.specs.declared.effect.Effect.{Effect}
use Rattle.events.specs.declared.output.Out.{Out}
use Rattle.settings.specs.Links.{LinkTable}
use Rattle.policy.specs.AnnouncedSets.{SaidState, SetsState, said_to}
use Rattle.desk_calls.specs.Head.{Identity}
use Rattle.desk_calls.specs.Notification.{notification_datagrams}

-- the whole set if it is asked for again, else nothing of it
abbrev pub asked_again : Bool → List Request → List Request
asked_again asks set = if asks then set else []

-- After what was there stands what follows of a desk's call if nobody asked, these owners are lifted, and of this set that is fresh which is asked
-- for again (RFC 5104, section 4.2.1).
pub record SaysAgain (table : LinkTable) (unit : Identity) (publisher : ℕ) (set : List Request) (said : SaidState) (old new : List Out)
    : Type 0 where
  pub effect : Effect
  pub set_is : effect.set.items ≡ set
  pub lifted_is : effect.lifted.items ≡ said.lifted
  pub fresh_is : effect.fresh.items ≡ asked_again said.asks set
  pub behind : new ≡ old ++ notification_datagrams table unit []
      (record { publisher = publisher; asked_by = None; pli = false }) effect

-- the same of what is said again to a publisher of which this is known, at a look at this set and these live requests
pub record SaysWhatIsDue (sets : SetsState) (table : LinkTable) (unit : Identity) (publisher : ℕ) (set live : List Request)
    (old new : List Out) : Type 0 where
  pub said : SaidState
  pub due : said ≡ said_to sets publisher (entries_of set) (entries_of live) table.endpoints
  pub says : SaysAgain table unit publisher set said old new
