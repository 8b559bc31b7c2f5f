-- A moment as the wall clock shows it: RFC 3339, section 5.6.
use Rattle.std.specs.Prelude.{◌==◌, ◌&&◌, ◌||◌, ℕ, ◌+◌, ◌-◌, ◌/◌, ◌%◌, zero, suc, nat_lt, not, Bool, List, [], ◌++◌, Option, None, Some, codes, if◌then◌else◌}
use Rattle.std.specs.Fmt.{decimal}
use Rattle.replay.specs.declared.utc.DaysBehind.{DaysBehind}
use Rattle.replay.specs.declared.utc.TheConstants.{DAY_MS, UTC_END_MS}

-- RFC 3339, appendix C
abbrev pub is_leap_year : ℕ → Bool
is_leap_year year = ((year % 4 == 0) && not (year % 100 == 0)) || (year % 400 == 0)

abbrev pub days_in_year : ℕ → ℕ
days_in_year year = if is_leap_year year then 366 else 365

-- RFC 3339, section 5.7
abbrev pub days_in_month : ℕ → ℕ → ℕ
days_in_month year month =
    if month == 2 then (if is_leap_year year then 29 else 28)
    else if ((month == 4) || (month == 6)) || ((month == 9) || (month == 11)) then 30
    else 31

-- the year in which something lies, so many days behind the beginning of this one, and how many behind its own; it is this one, or one of
-- so many after it
abbrev pub year_behind : ℕ → ℕ → ℕ → DaysBehind
year_behind zero year days = record { number = year; days = days }
year_behind (suc left) year days =
    if nat_lt days (days_in_year year) then record { number = year; days = days }
    else year_behind left (year + 1) (days - days_in_year year)

-- the same of the months of a year
abbrev pub month_behind : ℕ → ℕ → ℕ → ℕ → DaysBehind
month_behind zero year month days = record { number = month; days = days }
month_behind (suc left) year month days =
    if nat_lt days (days_in_month year month) then record { number = month; days = days }
    else month_behind left year (month + 1) (days - days_in_month year month)

abbrev pub two_digits : ℕ → List ℕ
two_digits n = decimal (n / 10) ++ decimal (n % 10)

abbrev pub three_digits : ℕ → List ℕ
three_digits n = decimal (n / 100) ++ two_digits (n % 100)

-- a day of a month of a year
abbrev pub day_text : ℕ → DaysBehind → List ℕ
day_text year month =
    decimal year
    ++ (codes "-" ++ (two_digits month.number ++ (codes "-" ++ two_digits (month.days + 1))))

abbrev pub day_in : DaysBehind → List ℕ
day_in year = day_text year.number (month_behind year.days year.number 1 year.days)

-- the day that lies so many days behind the beginning of 1970 (no year or month is shorter than a day)
abbrev pub date_text : ℕ → List ℕ
date_text days = day_in (year_behind days 1970 days)

-- the time of a day, by its milliseconds
abbrev pub time_text : ℕ → List ℕ
time_text ms =
    two_digits (ms / 3600000)
    ++ (codes ":"
    ++ (two_digits (ms / 60000 % 60)
    ++ (codes ":" ++ (two_digits (ms / 1000 % 60) ++ (codes "." ++ three_digits (ms % 1000))))))

-- the moment so many milliseconds behind the beginning of 1970
abbrev pub utc_text : ℕ → List ℕ
utc_text unix_ms =
    date_text (unix_ms / DAY_MS) ++ (codes "T" ++ (time_text (unix_ms % DAY_MS) ++ codes "Z"))

-- what the wall clock says at a moment, by what it said at moment 0: nothing beyond the year 9999
abbrev pub wall_ms : Option ℕ → ℕ → Option ℕ
wall_ms None moment = None
wall_ms (Some began) moment = if nat_lt (began + moment) UTC_END_MS then Some (began + moment) else None

abbrev pub wall_or : ℕ → Option ℕ → List ℕ
wall_or moment None = decimal moment
wall_or moment (Some ms) = utc_text ms

-- a moment by the wall clock; its number, if that says nothing
abbrev pub moment_text : Option ℕ → ℕ → List ℕ
moment_text clock moment = wall_or moment (wall_ms clock moment)

abbrev pub wall_before : Option ℕ → List ℕ
wall_before None = []
wall_before (Some ms) = utc_text ms ++ codes " "

-- a moment before a line, by the wall clock alone
abbrev pub clock_text : Option ℕ → ℕ → List ℕ
clock_text clock moment = wall_before (wall_ms clock moment)
