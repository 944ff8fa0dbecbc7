-- The days of the calendar, and the times of a day, as the library shows them.
use Rattle.std.specs.Prelude.{◌≡◌, ℕ, ◌/◌, ◌%◌, pos}
use Rattle.jiff.specs.Types.{Date, Time}
use Rattle.registry_packument.specs.Calendar.{date_on}

-- 31 December 9999, which is the day of the last moment
abbrev pub last_day : ℕ
last_day = 2932896

-- it is the date this many days after 1 January 1970
abbrev pub IsDateOn : ℕ → Date → Type 0
IsDateOn n d = (d.year ≡ pos (date_on n).year) × (d.month ≡ (date_on n).month) × (d.day ≡ (date_on n).day)

-- it is the time this many seconds after midnight
abbrev pub IsTimeAt : ℕ → Time → Type 0
IsTimeAt r t = (t.hour ≡ r / 3600) × (t.minute ≡ r / 60 % 60) × (t.second ≡ r % 60) × (t.subsec_nanosecond ≡ 0)
