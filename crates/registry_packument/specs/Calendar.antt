-- Moments in UTC: the Gregorian calendar, day by day from 1970 on, and the time of day.
use Rattle.std.specs.Prelude.{ℕ, zero, suc, ◌+◌, ◌/◌, ◌%◌, ◌==◌, ◌++◌, ◌&&◌, ◌||◌, not, nat_lt, Bool, true, false, if◌then◌else◌, List, [], ◌∷◌, codes}

-- every fourth year, but of the hundredth years only every fourth
abbrev pub is_leap_year : ℕ → Bool
is_leap_year y = (y % 4 == 0) && (not (y % 100 == 0) || (y % 400 == 0))

-- April, June, September and November have 30 days; February has 28, and 29 in a leap year
abbrev pub days_in_month : ℕ → ℕ → ℕ
days_in_month y m =
    if m == 2 then (if is_leap_year y then 29 else 28)
    else (if (m == 4) || (m == 6) || (m == 9) || (m == 11) then 30 else 31)

-- a date, whose month and day are counted from 1
pub record Day : Type 0 where
  pub year : ℕ
  pub month : ℕ
  pub day : ℕ

-- the day after: in the same month, or the first of the next month, or the first of the next year
abbrev pub after : Bool → Bool → Day → Day
after true _ d = record { year = d.year; month = d.month; day = d.day + 1 }
after false true d = record { year = d.year; month = d.month + 1; day = 1 }
after false false d = record { year = d.year + 1; month = 1; day = 1 }

abbrev pub next_day : Day → Day
next_day d = after (nat_lt d.day (days_in_month d.year d.month)) (nat_lt d.month 12) d

-- the date this many days after 1 January 1970
unfoldable pub date_on : ℕ → Day
date_on zero = record { year = 1970; month = 1; day = 1 }
date_on (suc n) = next_day (date_on n)

-- ---- texts

-- a number below 100 in two digits
abbrev pub two_digits : ℕ → List ℕ
two_digits n = (48 + n / 10) ∷ (48 + n % 10) ∷ []

-- a number below 10000 in four digits
abbrev pub four_digits : ℕ → List ℕ
four_digits n = two_digits (n / 100) ++ two_digits (n % 100)

-- `1970-01-01`
abbrev pub date_text : Day → List ℕ
date_text d = four_digits d.year ++ 45 ∷ two_digits d.month ++ 45 ∷ two_digits d.day

-- hours, minutes and seconds, as `00:01:40`, of this many seconds since midnight
abbrev pub clock_text : ℕ → List ℕ
clock_text r = two_digits (r / 3600) ++ 58 ∷ two_digits (r / 60 % 60) ++ 58 ∷ two_digits (r % 60)

-- `1970-01-01T00:01:40.000Z` of this many seconds since the beginning of 1970, in days of 86400
-- each
abbrev pub utc_text : ℕ → List ℕ
utc_text m = date_text (date_on (m / 86400)) ++ 84 ∷ clock_text (m % 86400) ++ codes ".000Z"
