-- The calendar that counts days is the library's.
use Rattle.std.proofs.Common.{◌≡◌, ◌∙◌, ℕ, zero, suc, ◌+◌, ◌≤◌, nat_lt, Bool, true, false, refl, sym, ap, subst, arith, rules, pos}
use Rattle.std.specs.Int.{IsInRange}
use Rattle.std.proofs.lemmas.Bool.{ltb-false, ltb-true}
use Rattle.std.proofs.lemmas.Int.{by_lt_z}
use Rattle.jiff_core.specs.Calendar.{day_count, days_from_civil, days_in_month, days_in_year}
use Rattle.jiff_core.specs.Date.{epoch_day}
use Rattle.jiff_core.specs.declared.civil.date.Date.{Date}
use Rattle.jiff_core.proofs.CalendarLemmas.{days_from_civil-day_count, day_count-epoch, day_count-day, day_count-next_month, day_count-next_year, day_count-last_of_year, day_count-later_year, day_count-day_of_year, day_count-end, days_in_month_bounds}
use Rattle.jiff_core.proofs.DateLemmas.{epoch_day_injective}
use Rattle.jiff_core.proofs.SignedLemmas.{signed_arith}
use Rattle.std.specs.Prelude.{◌++◌, ◌∷◌, [], Some, ◌/◌, ◌%◌}
use Rattle.jiff_core.specs.declared.civil.datetime.DateTime.{DateTime}
use Rattle.jiff_fmt.specs.Text as text
use Rattle.jiff_fmt.specs.Printer as printer
use Rattle.jiff_fmt.specs.declared.temporal.printer.DateTimePrinter.{DateTimePrinter}
use Rattle.std.specs.Prelude.{Option}
use Rattle.registry_packument.specs.Calendar.{Day, after, date_on, utc_text}
use Rattle.registry_packument.specs.Dates.{IsDateOn, IsTimeAt, last_day}

-- a day of the calendar, which is the nth after 1 January 1970
record IsDay (n : ℕ) (d : Day) : Type 0 where
  pub month_in : IsInRange 1 12 d.month
  pub day_in : IsInRange 1 (days_in_month (pos d.year) d.month) d.day
  pub count : day_count (pos d.year) d.month d.day ≡ n + 4_371_953

goes_on : (n : ℕ) (d : Day) (a b : Bool) → nat_lt d.day (days_in_month (pos d.year) d.month) ≡ a → nat_lt d.month 12 ≡ b → IsDay n d → IsDay (suc n) (after a b d)
goes_on n d true b more up is = record {
  month_in = is.month_in;
  day_in = (omega arith, omega (arith, ltb-true d.day _ more));
  count = omega (arith, is.count, day_count-day (pos d.year) d.month d.day (d.day + 1) is.day_in.0 (omega arith));
}
goes_on n d false true more up is =
    let long = days_in_month_bounds (pos d.year) (d.month + 1) in
    record {
      month_in = (omega arith, omega (arith, ltb-true d.month 12 up));
      day_in = (omega arith, omega (arith, long));
      count = omega (arith, ltb-false d.day _ more, is.day_in, is.count, day_count-next_month (pos d.year) d.month is.month_in.0, day_count-day (pos d.year) d.month d.day 1 is.day_in.0 (omega arith));
    }
goes_on n d false false more up is =
    let december : d.month ≡ 12 = omega (arith, ltb-false d.month 12 up, is.month_in) in
    let long = days_in_month_bounds (pos (d.year + 1)) 1 in
    let same = subst (λ m. day_count (pos d.year) m d.day ≡ n + 4_371_953) december is.count in
    let last = subst (λ m. nat_lt d.day (days_in_month (pos d.year) m) ≡ false) december more in
    let within = subst (λ m. IsInRange 1 (days_in_month (pos d.year) m) d.day) december is.day_in in
    let end : d.day ≡ 31 = omega (arith, ltb-false d.day _ last, within) in
    record {
      month_in = (omega arith, omega arith);
      day_in = (omega arith, omega (arith, long));
      count = omega (arith, subst (λ t. day_count (pos d.year) 12 t ≡ n + 4_371_953) end same, day_count-last_of_year (pos d.year), day_count-next_year (pos d.year) (pos (d.year + 1)) (search rules) refl);
    }

is_day : (n : ℕ) → IsDay n (date_on n)
unfolding date_on
is_day zero = record { month_in = search rules; day_in = search rules; count = day_count-epoch }
is_day (suc n) = goes_on n (date_on n) _ _ refl refl (is_day n)

-- up to the last day of 9999
nine_years : day_count (pos 9999) 1 1 + days_in_year (pos 9999) ≡ 7_304_850
nine_years = omega (arith, day_count-end, day_count-next_year (pos 9999) (pos 10000) (search rules) refl)

year_is : (n : ℕ) (d : Day) → n ≤ last_day → IsDay n d → d.year ≤ 9999
year_is n d low is =
    by_lt_z (pos 9999) (pos d.year)
    (λ late. absurd (omega (arith, day_count-later_year (pos 9999) (pos d.year) (search rules) late, nine_years, day_count-day_of_year (pos d.year) d.month d.day is.day_in.0, is.count)))
    (λ early. omega (arith, signed_arith))

shown : (n : ℕ) (d : Day) → n ≤ last_day → IsDay n d → Date
shown n d low is = record { year = pos d.year; month = d.month; day = d.day; year_in = search (rules, year_is n d low is); month_in = is.month_in; day_in = is.day_in }

numbered : (n : ℕ) (d : Day) → IsDay n d → days_from_civil (pos d.year) d.month d.day ≡ pos n
numbered n d is = omega (arith, signed_arith, days_from_civil-day_count (pos d.year) d.month d.day, is.count)

pub dates_are : (n : ℕ) (d : Date) → n ≤ last_day → epoch_day d ≡ pos n → IsDateOn n d
unfolding shown date_on
dates_are n d low is =
    let it = is_day n in
    epoch_day_injective d (shown n (date_on n) low it) (is ∙ sym (numbered n (date_on n) it))

-- 1 January 1970 is day 0
pub from_epoch : (d : Date) → (d.year ≡ pos 1970) → (pos d.month ≡ pos 1) → (pos d.day ≡ pos 1) → epoch_day d ≡ pos 0
from_epoch d year month day =
    let m : d.month ≡ 1 = omega (arith, signed_arith, month) in
    let t : d.day ≡ 1 = omega (arith, signed_arith, day) in
    rw (year, m, t) (omega (arith, signed_arith, days_from_civil-day_count (pos 1970) 1 1, day_count-epoch))

-- what jiff prints of the two
pub printed : (m : ℕ) (dt : DateTime) → IsDateOn (m / 86400) dt.date → IsTimeAt (m % 86400) dt.time → text.datetime_text false 84 (Some 3) dt ++ 90 ∷ [] ≡ utc_text m
unfolding text.places
printed m dt date clock = rw (date.0, date.1, date.2, clock.0, clock.1, clock.2, clock.3) refl

pub printed_by : (p : DateTimePrinter) (dt : DateTime) → printer.options p ≡ (false, 84, Some 3) → printer.datetime_text p dt ≡ text.datetime_text false 84 (Some 3) dt
printed_by p dt e = ap (λ (o : Bool × ℕ × Option ℕ). text.datetime_text o.0 o.1 o.2 dt) e
