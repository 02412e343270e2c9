-- Months and days of a year: how large they are. A month and the days before it are whole quotients of the day's number
-- by 31 or 30: each is bounded by what a quotient rounded down is, in linear arithmetic, for the months of 31 days and
-- for the others by themselves.
use Rattle.std.specs.Prelude.{◌≡◌, Bool, true, false, if◌then◌else◌, ℤ, pos, negsuc, ◌-ℤ◌, ◌≤ℤ◌, int_le, refl}
use Rattle.std.proofs.Common.{arith}
use Rattle.std.proofs.lemmas.Int.{ints}
use lib.IntN.{neg_ℤ}
use Rattle.book_model.proofs.Floors.{floor_quotient_is}
use Rattle.book_model.specs.calendars.Inquiries.{to_32_bits}
use Rattle.book_model.specs.calendars.Persian.{days_before_month, month_of_number}
use Rattle.book_model.specs.calendars.Spans.{quotient_up}
use Rattle.calendar_math.proofs.SpanLemmas.{LiesWithin}

-- a year that a value of a fact begins is its own nearest number of 32 bits
pub year_stands : (year : ℤ) → LiesWithin (negsuc 29999) (pos 30000) year → to_32_bits year ≡ year
year_stands year h = grind (arith, ints, h.from, h.to)

-- the days before one of twelve months
pub twelve_months : (month : ℤ) → LiesWithin (pos 1) (pos 12) month
    → LiesWithin (pos 0) (pos 336) (days_before_month month)
twelve_months month h = record { from = grind (arith, ints, h.from, h.to); to = grind (arith, ints, h.from, h.to) }

-- a day of the month is one of at most 31
left_early : (number : ℤ) → number ≤ℤ pos 186
    → LiesWithin (pos 1) (pos 31) (number -ℤ days_before_month (quotient_up number 31))
left_early number h =
    let f = floor_quotient_is (neg_ℤ number) 30 in
    record { from = grind (arith, ints, f.not_above, f.close); to = grind (arith, ints, f.not_above, f.close) }

left_late : (number : ℤ) → pos 187 ≤ℤ number
    → LiesWithin (pos 1) (pos 31) (number -ℤ days_before_month (quotient_up (number -ℤ pos 6) 30))
left_late number h =
    let f = floor_quotient_is (neg_ℤ (number -ℤ pos 6)) 29 in
    record { from = grind (arith, ints, f.not_above, f.close); to = grind (arith, ints, f.not_above, f.close) }

left_as : (number : ℤ) (b : Bool) → int_le number (pos 186) ≡ b
    → LiesWithin (pos 1) (pos 31)
    (number -ℤ days_before_month (if b then quotient_up number 31 else quotient_up (number -ℤ pos 6) 30))
left_as number true e = left_early number (grind (arith, ints))
left_as number false e = left_late number (grind (arith, ints))

pub day_left : (number : ℤ) → LiesWithin (pos 1) (pos 31) (number -ℤ days_before_month (month_of_number number))
day_left number = left_as number (int_le number (pos 186)) refl
