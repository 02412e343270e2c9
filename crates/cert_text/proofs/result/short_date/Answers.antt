use Rattle.std.proofs.Common.{refl}
use Rattle.book_model.specs.calendars.Dates.{field}
use Rattle.book_model.specs.lines.Text.{gregorian_text}
use Rattle.cert_text.proofs.PaddedDigits.{four_digits, two_digits}
use Rattle.cert_text.proofs.result.short_date.Goals as goal

pub returns : goal.returns
unfolding gregorian_text
returns c =
    let year = four_digits (field c.args.date.now 0) c.requires.year in
    let month = two_digits (field c.args.date.now 1) c.requires.month in
    let day = two_digits (field c.args.date.now 2) c.requires.day in
    rw (
      year,
      month,
      day,
      c.last_digit.ensures,
      c.last_digit-2.ensures,
      c.last_digit-3.ensures,
      c.last_digit-4.ensures,
      c.last_digit-5.ensures,
      c.last_digit-6.ensures,
      c.last_digit-7.ensures,
      c.last_digit-8.ensures,
      c.field-year.ensures.field,
      c.field-month.ensures.field,
      c.field-day.ensures.field,
    ) refl
