use Rattle.book_model.specs.calendars.Dates.{has_day_of_month}
use Rattle.book_model.specs.lines.Words.{calendar_of}
use Rattle.line_core.proofs.OtherCalendars.{month_has, month_found}
use Rattle.line_core.proofs.result.checked_again.Goals as goal

pub unwrap-day-requires : goal.unwrap-day-requires
unwrap-day-requires c =
    let calendar = calendar_of c.args.request.now.from in
    let date = c.args.request.now.date in
    let found = rw c.calendar.ensures.calendar at c.known_day.ensures.day in
    month_found _ (has_day_of_month calendar date) _ (month_has calendar date c.requires.possible) found
