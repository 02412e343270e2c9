use Rattle.line_core.proofs.OtherCalendars.{other_month, other_day, other_known}
use Rattle.line_core.proofs.dates.known_day.Goals as goal

pub returns-in_default : goal.returns-in_default
returns-in_default c =
    let calendar = c.args.calendar in
    let month = other_month calendar c.args.date.now c.in_default.not-Gregorian in
    let known = other_known calendar c.args.date.now c.in_default.not-Gregorian c.in_default.not-Fixed in
    let day = other_day c.args.reach calendar c.args.date.now c.in_default.not-Gregorian c.in_default.not-Fixed in
    record { day = (month, known, day) }
