use Rattle.date_tests.proofs.PersianYears.{askable}
use Rattle.date_tests.proofs.tests.persian.day_over.Goals as goal

pub to_fixed-day-requires : goal.to_fixed-day-requires
to_fixed-day-requires c = record {
  askable = askable c.args.date c.requires.from_1180 c.requires.to_1427 c.requires.from_first_month
      c.requires.to_last_month c.requires.from_first_day
      c.requires.to_last_day;
}
