use Rattle.book_model.proofs.Calendars.{year_is}
use Rattle.book_model.proofs.laws.gregorian_years.Goals as goal

pub returns : goal.returns
returns c = year_is
