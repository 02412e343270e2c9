-- What the calendars of the Chinese rules may be asked. Their rows and that of the Chinese calendar differ in the name
-- alone, so the condition unfolds to the same statement over the same numbers, and stands as it is.
use Rattle.book_model.specs.declared.calendar.Calendar.TheVariants.{Chinese, Vietnamese, Korean, Japanese}
use Rattle.book_model.specs.declared.request.Fields.{Fields}
use Rattle.book_model.specs.calendars.Dates.{may_have, has_some_year, year_number, IsAskable}

-- each the dates of the Chinese calendar: their rows differ in the name alone
pub vietnamese_askable : (f : Fields) → IsAskable Vietnamese f → IsAskable Chinese f
unfolding may_have has_some_year year_number
vietnamese_askable f h = h

pub korean_askable : (f : Fields) → IsAskable Korean f → IsAskable Chinese f
unfolding may_have has_some_year year_number
korean_askable f h = h

pub japanese_askable : (f : Fields) → IsAskable Japanese f → IsAskable Chinese f
unfolding may_have has_some_year year_number
japanese_askable f h = h
