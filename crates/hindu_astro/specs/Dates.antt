-- Dates of the Hindu calendars as the fields of a result.
use Rattle.std.specs.Prelude.{[], ◌∷◌, pos}
use Rattle.book_model.specs.declared.request.Fields.{Fields}
use Rattle.book_model.specs.calendars.HinduLunar.{lunar_date}
use Rattle.book_model.specs.calendars.Inquiries.{flag}
use Rattle.hindu_astro.specs.declared.lunar.HinduLunar.{HinduLunar}
use Rattle.hindu_astro.specs.declared.solar.HinduSolar.{HinduSolar}

-- year, month and day
abbrev pub fields_of_solar : HinduSolar → Fields
fields_of_solar date = record { count = 3; values = date.year ∷ pos date.month ∷ pos date.day ∷ pos 0 ∷ pos 0 ∷ [] }

-- year, month, leap month, day and leap day
abbrev pub fields_of_lunar : HinduLunar → Fields
fields_of_lunar date = lunar_date date.year (pos date.month) (flag date.leap_month) (pos date.day) (flag date.leap_day)
