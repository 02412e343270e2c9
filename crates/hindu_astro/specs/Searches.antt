-- What is asked of a day that may be the one sought.
use Rattle.std.specs.Prelude.{Bool, ℤ}
use Rattle.book_model.specs.calendars.HinduLunar.{lies_in_month, has_date}
use Rattle.book_model.specs.calendars.Inquiries.{Inquiry}
use Rattle.hindu_astro.specs.Dates.{fields_of_lunar}
use Rattle.hindu_astro.specs.declared.lunar.Search.{Search}
use Rattle.hindu_astro.specs.declared.lunar.Search.TheVariants.{Month, Day}

-- whether it lies in a month, or has a date
unfoldable pub inquiry_of : Search → ℤ → Inquiry Bool
inquiry_of (Month date) = lies_in_month (fields_of_lunar date)
inquiry_of (Day date) = has_date (fields_of_lunar date)
