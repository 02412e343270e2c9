-- What a linear model has of the sun's longitude over an interval of days.
use Rattle.std.specs.Prelude.{length, slice_range}
use Rattle.book_model.specs.Interval.{Interval}
use Rattle.book_model.specs.declared.sun_tables.TheConstants.{SUN_TERMS}
use Rattle.book_model.specs.numbers.Expressions.{Expression}
use Rattle.book_model.specs.numbers.Polynomials.{periodic_term_of, no_periodic_term}
use Rattle.book_model.specs.numbers.Terms.{terms_of}
use Rattle.book_model.specs.programs.Calls.{Holds1}
use Rattle.book_model.specs.sky.Sun.{aberration_of, nutation_of}
use Rattle.sun_core.specs.Daily.{in_centuries}
use Rattle.sun_core.specs.declared.linear_models.TheConstants.{GREATEST_SUN_TERMS}

-- the sum of the greatest periodic terms, the first of the table, and that of the others, by the days
unfoldable pub greatest_sun_terms_of : Expression → Expression
greatest_sun_terms_of x = terms_of (periodic_term_of (in_centuries x)) no_periodic_term
    (slice_range SUN_TERMS 0 GREATEST_SUN_TERMS)

unfoldable pub other_sun_terms_of : Expression → Expression
other_sun_terms_of x = terms_of (periodic_term_of (in_centuries x)) no_periodic_term
    (slice_range SUN_TERMS GREATEST_SUN_TERMS (length SUN_TERMS))

-- a linear model's parts hold those of the longitude at each number of days of the interval
pub record IsSunLinearModel {E : Type 0} (shown : E → Interval) (days w a n : E) : Type 0 where
  pub other_terms : Holds1 shown other_sun_terms_of days w
  pub aberration : Holds1 shown (λ x. aberration_of (in_centuries x)) days a
  pub nutation : Holds1 shown (λ x. nutation_of (in_centuries x)) days n
