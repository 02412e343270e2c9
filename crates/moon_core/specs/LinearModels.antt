-- What a linear model has of the moon's longitude over an interval of days, and the number of a new moon by it.
use Rattle.std.specs.Prelude.{length, slice_range, ℤ}
use Rattle.book_model.specs.Interval.{Interval}
use Rattle.book_model.specs.declared.moon_tables.TheConstants.{JUPITER_TERM, MOON_TERMS, VENUS_TERM}
use Rattle.book_model.specs.declared.new_moon_tables.TheConstants.{DEGREE_IN_MONTHS}
use Rattle.book_model.specs.numbers.Expressions.{Expression, World, subtract, scale}
use Rattle.book_model.specs.numbers.Fractions.{fraction_of}
use Rattle.book_model.specs.numbers.Polynomials.{periodic_term_of}
use Rattle.book_model.specs.numbers.Relations.{Within}
use Rattle.book_model.specs.numbers.Terms.{terms_of}
use Rattle.book_model.specs.programs.Calls.{Holds1}
use Rattle.book_model.specs.programs.Programs.{Program, bind}
use Rattle.book_model.specs.sky.Moon.{flattening_of, longitude_term_of, lunar_angles_of, no_term}
use Rattle.book_model.specs.sky.Phases.{phase_of, nearest_moon_of}
use Rattle.book_model.specs.sky.Sun.{nutation_of}
use Rattle.periodic_terms.specs.MeanAngles.{HoldAngles}
use Rattle.moon_core.specs.HigherTerms.{HoldHigherTerms}
use Rattle.periodic_terms.specs.declared.mean.MeanAngles.{MeanAngles}
use Rattle.moon_core.specs.declared.higher_terms.HigherTerms.{HigherTerms}
use Rattle.periodic_terms.specs.declared.tables.TheConstants.{GREATEST_TERMS}
use Rattle.sun_core.specs.Daily.{in_centuries}

-- the sum of the greatest terms, the first of the table, and that of the others, by the days
unfoldable pub greatest_terms_of : Expression → Expression
greatest_terms_of x = terms_of (longitude_term_of (lunar_angles_of (in_centuries x))) no_term
    (slice_range MOON_TERMS 0 GREATEST_TERMS)

unfoldable pub other_terms_of : Expression → Expression
other_terms_of x = terms_of (longitude_term_of (lunar_angles_of (in_centuries x))) no_term
    (slice_range MOON_TERMS GREATEST_TERMS (length MOON_TERMS))

-- a linear model's parts hold those of the longitude at each number of days of the interval
pub record IsMoonLinearModel {E : Type 0} (shown : E → Interval) (days : E) (b : HigherTerms E) (a : MeanAngles E)
    (t v j f n : E) : Type 0 where
  pub higher : (w : World) (x : Expression) → Within shown w x days → HoldHigherTerms shown w (in_centuries x) b
  pub angles : (w : World) (x : Expression) → Within shown w x days
      → HoldAngles shown w (lunar_angles_of (in_centuries x)) a
  pub terms : Holds1 shown other_terms_of days t
  pub venus : Holds1 shown (λ x. periodic_term_of (in_centuries x) VENUS_TERM) days v
  pub jupiter : Holds1 shown (λ x. periodic_term_of (in_centuries x) JUPITER_TERM) days j
  pub flattening : Holds1 shown (λ x. flattening_of (in_centuries x)) days f
  pub nutation : Holds1 shown (λ x. nutation_of (in_centuries x)) days n

-- the number of the last new moon before a moment, or of one next to it, by the months since the first and a phase; and
-- by these months and the phase at the moment
unfoldable pub number_of_phase : (months degrees : Expression) → Program ℤ
number_of_phase m p = nearest_moon_of (subtract m (scale (fraction_of DEGREE_IN_MONTHS) p))

unfoldable pub number_by : (months x : Expression) → Program ℤ
number_by m x = bind (phase_of x) (number_of_phase m)
