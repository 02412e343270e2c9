-- The distance of the moon's centre from the earth's, in kilometres. Reingold and Dershowitz, Calendrical Calculations,
-- chapter 14; Meeus, Astronomical Algorithms, chapter 47.
use Rattle.std.specs.Prelude.{ℤ, pos, unsigned_abs}
use Rattle.exact_math.specs.Fraction.{Fraction, whole}
use Rattle.book_model.specs.declared.moon_tables.TheConstants.{MEAN_DISTANCE, MOON_TERMS}
use Rattle.book_model.specs.declared.moon_terms.MoonTerm.{MoonTerm}
use Rattle.book_model.specs.numbers.Expressions.{Expression, integer, add, scale, cosine}
use Rattle.book_model.specs.numbers.Terms.{terms_of, times_power}
use Rattle.book_model.specs.programs.Programs.{Program, answer, bind}
use Rattle.book_model.specs.sky.Moon.{LunarAngles, lunar_angles_of, lunar_angle_of, no_term}
use Rattle.book_model.specs.sky.Time.{centuries_of}

-- r E^|m| cos(d D + m M + m' M' + f F)
unfoldable pub distance_part_of : LunarAngles → (elongation sun_anomaly moon_anomaly latitude_argument size : ℤ)
    → Expression
distance_part_of a d m n f r =
    scale (whole r) (times_power a.eccentricity (unsigned_abs m) (cosine (lunar_angle_of a d m n f)))

-- a term of the distance, in metres
unfoldable pub distance_term_of : LunarAngles → MoonTerm → Expression
distance_term_of a t = distance_part_of a t.elongation t.sun_anomaly t.moon_anomaly t.latitude_argument t.distance

-- the sum of the terms, in metres
unfoldable pub distance_terms_of : LunarAngles → Expression
distance_terms_of a = terms_of (distance_term_of a) no_term MOON_TERMS

-- the mean distance, in metres
abbrev pub mean_distance : ℤ
mean_distance = MEAN_DISTANCE

-- a metre, in kilometres
abbrev pub metre : Fraction
metre = record { num = pos 1; below = 999 }

-- the distance by the angles: a thousandth of the sum, which is in metres
unfoldable pub distance_by : LunarAngles → Expression
distance_by a = scale metre (add (integer mean_distance) (distance_terms_of a))

-- the distance at a moment of universal time
unfoldable pub distance_of : Expression → Program Expression
distance_of x = bind (centuries_of x) λ c. answer (distance_by (lunar_angles_of c))
