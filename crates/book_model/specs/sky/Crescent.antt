-- The first visibility of the crescent by Shaukat's criterion: when the sun stands 4.5 degrees below the horizon, the
-- arc of light (ARCL, the moon's elongation from the sun) is at least 10.6 degrees and the moon's altitude above 4.1.
-- Angles are in degrees, moments in days (R.D.). Reingold and Dershowitz, Calendrical Calculations, chapters 14 and 18.
use Rattle.std.specs.Prelude.{Bool, false, not, if◌then◌else◌, ℤ, pos, ◌-ℤ◌, int_le}
use Rattle.book_model.specs.declared.crescent_tables.TheConstants.{CRESCENT_DEPRESSION, LEAST_ALTITUDE}
use Rattle.book_model.specs.declared.crescent_tables.TheConstants.{LEAST_ARC_OF_LIGHT}
use Rattle.book_model.specs.declared.horizon.Location.{Location}
use Rattle.book_model.specs.declared.site.Site.TheVariants.{Crescent}
use Rattle.book_model.specs.numbers.Expressions.{Expression, integer, constant, add, multiply, sine, cosine}
use Rattle.book_model.specs.numbers.Fractions.{fraction_of}
use Rattle.book_model.specs.sky.Altitude.{altitude_sine_of}
use Rattle.book_model.specs.sky.Horizon.{dusk_of, universal_of}
use Rattle.book_model.specs.sky.Latitude.{latitude_of}
use Rattle.book_model.specs.sky.Moon.{moon_of}
use Rattle.book_model.specs.sky.Phases.{phase_of, phase_day_of}
use Rattle.book_model.specs.programs.Programs.{Program, answer, compare, bind}
use Rattle.book_model.specs.programs.Searches.{first_day_from}
use Rattle.book_model.specs.sky.Sun.{obliquity_of}
use Rattle.book_model.specs.sky.Time.{centuries_of, sidereal_of}

-- when the crescent is looked for on the evening with which a day begins, in universal time
unfoldable pub evening_of : Location → ℤ → Program Expression
evening_of p d = bind (dusk_of p (constant (fraction_of CRESCENT_DEPRESSION)) (d -ℤ pos 1)) λ x. answer
    (universal_of (fraction_of p.longitude) x)

-- ---- what is compared
-- the cosine of the arc of light, by the moon's latitude and its phase
unfoldable pub arc_cosine_of : (latitude phase : Expression) → Expression
arc_cosine_of b f = multiply (cosine b) (cosine f)

-- ---- the conditions
-- a condition, and where it holds another
unfoldable pub and_also : Program Bool → Program Bool → Program Bool
and_also p q = bind p λ yes. if yes then q else answer false

-- the moon is past its new moon
unfoldable pub is_past_new_of : Expression → Program Bool
is_past_new_of f = compare Crescent (integer (pos 0)) f answer

-- it isn't yet at its first quarter
unfoldable pub is_before_quarter_of : Expression → Program Bool
is_before_quarter_of f = compare Crescent f (integer (pos 90)) answer

-- the arc of light, by its cosine, is at least 10.6 degrees
unfoldable pub is_lit_of : Expression → Program Bool
is_lit_of a = bind (compare Crescent (cosine (constant (fraction_of LEAST_ARC_OF_LIGHT))) a answer) λ more. answer
    (not more)

-- and at most 90
unfoldable pub is_within_quarter_of : Expression → Program Bool
is_within_quarter_of a = bind (compare Crescent a (integer (pos 0)) answer) λ less. answer (not less)

-- the moon, by the sine of its altitude, stands more than 4.1 degrees above the horizon
unfoldable pub is_high_of : Expression → Program Bool
is_high_of h = compare Crescent (sine (constant (fraction_of LEAST_ALTITUDE))) h answer

-- the conditions on the arc of light and on the altitude, in order
unfoldable pub is_bright_of : (arc altitude : Expression) → Program Bool
is_bright_of a h = and_also (is_lit_of a) (and_also (is_within_quarter_of a) (is_high_of h))

-- all conditions, in order
unfoldable pub is_crescent_of : (phase arc altitude : Expression) → Program Bool
is_crescent_of f a h = and_also (is_past_new_of f) (and_also (is_before_quarter_of f) (is_bright_of a h))

-- the same by the moon's phase, the obliquity, the moon's longitude and latitude and the sidereal time at Greenwich
unfoldable pub meets_of : Location → (phase obliquity longitude latitude sidereal : Expression) → Program Bool
meets_of p f o l b t = is_crescent_of f (arc_cosine_of b f)
    (altitude_sine_of (fraction_of p.latitude) (add t (constant (fraction_of p.longitude))) o l b)

-- the same by the phase and the obliquity, at a moment
unfoldable pub meets_with_of : Location → (x phase obliquity : Expression) → Program Bool
meets_with_of p x f o =
    bind (moon_of x) λ l.
    bind (latitude_of x) λ b.
    bind (sidereal_of x) λ t.
    meets_of p f o l b t

-- the obliquity of the ecliptic at a moment of universal time
unfoldable pub obliquity_at_of : Expression → Program Expression
obliquity_at_of x = bind (centuries_of x) obliquity_of

-- whether the moon meets the criterion at a moment of universal time
unfoldable pub meets_at_of : Location → Expression → Program Bool
meets_at_of p x =
    bind (phase_of x) λ f.
    bind (obliquity_at_of x) λ o.
    meets_with_of p x f o

-- whether the crescent is seen on the evening with which a day begins
unfoldable pub visible_of : Location → ℤ → Program Bool
visible_of p d = bind (evening_of p d) (meets_at_of p)

-- ---- the first visibility
-- the day from which the first visibility is sought: that of the new moon, or, where the crescent of that isn't seen
-- yet, 30 before
unfoldable pub start_by : ℤ → Bool → ℤ
start_by m seen = if seen then m else m -ℤ pos 30

unfoldable pub visibility_start_of : Location → (d m : ℤ) → Program ℤ
visibility_start_of p d m = if int_le (d -ℤ m) (pos 3) then (bind (visible_of p d) λ seen. answer (start_by m seen))
    else answer m

-- the first day on whose evening before the crescent is seen, from where the day of the last new moon tells
unfoldable pub visibility_after_of : Location → (d m : ℤ) → Program ℤ
visibility_after_of p d m = bind (visibility_start_of p d m) (first_day_from (visible_of p))

-- the last day before a day, or the day itself, on whose evening before the crescent was first seen
unfoldable pub phasis_of : Location → ℤ → Program ℤ
phasis_of p d = bind (phase_day_of (pos 0) d) (visibility_after_of p d)
