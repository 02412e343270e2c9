-- The moon's phase, which is its longitude less the sun's, the new moons before and from a moment, and when the moon
-- was last at a phase. Angles are in
-- degrees, moments in days (R.D.) of universal time. Reingold and Dershowitz, Calendrical Calculations, chapter 14.
use Rattle.std.specs.Prelude.{ℕ, zero, suc, Bool, if◌then◌else◌, ℤ, pos, ◌+ℤ◌, ◌-ℤ◌}
use Rattle.book_model.specs.declared.new_moon_tables.TheConstants.{DAY_IN_MONTHS, DEGREE_IN_MONTHS, DEGREE_OF_MONTH}
use Rattle.book_model.specs.declared.new_moon_tables.TheConstants.{TURN}
use Rattle.book_model.specs.declared.site.Site.TheVariants.{DayFloor, PhaseWrap, PhasePick, MoonNumber, MoonWalk}
use Rattle.book_model.specs.declared.tables.TheConstants.{HALF}
use Rattle.book_model.specs.numbers.Expressions.{Expression, integer, constant, add, subtract, negate, scale, minimum}
use Rattle.book_model.specs.numbers.Expressions.{maximum, remainder}
use Rattle.book_model.specs.programs.Bisection.{invert_of}
use Rattle.book_model.specs.numbers.Fractions.{fraction_of}
use Rattle.book_model.specs.sky.Moon.{moon_of}
use Rattle.book_model.specs.sky.NewMoons.{new_moon_of}
use Rattle.book_model.specs.programs.Programs.{Program, answer, void, cell, compare, bind, integers, multiples}
use Rattle.book_model.specs.sky.Sun.{sun_of, reduced_of}

-- an angle, reduced to 0 .. 360
unfoldable pub within_turn_of : Expression → Program Expression
within_turn_of x = cell PhaseWrap (multiples 360) x λ q. answer (remainder 360 x q)

-- the longitude of the moon less that of the sun, from 0 up to 360
unfoldable pub elongation_of : Expression → Program Expression
elongation_of x =
    bind (moon_of x) λ m.
    bind (sun_of x) λ s.
    within_turn_of (subtract m s)

-- the synodic months from one moment to another
unfoldable pub months_between : Expression → Expression → Expression
months_between from to = scale (fraction_of DAY_IN_MONTHS) (subtract to from)

-- the synodic months from the new moon of a number to a moment
unfoldable pub months_since : ℤ → Expression → Program Expression
months_since n x = bind (new_moon_of n) λ m. answer (months_between m x)

-- the whole number that is nearest, the greater of two
unfoldable pub nearest_moon_of : Expression → Program ℤ
nearest_moon_of months = cell MoonNumber integers (add months (constant (fraction_of HALF))) answer

-- the number of the new moon about a moment, by mean months from the new moon of number 0
unfoldable pub rough_number_of : Expression → Program ℤ
rough_number_of x = bind (months_since (pos 0) x) nearest_moon_of

-- what is left of so many months by whole months
unfoldable pub rest_of_month : Expression → Program Expression
rest_of_month m = cell PhaseWrap (multiples 1) m λ q. answer (remainder 1 m q)

-- the phase by the time since the new moon of a number: 360 degrees for each mean month
unfoldable pub phase_by_months_of : ℤ → Expression → Program Expression
phase_by_months_of n x =
    bind (months_since n x) λ m.
    bind (rest_of_month m) λ r.
    answer (scale (fraction_of TURN) r)

-- the size of a difference
abbrev pub size_of : Expression → Expression
size_of x = maximum x (negate x)

-- the second of two, where they are apart
unfoldable pub phase_of_choice : Bool → Expression → Expression → Expression
phase_of_choice apart p q = if apart then q else p

-- the phase by longitudes, or the one by the time where the two are more than 180 degrees apart
unfoldable pub test_which_phase_of : Expression → Expression → Program Expression
test_which_phase_of p q = bind (compare PhasePick (integer (pos 180)) (size_of (subtract p q)) answer) λ apart. answer
    (phase_of_choice apart p q)

-- the phase by longitudes p, or in its place the one by the time since the new moon about the moment
unfoldable pub corrected_of : (x p : Expression) → Program Expression
corrected_of x p =
    bind (rough_number_of x) λ n.
    bind (phase_by_months_of n x) λ q.
    test_which_phase_of p q

-- the moon's phase at a moment
unfoldable pub phase_of : Expression → Program Expression
phase_of x = bind (elongation_of x) (corrected_of x)

-- the number of the last new moon before a moment, or of one next to it
unfoldable pub number_of_moon : Expression → Program ℤ
number_of_moon x =
    bind (months_since (pos 0) x) λ m.
    bind (phase_of x) λ p.
    nearest_moon_of (subtract m (scale (fraction_of DEGREE_IN_MONTHS) p))

-- whether the new moon of a number is before a moment
unfoldable pub is_moon_before_of : ℤ → Expression → Program Bool
is_moon_before_of k x = bind (new_moon_of k) λ m. compare MoonWalk m x answer

-- the first of so many numbers from k on whose new moon isn't before a moment; where there is none, the walk is void
unfoldable pub walk_of : ℕ → Expression → ℤ → Program ℤ
walk_of zero x k = void MoonWalk
walk_of (suc more) x k = bind (is_moon_before_of k x) λ before. if before then walk_of more x (k +ℤ pos 1) else answer k

-- the new moon that comes before the one of a number
unfoldable pub moon_preceding_of : ℤ → Program Expression
moon_preceding_of k = new_moon_of (k -ℤ pos 1)

-- the last new moon before a moment: the walk takes at most five steps
unfoldable pub moon_before_of : Expression → Program Expression
moon_before_of x =
    bind (number_of_moon x) λ n.
    bind (walk_of 6 x (n -ℤ pos 1)) λ k.
    moon_preceding_of k

-- the first new moon at or after a moment
unfoldable pub moon_from_of : Expression → Program Expression
moon_from_of x =
    bind (number_of_moon x) λ n.
    bind (walk_of 6 x n) λ k.
    new_moon_of k

-- how far the moon is past a phase, from 0 up to 360
unfoldable pub phase_past_of : (phase x : Expression) → Program Expression
phase_past_of f x = bind (phase_of x) λ p. reduced_of (subtract p f)

-- the moment x less the time in which the mean phase moves on by p
unfoldable pub phase_back_by : (p x : Expression) → Expression
phase_back_by p x = subtract x (scale (fraction_of DEGREE_OF_MONTH) p)

-- when the moon is at a phase: from two days before a moment to two days after it, but not after the moment x
unfoldable pub phase_about_of : (phase x about : Expression) → Program Expression
phase_about_of f x t = invert_of phase_of f (subtract t (integer (pos 2))) (minimum x (add t (integer (pos 2))))

-- when the moon was last at a phase, at or before a moment of universal time
unfoldable pub phase_before_of : (phase x : Expression) → Program Expression
phase_before_of f x = bind (phase_past_of f x) λ p. phase_about_of f x (phase_back_by p x)

-- the day in universal time on which the moon was last at a phase, before a day begins or as it begins
unfoldable pub phase_day_of : (phase day : ℤ) → Program ℤ
phase_day_of f d = bind (phase_before_of (integer f) (integer d)) λ t. cell DayFloor integers t answer
