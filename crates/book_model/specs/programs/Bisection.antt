-- Bisection: the moment at which an angle that grows with time passes a given angle. Angles are in degrees.
-- Reingold and Dershowitz, Calendrical Calculations, chapter 1.
use Rattle.std.specs.Prelude.{ℕ, zero, suc, Bool, if◌then◌else◌, pos}
use Rattle.book_model.specs.declared.site.Site.TheVariants.{Bisect, BisectEnd}
use Rattle.book_model.specs.declared.tables.TheConstants.{HALF, HUNDRED_THOUSANDTH}
use Rattle.book_model.specs.numbers.Expressions.{Expression, integer, constant, add, subtract, scale, remainder}
use Rattle.book_model.specs.numbers.Fractions.{fraction_of}
use Rattle.book_model.specs.programs.Programs.{Program, answer, void, cell, compare, bind, multiples}

-- the middle of two numbers
unfoldable pub middle_of : (low high : Expression) → Expression
middle_of l u = scale (fraction_of HALF) (add l u)

-- whether two numbers are less than a hundred-thousandth apart
unfoldable pub are_near_of : (low high : Expression) → Program Bool
are_near_of l u = compare BisectEnd (subtract u l) (constant (fraction_of HUNDRED_THOUSANDTH)) answer

-- how far an angle is past another, from 0 up to 360
unfoldable pub angle_past_of : (angle target : Expression) → Program Expression
angle_past_of v y = cell Bisect (multiples 360) (subtract v y) λ q. answer (remainder 360 (subtract v y) q)

-- whether an angle has passed another: it is less than half a turn past it
unfoldable pub has_passed_of : (angle target : Expression) → Program Bool
has_passed_of v y = bind (angle_past_of v y) λ r. compare Bisect r (integer (pos 180)) answer

-- whether a function has passed an angle at a number
unfoldable pub has_passed_at : (Expression → Program Expression) → (target x : Expression) → Program Bool
has_passed_at f y x = bind (f x) λ v. has_passed_of v y

-- Bisection by so many iterations at most, while the bounds aren't near: the half is kept in which the function passes
-- the angle. The answer is the middle of the last bounds; where more iterations would be made it is void.
unfoldable pub bisected_of : ℕ → (Expression → Program Expression) → (target low high : Expression) → Program Expression
bisected_of zero f y l u = bind (are_near_of l u) λ near. if near then answer (middle_of l u) else void BisectEnd
bisected_of (suc more) f y l u =
    bind (are_near_of l u) λ near.
    if near then answer (middle_of l u)
    else (bind (has_passed_at f y (middle_of l u)) λ passed. if passed then bisected_of more f y l (middle_of l u)
    else bisected_of more f y (middle_of l u) u)

-- the number between two others at which a function passes an angle
unfoldable pub invert_of : (Expression → Program Expression) → (target low high : Expression) → Program Expression
invert_of f y l u = bisected_of 64 f y l u
