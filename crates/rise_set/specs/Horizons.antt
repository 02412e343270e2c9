-- What a horizon says of its location and of a depression, and calls that take one.
use Rattle.std.specs.Prelude.{◌≡◌, ℕ, ◌≤◌, Result}
use Rattle.book_model.specs.Interval.{Interval}
use Rattle.book_model.specs.declared.fail.Fail.{Fail}
use Rattle.book_model.specs.numbers.Depth.{DEPTH}
use Rattle.book_model.specs.numbers.Expressions.{Expression, World, constant, add, multiply, divide, sine as sine_of}
use Rattle.book_model.specs.numbers.Expressions.{cosine as cosine_of, tangent as tangent_of}
use Rattle.book_model.specs.numbers.Fractions.{fraction_of}
use Rattle.book_model.specs.numbers.Relations.{Within}
use Rattle.book_model.specs.programs.Leading.{Leads}
use Rattle.book_model.specs.programs.Programs.{Program}
use Rattle.rise_set.specs.declared.skyline.Horizon.{Horizon}
use Rattle.rise_set.specs.Widths.{IsNarrowHorizon, IsNarrowLocation}

-- each enclosure holds its number of the latitude, or of the depression
pub record IsHorizon {E : Type 0} (shown : E → Interval) (w : World) (a : Expression) (h : Horizon E) : Type 0 where
  pub tangent : Within shown w (tangent_of (constant (fraction_of h.location.latitude))) h.tangent
  pub cosine : Within shown w (cosine_of (constant (fraction_of h.location.latitude))) h.cosine
  pub sine : Within shown w (sine_of a) h.sine

-- the horizon is that of its location for a depression: it holds their numbers in each world that is deep enough, and
-- is narrow where the location is
pub record IsHorizonOf {E : Type 0} (shown : E → Interval) (bits : ℕ) (a : Expression) (h : Horizon E) : Type 0 where
  pub holds : (w : World) → DEPTH ≤ w.depth → IsHorizon shown w a h
  pub narrow : bits ≡ 56 → IsNarrowLocation h.location → IsNarrowHorizon shown h

-- the call makes the tests of a program of the depression, and its answer holds the program's
abbrev pub FollowsAt : {E : Type 0} → (E → Interval) → (Expression → Program Expression) → Horizon E → ℕ → ℕ
    → Result E Fail → Type 0
FollowsAt shown p h before after result = (w : World) (a : Expression) → IsHorizon shown w a h
    → Leads w (Within shown w) (p a) before after result

-- the call makes the tests of a program of the depression and of an enclosed number, and its answer holds the program's
abbrev pub FollowsHorizon : {E : Type 0} → (E → Interval) → ((a x : Expression) → Program Expression) → Horizon E → E
    → ℕ → ℕ → Result E Fail → Type 0
FollowsHorizon shown p h b before after result = (w : World) (a x : Expression) → IsHorizon shown w a h
    → Within shown w x b
    → Leads w (Within shown w) (p a x) before after result

-- what the tangent of a latitude makes of a declination, and what the sine of a depression and the cosine of a latitude
-- do
abbrev pub by_tangent : (t d : Expression) → Expression
by_tangent t d = multiply t (tangent_of d)

abbrev pub by_sine : (s c d : Expression) → Expression
by_sine s c d = divide s (multiply (cosine_of d) c)

-- the offset by the tangent and the cosine of the latitude, the sine of the depression, and the declination
unfoldable pub offset_by_parts : (t c s d : Expression) → Expression
offset_by_parts t c s d = add (by_tangent t d) (by_sine s c d)
