-- What the code's place of the moon says of a moment, and that a run which has it may count its tests and make none.
use Rattle.std.specs.Prelude.{ℕ, Ok}
use Rattle.book_model.specs.Interval.{Interval}
use Rattle.book_model.specs.numbers.Expressions.{Expression, World}
use Rattle.book_model.specs.numbers.Relations.{Within}
use Rattle.book_model.specs.programs.Leading.{Leads, next_turn}
use Rattle.book_model.specs.programs.Widths.{IsUpTo}
use Rattle.book_model.specs.sky.Moon.{moon_of}
use Rattle.encl_core.specs.GreatestWidths.{greatest_of}
use Rattle.encl_core.specs.declared.greatest_widths.TheConstants.{MOON}
use Rattle.moon_core.specs.Elements.{AreElementsOf, AreMeasured}
use Rattle.moon_core.specs.declared.longitude.MoonPlace.{MoonPlace}
use Rattle.moon_core.specs.declared.phases.PlacedAngle.{PlacedAngle}

-- a place has a longitude
abbrev pub HasLongitude : {E : Type 0} → (E → Interval) → World → Expression → MoonPlace E → Type 0
HasLongitude shown w l p = Within shown w l p.longitude

-- A place is that of a moment of universal time: its elements are, and wherever a run stands, two tests, of the year
-- and of the turn, lead to its longitude.
pub record IsPlaceOf {E : Type 0} (shown : E → Interval) (w : World) (x : Expression) (p : MoonPlace E) : Type 0 where
  pub elements : AreElementsOf shown w x p.elements
  pub longitude : (k : ℕ) → Leads w (Within shown w) (moon_of x) k (next_turn (next_turn k)) (Ok p.longitude)

-- it is as narrow as that of a moment that is at most so wide
pub record IsMeasuredPlace {E : Type 0} (shown : E → Interval) (bits v : ℕ) (p : MoonPlace E) : Type 0 where
  pub elements : AreMeasured shown bits v p.elements
  pub longitude : IsUpTo 360 (greatest_of MOON v) (shown p.longitude)

-- an angle is told beside the moon's place
abbrev pub HasAngle : {E : Type 0} → (E → Interval) → World → Expression → PlacedAngle E → Type 0
HasAngle shown w a p = Within shown w a p.angle
