-- That the phase by longitudes is picked, and not the one by the time since a new moon.
use Rattle.std.specs.Prelude.{ℕ, pos, Bool, Ok}
use Rattle.book_model.specs.Interval.{Interval}
use Rattle.book_model.specs.declared.site.Site.TheVariants.{PhasePick}
use Rattle.book_model.specs.numbers.Expressions.{Expression, World, integer, subtract}
use Rattle.book_model.specs.numbers.Relations.{Within}
use Rattle.book_model.specs.programs.Leading.{Leads}
use Rattle.book_model.specs.programs.Programs.{Program, answer, compare}
use Rattle.book_model.specs.sky.Phases.{corrected_of, size_of}
use Rattle.moon_core.specs.Replays.{turn_after}

-- whether the phase by longitudes and the one by the time are more than 180 degrees apart
unfoldable pub are_apart_of : (p q : Expression) → Program Bool
are_apart_of p q = compare PhasePick (integer (pos 180)) (size_of (subtract p q)) answer

-- the tests from one count to another pick the phase by longitudes p at the moment x, which e encloses
abbrev pub IsPicked : {E : Type 0} → (E → Interval) → World → (x p : Expression) → (before after : ℕ) → E → Type 0
IsPicked shown w x p before after e = Leads w (Within shown w) (corrected_of x p) before after (Ok e)

-- wherever a run stands, so many tests pick the phase by longitudes, at each moment and by longitudes of the intervals
pub record ArePicked {E : Type 0} (shown : E → Interval) (moments longitudes : E) (tests : ℕ) : Type 0 where
  pub again : (w : World) (x p : Expression) → Within shown w x moments → Within shown w p longitudes → (e : E)
      → Within shown w p e → (k : ℕ)
      → IsPicked shown w x p k (turn_after tests k) e
