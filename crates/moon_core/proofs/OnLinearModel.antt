-- The greatest terms and the others are all. The first four rows of the table joined with the rest are the table, by
-- computing, and sums of terms join with them: so an enclosure of the sum of both parts holds the sum of the
-- definition.
use Rattle.std.specs.Prelude.{◌≡◌, length, slice_range, ◌++◌, refl}
use Rattle.book_model.specs.Interval.{Interval}
use Rattle.book_model.specs.declared.moon_tables.TheConstants.{MOON_TERMS}
use Rattle.book_model.specs.numbers.Expressions.{Expression, World, add}
use Rattle.book_model.specs.numbers.Relations.{Within}
use Rattle.book_model.specs.sky.Moon.{longitude_term_of, longitude_terms_of, lunar_angles_of, no_term}
use Rattle.encl_core.proofs.Parted.{parted}
use Rattle.moon_core.specs.LinearModels.{greatest_terms_of, other_terms_of}
use Rattle.periodic_terms.specs.declared.tables.TheConstants.{GREATEST_TERMS}
use Rattle.sun_core.specs.Daily.{in_centuries}

terms_parted : slice_range MOON_TERMS 0 GREATEST_TERMS ++ slice_range MOON_TERMS GREATEST_TERMS (length MOON_TERMS)
    ≡ MOON_TERMS
terms_parted = refl

pub all_terms : {E : Type 0} {shown : E → Interval} {w : World} {e : E} (x : Expression)
    → Within shown w (add (greatest_terms_of x) (other_terms_of x)) e
    → Within shown w (longitude_terms_of (in_centuries x)) e
unfolding greatest_terms_of other_terms_of longitude_terms_of
all_terms x h = rw terms_parted at (parted (longitude_term_of (lunar_angles_of (in_centuries x))) no_term
    (slice_range MOON_TERMS 0 GREATEST_TERMS)
    (slice_range MOON_TERMS GREATEST_TERMS (length MOON_TERMS)) h)
