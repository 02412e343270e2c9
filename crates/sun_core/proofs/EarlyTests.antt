-- The first tests of the search for a passage of the sun: its two at the moment, and the one at which the angle is
-- reduced. That a program makes at least so many tests is said along its definition (`AtLeast`), step by step. By it a
-- failure after three tests is none of the year of the moment itself.
use Rattle.book_model.specs.numbers.Expressions.{Expression, remainder, subtract}
use Rattle.book_model.specs.programs.Programs.{bind}
use Rattle.book_model.specs.sky.Correction.{year_of}
use Rattle.book_model.specs.sky.Sun.{sun_of, longitude_of, reduced_of, sun_short_of}
use Rattle.book_model.specs.sky.Time.{centuries_of, dynamical_of, correction_at}
use Rattle.book_model.proofs.Early.{AtLeast, any_at_least, cell_at_least, one_more}
use Rattle.sun_core.proofs.Nested.{bind_nested}

-- ---- the sun's first tests
year_least : (x : Expression) → AtLeast 1 (year_of x)
unfolding year_of
year_least x = cell_at_least (λ q. any_at_least)

centuries_least : (x : Expression) → AtLeast 1 (centuries_of x)
unfolding centuries_of dynamical_of correction_at
centuries_least x = one_more 0 _ (one_more 0 _ (one_more 0 _ (year_least _) (λ y. any_at_least)) (λ c. any_at_least))
    (λ t. any_at_least)

reduced_least : (x : Expression) → AtLeast 1 (reduced_of x)
unfolding reduced_of
reduced_least x = cell_at_least (λ q. any_at_least)

pub short_least : (l x : Expression) → AtLeast 3 (sun_short_of l x)
unfolding sun_short_of sun_of bind
short_least l x =
    rw (bind_nested (centuries_of x) _ _)
    (one_more 2 _ (centuries_least x)
    (λ c. cell_at_least (λ q. reduced_least (subtract l (remainder 360 (longitude_of c) q)))))
