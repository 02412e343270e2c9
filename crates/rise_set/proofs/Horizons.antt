-- Dawn, dusk and sunset: how many tests they make, and from where to where their values lie. Tests are added along the
-- definitions (`AtMost`), of twelve approximations at most eleven each. That a new year by sunsets makes few follows
-- with the search by day of sun_core.
use Rattle.std.specs.Prelude.{ℕ, zero, suc, ◌+◌, ◌*◌, Bool, true, false, if◌then◌else◌, ℤ}
use Rattle.std.proofs.Common.{arith}
use Rattle.book_model.specs.declared.horizon.Location.{Location}
use Rattle.book_model.specs.declared.horizon.Twilight.{Twilight}
use Rattle.book_model.specs.declared.calendar_tables.TheConstants.{SPRING}
use Rattle.book_model.specs.declared.fact.Place.{Place}
use Rattle.book_model.specs.declared.location_tables.TheConstants.{TEHRAN}
use Rattle.book_model.specs.sky.Correction.{rounded_of}
use Rattle.book_model.specs.numbers.Expressions.{Expression}
use Rattle.book_model.specs.sky.Horizon.{declination_of, offset_of, is_out_of_reach, if_reached, reached_offset_of}
use Rattle.book_model.specs.sky.Horizon.{or_at_edge, near_offset_of, approximation_on, approximation_of, has_settled_of}
use Rattle.book_model.specs.sky.Horizon.{settled_of, depression_of, dusk_of, sunset_of}
use Rattle.book_model.specs.sky.Kinds.{bahai_year_of, sunset_in_minutes_of}
use Rattle.book_model.specs.programs.Programs.{answer, AtMost, answer_at_most, void_at_most, cell_at_most}
use Rattle.book_model.specs.programs.Programs.{compare_at_most}
use Rattle.book_model.specs.sky.Sun.{obliquity_of}
use Rattle.book_model.proofs.Estimates.{from_apparent_few}
use Rattle.book_model.proofs.FactRuns.{centuries_few, sun_few}
use Rattle.book_model.proofs.Leads.{at_most_bind, at_most_more}
use Rattle.sun_core.proofs.NewYears.{season_day_few}

-- ---- how many tests
pub obliquity_few : (c : Expression) → AtMost 0 (obliquity_of c)
unfolding obliquity_of
obliquity_few c = answer_at_most

declination_few : (x : Expression) → AtMost 3 (declination_of x)
unfolding declination_of
declination_few x = at_most_bind 1 2 (centuries_few x)
    (λ c. at_most_bind 0 2 (obliquity_few c) (λ o. at_most_bind 2 0 (sun_few x) (λ s. answer_at_most)))

offset_few : (p : Location) (a x : Expression) → AtMost 3 (offset_of p a x)
unfolding offset_of
offset_few p a x = at_most_bind 3 0 (declination_few _) (λ d. answer_at_most)

out_few : (s : Expression) → AtMost 1 (is_out_of_reach s)
unfolding is_out_of_reach
out_few s = compare_at_most (λ t. answer_at_most)

if_few : (s : Expression) (out : Bool) → AtMost 0 (if_reached s out)
unfolding if_reached
if_few s true = void_at_most
if_few s false = answer_at_most

reached_few : (p : Location) (a x : Expression) → AtMost 4 (reached_offset_of p a x)
unfolding reached_offset_of
reached_few p a x = at_most_bind 3 1 (offset_few p a x) (λ s. at_most_bind 1 0 (out_few s) (if_few s))

edge_few : (p : Location) (k : Twilight) (a : Expression) (d : ℤ) (s : Expression) (out : Bool)
    → AtMost 4 (or_at_edge p k a d s out)
unfolding or_at_edge
edge_few p k a d s true = reached_few p a _
edge_few p k a d s false = answer_at_most

near_few : (p : Location) (k : Twilight) (a : Expression) (d : ℤ) (x : Expression) → AtMost 8 (near_offset_of p k a d x)
unfolding near_offset_of
near_few p k a d x = at_most_bind 3 5 (offset_few p a x) (λ s. at_most_bind 1 4 (out_few s) (edge_few p k a d s))

approximation_few : (p : Location) (k : Twilight) (a x : Expression) → AtMost 10 (approximation_of p k a x)
unfolding approximation_of approximation_on
approximation_few p k a x = at_most_bind 1 9 (cell_at_most (λ q. answer_at_most))
    (λ d. at_most_bind 8 1 (near_few p k a d x) (λ s. from_apparent_few _ _))

settles_few : (x y : Expression) → AtMost 1 (has_settled_of x y)
unfolding has_settled_of
settles_few x y = compare_at_most (λ t. answer_at_most)

pub settled_few : (more : ℕ) (p : Location) (k : Twilight) (a x : Expression)
    → AtMost (more * 11) (settled_of more p k a x)
unfolding settled_of
settled_few zero p k a x = void_at_most
settled_few (suc more) p k a x =
    at_most_more (10 + (1 + more * 11)) (suc more * 11) (omega arith)
    (at_most_bind 10 (1 + more * 11) (approximation_few p k a x)
    (λ y. at_most_bind 1 (more * 11) (settles_few x y) (λ settled. next y settled (settled_few more p k a y))))
  where
    next : (y : Expression) (settled : Bool) → AtMost (more * 11) (settled_of more p k a y)
        → AtMost (more * 11) (if settled then answer y else settled_of more p k a y)
    next y true h = answer_at_most
    next y false h = h

pub sunset_few : (p : Location) (d : ℤ) → AtMost 132 (sunset_of p d)
unfolding sunset_of dusk_of depression_of
sunset_few p d = at_most_bind 132 0 (settled_few 12 p _ _ _) (λ x. answer_at_most)

pub bahai_year_few : (d : ℤ) → AtMost 99999 (bahai_year_of d)
bahai_year_few d = season_day_few 132 (sunset_of TEHRAN) SPRING (sunset_few TEHRAN) (omega arith) d

pub sunset_in_minutes_few : (place : Place) (p : Location) (d : ℤ) → AtMost 99999 (sunset_in_minutes_of place p d)
unfolding sunset_in_minutes_of rounded_of
sunset_in_minutes_few place p d = at_most_more 133 99999 (omega arith)
    (at_most_bind 132 1 (sunset_few p d) (λ x. cell_at_most (λ q. answer_at_most)))
