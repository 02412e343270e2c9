-- What is known of the tests of a walk over the moments of a day: no test of a year is ever undecided, and the
-- locations of the places are such that every undecided test is close; and how many tests there are.
use Rattle.std.specs.Prelude.{◌≡◌, ℕ, zero, suc, ◌+◌, ◌*◌, ◌^◌, ◌&&◌, not, if◌then◌else◌, Bool, true, false, ℤ, Option}
use Rattle.std.specs.Prelude.{Some, None, Result, Ok, Err, IfErr, IfSome}
use Rattle.std.proofs.Common.{arith}
use Rattle.book_model.specs.Interval.{Interval, IsProper}
use Rattle.book_model.specs.declared.fact.Place.{Place}
use Rattle.book_model.specs.declared.fail.Fail.{Fail}
use Rattle.book_model.specs.declared.fail.Fail.TheVariants.{Undecided as undecided_at, Void}
use Rattle.book_model.specs.declared.horizon.Location.{Location}
use Rattle.book_model.specs.declared.site.Site.TheVariants.{Rise}
use Rattle.book_model.specs.declared.time_tables.TheConstants.{TABLE_START, TABLE_END}
use Rattle.book_model.specs.numbers.Expressions.{Expression, World}
use Rattle.book_model.specs.numbers.Ranges.{IsInTable}
use Rattle.book_model.specs.numbers.Relations.{Within}
use Rattle.book_model.specs.programs.Leading.{Leads}
use Rattle.book_model.specs.programs.Programs.{Program, run, AtMost, answer_at_most, cell_at_most, compare_at_most}
use Rattle.book_model.specs.sky.Crescent.{obliquity_at_of}
use Rattle.book_model.specs.sky.Latitude.{latitude_of}
use Rattle.book_model.specs.sky.Moon.{moon_of}
use Rattle.book_model.specs.sky.Names.{location_of}
use Rattle.book_model.specs.sky.Sun.{obliquity_of}
use Rattle.book_model.specs.sky.Time.{sidereal_of}
use Rattle.book_model.proofs.FactRuns.{centuries_few}
use Rattle.book_model.proofs.Leads.{at_most_bind, at_most_more}
use Rattle.encl_core.specs.Steps.{IsUndecidedLess}
use Rattle.encl_core.proofs.Measuring.{drawn}
use Rattle.moon_core.proofs.PhaseRanges.{within_world}
use Rattle.rise_set.proofs.Tilts.{no_failure}
use Rattle.time_scales.specs.Steps.{IsYearUndecidedFor, IsNotOfYear}
use Rattle.time_scales.proofs.WholeDays.{closed_year}
use Rattle.book_model.specs.programs.Crossings.{halved_of, minute_in_of, crossing_from, crossing_of, opposite_of}
use Rattle.book_model.specs.sky.Distance.{distance_of}
use Rattle.moon_rise.specs.Moments.{HasOneYear}
use Rattle.book_model.specs.sky.Moonrise.{observed_with_of, observed_of, up_of, up_at_of, moonrise_of, moonset_of}
use Rattle.moon_rise.specs.Widths.{IsExact, IsDatedExact, IsSkyLocation}
use Rattle.moon_rise.proofs.Heights.{place_is_sky}

-- a failure at an undecided year is none where the enclosure lies in one year
pub never_of_year : {T : Type 0} (i : Interval) (r : Result T Fail) → HasOneYear i → IfErr r (IsYearUndecidedFor i)
    → IfErr r IsNotOfYear
never_of_year i (Ok v) y h = tt
never_of_year i (Err f) y h = closed_year i y.year f y.within y.fits h

-- the location of a place is one at which the sky is measured
pub found_is_sky : (place : Place) (l : Location) → Some l ≡ location_of place → IsSkyLocation l
found_is_sky place l e = by (location_of place) e (place_is_sky place)
  where
    by : (o : Option Location) → Some l ≡ o → IfSome o IsSkyLocation → IsSkyLocation l
    by None f k = absurd (cc)
    by (Some m) f k = let q : l ≡ m = cc in rw q k

-- ---- what the altitude is taken of
-- a moment of the years of which ΔT is known
pub dated_exact : (i : Interval) → IsInTable i → IsExact i → IsDatedExact i
dated_exact i t h = drawn TABLE_START TABLE_END _ _ (2 ^ 16) i t h

-- ---- what makes no test never fails
pub sidereal_answers : {E : Type 0} (shown : E → Interval) (p : (e : E) → IsProper (shown e)) (t : E) (f : Fail)
    {b a : ℕ}
    → ((w : World) (x : Expression) → Within shown w x t → Leads w (Within shown w) (sidereal_of x) b a (Err f)) → ⊥
unfolding sidereal_of run
sidereal_answers shown p t f h = no_failure (h _ _ (within_world shown p t)).reports

pub sidereal_never : {E : Type 0} (shown : E → Interval) (p : (e : E) → IsProper (shown e)) (t : E) (P : Fail → Type 0)
    (r : Result E Fail) {b a : ℕ}
    → ((w : World) (x : Expression) → Within shown w x t → Leads w (Within shown w) (sidereal_of x) b a r) → IfErr r P
sidereal_never shown p t P (Ok v) h = tt
sidereal_never shown p t P (Err f) h = absurd (sidereal_answers shown p t f h)

-- a comparison with 0 that is undecided is no test of a year
pub rise_elsewhere : {T : Type 0} (i j k : Interval) (r : Result T Fail) → IfErr r (IsUndecidedLess i j Rise)
    → IfErr r (IsYearUndecidedFor k)
rise_elsewhere i j k (Ok v) h = tt
rise_elsewhere i j k (Err (undecided_at u)) h = λ e. let s = h.1 in absurd (cc)
rise_elsewhere i j k (Err (Void s)) h = absurd h

-- ---- how many tests
observed_few : (p : Location) (x : Expression) → AtMost 5 (observed_of p x)
unfolding observed_of observed_with_of obliquity_at_of sidereal_of moon_of latitude_of distance_of obliquity_of
observed_few p x =
    at_most_bind 0 5 answer_at_most λ t.
    at_most_bind 1 4 (at_most_bind 1 0 (centuries_few x) (λ c. answer_at_most)) λ o.
    at_most_bind 2 2 (at_most_bind 1 1 (centuries_few x) (λ c. cell_at_most (λ q. answer_at_most))) λ l.
    at_most_bind 1 1 (at_most_bind 1 0 (centuries_few x) (λ c. answer_at_most)) λ b.
    at_most_bind 1 0 (at_most_bind 1 0 (centuries_few x) (λ c. answer_at_most)) λ d.
    answer_at_most

up_few : (p : Location) (x : Expression) → AtMost 6 (up_of p x)
unfolding up_of
up_few p x = at_most_bind 5 1 (observed_few p x) (λ h. compare_at_most (λ t. answer_at_most))

-- of so many tests a moment
module _ (holds : ℕ → Program Bool) (few : (i : ℕ) → AtMost 6 (holds i)) where
  either : {A : Type 0} (n : ℕ) (t : Bool) (p q : Program A) → AtMost n p → AtMost n q → AtMost n (if t then p else q)
  either n true p q h k = h
  either n false p q h k = k

  halved_few : (more low high : ℕ) → AtMost (6 * more) (halved_of more holds low high)
  unfolding halved_of
  halved_few zero low high = answer_at_most
  halved_few (suc more) low high =
      at_most_more (6 + 6 * more) (6 * suc more) (omega arith)
      (at_most_bind 6 (6 * more) (few _) (λ now. either (6 * more) now _ _ (halved_few more low _)
      (halved_few more _ high)))

  minute_few : (k : ℕ) → AtMost 24 (minute_in_of holds k)
  unfolding minute_in_of
  minute_few k = at_most_bind 24 0 (halved_few 4 _ _) (λ i. answer_at_most)

  from_few : (more k : ℕ) (before : Bool) → AtMost (6 * more + 24) (crossing_from more holds k before)
  unfolding crossing_from
  from_few zero k before = answer_at_most
  from_few (suc more) k before =
      at_most_more (6 + (6 * more + 24)) (6 * suc more + 24) (omega arith)
      (at_most_bind 6 (6 * more + 24) (few _) (λ after. either (6 * more + 24) (not before && after) _ _
      (at_most_more 24 (6 * more + 24) (omega arith) (minute_few k)) (from_few more (suc k) after)))

  crossing_few : AtMost 606 (crossing_of holds)
  unfolding crossing_of
  crossing_few = at_most_bind 6 600 (few 0) (λ before. from_few 96 0 before)

pub moonrise_few : (place : Place) (p : Location) (d : ℤ) → AtMost 606 (moonrise_of place p d)
unfolding moonrise_of up_at_of
moonrise_few place p d = crossing_few (up_at_of place p d) (λ i. up_few p _)

pub moonset_few : (place : Place) (p : Location) (d : ℤ) → AtMost 606 (moonset_of place p d)
unfolding moonset_of opposite_of up_at_of
moonset_few place p d = crossing_few (opposite_of (up_at_of place p d))
    (λ i. at_most_bind 6 0 (up_few p _) (λ up. answer_at_most))
