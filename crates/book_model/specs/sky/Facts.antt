-- The run of a fact, and when a fact is true, near or void.
use Rattle.std.specs.Prelude.{◌≡◌, ℕ, ◌≤◌, if◌then◌else◌, IsTrue, ℤ, pos, ◌-ℤ◌, ◌*ℤ◌, ◌≤ℤ◌}
use Rattle.exact_math.specs.Fraction.{◌≤F◌, ◌<F◌}
use Rattle.exact_math.specs.Interval.{Interval, everything, between, ◌⊆◌}
use Rattle.book_model.specs.declared.site.Site.{Site}
use Rattle.book_model.specs.declared.site.Site.TheVariants.{Year}
use Rattle.book_model.specs.declared.fact.Fact.{Fact}
use Rattle.book_model.specs.declared.fact.Kind.{Kind}
use Rattle.book_model.specs.declared.fact.Kind.TheVariants as kinds
use Rattle.book_model.specs.declared.fact.Place.{Place}
use Rattle.book_model.specs.declared.fact.TheConstants.{FIRST_FACT_DAY, LAST_FACT_DAY, FIRST_DAY, LAST_DAY, LEAST_VALUE}
use Rattle.book_model.specs.declared.fact.TheConstants.{GREATEST_VALUE}
use Rattle.book_model.specs.declared.fail.Undecided.{Undecided}
use Rattle.book_model.specs.sky.Correction.{is_between, rounded_of}
use Rattle.book_model.specs.numbers.Expressions.{World, integer}
use Rattle.book_model.specs.sky.Kinds.{dt_of, sun_in_thousandths_of, nowruz_of, bahai_year_of, solstice_of}
use Rattle.book_model.specs.sky.Kinds.{new_moon_before_of, new_moon_from_of, major_of, term_day_of, located}
use Rattle.book_model.specs.sky.Kinds.{sunset_in_minutes_of, french_year_of}
use Rattle.book_model.specs.sky.Crescent.{phasis_of}
use Rattle.book_model.specs.sky.Distance.{distance_of}
use Rattle.book_model.specs.sky.HinduFacts.{sign_at_sunset_of, year_at_sunset_of, sankranti_of, tithi_of}
use Rattle.book_model.specs.sky.HinduFacts.{sign_before_of, sign_after_of, calendar_year_of}
use Rattle.book_model.specs.sky.Moonrise.{moonrise_of, moonset_of}
use Rattle.book_model.specs.sky.Nisan.{nisan_of}
use Rattle.book_model.specs.sky.Phases.{phase_day_of}
use Rattle.book_model.specs.programs.Leading.{units_of_56}
use Rattle.book_model.specs.programs.Widths.{most_apart}
use Rattle.book_model.specs.sky.Names.{has_place, location_of, whole_days, is_of_whole_day}
use Rattle.book_model.specs.programs.Programs.{Grid, threshold, Program, bind, void, Run, run, valued, void_at, outcome}
use Rattle.book_model.specs.programs.Programs.{MakesTest, Sides, one_side, two_sides}
use Rattle.book_model.specs.numbers.Depth.{DEPTH}

-- a day of which a fact may be asked
abbrev pub IsFactDay : ℤ → Type 0
IsFactDay day = (FIRST_FACT_DAY ≤ℤ day) × (day ≤ℤ LAST_FACT_DAY)

-- a day of which a fact may have a value
abbrev pub IsValueDay : ℤ → Type 0
IsValueDay day = (FIRST_DAY ≤ℤ day) × (day ≤ℤ LAST_DAY)

-- a value that a fact may have
abbrev pub IsFactValue : ℤ → Type 0
IsFactValue value = (LEAST_VALUE ≤ℤ value) × (value ≤ℤ GREATEST_VALUE)

-- a kind, a place and a day make a fact
abbrev pub IsFact : Kind → Place → ℤ → Type 0
IsFact kind place day = IsTrue (has_place kind place) × IsFactDay day

-- the formula of a kind of fact
unfoldable pub formula_of : Kind → Place → ℤ → Program ℤ
formula_of kinds.Dt place d = dt_of d
formula_of kinds.Sun place d = sun_in_thousandths_of d
formula_of kinds.Nowruz place d = nowruz_of d
formula_of kinds.BahaiYear place d = bahai_year_of d
formula_of kinds.Solstice place d = solstice_of place d
formula_of kinds.NewMoonBefore place d = new_moon_before_of place d
formula_of kinds.NewMoonFrom place d = new_moon_from_of place d
formula_of kinds.Major place d = major_of place d
formula_of kinds.MajorTerm place d = term_day_of place (pos 0) d
formula_of kinds.MinorTerm place d = term_day_of place (pos 15) d
formula_of kinds.Phasis place d = located (location_of place) λ l. phasis_of l d
formula_of kinds.Sign place d = sign_at_sunset_of d
formula_of kinds.SolarYear place d = year_at_sunset_of d
formula_of kinds.Sankranti place d = sankranti_of d
formula_of kinds.Tithi place d = tithi_of d
formula_of kinds.SignBefore place d = sign_before_of d
formula_of kinds.SignAfter place d = sign_after_of d
formula_of kinds.CalendarYear place d = calendar_year_of d
formula_of kinds.NewMoon place d = phase_day_of (pos 0) d
formula_of kinds.FirstQuarter place d = phase_day_of (pos 90) d
formula_of kinds.FullMoon place d = phase_day_of (pos 180) d
formula_of kinds.LastQuarter place d = phase_day_of (pos 270) d
formula_of kinds.Sunset place d = located (location_of place) λ l. sunset_in_minutes_of place l d
formula_of kinds.Distance place d = bind (distance_of (integer d)) rounded_of
formula_of kinds.Moonrise place d = located (location_of place) λ l. moonrise_of place l d
formula_of kinds.Moonset place d = located (location_of place) λ l. moonset_of place l d
formula_of kinds.FrenchYear place d = french_year_of d
formula_of kinds.Nisan place d = located (location_of place) λ l. nisan_of l d

-- the formula of a fact; outside 1 July 1700 to 31 December 2149 it is void
unfoldable pub program_of : Fact → Program ℤ
program_of f = if is_between FIRST_DAY LAST_DAY f.day then formula_of f.kind f.place f.day else void Year

-- a depth alone: the formula of a fact has no arguments
abbrev pub at_depth : ℕ → World
at_depth n = record { depth = n; arguments = λ k. everything; proper = λ k. tt }

-- the run of a fact at a depth
unfoldable pub run_of : ℕ → Fact → Run ℤ
run_of n f = run (at_depth n) (program_of f)

-- the fact has the value v at every depth from 40 on
pub record IsTrueWith (f : Fact) (v : ℤ) : Type 0 where
  pub at_each_depth : (n : ℕ) → DEPTH ≤ n → outcome (run_of n f) ≡ valued v

-- the fact has no value, for a reason at this site, at every depth from 40 on
pub record IsVoidAt (f : Fact) (s : Site) : Type 0 where
  pub at_each_depth : (n : ℕ) → DEPTH ≤ n → outcome (run_of n f) ≡ void_at s

-- an interval lies between two numbers in units of 2^-56
abbrev pub LiesFrom : (lo hi : ℤ) → Interval → Type 0
LiesFrom lo hi i = i ⊆ between (units_of_56 lo) (units_of_56 hi)

-- a cell begins above lo and at most at hi
pub record HasThreshold (g : Grid) (lo hi : ℤ) : Type 0 where
  pub begun : ℤ
  pub above : units_of_56 lo <F threshold g begun
  pub at_most : threshold g begun ≤F units_of_56 hi

-- the sides of a test lie from lo to hi, and for a cell test so does a threshold
pub data AreNear (lo hi : ℤ) : Sides → Type 0 where
  near_cell : {g : Grid} {i : Interval} → LiesFrom lo hi i → HasThreshold g lo hi → AreNear lo hi (one_side g i)
  near_comparison : {i j : Interval} → LiesFrom lo hi i → LiesFrom lo hi j → AreNear lo hi (two_sides i j)

-- a run makes the test that is named, near its threshold
pub record MakesNearTest (r : Run ℤ) (u : Undecided) : Type 0 where
  pub sides : Sides
  pub makes : MakesTest r u.turn u.site sides
  pub near : AreNear u.lo u.hi sides

-- a test of a kind of fact, by its number, is of the whole day itself, if it is of a year
abbrev pub IsOfWholeDay : Kind → ℕ → Type 0
IsOfWholeDay kind turn = IsTrue (is_of_whole_day (whole_days kind) turn)

-- the bounds of an undecided test, in units of 2^-56, are at most as far apart as its site allows, in 2^-64
abbrev pub AreClose : Undecided → Type 0
AreClose u = ((u.hi -ℤ u.lo) *ℤ pos 256) ≤ℤ pos (most_apart u.site)

-- The fact is near at a test: at every depth from 40 on its run makes this test, whose sides lie within the bounds, and
-- the bounds are at most a 2^20th apart, or a 2^24th at a test of a bisection. The year of a whole day is never near.
pub record IsNear (f : Fact) (u : Undecided) : Type 0 where
  pub at_each_depth : (n : ℕ) → DEPTH ≤ n → MakesNearTest (run_of n f) u
  pub no_whole_day : u.site ≡ Year → IsOfWholeDay f.kind u.turn → ⊥
  pub close : AreClose u
