-- The run of every fact makes fewer than 100,000 tests. The formula of each kind has a count of its own, by the lemma
-- of the crate or file that has the formula: one line for each kind. The program of a fact is its formula or void, so
-- the count holds of the program, and of each test of its run at any depth.
use Rattle.std.specs.Prelude.{ℕ, ◌≤◌, ℤ, pos, Option, Some, None}
use Rattle.std.proofs.Common.{arith}
use Rattle.book_model.specs.declared.fact.Fact.{Fact}
use Rattle.book_model.specs.declared.fact.Kind.{Kind}
use Rattle.book_model.specs.declared.fact.Kind.TheVariants as kinds
use Rattle.book_model.specs.declared.fact.Place.{Place}
use Rattle.book_model.specs.declared.fact.TheConstants.{FIRST_DAY, LAST_DAY}
use Rattle.book_model.specs.declared.site.Site.{Site}
use Rattle.book_model.specs.programs.Programs.{AtMost, MakesTest, Program, Sides, bind, answer_at_most, cell_at_most}
use Rattle.book_model.specs.programs.Programs.{void_at_most}
use Rattle.book_model.specs.numbers.Expressions.{Expression, integer}
use Rattle.book_model.specs.sky.Correction.{is_between, rounded_of}
use Rattle.book_model.specs.sky.Facts.{at_depth, formula_of, program_of, run_of}
use Rattle.book_model.specs.declared.horizon.Location.{Location}
use Rattle.book_model.specs.sky.Kinds.{located, sunset_in_minutes_of}
use Rattle.book_model.specs.sky.Crescent.{phasis_of}
use Rattle.book_model.specs.sky.Distance.{distance_of}
use Rattle.book_model.specs.sky.Moonrise.{moonrise_of, moonset_of}
use Rattle.book_model.specs.sky.Names.{location_of}
use Rattle.book_model.specs.sky.Nisan.{nisan_of}
use Rattle.book_model.proofs.Corrections.{few_of_two}
use Rattle.book_model.proofs.FactRuns.{centuries_few, dt_few, sun_in_thousandths_few}
use Rattle.book_model.proofs.Leads.{at_most_bind, at_most_more, few_tests}
use Rattle.moon_core.proofs.NewYears.{french_year_few, nowruz_few}
use Rattle.moon_core.proofs.PhaseDays.{phase_day_few}
use Rattle.moon_rise.proofs.Risings.{moonrise_few, moonset_few}
use Rattle.crescent.proofs.Horizons.{bahai_year_few, sunset_in_minutes_few}
use Rattle.day_facts.proofs.HinduRuns.{sign_at_sunset_few, year_at_sunset_few, sankranti_few, tithi_few}
use Rattle.day_facts.proofs.HinduRuns.{sign_before_few, sign_after_few, calendar_year_few}
use Rattle.crescent.proofs.Crescents.{phasis_few}
use Rattle.day_facts.proofs.MoonFacts.{new_moon_before_few, new_moon_from_few}
use Rattle.day_facts.proofs.Solstices.{solstice_few, major_few}
use Rattle.day_facts.proofs.Equinoxes.{nisan_few}
use Rattle.day_facts.proofs.TermDays.{term_day_few}

-- a formula at the location of a place, if it has one
located_few : (o : Option Location) (formula : Location → Program ℤ) → ((l : Location) → AtMost 99999 (formula l))
    → AtMost 99999 (located o formula)
unfolding located
located_few None formula few = void_at_most
located_few (Some l) formula few = few l

-- the distance of the moon makes two tests
distance_few : (x : Expression) → AtMost 1 (distance_of x)
unfolding distance_of
distance_few x = at_most_bind 1 0 (centuries_few x) (λ c. answer_at_most)

kilometres_few : (d : ℤ) → AtMost 99999 (bind (distance_of (integer d)) rounded_of)
unfolding rounded_of
kilometres_few d = at_most_more 2 99999 (omega arith)
    (at_most_bind 1 1 (distance_few (integer d)) (λ x. cell_at_most (λ q. answer_at_most)))

-- the formula of each kind of fact
pub formula_few : (kind : Kind) (place : Place) (d : ℤ) → AtMost 99999 (formula_of kind place d)
unfolding formula_of
formula_few kinds.Dt place d = dt_few d
formula_few kinds.Sun place d = sun_in_thousandths_few d
formula_few kinds.Nowruz place d = nowruz_few d
formula_few kinds.BahaiYear place d = bahai_year_few d
formula_few kinds.Solstice place d = solstice_few place d
formula_few kinds.NewMoonBefore place d = new_moon_before_few place d
formula_few kinds.NewMoonFrom place d = new_moon_from_few place d
formula_few kinds.Major place d = major_few place d
formula_few kinds.MajorTerm place d = term_day_few place (pos 0) d
formula_few kinds.MinorTerm place d = term_day_few place (pos 15) d
formula_few kinds.Phasis place d = located_few (location_of place) (λ l. phasis_of l d) (λ l. phasis_few l d)
formula_few kinds.Sign place d = sign_at_sunset_few d
formula_few kinds.SolarYear place d = year_at_sunset_few d
formula_few kinds.Sankranti place d = sankranti_few d
formula_few kinds.Tithi place d = tithi_few d
formula_few kinds.SignBefore place d = sign_before_few d
formula_few kinds.SignAfter place d = sign_after_few d
formula_few kinds.CalendarYear place d = calendar_year_few d
formula_few kinds.NewMoon place d = phase_day_few (pos 0) d
formula_few kinds.FirstQuarter place d = phase_day_few (pos 90) d
formula_few kinds.FullMoon place d = phase_day_few (pos 180) d
formula_few kinds.LastQuarter place d = phase_day_few (pos 270) d
formula_few kinds.Sunset place d = located_few (location_of place) (λ l. sunset_in_minutes_of place l d)
    (λ l. sunset_in_minutes_few place l d)
formula_few kinds.Distance place d = kilometres_few d
formula_few kinds.Moonrise place d =
    located_few (location_of place) (λ l. moonrise_of place l d)
    (λ l. at_most_more 606 99999 (omega arith) (moonrise_few place l d))
formula_few kinds.Moonset place d =
    located_few (location_of place) (λ l. moonset_of place l d)
    (λ l. at_most_more 606 99999 (omega arith) (moonset_few place l d))
formula_few kinds.FrenchYear place d = french_year_few d
formula_few kinds.Nisan place d = located_few (location_of place) (λ l. nisan_of l d) (λ l. nisan_few l d)

-- and that of each fact, which is void on other days
pub program_few : (f : Fact) → AtMost 99999 (program_of f)
unfolding program_of
program_few f = few_of_two 99999 (is_between FIRST_DAY LAST_DAY f.day) _ _ (formula_few f.kind f.place f.day)
    void_at_most

-- so no test of its run at a depth has a greater number
pub run_few : (f : Fact) (n k : ℕ) (s : Site) (i : Sides) → MakesTest (run_of n f) k s i → k ≤ 99999
unfolding run_of
run_few f n k s i m = few_tests (at_depth n) 99999 k s i (program_few f) m
