-- The first visibility of the crescent: how many tests it makes. The counts of the parts are added along the
-- definition, from one condition of the criterion to an evening and to the search, which tries 46 evenings at most.
use Rattle.std.specs.Prelude.{ℕ, ◌+◌, ◌*◌, Bool, ℤ, pos, ◌-ℤ◌, int_le}
use Rattle.std.proofs.Common.{arith}
use Rattle.book_model.specs.declared.horizon.Location.{Location}
use Rattle.book_model.specs.sky.Crescent.{evening_of, and_also, is_past_new_of, is_before_quarter_of, is_lit_of}
use Rattle.book_model.specs.sky.Crescent.{is_within_quarter_of, is_high_of, is_bright_of, is_crescent_of, meets_of}
use Rattle.book_model.specs.sky.Crescent.{meets_with_of, obliquity_at_of, meets_at_of, visible_of, visibility_start_of}
use Rattle.book_model.specs.sky.Crescent.{visibility_after_of, phasis_of}
use Rattle.book_model.specs.sky.Nisan.{sought_start_of, visibility_by_of, visibility_from_of}
use Rattle.book_model.specs.numbers.Expressions.{Expression}
use Rattle.book_model.specs.sky.Horizon.{dusk_of, depression_of}
use Rattle.book_model.specs.sky.Latitude.{latitude_of}
use Rattle.book_model.specs.programs.Programs.{Program, AtMost, answer_at_most, compare_at_most}
use Rattle.book_model.specs.programs.Searches.{first_day_from}
use Rattle.book_model.specs.sky.Time.{sidereal_of}
use Rattle.book_model.proofs.FactRuns.{centuries_few}
use Rattle.rise_set.proofs.Horizons.{settled_few, obliquity_few}
use Rattle.book_model.proofs.Leads.{at_most_bind, at_most_more}
use Rattle.rise_set.proofs.NewYears.{days_few}
use Rattle.moon_core.proofs.PhaseDays.{phase_day_few_exactly}
use Rattle.moon_core.proofs.PhaseRanges.{few_if, moon_few, phase_few}

evening_few : (p : Location) (d : ℤ) → AtMost 132 (evening_of p d)
unfolding evening_of dusk_of depression_of
evening_few p d = at_most_bind 132 0 (settled_few 12 p _ _ _) (λ x. answer_at_most)

also_few : (n m : ℕ) (p q : Program Bool) → AtMost n p → AtMost m q → AtMost (n + m) (and_also p q)
unfolding and_also
also_few n m p q h k = at_most_bind n m h (λ yes. few_if m yes _ _ k answer_at_most)

lit_few : (a : Expression) → AtMost 1 (is_lit_of a)
unfolding is_lit_of
lit_few a = at_most_bind 1 0 (compare_at_most (λ t. answer_at_most)) (λ t. answer_at_most)

within_few : (a : Expression) → AtMost 1 (is_within_quarter_of a)
unfolding is_within_quarter_of
within_few a = at_most_bind 1 0 (compare_at_most (λ t. answer_at_most)) (λ t. answer_at_most)

bright_few : (a h : Expression) → AtMost 3 (is_bright_of a h)
unfolding is_bright_of is_high_of
bright_few a h = also_few 1 2 _ _ (lit_few a) (also_few 1 1 _ _ (within_few a) (compare_at_most (λ t. answer_at_most)))

meets_few : (p : Location) (f o l b t : Expression) → AtMost 5 (meets_of p f o l b t)
unfolding meets_of is_crescent_of is_past_new_of is_before_quarter_of
meets_few p f o l b t = also_few 1 4 _ _ (compare_at_most (λ t. answer_at_most))
    (also_few 1 3 _ _ (compare_at_most (λ t. answer_at_most)) (bright_few _ _))

latitude_few : (x : Expression) → AtMost 1 (latitude_of x)
unfolding latitude_of
latitude_few x = at_most_bind 1 0 (centuries_few x) (λ c. answer_at_most)

sidereal_few : (x : Expression) → AtMost 0 (sidereal_of x)
unfolding sidereal_of
sidereal_few x = answer_at_most

meets_with_few : (p : Location) (x f o : Expression) → AtMost 8 (meets_with_of p x f o)
unfolding meets_with_of
meets_with_few p x f o = at_most_bind 2 6 (moon_few x) (λ l. at_most_bind 1 5 (latitude_few x)
    (λ b. at_most_bind 0 5 (sidereal_few x) (λ t. meets_few p f o l b t)))

meets_at_few : (p : Location) (x : Expression) → AtMost 19 (meets_at_of p x)
unfolding meets_at_of obliquity_at_of
meets_at_few p x = at_most_bind 10 9 (phase_few x)
    (λ f. at_most_bind 1 8 (at_most_bind 1 0 (centuries_few x) obliquity_few) (λ o. meets_with_few p x f o))

-- an evening makes 151 tests at most
pub visible_few : (p : Location) (d : ℤ) → AtMost 151 (visible_of p d)
unfolding visible_of
visible_few p d = at_most_bind 132 19 (evening_few p d) (meets_at_few p)

start_few : (p : Location) (d m : ℤ) → AtMost 151 (visibility_start_of p d m)
unfolding visibility_start_of
start_few p d m = few_if 151 (int_le (d -ℤ m) (pos 3)) _ _
    (at_most_bind 151 0 (visible_few p d) (λ seen. answer_at_most)) answer_at_most

pub phasis_few : (p : Location) (d : ℤ) → AtMost 99999 (phasis_of p d)
unfolding phasis_of visibility_after_of first_day_from
phasis_few p d =
    at_most_more (845 + (151 + 46 * 151)) 99999 (omega arith)
    (at_most_bind 845 (151 + 46 * 151) (phase_day_few_exactly (pos 0) d)
    (λ m. at_most_bind 151 (46 * 151) (start_few p d m) (λ s. days_few 151 46 (visible_of p) s (visible_few p))))

sought_few : (p : Location) (s m : ℤ) → AtMost 151 (sought_start_of p s m)
unfolding sought_start_of
sought_few p s m = few_if 151 (int_le (pos 4) (s -ℤ m)) _ _ answer_at_most
    (at_most_bind 151 0 (visible_few p (s -ℤ pos 1)) (λ seen. answer_at_most))

-- the first visibility from a day on makes 7,942 tests at most
pub visibility_from_few : (p : Location) (s : ℤ) → AtMost (845 + (151 + 46 * 151)) (visibility_from_of p s)
unfolding visibility_from_of visibility_by_of first_day_from
visibility_from_few p s =
    at_most_bind 845 (151 + 46 * 151) (phase_day_few_exactly (pos 0) s)
    (λ m. at_most_bind 151 (46 * 151) (sought_few p s m) (λ q. days_few 151 46 (visible_of p) q (visible_few p)))
