-- The facts of the Hindu calendars: how many tests they make, and from where to where their values lie. Counts are
-- added along each definition. For values the run at depth 40 is taken apart: the sun's longitude among the stars and
-- the phase lie in a turn, as remainders, so that a constant product bounds signs, degrees and lunar days; the years of
-- the Kali Yuga are bounded by the years of which ΔT is known.
use Rattle.std.specs.Prelude.{◌≡◌, ℕ, ◌+◌, ◌*◌, ◌≤◌, ℤ, pos, neg_ℤ, Some, Result, Ok, Err, IfOk, ◌+ℤ◌}
use Rattle.std.proofs.Common.{arith}
use Rattle.std.proofs.lemmas.Int.{ints}
use Rattle.book_model.specs.Fraction.{whole, times, smaller, larger, is_at_most}
use Rattle.book_model.specs.Interval.{Interval, between, ◌⊆◌, IsProper, product, least, greatest}
use Rattle.book_model.proofs.Fractions.{le_refl}
use Rattle.book_model.specs.declared.calendar_tables.TheConstants.{HINDU_EPOCH}
use Rattle.book_model.specs.declared.fail.Fail.{Fail}
use Rattle.book_model.specs.declared.site.Site.TheVariants.{Round, Sidereal}
use Rattle.book_model.specs.declared.sun_tables.TheConstants.{DAY_IN_SIDEREAL_YEARS, DEGREE_IN_LUNAR_DAYS}
use Rattle.book_model.specs.declared.sun_tables.TheConstants.{DEGREE_IN_SIGNS, DEGREE_IN_TURNS}
use Rattle.book_model.specs.declared.tables.TheConstants.{HALF}
use Rattle.book_model.specs.declared.time_tables.TheConstants.{TABLE_START, TABLE_END}
use Rattle.book_model.specs.sky.Correction.{rounded_of}
use Rattle.book_model.specs.numbers.Expressions.{Expression, World, value, exactly, argument, integer, constant, add}
use Rattle.book_model.specs.numbers.Expressions.{scale, remainder}
use Rattle.book_model.specs.sky.Facts.{IsFactValue, at_depth}
use Rattle.book_model.specs.numbers.Fractions.{fraction_of}
use Rattle.book_model.specs.sky.HinduFacts.{sign_at_sunset_of, year_at_sunset_of, has_sign_at, whole_degrees_of}
use Rattle.book_model.specs.sky.HinduFacts.{sign_entered_of, sankranti_of, lunar_days_passed_of, tithi_of}
use Rattle.book_model.specs.sky.HinduFacts.{sign_before_of, sign_after_of, calendar_year_of}
use Rattle.book_model.specs.sky.Horizon.{dawn_of, dusk_of, depression_of, rounded_minutes_of, sunrise_of}
use Rattle.book_model.specs.sky.Horizon.{hindu_sunset_of}
use Rattle.book_model.specs.programs.Leading.{Leads, Exact}
use Rattle.book_model.specs.sky.Phases.{phase_of}
use Rattle.book_model.specs.programs.Programs.{integers, multiples, cell_at, run, valued, outcome, AtMost}
use Rattle.book_model.specs.programs.Programs.{answer_at_most, cell_at_most}
use Rattle.book_model.specs.numbers.Ranges.{IsBetween, IsInTable}
use Rattle.book_model.specs.programs.Searches.{first_day_from}
use Rattle.book_model.specs.sky.Sidereal.{precession_of, sidereal_by, starred_of, sidereal_sun_of, signs_passed_of}
use Rattle.book_model.specs.sky.Sidereal.{sign_of, years_gone_of, hindu_year_of}
use Rattle.book_model.specs.sky.Sun.{sun_of}
use Rattle.book_model.specs.sky.Time.{centuries_of}
use Rattle.book_model.proofs.Estimates.{between_of_within, difference_between, floor_between, sum_between}
use Rattle.book_model.proofs.FactRuns.{centuries_few, sun_few, parts, decides, remainder_within}
use Rattle.crescent.proofs.Horizons.{settled_few}
use Rattle.book_model.proofs.Leads.{at_most_bind, at_most_more, leads_value}
use Rattle.time_scales.proofs.Moments.{dated_in_table}
use Rattle.moon_core.proofs.NewYears.{days_few}
use Rattle.moon_core.proofs.PhaseRanges.{half_between, moon_before_few, moon_from_few, phase_between, phase_few}
use Rattle.moon_core.proofs.PhaseRanges.{scaled_between, world_of}
use Rattle.book_model.proofs.Values.{value_proper}
use Rattle.day_facts.specs.Counts.{IsSign, IsDegree, IsLunarDay}

-- ---- how many tests
precession_few : (x : Expression) → AtMost 1 (precession_of x)
unfolding precession_of
precession_few x = at_most_bind 1 0 (centuries_few x) (λ c. answer_at_most)

sidereal_few : (x : Expression) → AtMost 4 (sidereal_sun_of x)
unfolding sidereal_sun_of starred_of
sidereal_few x = at_most_bind 2 2 (sun_few x)
    (λ s. at_most_bind 1 1 (precession_few x) (λ p. cell_at_most (λ q. answer_at_most)))

sign_few : (x : Expression) → AtMost 5 (sign_of x)
unfolding sign_of signs_passed_of
sign_few x = at_most_bind 5 0 (at_most_bind 4 1 (sidereal_few x) (λ s. cell_at_most (λ q. answer_at_most)))
    (λ q. answer_at_most)

year_few : (x : Expression) → AtMost 5 (hindu_year_of x)
unfolding hindu_year_of rounded_of
year_few x = at_most_bind 4 1 (sidereal_few x) (λ s. cell_at_most (λ q. answer_at_most))

sunset_few : (d : ℤ) → AtMost 132 (hindu_sunset_of d)
unfolding hindu_sunset_of dusk_of depression_of
sunset_few d = at_most_bind 132 0 (settled_few 12 _ _ _ _) (λ x. answer_at_most)

sunrise_few : (d : ℤ) → AtMost 133 (sunrise_of d)
unfolding sunrise_of dawn_of depression_of rounded_minutes_of
sunrise_few d = at_most_bind 132 1 (settled_few 12 _ _ _ _) (λ x. at_most_bind 1 0 (cell_at_most (λ q. answer_at_most))
    (λ n. answer_at_most))

sign_at_few : (d : ℤ) → AtMost 137 (sign_at_sunset_of d)
unfolding sign_at_sunset_of
sign_at_few d = at_most_bind 132 5 (sunset_few d) sign_few

pub sign_at_sunset_few : (d : ℤ) → AtMost 99999 (sign_at_sunset_of d)
sign_at_sunset_few d = at_most_more 137 99999 (omega arith) (sign_at_few d)

pub year_at_sunset_few : (d : ℤ) → AtMost 99999 (year_at_sunset_of d)
unfolding year_at_sunset_of
year_at_sunset_few d = at_most_more 137 99999 (omega arith) (at_most_bind 132 5 (sunset_few d) year_few)

pub has_sign_few : (g d : ℤ) → AtMost 137 (has_sign_at g d)
unfolding has_sign_at
has_sign_few g d = at_most_bind 137 0 (sign_at_few d) (λ k. answer_at_most)

degrees_few : (x : Expression) → AtMost 5 (whole_degrees_of x)
unfolding whole_degrees_of
degrees_few x = at_most_bind 4 1 (sidereal_few x) (λ s. cell_at_most (λ q. answer_at_most))

entered_few : (d : ℤ) (x : Expression) → AtMost (5 + (5 + 46 * 137)) (sign_entered_of d x)
unfolding sign_entered_of first_day_from
entered_few d x = at_most_bind 5 (5 + 46 * 137) (sign_few x) (λ g.
    at_most_bind 5 (46 * 137) (degrees_few x) (λ s. days_few 137 46 (has_sign_at g) _ (has_sign_few g)))

pub sankranti_few : (d : ℤ) → AtMost 99999 (sankranti_of d)
unfolding sankranti_of
sankranti_few d = at_most_more (132 + (5 + (5 + 46 * 137))) 99999 (omega arith)
    (at_most_bind 132 (5 + (5 + 46 * 137)) (sunset_few d) (entered_few d))

passed_few : (x : Expression) → AtMost 11 (lunar_days_passed_of x)
unfolding lunar_days_passed_of
passed_few x = at_most_bind 10 1 (phase_few x) (λ p. cell_at_most (λ q. answer_at_most))

pub tithi_few : (d : ℤ) → AtMost 99999 (tithi_of d)
unfolding tithi_of
tithi_few d = at_most_more 144 99999 (omega arith)
    (at_most_bind 133 11 (sunrise_few d) (λ x. at_most_bind 11 0 (passed_few x) (λ q. answer_at_most)))

pub sign_before_few : (d : ℤ) → AtMost 99999 (sign_before_of d)
unfolding sign_before_of
sign_before_few d = at_most_more 163 99999 (omega arith)
    (at_most_bind 133 30 (sunrise_few d) (λ x. at_most_bind 25 5 (moon_before_few x) sign_few))

pub sign_after_few : (d : ℤ) → AtMost 99999 (sign_after_of d)
unfolding sign_after_of
sign_after_few d = at_most_more 163 99999 (omega arith)
    (at_most_bind 133 30 (sunrise_few d) (λ x. at_most_bind 25 5 (moon_from_few x) sign_few))

pub calendar_year_few : (d : ℤ) → AtMost 99999 (calendar_year_of d)
unfolding calendar_year_of
calendar_year_few d = at_most_more 5 99999 (omega arith) (year_few (integer d))

-- ---- values
starred_within : (w : World) (x s : Expression) → outcome (run w (starred_of x)) ≡ valued s
    → value w s ⊆ between (whole (pos 0)) (whole (pos 360))
unfolding starred_of value
starred_within w x s h =
    let d = decides w Sidereal (multiples 360) x (λ q. remainder 360 x q) s h in
    rw (← d.leads_to) (remainder_within _ d.cell_there d.decided_so)

-- the sun's longitude among the stars lies in a turn
sidereal_within : (w : World) (x s : Expression) → outcome (run w (sidereal_sun_of x)) ≡ valued s
    → value w s ⊆ between (whole (pos 0)) (whole (pos 360))
unfolding sidereal_sun_of
sidereal_within w x s h =
    let u = parts w (sun_of x) _ s h in
    let p = parts w (precession_of x) _ s u.then in
    starred_within w (sidereal_by u.part p.part) s p.then

twelve_signs : product (between (whole (pos 0)) (whole (pos 360))) (exactly (fraction_of DEGREE_IN_SIGNS)) ⊆ between
    (whole (pos 0)) (whole (pos 12))
unfolding product least greatest smaller larger times is_at_most
twelve_signs = record { endpoints = (record { cross = omega (arith, ints) }, record { cross = omega (arith, ints) }) }

sign_near : (w : World) (x : Expression) (q : ℤ) (s : Expression) → outcome (run w (sidereal_sun_of x)) ≡ valued s
    → cell_at integers (value w (scale (fraction_of DEGREE_IN_SIGNS) s)) ≡ Some q → IsSign q
unfolding value
sign_near w x q s h e =
    let b = scaled_between (pos 0) (pos 360) (pos 0) (pos 12) (fraction_of DEGREE_IN_SIGNS) _ twelve_signs
    (value_proper w s)
    (between_of_within (pos 0) (pos 360) _ (sidereal_within w x s h)) in
    let f = floor_between (pos 0) (pos 12) q _ (value_proper w (scale (fraction_of DEGREE_IN_SIGNS) s)) b e in
    record { from = f.0; to = f.1 }

degree_near : (w : World) (x : Expression) (q : ℤ) (s : Expression) → outcome (run w (sidereal_sun_of x)) ≡ valued s
    → cell_at integers (value w s) ≡ Some q
    → IsDegree q
degree_near w x q s h e =
    let f = floor_between (pos 0) (pos 360) q _ (value_proper w s)
    (between_of_within (pos 0) (pos 360) _ (sidereal_within w x s h)) e in
    record { from = f.0; to = f.1 }

thirty_days : product (between (whole (pos 0)) (whole (pos 360))) (exactly (fraction_of DEGREE_IN_LUNAR_DAYS)) ⊆ between
    (whole (pos 0)) (whole (pos 30))
unfolding product least greatest smaller larger times is_at_most
thirty_days = record { endpoints = (record { cross = omega (arith, ints) }, record { cross = omega (arith, ints) }) }

lunar_day_near : (w : World) (x : Expression) (q : ℤ) (p : Expression) → outcome (run w (phase_of x)) ≡ valued p
    → cell_at integers (value w (scale (fraction_of DEGREE_IN_LUNAR_DAYS) p)) ≡ Some q → IsLunarDay q
unfolding value
lunar_day_near w x q p h e =
    let b = scaled_between (pos 0) (pos 360) (pos 0) (pos 30) (fraction_of DEGREE_IN_LUNAR_DAYS) _ thirty_days
    (value_proper w p) (phase_between w x p h) in
    let f = floor_between (pos 0) (pos 30) q _ (value_proper w (scale (fraction_of DEGREE_IN_LUNAR_DAYS) p)) b e in
    record { from = f.0; to = f.1 }

sidereal_in_table : (w : World) (x s : Expression) → outcome (run w (sidereal_sun_of x)) ≡ valued s
    → IsInTable (value w x)
unfolding sidereal_sun_of sun_of
sidereal_in_table w x s h =
    let u = parts w (sun_of x) _ s h in
    let c = parts w (centuries_of x) _ u.part u.first in
    dated_in_table w x c.part c.first

years_of_days : product (between (whole (TABLE_START +ℤ pos 1132959)) (whole (TABLE_END +ℤ pos 1132959)))
    (exactly (fraction_of DAY_IN_SIDEREAL_YEARS)) ⊆
    between (whole (pos 2000)) (whole (pos 6000))
unfolding product least greatest smaller larger times is_at_most
years_of_days = record { endpoints = (record { cross = omega (arith, ints) }, record { cross = omega (arith, ints) }) }

part_of_turn : product (between (whole (pos 0)) (whole (pos 360))) (exactly (fraction_of DEGREE_IN_TURNS)) ⊆ between
    (whole (pos 0)) (whole (pos 1))
unfolding product least greatest smaller larger times is_at_most
part_of_turn = record { endpoints = (record { cross = omega (arith, ints) }, record { cross = omega (arith, ints) }) }

epoch_between : (w : World) → IsBetween (pos 1132959) (pos 1132959) (value w (integer (neg_ℤ HINDU_EPOCH)))
unfolding value
epoch_between w = (le_refl _, le_refl _)

gone_between : (w : World) (x s : Expression) → IsInTable (value w x) → IsBetween (pos 0) (pos 360) (value w s)
    → IsBetween (pos 1999) (pos 6000) (value w (years_gone_of x s))
unfolding years_gone_of value
gone_between w x s h k =
    let a = sum_between TABLE_START TABLE_END (pos 1132959) (pos 1132959) _ _ h (epoch_between w) in
    let y = scaled_between (TABLE_START +ℤ pos 1132959) (TABLE_END +ℤ pos 1132959) (pos 2000) (pos 6000)
    (fraction_of DAY_IN_SIDEREAL_YEARS) _ years_of_days
    (value_proper w (add x (integer (neg_ℤ HINDU_EPOCH)))) a in
    let t = scaled_between (pos 0) (pos 360) (pos 0) (pos 1) (fraction_of DEGREE_IN_TURNS) _ part_of_turn
    (value_proper w s) k in
    difference_between (pos 2000) (pos 6000) (pos 0) (pos 1) _ _ y t

-- a year of the Kali Yuga is a value that a fact may have
year_value : (w : World) (x : Expression) (v : ℤ) → outcome (run w (hindu_year_of x)) ≡ valued v → IsFactValue v
unfolding hindu_year_of rounded_of value
year_value w x v h =
    let s = parts w (sidereal_sun_of x) _ v h in
    let b = gone_between w x s.part (sidereal_in_table w x s.part s.first)
    (between_of_within (pos 0) (pos 360) _ (sidereal_within w x s.part s.first)) in
    let z = sum_between (pos 1999) (pos 6000) (pos 0) (pos 1) _ _ b half_between in
    let c = decides w Round integers (add (years_gone_of x s.part) (constant (fraction_of HALF))) (λ q. q) v s.then in
    let f = rw c.leads_to at
    (floor_between _ _ c.cell_there _ (value_proper w (add (years_gone_of x s.part) (constant (fraction_of HALF))))
    z c.decided_so) in
    (omega (arith, ints, f.0), omega (arith, ints, f.1))

year_at_value : (w : World) (d v : ℤ) → outcome (run w (year_at_sunset_of d)) ≡ valued v → IsFactValue v
unfolding year_at_sunset_of
year_at_value w d v h = let x = parts w (hindu_sunset_of d) hindu_year_of v h in year_value w x.part v x.then

pub year_at_sunset_is_value : (d : ℤ) (r : Result ℤ Fail) (b a : ℕ)
    → ((w : World) → 40 ≤ w.depth → Leads w Exact (year_at_sunset_of d) b a r)
    → IfOk r IsFactValue
year_at_sunset_is_value d (Ok v) b a h = year_at_value (at_depth 40) d v (leads_value (h (at_depth 40) (omega arith)))
year_at_sunset_is_value d (Err f) b a h = tt

calendar_value : (w : World) (d v : ℤ) → outcome (run w (calendar_year_of d)) ≡ valued v → IsFactValue v
unfolding calendar_year_of
calendar_value w d v h = year_value w (integer d) v h

pub calendar_year_is_value : (d : ℤ) (r : Result ℤ Fail) (b a : ℕ)
    → ((w : World) → 40 ≤ w.depth → Leads w Exact (calendar_year_of d) b a r)
    → IfOk r IsFactValue
calendar_year_is_value d (Ok v) b a h = calendar_value (at_depth 40) d v (leads_value (h (at_depth 40) (omega arith)))
calendar_year_is_value d (Err f) b a h = tt

-- ---- from the calls that compute them
signs_near : (w : World) (x : Expression) (q : ℤ) → outcome (run w (signs_passed_of x)) ≡ valued q → IsSign q
unfolding signs_passed_of
signs_near w x q h =
    let s = parts w (sidereal_sun_of x) _ q h in
    let d = decides w Sidereal integers (scale (fraction_of DEGREE_IN_SIGNS) s.part) (λ k. k) q s.then in
    rw d.leads_to at (sign_near w x d.cell_there s.part s.first d.decided_so)

degrees_near : (w : World) (x : Expression) (q : ℤ) → outcome (run w (whole_degrees_of x)) ≡ valued q → IsDegree q
unfolding whole_degrees_of
degrees_near w x q h =
    let s = parts w (sidereal_sun_of x) _ q h in
    let d = decides w Sidereal integers s.part (λ k. k) q s.then in
    rw d.leads_to at (degree_near w x d.cell_there s.part s.first d.decided_so)

lunar_days_near : (w : World) (x : Expression) (q : ℤ) → outcome (run w (lunar_days_passed_of x)) ≡ valued q
    → IsLunarDay q
unfolding lunar_days_passed_of
lunar_days_near w x q h =
    let p = parts w (phase_of x) _ q h in
    let d = decides w Round integers (scale (fraction_of DEGREE_IN_LUNAR_DAYS) p.part) (λ k. k) q p.then in
    rw d.leads_to at (lunar_day_near w x d.cell_there p.part p.first d.decided_so)

pub signs_found : {E : Type 0} (shown : E → Interval) (p : (e : E) → IsProper (shown e)) (t : E) {b a : ℕ}
    (r : Result ℤ Fail)
    → Leads (world_of (shown t) (p t)) Exact (signs_passed_of (argument 0)) b a r → IfOk r IsSign
signs_found shown p t (Ok q) k = signs_near (world_of (shown t) (p t)) (argument 0) q (leads_value k)
signs_found shown p t (Err f) k = tt

pub degrees_found : {E : Type 0} (shown : E → Interval) (p : (e : E) → IsProper (shown e)) (t : E) {b a : ℕ}
    (r : Result ℤ Fail)
    → Leads (world_of (shown t) (p t)) Exact (whole_degrees_of (argument 0)) b a r → IfOk r IsDegree
degrees_found shown p t (Ok q) k = degrees_near (world_of (shown t) (p t)) (argument 0) q (leads_value k)
degrees_found shown p t (Err f) k = tt

pub lunar_days_found : {E : Type 0} (shown : E → Interval) (p : (e : E) → IsProper (shown e)) (t : E) {b a : ℕ}
    (r : Result ℤ Fail)
    → Leads (world_of (shown t) (p t)) Exact (lunar_days_passed_of (argument 0)) b a r → IfOk r IsLunarDay
lunar_days_found shown p t (Ok q) k = lunar_days_near (world_of (shown t) (p t)) (argument 0) q (leads_value k)
lunar_days_found shown p t (Err f) k = tt
