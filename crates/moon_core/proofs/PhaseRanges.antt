-- The moon's formulas: how many tests they make, and from where to where the numbers of new moons lie that they find.
-- Tests are added along the definitions (`AtMost`). A number is the floor of months since the first new moon less those
-- of a phase from 0 to 360 degrees, plus a half: so it lies where the months of a moment of the table do, which
-- `FirstMoon` and the mean month bound.
use Rattle.std.specs.Prelude.{◌≡◌, ℕ, zero, suc, ◌+◌, ◌*◌, ◌-◌, ℤ, pos, negsuc, ◌+ℤ◌, ◌-ℤ◌, ◌*ℤ◌, ◌≤ℤ◌, Some, Bool}
use Rattle.std.specs.Prelude.{true, false, if◌then◌else◌, Result, Ok, Err, IfOk}
use Rattle.std.proofs.Common.{arith, sym, ◌∙◌}
use Rattle.std.proofs.lemmas.Int.{ints}
use Rattle.std.specs.Ordering.{int_eq}
use Rattle.std.proofs.lemmas.Bool.Decides.{Decides-int_eq}
use Rattle.book_model.specs.Fraction.{Fraction, ◌≤F◌, ◌<F◌, whole, plus, opposite, times, smaller, larger, is_at_most}
use Rattle.book_model.specs.Interval.{Interval, everything, between, ◌⊆◌, IsProper, sum, negative, difference, product}
use Rattle.book_model.specs.Interval.{least, greatest}
use Rattle.book_model.proofs.Fractions.{le_trans, le_refl, plus_mono}
use Rattle.book_model.proofs.IntLaws.{mul_add}
use Rattle.book_model.proofs.Intervals.{within_trans, within_refl, product_within}
use Rattle.book_model.specs.declared.new_moon_tables.TheConstants.{DAY_IN_MONTHS, DEGREE_IN_MONTHS, FIRST_LATE_MONTH}
use Rattle.book_model.specs.declared.new_moon_tables.TheConstants.{FIRST_LATE_MOON, LAST_TABLE_MONTH, LAST_TABLE_MOON}
use Rattle.book_model.specs.declared.new_moon_tables.TheConstants.{LATE_START, TURN}
use Rattle.book_model.specs.declared.time_tables.TheConstants.{TABLE_START, TABLE_END}
use Rattle.book_model.specs.declared.site.Site.TheVariants.{PhaseWrap, MoonNumber, PhasePick}
use Rattle.book_model.specs.declared.tables.TheConstants.{HALF}
use Rattle.book_model.specs.declared.fail.Fail.{Fail}
use Rattle.book_model.specs.numbers.Bounds.{IsNarrow}
use Rattle.book_model.specs.numbers.Expressions.{Expression, argument, World, value, exactly, integer, constant, add}
use Rattle.book_model.specs.numbers.Expressions.{subtract, scale, remainder}
use Rattle.book_model.specs.numbers.Fractions.{fraction_of}
use Rattle.book_model.specs.sky.Moon.{moon_of}
use Rattle.book_model.specs.sky.NewMoons.{new_moon_of}
use Rattle.book_model.specs.sky.Phases.{elongation_of, months_between, months_since, nearest_moon_of, rough_number_of}
use Rattle.book_model.specs.sky.Phases.{phase_by_months_of, size_of, within_turn_of, rest_of_month, phase_of_choice}
use Rattle.book_model.specs.sky.Phases.{test_which_phase_of, phase_of, number_of_moon, is_moon_before_of, walk_of}
use Rattle.book_model.specs.sky.Phases.{moon_preceding_of, moon_before_of, moon_from_of, corrected_of}
use Rattle.book_model.specs.programs.Programs.{Program, answer, compare, integers, multiples, cell_of, cell_at}
use Rattle.book_model.specs.programs.Programs.{threshold, run, valued, outcome, AtMost, answer_at_most, void_at_most}
use Rattle.book_model.specs.programs.Programs.{cell_at_most, compare_at_most}
use Rattle.book_model.specs.programs.Leading.{Leads, Exact, leaf}
use Rattle.book_model.specs.numbers.Ranges.{IsBetween, IsInTable}
use Rattle.book_model.specs.numbers.Relations.{Within, Lies}
use Rattle.book_model.specs.sky.Sun.{sun_of}
use Rattle.book_model.specs.sky.Time.{centuries_of, from_dynamical_of}
use Rattle.book_model.proofs.Cells.{cells_cut}
use Rattle.book_model.proofs.Estimates.{wider, difference_between, floor_between, between_of_within, valued_same}
use Rattle.book_model.proofs.Estimates.{sum_between}
use Rattle.book_model.proofs.FactRuns.{centuries_few, correction_at_few, sun_few, parts, decides, when_some}
use Rattle.book_model.proofs.Leads.{at_most_bind, at_most_more, leads_leaf, leads_value}
use Rattle.time_scales.proofs.Moments.{dated_in_table, universal_between}
use Rattle.book_model.proofs.Values.{value_proper}
use Rattle.moon_core.proofs.FirstMoon.{first_moon_between}
use Rattle.book_model.specs.programs.Widths.{IsSince}

-- ---- how many tests
pub new_moon_few : (n : ℤ) → AtMost 1 (new_moon_of n)
unfolding new_moon_of from_dynamical_of
new_moon_few n = at_most_bind 1 0 (correction_at_few _) (λ c. answer_at_most)

pub moon_few : (x : Expression) → AtMost 2 (moon_of x)
unfolding moon_of
moon_few x = at_most_bind 1 1 (centuries_few x) (λ c. cell_at_most (λ q. answer_at_most))

elongation_few : (x : Expression) → AtMost 5 (elongation_of x)
unfolding elongation_of within_turn_of
elongation_few x = at_most_bind 2 3 (moon_few x)
    (λ m. at_most_bind 2 1 (sun_few x) (λ s. cell_at_most (λ q. answer_at_most)))

months_few : (n : ℤ) (x : Expression) → AtMost 1 (months_since n x)
unfolding months_since
months_few n x = at_most_bind 1 0 (new_moon_few n) (λ m. answer_at_most)

nearest_few : (m : Expression) → AtMost 1 (nearest_moon_of m)
unfolding nearest_moon_of
nearest_few m = cell_at_most (λ q. answer_at_most)

rough_few : (x : Expression) → AtMost 2 (rough_number_of x)
unfolding rough_number_of
rough_few x = at_most_bind 1 1 (months_few (pos 0) x) (λ m. nearest_few m)

by_months_few : (n : ℤ) (x : Expression) → AtMost 2 (phase_by_months_of n x)
unfolding phase_by_months_of rest_of_month
by_months_few n x = at_most_bind 1 1 (months_few n x) (λ m. at_most_bind 1 0 (cell_at_most (λ q. answer_at_most))
    (λ r. answer_at_most))

picked_few : (p q : Expression) → AtMost 1 (test_which_phase_of p q)
unfolding test_which_phase_of
picked_few p q = at_most_bind 1 0 (compare_at_most (λ t. answer_at_most)) (λ t. answer_at_most)

-- a phase makes ten tests
pub phase_few : (x : Expression) → AtMost 10 (phase_of x)
unfolding phase_of corrected_of
phase_few x = at_most_bind 5 5 (elongation_few x)
    (λ p. at_most_bind 2 3 (rough_few x) (λ n. at_most_bind 2 1 (by_months_few n x) (λ q. picked_few p q)))

number_few : (x : Expression) → AtMost 12 (number_of_moon x)
unfolding number_of_moon
number_few x = at_most_bind 1 11 (months_few (pos 0) x) (λ m. at_most_bind 10 1 (phase_few x) (λ p. nearest_few _))

before_few : (k : ℤ) (x : Expression) → AtMost 2 (is_moon_before_of k x)
unfolding is_moon_before_of
before_few k x = at_most_bind 1 1 (new_moon_few k) (λ m. compare_at_most (λ t. answer_at_most))

pub few_if : {A : Type 0} (n : ℕ) (t : Bool) (p q : Program A) → AtMost n p → AtMost n q → AtMost n (if t then p else q)
few_if n true p q h k = h
few_if n false p q h k = k

walk_few : (more : ℕ) (x : Expression) (k : ℤ) → AtMost (2 * more) (walk_of more x k)
unfolding walk_of
walk_few zero x k = void_at_most
walk_few (suc more) x k = at_most_more (2 + 2 * more) (2 * suc more) (omega arith)
    (at_most_bind 2 (2 * more) (before_few k x) (λ t. few_if (2 * more) t _ _ (walk_few more x (k +ℤ pos 1))
    answer_at_most))

-- the new moons before and from a moment make at most 25
pub moon_before_few : (x : Expression) → AtMost 25 (moon_before_of x)
unfolding moon_before_of moon_preceding_of
moon_before_few x = at_most_bind 12 13 (number_few x) (λ n. at_most_bind 12 1 (walk_few 6 x _) (λ k. new_moon_few _))

pub moon_from_few : (x : Expression) → AtMost 25 (moon_from_of x)
unfolding moon_from_of
moon_from_few x = at_most_bind 12 13 (number_few x) (λ n. at_most_bind 12 1 (walk_few 6 x _) (λ k. new_moon_few _))

-- ---- from where to where new moons lie
pub new_moon_between : (w : World) (n : ℤ) (m : Expression) → outcome (run w (new_moon_of n)) ≡ valued m
    → IsBetween (TABLE_START -ℤ pos 200) (TABLE_END +ℤ pos 200) (value w m)
unfolding new_moon_of
new_moon_between w n m e = universal_between w _ m e

-- a moment at which the moon has a longitude
pub moon_in_table : (w : World) (x m : Expression) → outcome (run w (moon_of x)) ≡ valued m → IsInTable (value w x)
unfolding moon_of
moon_in_table w x m e = let c = parts w (centuries_of x) _ m e in dated_in_table w x c.part c.first

-- and at which it has an elongation or a phase
pub elongation_in_table : (w : World) (x p : Expression) → outcome (run w (elongation_of x)) ≡ valued p
    → IsInTable (value w x)
unfolding elongation_of
elongation_in_table w x p e = let m = parts w (moon_of x) _ p e in moon_in_table w x m.part m.first

-- ---- numbers of new moons
pub scaled_between : (lo hi l h : ℤ) (f : Fraction) (i : Interval) → product (between (whole lo) (whole hi)) (exactly f)
    ⊆ between (whole l) (whole h)
    → IsProper i → IsBetween lo hi i → IsBetween l h (product i (exactly f))
unfolding product
scaled_between lo hi l h f everything p q k = tt
scaled_between lo hi l h f (between a b) p q k = between_of_within l h _
    (within_trans (product_within {i = between a b} {i' = between (whole lo) (whole hi)} q (le_refl f)
    (record { endpoints = k }) (within_refl (exactly f))) p)

-- the days of a moment after the first new moon, in months: at most so many from the first of them on
abbrev HaveMonths : (lo l : ℤ) → Type 0
HaveMonths lo l = product (between (whole (lo -ℤ pos 300)) (whole (TABLE_END +ℤ pos 300)))
    (exactly (fraction_of DAY_IN_MONTHS)) ⊆ between (whole l)
    (whole LAST_TABLE_MONTH)

months_of_days : HaveMonths TABLE_START (negsuc 6194)
unfolding product least greatest smaller larger times is_at_most
months_of_days = record { endpoints = (record { cross = omega (arith, ints) }, record { cross = omega (arith, ints) }) }

months_of_late_days : HaveMonths LATE_START FIRST_LATE_MONTH
unfolding product least greatest smaller larger times is_at_most
months_of_late_days =
    record { endpoints = (record { cross = omega (arith, ints) }, record { cross = omega (arith, ints) }) }

-- the months from the first new moon to a moment, by the day from which on it lies
months_since_between : (w : World) (x m : Expression) (lo l : ℤ) → HaveMonths lo l → IsBetween lo TABLE_END (value w x)
    → outcome (run w (months_since (pos 0) x)) ≡ valued m → IsBetween l LAST_TABLE_MONTH (value w m)
unfolding months_since months_between value
months_since_between w x m lo l f h e =
    let z = parts w (new_moon_of (pos 0)) _ m e in
    let d = difference_between lo TABLE_END (negsuc 299) (pos 300) _ _ h (first_moon_between w z.part z.first) in
    let b = wider _ _ (lo -ℤ pos 300) (TABLE_END +ℤ pos 300) _ (omega (arith, ints)) (omega (arith, ints)) d in
    rw (← valued_same w (months_between z.part x) m z.then) (scaled_between (lo -ℤ pos 300) (TABLE_END +ℤ pos 300) l
    LAST_TABLE_MONTH
    (fraction_of DAY_IN_MONTHS) _ f (value_proper w (subtract x z.part)) b)

pub half_between : IsBetween (pos 0) (pos 1) (exactly (fraction_of HALF))
half_between = (record { cross = omega (arith, ints) }, record { cross = omega (arith, ints) })

nearest_between : (w : World) (lo hi n : ℤ) (m : Expression) → IsBetween lo hi (value w m)
    → outcome (run w (nearest_moon_of m)) ≡ valued n → (lo ≤ℤ n)
    × (n ≤ℤ (hi +ℤ pos 1))
unfolding nearest_moon_of value
nearest_between w lo hi n m h e =
    let d = decides w MoonNumber integers (add m (constant (fraction_of HALF))) (λ q. q) n e in
    let s = sum_between lo hi (pos 0) (pos 1) _ _ h half_between in
    let f = floor_between (lo +ℤ pos 0) (hi +ℤ pos 1) d.cell_there _
    (value_proper w (add m (constant (fraction_of HALF)))) s d.decided_so in
    let r : (lo ≤ℤ d.cell_there) × (d.cell_there ≤ℤ (hi +ℤ pos 1)) =
    (omega (arith, ints, f.0), omega (arith, ints, f.1)) in
    rw d.leads_to at r

-- the number of a new moon about a moment of the years of which ΔT is known
abbrev pub IsDatedNumber : ℤ → Type 0
IsDatedNumber n = (negsuc 6199 ≤ℤ n) × (n ≤ℤ LAST_TABLE_MOON)

-- the number that is found by mean months is such a number
pub rough_near : (w : World) (x : Expression) (n : ℤ) → IsInTable (value w x)
    → outcome (run w (rough_number_of x)) ≡ valued n → IsDatedNumber n
unfolding rough_number_of
rough_near w x n h e =
    let m = parts w (months_since (pos 0) x) nearest_moon_of n e in
    let b = nearest_between w (negsuc 6194) LAST_TABLE_MONTH n m.part
    (months_since_between w x m.part TABLE_START (negsuc 6194) months_of_days h m.first)
    m.then in
    (omega (arith, ints, b.0), omega (arith, ints, b.1))

-- ---- phases
remainder_above : (a : Fraction) (t : ℤ) → whole t ≤F a → whole (pos 0) ≤F plus a (opposite (whole t))
unfolding plus opposite
remainder_above a t h = le_trans _ _ _ (record { cross = omega (arith, ints) })
    (plus_mono _ _ _ _ h (le_refl (opposite (whole t))))

remainder_below : (b : Fraction) (t u : ℤ) → b <F whole u → plus b (opposite (whole t)) ≤F whole (u -ℤ t)
unfolding plus opposite
remainder_below b t u h =
    let k : b ≤F whole u = record { cross = omega (arith, ints, h.strict) } in
    le_trans _ _ _ (plus_mono _ _ _ _ k (le_refl (opposite (whole t)))) (record { cross = omega (arith, ints) })

-- what is left of a number by a modulus
remainder_between : (m : ℕ) (i : Interval) (q : ℤ) → cell_at (multiples (suc m)) i ≡ Some q
    → IsBetween (pos 0) (pos (suc m)) (difference i (exactly (whole (pos (suc m) *ℤ q))))
unfolding cell_at sum negative threshold
remainder_between m everything q e = absurd (cc)
remainder_between m (between a b) q e =
    let w = when_some (int_eq (cell_of (multiples (suc m)) a) (cell_of (multiples (suc m)) b))
    (cell_of (multiples (suc m)) a) q e in
    let same : cell_of (multiples (suc m)) b ≡ q = sym ((Decides-int_eq _ _).0 w.0) ∙ w.1 in
    let z : suc m - 1 ≡ m = omega arith in
    let low = rw z at (rw w.1 at ((cells_cut (multiples (suc m))).begun a)) in
    let high = rw z at (rw same at ((cells_cut (multiples (suc m))).not_over b)) in
    let u = remainder_below b (pos (suc m) *ℤ q) (pos (suc m) *ℤ (q +ℤ pos 1)) high in (
      remainder_above a (pos (suc m) *ℤ q) low,
      le_trans _ _ _ u
          (record { cross = omega (arith, ints, mul_add (pos (suc m)) q (pos 1)) }),
    )

turned_between : (w : World) (x p : Expression) → outcome (run w (within_turn_of x)) ≡ valued p
    → IsBetween (pos 0) (pos 360) (value w p)
unfolding within_turn_of value
turned_between w x p e =
    let d = decides w PhaseWrap (multiples 360) x (λ q. remainder 360 x q) p e in
    rw (← d.leads_to) (remainder_between 359 _ d.cell_there d.decided_so)

elongation_between : (w : World) (x p : Expression) → outcome (run w (elongation_of x)) ≡ valued p
    → IsBetween (pos 0) (pos 360) (value w p)
unfolding elongation_of
elongation_between w x p e =
    let m = parts w (moon_of x) _ p e in
    let s = parts w (sun_of x) _ p m.then in
    turned_between w (subtract m.part s.part) p s.then

degrees_of_month : product (between (whole (pos 0)) (whole (pos 1))) (exactly (fraction_of TURN)) ⊆ between
    (whole (pos 0)) (whole (pos 360))
unfolding product least greatest smaller larger times is_at_most
degrees_of_month =
    record { endpoints = (record { cross = omega (arith, ints) }, record { cross = omega (arith, ints) }) }

rest_between : (w : World) (m r : Expression) → outcome (run w (rest_of_month m)) ≡ valued r
    → IsBetween (pos 0) (pos 1) (value w r)
unfolding rest_of_month value
rest_between w m r e =
    let d = decides w PhaseWrap (multiples 1) m (λ q. remainder 1 m q) r e in
    rw (← d.leads_to) (remainder_between 0 _ d.cell_there d.decided_so)

by_months_between : (w : World) (n : ℤ) (x p : Expression) → outcome (run w (phase_by_months_of n x)) ≡ valued p
    → IsBetween (pos 0) (pos 360) (value w p)
unfolding phase_by_months_of value
by_months_between w n x p e =
    let m = parts w (months_since n x) _ p e in
    let r = parts w (rest_of_month m.part) _ p m.then in
    rw (← valued_same w (scale (fraction_of TURN) r.part) p r.then)
    (scaled_between (pos 0) (pos 1) (pos 0) (pos 360) (fraction_of TURN) _ degrees_of_month (value_proper w r.part)
    (rest_between w m.part r.part r.first))

picked_between : (w : World) (p q v : Expression) → IsBetween (pos 0) (pos 360) (value w p)
    → IsBetween (pos 0) (pos 360) (value w q)
    → outcome (run w (test_which_phase_of p q)) ≡ valued v → IsBetween (pos 0) (pos 360) (value w v)
unfolding test_which_phase_of phase_of_choice
picked_between w p q v h k e =
    let t = parts w (compare PhasePick (integer (pos 180)) (size_of (subtract p q)) answer)
    (λ apart. answer (phase_of_choice apart p q)) v e in
    rw (← valued_same w (phase_of_choice t.part p q) v t.then) (either t.part)
  where
    either : (t : Bool) → IsBetween (pos 0) (pos 360) (value w (phase_of_choice t p q))
    either true = k
    either false = h

-- a phase lies in a turn
pub phase_between : (w : World) (x v : Expression) → outcome (run w (phase_of x)) ≡ valued v
    → IsBetween (pos 0) (pos 360) (value w v)
unfolding phase_of corrected_of
phase_between w x v e =
    let p = parts w (elongation_of x) _ v e in
    let n = parts w (rough_number_of x) _ v p.then in
    let q = parts w (phase_by_months_of n.part x) _ v n.then in
    picked_between w p.part q.part v (elongation_between w x p.part p.first)
    (by_months_between w n.part x q.part q.first) q.then

pub phase_in_table : (w : World) (x v : Expression) → outcome (run w (phase_of x)) ≡ valued v → IsInTable (value w x)
unfolding phase_of
phase_in_table w x v e = let p = parts w (elongation_of x) _ v e in elongation_in_table w x p.part p.first

part_of_month : product (between (whole (pos 0)) (whole (pos 360))) (exactly (fraction_of DEGREE_IN_MONTHS)) ⊆ between
    (whole (pos 0)) (whole (pos 1))
unfolding product least greatest smaller larger times is_at_most
part_of_month = record { endpoints = (record { cross = omega (arith, ints) }, record { cross = omega (arith, ints) }) }

-- the number of a moment's new moon, by the day from which on the moment lies
number_between : (w : World) (x : Expression) (n lo l : ℤ) → HaveMonths lo l
    → (IsInTable (value w x) → IsBetween lo TABLE_END (value w x))
    → outcome (run w (number_of_moon x)) ≡ valued n → ((l -ℤ pos 1) ≤ℤ n) × (n ≤ℤ (LAST_TABLE_MONTH +ℤ pos 1))
unfolding number_of_moon value
number_between w x n lo l f h e =
    let m = parts w (months_since (pos 0) x) _ n e in
    let p = parts w (phase_of x) _ n m.then in
    let b = months_since_between w x m.part lo l f (h (phase_in_table w x p.part p.first)) m.first in
    let s = scaled_between (pos 0) (pos 360) (pos 0) (pos 1) (fraction_of DEGREE_IN_MONTHS) _ part_of_month
    (value_proper w p.part)
    (phase_between w x p.part p.first) in
    let d = difference_between l LAST_TABLE_MONTH (pos 0) (pos 1) _ _ b s in
    let g = nearest_between w (l -ℤ pos 1) (LAST_TABLE_MONTH -ℤ pos 0) n _ d p.then in
    (omega (arith, ints, g.0), omega (arith, ints, g.1))

-- it is one of the years of which ΔT is known
pub number_near : (w : World) (x : Expression) (n : ℤ) → outcome (run w (number_of_moon x)) ≡ valued n → IsDatedNumber n
number_near w x n e =
    let f = number_between w x n TABLE_START (negsuc 6194) months_of_days (λ h. h) e in
    (omega (arith, ints, f.0), omega (arith, ints, f.1))

-- and a late one of a late moment
late_between : (v : ℕ) (i : Interval) → IsSince LATE_START v i → IsInTable i → IsBetween LATE_START TABLE_END i
unfolding IsNarrow
late_between v everything h t = tt
late_between v (between a b) h t = (le_trans _ _ _ (record { cross = omega (arith, ints) }) h.kept.above, t.1)

-- ---- from the calls that compute them
-- the world in which an argument is an interval
pub world_of : (i : Interval) → IsProper i → World
world_of i p = record { depth = 40; arguments = λ k. i; proper = λ k. p }

pub within_world : {E : Type 0} (shown : E → Interval) (p : (e : E) → IsProper (shown e)) (e : E)
    → Within shown (world_of (shown e) (p e)) (argument 0) e
unfolding Lies value world_of
within_world shown p e = record { deep = omega arith; inside = within_refl _ }

-- an elongation is found of a moment in the table alone
pub elongation_found : {E T : Type 0} {R : Expression → T → Type 0} (shown : E → Interval) (p : (e : E)
    → IsProper (shown e)) (t : E) {b a : ℕ}
    (r : Result T Fail) →
    Leads (world_of (shown t) (p t)) R (elongation_of (argument 0)) b a r → IfOk r (λ v. IsInTable (shown t))
unfolding value world_of
elongation_found shown p t (Ok v) h = elongation_in_table (world_of (shown t) (p t)) (argument 0)
    (leaf (world_of (shown t) (p t)) (elongation_of (argument 0)))
    (leads_leaf h)
elongation_found shown p t (Err f) h = tt

pub rough_found : {E : Type 0} (shown : E → Interval) (p : (e : E) → IsProper (shown e)) (t : E) {b a : ℕ}
    (r : Result ℤ Fail) → IsInTable (shown t) →
    Leads (world_of (shown t) (p t)) Exact (rough_number_of (argument 0)) b a r → IfOk r IsDatedNumber
unfolding value world_of
rough_found shown p t (Ok n) h k = rough_near (world_of (shown t) (p t)) (argument 0) n h (leads_value k)
rough_found shown p t (Err f) h k = tt

pub number_found : {E : Type 0} (shown : E → Interval) (p : (e : E) → IsProper (shown e)) (t : E) {b a : ℕ}
    (r : Result ℤ Fail) →
    Leads (world_of (shown t) (p t)) Exact (number_of_moon (argument 0)) b a r → IfOk r IsDatedNumber
number_found shown p t (Ok n) k = number_near (world_of (shown t) (p t)) (argument 0) n (leads_value k)
number_found shown p t (Err f) k = tt

pub late_found : {E : Type 0} (shown : E → Interval) (p : (e : E) → IsProper (shown e)) (t : E) {b a : ℕ} (v : ℕ)
    (r : Result ℤ Fail)
    → IsSince LATE_START v (shown t) →
    Leads (world_of (shown t) (p t)) Exact (number_of_moon (argument 0)) b a r → IfOk r (λ n. FIRST_LATE_MOON ≤ℤ n)
unfolding value world_of
late_found shown p t v (Ok n) h k = let f = number_between (world_of (shown t) (p t)) (argument 0) n LATE_START
    FIRST_LATE_MONTH months_of_late_days
    (late_between v (shown t) h) (leads_value k) in omega (arith, ints, f.0)
late_found shown p t v (Err f) h k = tt

pub dated_from : (r : Result ℤ Fail) → IfOk r IsDatedNumber → IfOk r (λ n. negsuc 6199 ≤ℤ n)
dated_from (Ok n) h = h.0
dated_from (Err f) h = tt

pub dated_to : (r : Result ℤ Fail) → IfOk r IsDatedNumber → IfOk r (λ n. n ≤ℤ LAST_TABLE_MOON)
dated_to (Ok n) h = h.1
dated_to (Err f) h = tt

-- such a number lies within 40,000 of 0
pub near_low : (r : Result ℤ Fail) → IfOk r IsDatedNumber → IfOk r (λ n. negsuc 39999 ≤ℤ n)
near_low (Ok n) h = omega (arith, ints, h.0)
near_low (Err f) h = tt

pub near_high : (r : Result ℤ Fail) → IfOk r IsDatedNumber → IfOk r (λ n. n ≤ℤ pos 40000)
near_high (Ok n) h = omega (arith, ints, h.1)
near_high (Err f) h = tt
