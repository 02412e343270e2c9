-- From where to where the distance of the moon lies: within 10,000,000 kilometres at each depth, as far as its formula
-- has a value. Intervals alone are followed, from the centuries to the factor of the eccentricity, to a term, whose row
-- is looked up in a table that is checked as a whole, to the sum of 60 terms by induction, and to kilometres. Each
-- constant step is computed once, as an inclusion of two intervals of whole numbers.
use Rattle.std.specs.Prelude.{◌≡◌, ℕ, zero, suc, ◌*◌, ◌≤◌, nat_le, ◌&&◌, Bool, true, ℤ, pos, negsuc, neg_ℤ, ◌+ℤ◌, ◌-ℤ◌}
use Rattle.std.specs.Prelude.{unsigned_abs, List, [], ◌∷◌, length, slice_index_or, Result, Ok, Err, IfOk, refl}
use Rattle.std.specs.List.{list_all}
use Rattle.std.proofs.Common.{arith}
use Rattle.std.proofs.lemmas.Bool.{leb-true}
use Rattle.std.proofs.lemmas.Int.{ints}
use Rattle.book_model.specs.Fraction.{whole, times, power as fraction_power, smaller, larger, is_at_most}
use Rattle.book_model.specs.Interval.{Interval, everything, between, ◌⊆◌, IsProper, product, power as interval_power}
use Rattle.book_model.specs.Interval.{least, greatest, least_even}
use Rattle.book_model.proofs.Fractions.{le_refl}
use Rattle.book_model.proofs.Intervals.{within_trans, product_within, power_within, plus_proper}
use Rattle.book_model.specs.declared.fail.Fail.{Fail}
use Rattle.book_model.specs.declared.moon_tables.TheConstants.{ECCENTRICITY_FACTOR, MOON_TERMS}
use Rattle.book_model.specs.declared.moon_terms.MoonTerm.{MoonTerm}
use Rattle.book_model.specs.declared.site.Site.TheVariants.{Round}
use Rattle.book_model.specs.declared.tables.TheConstants.{HALF}
use Rattle.book_model.specs.declared.time_tables.TheConstants.{TABLE_START, TABLE_END, DAY_IN_CENTURIES, NOON_2000}
use Rattle.book_model.specs.numbers.Expressions.{Expression, World, value, exactly, integer, constant, add, subtract}
use Rattle.book_model.specs.numbers.Expressions.{scale, power, cosine}
use Rattle.book_model.specs.numbers.Fractions.{fraction_of}
use Rattle.book_model.specs.numbers.Octants.{only, cosine_of_degrees}
use Rattle.book_model.specs.numbers.Polynomials.{quadratic_of}
use Rattle.book_model.specs.numbers.Ranges.{IsBetween}
use Rattle.book_model.specs.numbers.Terms.{terms_to, terms_of, times_power}
use Rattle.book_model.specs.programs.Leading.{Leads, Exact}
use Rattle.book_model.specs.programs.Programs.{integers, bind, run, valued, outcome}
use Rattle.book_model.specs.sky.Correction.{rounded_of}
use Rattle.book_model.specs.sky.Distance.{distance_part_of, distance_term_of, distance_terms_of, mean_distance, metre}
use Rattle.book_model.specs.sky.Distance.{distance_by, distance_of}
use Rattle.book_model.specs.sky.Facts.{IsFactValue, at_depth}
use Rattle.book_model.specs.sky.Moon.{LunarAngles, lunar_angles_of, lunar_angle_of, no_term}
use Rattle.book_model.specs.sky.Time.{correction_at, dynamical_of, in_centuries, centuries_of}
use Rattle.book_model.proofs.CorrectionRows.{both}
use Rattle.book_model.proofs.DateLimits.{by_size}
use Rattle.book_model.proofs.DegreeSines.{sine_inside}
use Rattle.book_model.proofs.Estimates.{between_of_within, wider, difference_between, floor_between, valued_same}
use Rattle.book_model.proofs.Estimates.{sum_between}
use Rattle.book_model.proofs.FactRuns.{parts, decides}
use Rattle.book_model.proofs.Leads.{leads_value}
use Rattle.book_model.proofs.Values.{value_proper}
use Rattle.moon_core.proofs.PhaseRanges.{scaled_between}
use Rattle.time_scales.proofs.Moments.{corrected_in_table}

-- ---- products
product_between : (a b c d l h : ℤ) (i j : Interval) → product (between (whole a) (whole b))
    (between (whole c) (whole d)) ⊆ between (whole l) (whole h)
    → IsProper i → IsProper j → IsBetween a b i → IsBetween c d j → IsBetween l h (product i j)
unfolding product
product_between a b c d l h everything j p f g x y = tt
product_between a b c d l h (between s t) everything p f g x y = tt
product_between a b c d l h (between s t) (between u v) p f g x y = between_of_within l h _
    (within_trans (product_within {i = between s t} {i' = between (whole a) (whole b)} {j = between u v}
    {j' = between (whole c) (whole d)} f g
    (record { endpoints = x }) (record { endpoints = y })) p)

square_between : (a b l h : ℤ) (i : Interval) → interval_power (between (whole a) (whole b)) 2 ⊆ between (whole l)
    (whole h)
    → IsProper i → IsBetween a b i → IsBetween l h (interval_power i 2)
unfolding interval_power
square_between a b l h everything p f x = tt
square_between a b l h (between s t) p f x = between_of_within l h _
    (within_trans (power_within 2 {i = between s t} {i' = between (whole a) (whole b)} f (record { endpoints = x })) p)

-- ---- the factor of the eccentricity
-- where the centuries lie
abbrev AreCenturiesAt : World → Expression → Type 0
AreCenturiesAt w c = IsBetween (negsuc 25) (pos 2) (value w c)

squares_of_centuries : interval_power (between (whole (negsuc 25)) (whole (pos 2))) 2 ⊆ between (whole (pos 0))
    (whole (pos 676))
unfolding interval_power fraction_power least_even times smaller larger is_at_most
squares_of_centuries =
    record { endpoints = (record { cross = omega (arith, ints) }, record { cross = omega (arith, ints) }) }

linear_part : product (between (whole (negsuc 25)) (whole (pos 2))) (exactly (fraction_of ECCENTRICITY_FACTOR.linear))
    ⊆ between (whole (negsuc 0)) (whole (pos 1))
unfolding product least greatest smaller larger times is_at_most
linear_part = record { endpoints = (record { cross = omega (arith, ints) }, record { cross = omega (arith, ints) }) }

square_part : product (between (whole (pos 0)) (whole (pos 676))) (exactly (fraction_of ECCENTRICITY_FACTOR.square))
    ⊆ between (whole (negsuc 0)) (whole (pos 0))
unfolding product least greatest smaller larger times is_at_most
square_part = record { endpoints = (record { cross = omega (arith, ints) }, record { cross = omega (arith, ints) }) }

unit_between : (w : World) → IsBetween (pos 1) (pos 1) (value w (constant (fraction_of ECCENTRICITY_FACTOR.constant)))
unfolding value
unit_between w = (record { cross = omega (arith, ints) }, record { cross = omega (arith, ints) })

linear_between : (w : World) (c : Expression) → AreCenturiesAt w c
    → IsBetween (negsuc 0) (pos 1) (value w (scale (fraction_of ECCENTRICITY_FACTOR.linear) c))
unfolding value
linear_between w c h = scaled_between (negsuc 25) (pos 2) (negsuc 0) (pos 1) (fraction_of ECCENTRICITY_FACTOR.linear) _
    linear_part (value_proper w c) h

squared_between : (w : World) (c : Expression) → AreCenturiesAt w c
    → IsBetween (negsuc 0) (pos 0) (value w (scale (fraction_of ECCENTRICITY_FACTOR.square) (power c 2)))
unfolding value
squared_between w c h =
    let s = square_between (negsuc 25) (pos 2) (pos 0) (pos 676) (value w c) squares_of_centuries (value_proper w c) h
    in
    scaled_between (pos 0) (pos 676) (negsuc 0) (pos 0) (fraction_of ECCENTRICITY_FACTOR.square) _ square_part
    (value_proper w (power c 2)) s

-- so it lies from -1 to 2
abbrev IsFactor : World → Expression → Type 0
IsFactor w e = IsBetween (negsuc 0) (pos 2) (value w e)

factor_between : (w : World) (c : Expression) → AreCenturiesAt w c → IsFactor w (quadratic_of ECCENTRICITY_FACTOR c)
unfolding quadratic_of value
factor_between w c h =
    sum_between (pos 0) (pos 2) (negsuc 0) (pos 0) _ _ (sum_between (pos 1) (pos 1) (negsuc 0) (pos 1) _ _
    (unit_between w) (linear_between w c h))
    (squared_between w c h)

-- ---- a term
cosine_between : (w : World) (x : Expression) → IsBetween (negsuc 0) (pos 1) (value w (cosine x))
unfolding value cosine_of_degrees
cosine_between w x = between_of_within (negsuc 0) (pos 1) _
    (sine_inside w.depth _ (plus_proper (value w x) (only (whole (pos 90))) (value_proper w x)
    (le_refl (whole (pos 90)))))

four_squares : interval_power (between (whole (negsuc 0)) (whole (pos 2))) 2 ⊆ between (whole (pos 0)) (whole (pos 4))
unfolding interval_power fraction_power least_even times smaller larger is_at_most
four_squares = record { endpoints = (record { cross = omega (arith, ints) }, record { cross = omega (arith, ints) }) }

once : product (between (whole (negsuc 0)) (whole (pos 2))) (between (whole (negsuc 0)) (whole (pos 1))) ⊆ between
    (whole (negsuc 3)) (whole (pos 4))
unfolding product least greatest smaller larger times is_at_most
once = record { endpoints = (record { cross = omega (arith, ints) }, record { cross = omega (arith, ints) }) }

twice : product (between (whole (pos 0)) (whole (pos 4))) (between (whole (negsuc 0)) (whole (pos 1))) ⊆ between
    (whole (negsuc 3)) (whole (pos 4))
unfolding product least greatest smaller larger times is_at_most
twice = record { endpoints = (record { cross = omega (arith, ints) }, record { cross = omega (arith, ints) }) }

-- a cosine times the factor, as often as a row of the table has it
power_between : (w : World) (e x : Expression) (k : ℕ) → k ≤ 2 → IsFactor w e → IsBetween (negsuc 0) (pos 1) (value w x)
    → IsBetween (negsuc 3) (pos 4) (value w (times_power e k x))
unfolding times_power value
power_between w e x zero s f h = wider (negsuc 0) (pos 1) (negsuc 3) (pos 4) _ (omega (arith, ints))
    (omega (arith, ints)) h
power_between w e x (suc zero) s f h =
    product_between (negsuc 0) (pos 2) (negsuc 0) (pos 1) (negsuc 3) (pos 4) (value w e) (value w x) once
    (value_proper w e) (value_proper w x) f h
power_between w e x (suc (suc zero)) s f h =
    product_between (pos 0) (pos 4) (negsuc 0) (pos 1) (negsuc 3) (pos 4) (value w (power e 2)) (value w x) twice
    (value_proper w (power e 2)) (value_proper w x)
    (square_between (negsuc 0) (pos 2) (pos 0) (pos 4) (value w e) four_squares (value_proper w e) f) h
power_between w e x (suc (suc (suc k))) s f h = absurd (omega (arith, s))

-- the rows have it at most twice, and have at most 21,000,000 metres
is_small_term : MoonTerm → Bool
is_small_term t = nat_le (unsigned_abs t.sun_anomaly) 2 && nat_le (unsigned_abs t.distance) 21000000

terms_small : list_all is_small_term MOON_TERMS ≡ true
unfolding is_small_term
terms_small = refl

row_small : (rows : List MoonTerm) (n : ℕ) → list_all is_small_term rows ≡ true
    → is_small_term (slice_index_or rows n no_term) ≡ true
unfolding is_small_term
row_small [] n h = refl
row_small (r ∷ rows) zero h = (both _ _ h).0
row_small (r ∷ rows) (suc n) h = row_small rows n (both _ _ h).1

-- the greatest size of a row
abbrev least_term : ℤ
least_term = neg_ℤ (pos 84000000)

abbrev greatest_term : ℤ
greatest_term = pos 84000000

sized : product (between (whole (negsuc 3)) (whole (pos 4)))
    (between (whole (neg_ℤ (pos 21000000))) (whole (pos 21000000)))
    ⊆ between (whole least_term) (whole greatest_term)
unfolding product least greatest smaller larger times is_at_most
sized = record { endpoints = (record { cross = omega (arith, ints) }, record { cross = omega (arith, ints) }) }

term_between : (w : World) (a : LunarAngles) (t : MoonTerm) → IsFactor w a.eccentricity → is_small_term t ≡ true
    → IsBetween least_term greatest_term (value w (distance_term_of a t))
unfolding is_small_term distance_term_of distance_part_of value
term_between w a t f h =
    let s = both _ _ h in
    let z = by_size t.distance 21000000 (leb-true _ _ s.1) in
    let x = cosine (lunar_angle_of a t.elongation t.sun_anomaly t.moon_anomaly t.latitude_argument) in
    let p = power_between w a.eccentricity x (unsigned_abs t.sun_anomaly) (leb-true _ _ s.0) f (cosine_between w _) in
    product_between (negsuc 3) (pos 4) (neg_ℤ (pos 21000000)) (pos 21000000) least_term greatest_term _
    (exactly (whole t.distance)) sized
    (value_proper w (times_power a.eccentricity (unsigned_abs t.sun_anomaly) x)) (le_refl (whole t.distance)) p
    (record { cross = omega (arith, ints, z.0) }, record { cross = omega (arith, ints, z.1) })

-- ---- the distance
terms_between : (w : World) (a : LunarAngles) (n : ℕ) → IsFactor w a.eccentricity
    → IsBetween (neg_ℤ (pos (84000000 * n))) (pos (84000000 * n))
    (value w (terms_to (distance_term_of a) no_term MOON_TERMS n))
unfolding terms_to value
terms_between w a zero f = (record { cross = omega (arith, ints) }, record { cross = omega (arith, ints) })
terms_between w a (suc n) f =
    wider _ _ (neg_ℤ (pos (84000000 * suc n))) (pos (84000000 * suc n)) _ (omega (arith, ints)) (omega (arith, ints))
    (sum_between (neg_ℤ (pos (84000000 * n))) (pos (84000000 * n)) least_term greatest_term _ _ (terms_between w a n f)
    (term_between w a _ f (row_small MOON_TERMS n terms_small)))

sixty_terms : length MOON_TERMS ≡ 60
sixty_terms = refl

all_between : (w : World) (a : LunarAngles) → IsFactor w a.eccentricity
    → IsBetween (neg_ℤ (pos 5040000000)) (pos 5040000000) (value w (distance_terms_of a))
unfolding distance_terms_of terms_of
all_between w a f = rw sixty_terms (terms_between w a 60 f)

mean_between : (w : World) → IsBetween (pos 0) (pos 400000000) (value w (integer mean_distance))
unfolding value
mean_between w = (record { cross = omega (arith, ints) }, record { cross = omega (arith, ints) })

in_kilometres : product (between (whole (neg_ℤ (pos 5040000000))) (whole (pos 5440000000))) (exactly metre) ⊆ between
    (whole (neg_ℤ (pos 5040000)))
    (whole (pos 5440000))
unfolding product least greatest smaller larger times is_at_most
in_kilometres = record { endpoints = (record { cross = omega (arith, ints) }, record { cross = omega (arith, ints) }) }

by_between : (w : World) (a : LunarAngles) → IsFactor w a.eccentricity
    → IsBetween (neg_ℤ (pos 5040000)) (pos 5440000) (value w (distance_by a))
unfolding distance_by value
by_between w a f = scaled_between (neg_ℤ (pos 5040000000)) (pos 5440000000) (neg_ℤ (pos 5040000)) (pos 5440000) metre _
    in_kilometres
    (value_proper w (add (integer mean_distance) (distance_terms_of a)))
    (sum_between (pos 0) (pos 400000000) (neg_ℤ (pos 5040000000)) (pos 5040000000) _ _ (mean_between w)
    (all_between w a f))

angles_between : (w : World) (c : Expression) → AreCenturiesAt w c → IsFactor w (lunar_angles_of c).eccentricity
unfolding lunar_angles_of
angles_between w c h = factor_between w c h

-- ---- the centuries
hundred_years : product (between (whole (TABLE_START -ℤ pos 730321)) (whole (TABLE_END -ℤ pos 729920)))
    (exactly (fraction_of DAY_IN_CENTURIES))
    ⊆ between (whole (negsuc 25)) (whole (pos 2))
unfolding product least greatest smaller larger times is_at_most
hundred_years = record { endpoints = (record { cross = omega (arith, ints) }, record { cross = omega (arith, ints) }) }

noon_between : (w : World) → IsBetween (pos 730120) (pos 730121) (value w (constant (fraction_of NOON_2000)))
unfolding value
noon_between w = (record { cross = omega (arith, ints) }, record { cross = omega (arith, ints) })

in_centuries_between : (w : World) (x : Expression) → IsBetween (TABLE_START -ℤ pos 200) (TABLE_END +ℤ pos 200)
    (value w x) → AreCenturiesAt w (in_centuries x)
unfolding in_centuries value
in_centuries_between w x h =
    let d = difference_between _ _ (pos 730120) (pos 730121) _ _ h (noon_between w) in
    scaled_between (TABLE_START -ℤ pos 730321) (TABLE_END -ℤ pos 729920) (negsuc 25) (pos 2)
    (fraction_of DAY_IN_CENTURIES) _ hundred_years
    (value_proper w (subtract x (constant (fraction_of NOON_2000))))
    (wider _ _ (TABLE_START -ℤ pos 730321) (TABLE_END -ℤ pos 729920) _ (omega (arith, ints))
    (omega (arith, ints)) d)

centuries_between : (w : World) (x c : Expression) → outcome (run w (centuries_of x)) ≡ valued c → AreCenturiesAt w c
unfolding centuries_of dynamical_of value
centuries_between w x c e =
    let d = parts w (dynamical_of x) _ c e in
    let k = parts w (correction_at x) _ d.part d.first in
    let t = corrected_in_table w x k.part k.first in
    let s = sum_between TABLE_START TABLE_END (negsuc 199) (pos 200) _ _ t.0 t.1 in
    let m : IsBetween (TABLE_START -ℤ pos 200) (TABLE_END +ℤ pos 200) (value w d.part) =
    rw (← valued_same w (add x k.part) d.part k.then)
    (wider _ _ (TABLE_START -ℤ pos 200) (TABLE_END +ℤ pos 200) _ (omega (arith, ints)) (omega (arith, ints)) s) in
    rw (← valued_same w (in_centuries d.part) c d.then) (in_centuries_between w d.part m)

distance_between : (w : World) (x d : Expression) → outcome (run w (distance_of x)) ≡ valued d
    → IsBetween (neg_ℤ (pos 5040000)) (pos 5440000) (value w d)
unfolding distance_of
distance_between w x d e =
    let c = parts w (centuries_of x) _ d e in
    rw (← valued_same w (distance_by (lunar_angles_of c.part)) d c.then)
    (by_between w (lunar_angles_of c.part) (angles_between w c.part
    (centuries_between w x c.part c.first)))

pub half_between : (w : World) → IsBetween (pos 0) (pos 1) (value w (constant (fraction_of HALF)))
unfolding value
half_between w = (record { cross = omega (arith, ints) }, record { cross = omega (arith, ints) })

kilometres_value : (w : World) (d v : ℤ) → outcome (run w (bind (distance_of (integer d)) rounded_of)) ≡ valued v
    → IsFactValue v
unfolding rounded_of value
kilometres_value w d v e =
    let k = parts w (distance_of (integer d)) rounded_of v e in
    let s = sum_between _ _ (pos 0) (pos 1) _ _ (distance_between w (integer d) k.part k.first) (half_between w) in
    let c = decides w Round integers (add k.part (constant (fraction_of HALF))) (λ q. q) v k.then in
    let f = rw c.leads_to at
    (floor_between _ _ c.cell_there _ (value_proper w (add k.part (constant (fraction_of HALF)))) s c.decided_so) in
    (omega (arith, ints, f.0), omega (arith, ints, f.1))

-- so a distance in kilometres is a value that a fact may have
pub distance_is_value : (d : ℤ) (r : Result ℤ Fail) (b a : ℕ)
    → ((w : World) → 40 ≤ w.depth → Leads w Exact (bind (distance_of (integer d)) rounded_of) b a r)
    → IfOk r IsFactValue
distance_is_value d (Ok v) b a h = kilometres_value (at_depth 40) d v (leads_value (h (at_depth 40) (omega arith)))
distance_is_value d (Err f) b a h = tt
