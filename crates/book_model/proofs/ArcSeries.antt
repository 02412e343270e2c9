-- The series of the arctangent from -1/2 to 1/2, in radians and in degrees: it rises, and its enclosures nest.
use Rattle.std.proofs.Common.{◌≡◌, ℕ, zero, suc, ◌+◌, ◌-◌, refl, sym, ◌∙◌, subst, arith, Bool, true, false, cond, pos}
use Rattle.std.proofs.Common.{negsuc, [], ◌∷◌}
use Rattle.std.proofs.lemmas.Int.{ints}
use Rattle.exact_math.specs.Fraction.{Fraction, ◌≤F◌, whole, plus, opposite, times, power, is_at_most, smaller, larger}
use Rattle.exact_math.specs.Fraction.{size, reciprocal}
use Rattle.exact_math.specs.Interval.{Interval, everything, between, IsProper, AreWithin, ◌⊆◌, sum, negative, product}
use Rattle.exact_math.specs.Interval.{quotient, hull, least, greatest}
use Rattle.exact_math.specs.Sums.{lower, upper, alternating}
use Rattle.exact_math.proofs.Ring.{at, lit, ◌⊖◌, ◌⊗◌, minus}
use Rattle.exact_math.proofs.Fractions.{le_refl, le_trans, times_mono, opposite_mono, at_most_true, at_most_false}
use Rattle.exact_math.proofs.Fractions.{smaller_first, larger_second}
use Rattle.exact_math.proofs.Intervals.{within_trans, within_refl, negative_within, product_within, product_proper}
use Rattle.exact_math.proofs.Intervals.{negative_proper, quotient_within, quotient_proper, least_is, least_below}
use Rattle.exact_math.proofs.Intervals.{greatest_is, greatest_above}
use Rattle.exact_math.proofs.Certificates.{zero_F, ◌≼◌, known, ◌⊞◌, le_by}
use Rattle.exact_math.proofs.Hulls.{true_at_most, hull_least}
use Rattle.exact_math.proofs.Alternating.{Halving, beneath, lower_is_beneath, sums_nested, lower_rises, upper_rises}
use Rattle.exact_math.proofs.Alternating.{sum_endpoints_in_order}
use Rattle.book_model.specs.numbers.Series.{arctan_term, arctan_at, scaled, pi_at}
use Rattle.book_model.specs.numbers.Octants.{only}
use Rattle.book_model.specs.numbers.Arcs.{half, minus_half, arctan_series, radian_at, arc_near}
use Rattle.book_model.specs.programs.Nesting.{IsNestedByDepth}
use Rattle.book_model.proofs.Terms.{IsUpTo, arctan_halving, arctan_rising}
use Rattle.book_model.proofs.SeriesNesting.{Precedes, preceding}
use Rattle.book_model.proofs.Pi.{pi_proper, pi_deeper, pi_at_least}

-- ---- from -1/2 to 1/2
pub record InHalf (x : Fraction) : Type 0 where
  pub above : minus_half ≤F x
  pub below : x ≤F half

pub within_half : (x : Fraction) → zero_F ≤F x → x ≤F half → IsUpTo 1 2 x
unfolding times
within_half x h k = record { nonneg = h; bound = record { cross = omega (arith, ints, k.cross) } }

pub opposite_nonneg : (x : Fraction) → x ≤F zero_F → zero_F ≤F opposite x
opposite_nonneg x h = le_by (x ∷ []) ((at 0 ≼ lit (pos 0)) ∷ []) (lit (pos 0)) (minus (at 0)) (known 0) refl (h, tt)

pub opposite_half : (x : Fraction) → minus_half ≤F x → opposite x ≤F half
unfolding opposite
opposite_half x h = record { cross = omega (arith, ints, h.cross) }

pub positive_near : (x : Fraction) → InHalf x → is_at_most zero_F x ≡ true → IsUpTo 1 2 x
positive_near x w e = within_half x (at_most_true zero_F x e) w.below

pub negative_near : (x : Fraction) → InHalf x → is_at_most zero_F x ≡ false → IsUpTo 1 2 (opposite x)
negative_near x w e = within_half (opposite x) (opposite_nonneg x (at_most_false zero_F x e)) (opposite_half x w.above)

-- ---- the endpoints of sums that halve are not negative
lower_nonneg : (n : ℕ) (t : ℕ → Fraction) → Halving t → zero_F ≤F lower t n
unfolding beneath alternating
lower_nonneg zero t h = rw (lower_is_beneath t 0 (h.nonneg 1))
    (le_by (t 0 ∷ t 1 ∷ []) ((lit (pos 2) ⊗ at 1 ≼ at 0) ∷ []) (lit (pos 0)) (at 0 ⊖ lit (pos 2) ⊗ at 1) (known 0) refl
    (h.halves 0, tt))
lower_nonneg (suc n) t h = le_trans zero_F (lower t n) (lower t (suc n)) (lower_nonneg n t h) (sums_nested n t h).0

upper_nonneg : (n : ℕ) (t : ℕ → Fraction) → Halving t → zero_F ≤F upper t n
upper_nonneg n t h = le_trans zero_F (lower t n) (upper t n) (lower_nonneg n t h)
    (sum_endpoints_in_order n t (h.nonneg (suc n)))

across : (a b : Fraction) → zero_F ≤F a → zero_F ≤F b → opposite a ≤F b
across a b h k = le_by (a ∷ b ∷ []) ((lit (pos 0) ≼ at 0) ∷ (lit (pos 0) ≼ at 1) ∷ []) (minus (at 0)) (at 1)
    (known 0 ⊞ known 1) refl (h, (k, tt))

no_turn : (x y : Fraction) → x ≤F y → is_at_most zero_F x ≡ true → is_at_most zero_F y ≡ false → ⊥
no_turn x y h e f = let g = true_at_most zero_F y (le_trans zero_F x y (at_most_true zero_F x e) h) in cc

-- ---- in radians
abbrev signed : Bool → ℕ → Fraction → Interval
signed s n x = cond s (arctan_at n x) (negative (arctan_at n (opposite x)))

signed_rises : (n : ℕ) (x y : Fraction) (s t : Bool) → InHalf x → InHalf y → x ≤F y → is_at_most zero_F x ≡ s
    → is_at_most zero_F y ≡ t
    → Precedes (signed s n x) (signed t n y)
unfolding negative
signed_rises n x y true true w v h e f =
    let r = arctan_rising x y (positive_near x w e) (positive_near y v f) h in
    let p = (arctan_halving x (positive_near x w e)).nonneg (suc n) in
    let q = (arctan_halving y (positive_near y v f)).nonneg (suc n) in
    preceding (lower_rises n (arctan_term x) (arctan_term y) p q r)
    (upper_rises n (arctan_term x) (arctan_term y) p q r)
signed_rises n x y false true w v h e f =
    let p = arctan_halving (opposite x) (negative_near x w e) in
    let q = arctan_halving y (positive_near y v f) in
    preceding (across _ _ (upper_nonneg n _ p) (lower_nonneg n _ q))
    (across _ _ (lower_nonneg n _ p) (upper_nonneg n _ q))
signed_rises n x y true false w v h e f = absurd (no_turn x y h e f)
signed_rises n x y false false w v h e f =
    let r = arctan_rising (opposite y) (opposite x) (negative_near y v f) (negative_near x w e) (opposite_mono x y h) in
    let p = (arctan_halving (opposite y) (negative_near y v f)).nonneg (suc n) in
    let q = (arctan_halving (opposite x) (negative_near x w e)).nonneg (suc n) in
    preceding (opposite_mono _ _ (upper_rises n (arctan_term (opposite y)) (arctan_term (opposite x)) p q r))
    (opposite_mono _ _ (lower_rises n (arctan_term (opposite y)) (arctan_term (opposite x)) p q r))

series_rises : (n : ℕ) (x y : Fraction) → InHalf x → InHalf y → x ≤F y
    → Precedes (arctan_series n x) (arctan_series n y)
unfolding arctan_series
series_rises n x y w v h = signed_rises n x y (is_at_most zero_F x) (is_at_most zero_F y) w v h refl refl

pub at_deeper : (n : ℕ) (x : Fraction) → IsUpTo 1 2 x → arctan_at (suc n) x ⊆ arctan_at n x
at_deeper n x w = let h = sums_nested n (arctan_term x) (arctan_halving x w) in record { endpoints = (h.0, h.1) }

at_proper : (n : ℕ) (x : Fraction) → IsUpTo 1 2 x → IsProper (arctan_at n x)
at_proper n x w = sum_endpoints_in_order n (arctan_term x) ((arctan_halving x w).nonneg (suc n))

signed_deeper : (n : ℕ) (x : Fraction) (s : Bool) → InHalf x → is_at_most zero_F x ≡ s
    → signed s (suc n) x ⊆ signed s n x
signed_deeper n x true w e = at_deeper n x (positive_near x w e)
signed_deeper n x false w e = negative_within (at_deeper n (opposite x) (negative_near x w e))

pub series_deeper : (n : ℕ) (x : Fraction) → InHalf x → arctan_series (suc n) x ⊆ arctan_series n x
unfolding arctan_series
series_deeper n x w = signed_deeper n x (is_at_most zero_F x) w refl

signed_proper : (n : ℕ) (x : Fraction) (s : Bool) → InHalf x → is_at_most zero_F x ≡ s → IsProper (signed s n x)
signed_proper n x true w e = at_proper n x (positive_near x w e)
signed_proper n x false w e = negative_proper _ (at_proper n (opposite x) (negative_near x w e))

pub series_proper : (n : ℕ) (x : Fraction) → InHalf x → IsProper (arctan_series n x)
unfolding arctan_series
series_proper n x w = signed_proper n x (is_at_most zero_F x) w refl

series_by : (k n m : ℕ) (x : Fraction) → InHalf x → m ≡ k + n → arctan_series m x ⊆ arctan_series n x
series_by zero n m x w e = subst (λ z. arctan_series z x ⊆ arctan_series n x) (sym (e ∙ omega arith))
    (within_refl (arctan_series n x))
series_by (suc k) n m x w e = subst (λ z. arctan_series z x ⊆ arctan_series n x) (sym (e ∙ omega arith))
    (within_trans (series_deeper (k + n) x w) (series_by k n (k + n) x w refl))

pub series_nests : (x : Fraction) → minus_half ≤F x → x ≤F half → IsNestedByDepth (λ n. arctan_series n x)
series_nests x h k = record {
  within = λ n m l. series_by (m - n) n m x (record { above = h; below = k })
      (omega arith);
}

-- ---- the degrees of a radian
pub degrees_proper : (n : ℕ) → IsProper (radian_at n)
unfolding radian_at
degrees_proper n = quotient_proper _ _ (le_refl (whole (pos 180))) (pi_proper n)

degrees_deeper : (n : ℕ) → radian_at (suc n) ⊆ radian_at n
unfolding radian_at
degrees_deeper n = quotient_within (le_refl (whole (pos 180))) (pi_proper (suc n))
    (within_refl (only (whole (pos 180)))) (pi_deeper n)

degrees_at_0 : radian_at 0 ⊆ between zero_F (whole (pos 60))
unfolding radian_at quotient reciprocal product least greatest smaller larger is_at_most pi_at sum negative scaled lower
    upper alternating size arctan_term
    power plus times opposite
degrees_at_0 = record { endpoints = (record { cross = record { le = tt } }, record { cross = record { le = tt } }) }

degrees_inside : (n : ℕ) → radian_at n ⊆ between zero_F (whole (pos 60))
unfolding radian_at
degrees_inside n =
    within_trans (quotient_within (le_refl (whole (pos 180))) (pi_proper n) (within_refl (only (whole (pos 180))))
    (pi_at_least 0 n (omega arith))) degrees_at_0

-- ---- in degrees
-- times numbers that are not negative
products_rise : (i j d : Interval) → IsProper d → AreWithin d (between zero_F (whole (pos 60))) → Precedes i j
    → Precedes (product i d) (product j d)
unfolding product
products_rise i j everything p h l = absurd h
products_rise i j (between p q) o h (preceding {a = a} {b = b} {c = c} {d = e} ac be) =
    let q0 = le_trans zero_F p q h.0 o in
    let lo = least_below (times a p) (times a q) (times b p) (times b q) in
    let hi = greatest_above (times c p) (times c q) (times e p) (times e q) in
    preceding
    (least_is _ _ _ _ _ (le_trans _ _ _ lo.0 (times_mono a c p h.0 ac)) (le_trans _ _ _ lo.1 (times_mono a c q q0 ac))
    (le_trans _ _ _ lo.2 (times_mono b e p h.0 be)) (le_trans _ _ _ lo.3 (times_mono b e q q0 be)))
    (greatest_is _ _ _ _ _ (le_trans _ _ _ (times_mono a c p h.0 ac) hi.0)
    (le_trans _ _ _ (times_mono a c q q0 ac) hi.1)
    (le_trans _ _ _ (times_mono b e p h.0 be) hi.2) (le_trans _ _ _ (times_mono b e q q0 be) hi.3))

pub near_rises : (n : ℕ) (x y : Fraction) → InHalf x → InHalf y → x ≤F y → Precedes (arc_near n x) (arc_near n y)
unfolding arc_near
near_rises n x y w v h = products_rise _ _ (radian_at n) (degrees_proper n) (degrees_inside n).endpoints
    (series_rises n x y w v h)

pub near_deeper : (n : ℕ) (x : Fraction) → InHalf x → arc_near (suc n) x ⊆ arc_near n x
unfolding arc_near
near_deeper n x w = product_within (series_proper (suc n) x w) (degrees_proper (suc n)) (series_deeper n x w)
    (degrees_deeper n)

pub near_proper : (n : ℕ) (x : Fraction) → InHalf x → IsProper (arc_near n x)
unfolding arc_near
near_proper n x w = product_proper _ _ (series_proper n x w) (degrees_proper n)

near_by : (n : ℕ) (x : Fraction) → InHalf x → arc_near n x ⊆ arc_near 0 x
near_by zero x w = within_refl (arc_near 0 x)
near_by (suc n) x w = within_trans (near_deeper n x w) (near_by n x w)

-- ---- it lies between what it is at -1/2 and at 1/2
pub amid : {i j k : Interval} → Precedes i j → Precedes j k → j ⊆ hull i k
unfolding hull
amid (preceding {a = a} {b = b} ac bd) (preceding {c = e} {d = f} ce df) = record
    { endpoints = (le_trans _ _ _ (smaller_first a e) ac, le_trans _ _ _ df (larger_second b f)) }

half_in : InHalf half
half_in = record { above = record { cross = record { le = tt } }; below = le_refl half }

minus_half_in : InHalf minus_half
minus_half_in = record { above = le_refl minus_half; below = record { cross = record { le = tt } } }

pub zero_in : InHalf zero_F
zero_in = record { above = record { cross = record { le = tt } }; below = record { cross = record { le = tt } } }

half_at_0 : arc_near 0 half ⊆ between zero_F (whole (pos 45))
unfolding arc_near arctan_series radian_at quotient reciprocal product least greatest smaller larger is_at_most pi_at
    sum negative scaled lower upper
    alternating size arctan_term power plus times opposite
half_at_0 = record { endpoints = (record { cross = record { le = tt } }, record { cross = record { le = tt } }) }

zero_at_0 : arc_near 0 zero_F ⊆ between zero_F (whole (pos 45))
unfolding arc_near arctan_series radian_at quotient reciprocal product least greatest smaller larger is_at_most pi_at
    sum negative scaled lower upper
    alternating size arctan_term power plus times opposite
zero_at_0 = record { endpoints = (record { cross = record { le = tt } }, record { cross = record { le = tt } }) }

minus_half_at_0 : arc_near 0 minus_half ⊆ between (whole (negsuc 44)) (whole (pos 45))
unfolding arc_near arctan_series radian_at quotient reciprocal product least greatest smaller larger is_at_most pi_at
    sum negative scaled lower upper
    alternating size arctan_term power plus times opposite
minus_half_at_0 = record { endpoints = (record { cross = record { le = tt } }, record { cross = record { le = tt } }) }

widely : between zero_F (whole (pos 45)) ⊆ between (whole (negsuc 44)) (whole (pos 45))
widely = record { endpoints = (record { cross = record { le = tt } }, le_refl (whole (pos 45))) }

pub near_inside : (n : ℕ) (x : Fraction) → InHalf x → arc_near n x ⊆ between (whole (negsuc 44)) (whole (pos 45))
near_inside n x w =
    within_trans (amid (near_rises n minus_half x minus_half_in w w.above) (near_rises n x half w half_in w.below))
    (hull_least (within_trans (near_by n minus_half minus_half_in) minus_half_at_0)
    (within_trans (within_trans (near_by n half half_in) half_at_0) widely))

pub near_nonneg : (n : ℕ) (x : Fraction) → InHalf x → zero_F ≤F x → arc_near n x ⊆ between zero_F (whole (pos 45))
near_nonneg n x w h =
    within_trans (amid (near_rises n zero_F x zero_in w h) (near_rises n x half w half_in w.below))
    (hull_least (within_trans (near_by n zero_F zero_in) zero_at_0) (within_trans (near_by n half half_in) half_at_0))
