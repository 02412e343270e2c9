-- The polynomials of a new moon with their first two terms as one fraction have the same values; and the powers of a
-- time. At an exact time each term of the definition is one fraction, and fractions of one value give intervals of
-- which each holds the other. So the first two terms become one, and the scaled fourth power a scaled cube times the
-- time; each polynomial is then a sum in the code's order.
use Rattle.std.proofs.Common.{◌≡◌, ℕ, refl, arith, ℤ, pos, negsuc, ◌+ℤ◌, ◌*ℤ◌, List, [], ◌∷◌, length, slice_index_or}
use Rattle.std.proofs.lemmas.Int.{ints}
use Rattle.book_model.specs.Fraction.{Fraction, ◌≈◌, whole, plus, times, power}
use Rattle.book_model.specs.Interval.{Interval, everything, between, IsMember, ◌⊆◌, sum, product}
use Rattle.book_model.proofs.FractionRing.{same_by}
use Rattle.book_model.proofs.Fractions.{le_refl}
use Rattle.book_model.proofs.Intervals.{power_holds, sum_within, within_trans, within_refl, within_everything}
use Rattle.book_model.proofs.Ring.{at, lit, ◌⊕◌, ◌⊗◌}
use Rattle.book_model.proofs.Same.{same_trans, same_refl, plus_cong, le_of_same, ge_of_same}
use Rattle.book_model.specs.declared.frac.Frac.{Frac}
use Rattle.book_model.specs.declared.new_moon_tables.TheConstants.{MEAN_NEW_MOON, NEW_MOON_ANOMALY}
use Rattle.book_model.specs.declared.new_moon_tables.TheConstants.{NEW_MOON_LATITUDE_ARGUMENT, NEW_MOON_NODE}
use Rattle.book_model.specs.declared.new_moon_tables.TheConstants.{NEW_MOON_SUN_ANOMALY}
use Rattle.book_model.specs.numbers.Expressions.{World, value, exactly, constant, multiply, scale, power as power_of}
use Rattle.book_model.specs.numbers.Fractions.{fraction_of}
use Rattle.book_model.specs.numbers.Polynomials.{polynomial_at_to, polynomial_at}
use Rattle.book_model.specs.numbers.Relations.{Within, Lies}
use Rattle.book_model.specs.sky.Correction.{no_fraction}
use Rattle.book_model.specs.sky.NewMoons.{centuries_of_months}
use Rattle.book_model.proofs.Exactly.{product_exactly}
use Rattle.new_moons.specs.Months.{cubic_by, quartic_by, quartic_sum}

-- ---- numbers of one value
-- an interval that holds a number
pub member_within : (x : Fraction) (i : Interval) → IsMember x i → exactly x ⊆ i
member_within x everything m = within_everything _
member_within x (between a b) m = record { endpoints = m }

pub exactly_within : (x y : Fraction) → x ≈ y → exactly x ⊆ exactly y
exactly_within x y s = record { endpoints = (ge_of_same s, le_of_same s) }

-- ---- the powers of a time
cube_is : (c : Fraction) → power c 3 ≈ times (power c 2) c
unfolding power
cube_is c = same_by (c ∷ []) (at 0 ⊗ (at 0 ⊗ (at 0 ⊗ lit (pos 1)))) ((at 0 ⊗ (at 0 ⊗ lit (pos 1))) ⊗ at 0) refl

fourth_scaled : (h c : Fraction) → times (power c 4) h ≈ times (times (power c 3) h) c
unfolding power
fourth_scaled h c =
    same_by (c ∷ h ∷ []) ((at 0 ⊗ (at 0 ⊗ (at 0 ⊗ (at 0 ⊗ lit (pos 1))))) ⊗ at 1)
    (((at 0 ⊗ (at 0 ⊗ (at 0 ⊗ lit (pos 1)))) ⊗ at 1) ⊗ at 0) refl

cube_within : (c : Fraction) → exactly (power c 3) ⊆ product (exactly (power c 2)) (exactly c)
cube_within c = rw (product_exactly (power c 2) c) (exactly_within _ _ (cube_is c))

module _ {E : Type 0} (shown : E → Interval) (w : World) (c : Fraction) (e : E) where
  pub square_holds : Within shown w (power_of (constant c) 2) e → Within shown w (constant (power c 2)) e
  unfolding Lies value
  square_holds h = record {
    deep = h.deep;
    inside =
        within_trans (member_within _ _ (power_holds 2 (exactly c) c (le_refl c, le_refl c))) h.inside;
  }

  pub cube_holds : Within shown w (multiply (constant (power c 2)) (constant c)) e
      → Within shown w (constant (power c 3)) e
  unfolding Lies value
  cube_holds h = record { deep = h.deep; inside = within_trans (cube_within c) h.inside }

-- the scaled fourth power is the product of the scaled cube and the time
fourth_within : (w : World) (h c : Fraction) → value w (scale h (constant (power c 4)))
    ⊆ value w (multiply (scale h (constant (power c 3))) (constant c))
unfolding value
fourth_within w h c =
    rw (product_exactly (power c 4) h, product_exactly (power c 3) h, product_exactly (times (power c 3) h) c)
    (exactly_within _ _ (fourth_scaled h c))

-- ---- the first two terms
abbrev pub coefficient : List Frac → ℕ → Fraction
coefficient cs n = fraction_of (slice_index_or cs n no_fraction)

-- they are one fraction
abbrev pub HasFirst : List Frac → (c f : Fraction) → Type 0
HasFirst cs c f = plus (coefficient cs 0) (times c (coefficient cs 1)) ≈ f

first_is : (cs : List Frac) (c f : Fraction) → HasFirst cs c f
    → plus (plus (whole (pos 0)) (times (power c 0) (coefficient cs 0))) (times (power c 1) (coefficient cs 1)) ≈ f
unfolding power
first_is cs c f h =
    same_trans
    (same_by (coefficient cs 0 ∷ c ∷ coefficient cs 1 ∷ []) ((lit (pos 0) ⊕ lit (pos 1) ⊗ at 0)
    ⊕ (at 1 ⊗ lit (pos 1)) ⊗ at 2) (at 0 ⊕ at 1 ⊗ at 2) refl) h

-- ---- the polynomials
abbrev four_terms : List Frac → Fraction → Fraction
four_terms cs c =
    plus (plus (plus (plus (whole (pos 0)) (times (power c 0) (coefficient cs 0)))
    (times (power c 1) (coefficient cs 1)))
    (times (power c 2) (coefficient cs 2))) (times (power c 3) (coefficient cs 3))

four_are : (w : World) (cs : List Frac) (c : Fraction) → value w (polynomial_at_to cs c 4) ≡ exactly (four_terms cs c)
unfolding value polynomial_at_to sum
four_are w cs c =
    rw (
      product_exactly (power c 0) (coefficient cs 0),
      product_exactly (power c 1) (coefficient cs 1),
      product_exactly (power c 2) (coefficient cs 2),
      product_exactly (power c 3) (coefficient cs 3),
    ) refl

cubic_is : (w : World) (f q k c : Fraction) → value w (cubic_by f q k c)
    ≡ exactly (plus (plus f (times (power c 2) q)) (times (power c 3) k))
unfolding value sum
cubic_is w f q k c = rw (product_exactly (power c 2) q, product_exactly (power c 3) k) refl

four_same : (cs : List Frac) (c f : Fraction) → HasFirst cs c f
    → four_terms cs c ≈ plus (plus f (times (power c 2) (coefficient cs 2))) (times (power c 3) (coefficient cs 3))
four_same cs c f h = plus_cong (plus_cong (first_is cs c f h) (same_refl _)) (same_refl _)

cubic_within : (w : World) (cs : List Frac) (c f : Fraction) → HasFirst cs c f
    → value w (polynomial_at_to cs c 4) ⊆ value w (cubic_by f (coefficient cs 2) (coefficient cs 3) c)
cubic_within w cs c f h =
    rw (four_are w cs c, cubic_is w f (coefficient cs 2) (coefficient cs 3) c) (exactly_within _ _ (four_same cs c f h))

quartic_within : (w : World) (cs : List Frac) (c f : Fraction) → HasFirst cs c f
    → value w (polynomial_at_to cs c 5) ⊆ value w (quartic_by f (coefficient cs 2) (coefficient cs 3) (coefficient cs 4)
    c)
unfolding value polynomial_at_to
quartic_within w cs c f h = sum_within (cubic_within w cs c f h) (within_refl _)

quartic_by_sum : (w : World) (f q k h c : Fraction)
    → value w (quartic_by f q k h c) ⊆ value w (quartic_sum q k h (constant f) (constant (power c 2))
    (constant (power c 3)) (constant c))
unfolding value
quartic_by_sum w f q k h c = sum_within (within_refl _) (fourth_within w h c)

module _ {E : Type 0} (shown : E → Interval) (w : World) (cs : List Frac) (c f : Fraction) (h : HasFirst cs c f)
    (e : E) where
  pub cubic_holds : length cs ≡ 4 → Within shown w (cubic_by f (coefficient cs 2) (coefficient cs 3) c) e
      → Within shown w (polynomial_at cs c) e
  unfolding Lies polynomial_at
  cubic_holds l k = record { deep = k.deep; inside = rw l (within_trans (cubic_within w cs c f h) k.inside) }

  pub quartic_holds : length cs ≡ 5
      → Within shown w (quartic_sum (coefficient cs 2) (coefficient cs 3) (coefficient cs 4) (constant f)
      (constant (power c 2)) (constant (power c 3)) (constant c))
      e → Within shown w (polynomial_at cs c) e
  unfolding Lies polynomial_at
  quartic_holds l k = record {
    deep = k.deep;
    inside = rw l
        (within_trans (quartic_within w cs c f h)
        (within_trans (quartic_by_sum w f (coefficient cs 2) (coefficient cs 3) (coefficient cs 4) c) k.inside));
  }

-- ---- what a month adds
abbrev by_parts : (start month k : ℤ) → ℕ → Fraction
by_parts start month k below = record { num = start +ℤ month *ℤ k; below = below }

pub mean_first : (k : ℤ) → HasFirst MEAN_NEW_MOON (centuries_of_months k)
    (by_parts (pos 5097660000) (pos 29530588861) k 999999999)
unfolding plus times
mean_first k = record { cross = omega (arith, ints) }

pub sun_first : (k : ℤ) → HasFirst NEW_MOON_SUN_ANOMALY (centuries_of_months k)
    (by_parts (pos 255340000) (pos 2910535670) k 99999999)
unfolding plus times
sun_first k = record { cross = omega (arith, ints) }

pub moon_first : (k : ℤ) → HasFirst NEW_MOON_ANOMALY (centuries_of_months k)
    (by_parts (pos 20156430000) (pos 38581693528) k 99999999)
unfolding plus times
moon_first k = record { cross = omega (arith, ints) }

pub latitude_first : (k : ℤ) → HasFirst NEW_MOON_LATITUDE_ARGUMENT (centuries_of_months k)
    (by_parts (pos 16071080000) (pos 39067050284) k 99999999)
unfolding plus times
latitude_first k = record { cross = omega (arith, ints) }

pub node_first : (k : ℤ) → HasFirst NEW_MOON_NODE (centuries_of_months k)
    (by_parts (pos 12477460000) (negsuc 156375587) k 99999999)
unfolding plus times
node_first k = record { cross = omega (arith, ints) }
