-- From the operations on intervals and bounds to those on expressions. An expression's value, and its bound, unfold to
-- those of its parts, and an operation on intervals is monotone: so what holds the operation on the parts' enclosures
-- holds the expression (`within_..`), and what keeps the operation's bound keeps that of the expression (`narrow_..`).
-- One lemma each for every operation, over any kind of enclosure.
use Rattle.interval_endpoints.specs.Scales.{Scale, coarse, fine, bits_of, limits_on}
use Rattle.std.proofs.Common.{ℕ, ◌≤◌, ℤ, pos, ◌*ℤ◌}
use Rattle.book_model.specs.Fraction.{Fraction, whole}
use Rattle.book_model.specs.Interval.{Interval, between, ◌⊆◌, sum, difference, negative, product}
use Rattle.book_model.specs.Interval.{minimum as interval_minimum, maximum as interval_maximum, hull as interval_hull}
use Rattle.book_model.specs.Interval.{widen as interval_widen, quotient, power as interval_power}
use Rattle.book_model.proofs.Fractions.{le_refl}
use Rattle.book_model.proofs.Intervals.{within_refl, within_trans, sum_within, difference_within, negative_within}
use Rattle.book_model.proofs.Intervals.{product_within, minimum_within, maximum_within, hull_within, widen_within}
use Rattle.book_model.proofs.Intervals.{quotient_within, power_within}
use Rattle.book_model.specs.numbers.Expressions.{Expression, World, value, integer, constant, add, subtract, multiply}
use Rattle.book_model.specs.numbers.Expressions.{negate, scale, minimum, maximum, hull, widen, divide, power, remainder}
use Rattle.book_model.specs.numbers.Bounds.{Bound, Limits, Reach, IsNarrow, bound_of, integer_bound, constant_bound}
use Rattle.book_model.specs.numbers.Bounds.{sum_bound, scaled_bound, difference_bound, product_bound, power_bound}
use Rattle.book_model.specs.numbers.Bounds.{quotient_bound, negated_bound, minimum_bound, maximum_bound, hull_bound}
use Rattle.book_model.specs.numbers.Bounds.{widen_bound, remainder_bound, spanned_bound, limits_of}
use Rattle.book_model.proofs.Values.{value_proper}
use Rattle.book_model.specs.numbers.Relations.{Within, Narrow, Lies, Keeps}

-- ---- what an enclosure holds
-- an enclosure of a whole number
pub within_integer : {E : Type 0} (shown : E → Interval) (w : World) (n : ℤ) (k : E) → 40 ≤ w.depth
    → between (whole n) (whole n) ⊆ shown k
    → Within shown w (integer n) k
unfolding Lies value
-- an enclosure of a whole number
within_integer shown w n k d h = record { deep = d; inside = h }

-- an enclosure of a fraction
pub within_constant : {E : Type 0} (shown : E → Interval) (w : World) (a : Fraction) (k : E) → 40 ≤ w.depth
    → between a a ⊆ shown k
    → Within shown w (constant a) k
unfolding Lies value
-- an enclosure of a fraction
within_constant shown w a k d h = record { deep = d; inside = h }

-- an enclosure of the sums
pub within_add : {E : Type 0} (shown : E → Interval) (w : World) (x y : Expression) (i j k : E)
    → sum (shown i) (shown j) ⊆ shown k → Within shown w x i
    → Within shown w y j → Within shown w (add x y) k
unfolding Lies value
-- an enclosure of the sums
within_add shown w x y i j k h p q = let a : value w x ⊆ shown i = p.inside in let b : value w y ⊆ shown j = q.inside in
    record
    { deep = p.deep; inside = within_trans (sum_within a b) h }

-- an enclosure of the products with a fraction
pub within_scale : {E : Type 0} (shown : E → Interval) (w : World) (f : Fraction) (x : Expression) (i k : E)
    → product (shown i) (between f f) ⊆ shown k
    → Within shown w x i → Within shown w (scale f x) k
unfolding Lies value
within_scale shown w f x i k h p =
    let a : value w x ⊆ shown i = p.inside in record {
      deep = p.deep;
      inside = within_trans (product_within (value_proper w x) (le_refl f) a (within_refl (between f f))) h;
    }

-- an enclosure of the differences
pub within_subtract : {E : Type 0} (shown : E → Interval) (w : World) (x y : Expression) (i j k : E)
    → difference (shown i) (shown j) ⊆ shown k
    → Within shown w x i → Within shown w y j → Within shown w (subtract x y) k
unfolding Lies value
-- an enclosure of the differences
within_subtract shown w x y i j k h p q = let a : value w x ⊆ shown i = p.inside in let b : value w y ⊆ shown j =
    q.inside in record
    { deep = p.deep; inside = within_trans (difference_within a b) h }

-- an enclosure of the products
pub within_multiply : {E : Type 0} (shown : E → Interval) (w : World) (x y : Expression) (i j k : E)
    → product (shown i) (shown j) ⊆ shown k
    → Within shown w x i → Within shown w y j → Within shown w (multiply x y) k
unfolding Lies value
-- an enclosure of the products
within_multiply shown w x y i j k h p q = let a : value w x ⊆ shown i = p.inside in let b : value w y ⊆ shown j =
    q.inside in record
    { deep = p.deep; inside = within_trans (product_within (value_proper w x) (value_proper w y) a b) h }

-- an enclosure of the lesser members
pub within_minimum : {E : Type 0} (shown : E → Interval) (w : World) (x y : Expression) (i j k : E)
    → interval_minimum (shown i) (shown j) ⊆ shown k
    → Within shown w x i → Within shown w y j → Within shown w (minimum x y) k
unfolding Lies value
-- an enclosure of the lesser members
within_minimum shown w x y i j k h p q = let a : value w x ⊆ shown i = p.inside in let b : value w y ⊆ shown j =
    q.inside in record
    { deep = p.deep; inside = within_trans (minimum_within a b) h }

-- an enclosure of the greater members
pub within_maximum : {E : Type 0} (shown : E → Interval) (w : World) (x y : Expression) (i j k : E)
    → interval_maximum (shown i) (shown j) ⊆ shown k
    → Within shown w x i → Within shown w y j → Within shown w (maximum x y) k
unfolding Lies value
-- an enclosure of the greater members
within_maximum shown w x y i j k h p q = let a : value w x ⊆ shown i = p.inside in let b : value w y ⊆ shown j =
    q.inside in record
    { deep = p.deep; inside = within_trans (maximum_within a b) h }

-- an enclosure of the hull
pub within_hull : {E : Type 0} (shown : E → Interval) (w : World) (x y : Expression) (i j k : E)
    → interval_hull (shown i) (shown j) ⊆ shown k
    → Within shown w x i → Within shown w y j → Within shown w (hull x y) k
unfolding Lies value
-- an enclosure of the hull
within_hull shown w x y i j k h p q = let a : value w x ⊆ shown i = p.inside in let b : value w y ⊆ shown j =
    q.inside in record
    { deep = p.deep; inside = within_trans (hull_within a b) h }

-- an enclosure of the opposites
pub within_negate : {E : Type 0} (shown : E → Interval) (w : World) (x : Expression) (i k : E)
    → negative (shown i) ⊆ shown k → Within shown w x i
    → Within shown w (negate x) k
unfolding Lies value
-- an enclosure of the opposites
within_negate shown w x i k h p = let a : value w x ⊆ shown i = p.inside in
    record { deep = p.deep; inside = within_trans (negative_within a) h }

-- an enclosure of the widening
pub within_widen : {E : Type 0} (shown : E → Interval) (w : World) (f : Fraction) (x : Expression) (i k : E)
    → interval_widen f (shown i) ⊆ shown k
    → Within shown w x i → Within shown w (widen f x) k
unfolding Lies value
-- an enclosure of the widening
within_widen shown w f x i k h p = let a : value w x ⊆ shown i = p.inside in
    record { deep = p.deep; inside = within_trans (widen_within f a) h }

pub within_divide : {E : Type 0} (shown : E → Interval) (w : World) (x y : Expression) (i j k : E)
    → quotient (shown i) (shown j) ⊆ shown k → Within shown w x i
    → Within shown w y j → Within shown w (divide x y) k
unfolding Lies value
within_divide shown w x y i j k h p q = let a : value w x ⊆ shown i = p.inside in let b : value w y ⊆ shown j =
    q.inside in record
    { deep = p.deep; inside = within_trans (quotient_within (value_proper w x) (value_proper w y) a b) h }

pub within_power : {E : Type 0} (shown : E → Interval) (w : World) (x : Expression) (n : ℕ) (i k : E)
    → interval_power (shown i) n ⊆ shown k
    → Within shown w x i → Within shown w (power x n) k
unfolding Lies value
within_power shown w x n i k h p = let a : value w x ⊆ shown i = p.inside in record
    { deep = p.deep; inside = within_trans (power_within n (value_proper w x) a) h }

pub within_remainder : {E : Type 0} (shown : E → Interval) (w : World) (m : ℕ) (x : Expression) (q : ℤ) (i k : E)
    → difference (shown i) (between (whole (pos m *ℤ q)) (whole (pos m *ℤ q))) ⊆ shown k → Within shown w x i
    → Within shown w (remainder m x q) k
unfolding Lies value
within_remainder shown w m x q i k h p = let a : value w x ⊆ shown i = p.inside in record {
  deep = p.deep;
  inside = within_trans
      (difference_within a (within_refl (between (whole (pos m *ℤ q)) (whole (pos m *ℤ q))))) h;
}

-- ---- the bound that an enclosure keeps
-- the bound of a whole number
pub narrow_integer : (endpoints : Scale) → {E : Type 0} (shown : E → Interval) (r : Reach) (n : ℤ) (k : E)
    → ((w : ℕ) → IsNarrow w (integer_bound (limits_on endpoints) n) (shown k))
    → Narrow shown (limits_of (bits_of endpoints)) r (integer n) k
unfolding Keeps bound_of limits_of
-- the bound of a whole number
narrow_integer coarse shown r n k h = record { kept = h r.width }
narrow_integer fine shown r n k h = record { kept = h r.width }

-- the bound of a fraction
pub narrow_constant : (endpoints : Scale) → {E : Type 0} (shown : E → Interval) (r : Reach) (a : Fraction) (k : E)
    → ((w : ℕ) → IsNarrow w (constant_bound (limits_on endpoints) a) (shown k))
    → Narrow shown (limits_of (bits_of endpoints)) r (constant a) k
unfolding Keeps bound_of limits_of
-- the bound of a fraction
narrow_constant coarse shown r a k h = record { kept = h r.width }
narrow_constant fine shown r a k h = record { kept = h r.width }

-- the bound of a sum
pub narrow_add : (endpoints : Scale) → {E : Type 0} (shown : E → Interval) (r : Reach) (x y : Expression) (i j k : E)
    → ((w : ℕ) (a b : Bound) → IsNarrow w a (shown i) → IsNarrow w b (shown j)
    → IsNarrow w (sum_bound (limits_on endpoints) a b) (shown k))
    → Narrow shown (limits_of (bits_of endpoints)) r x i → Narrow shown (limits_of (bits_of endpoints)) r y j
    → Narrow shown (limits_of (bits_of endpoints)) r (add x y) k
unfolding Keeps bound_of limits_of
-- the bound of a sum
narrow_add coarse shown r x y i j k h p q = record { kept = h r.width _ _ p.kept q.kept }
narrow_add fine shown r x y i j k h p q = record { kept = h r.width _ _ p.kept q.kept }

-- the bound of a product with a fraction
pub narrow_scale : (endpoints : Scale) → {E : Type 0} (shown : E → Interval) (r : Reach) (f : Fraction) (x : Expression)
    (i k : E)
    → ((w : ℕ) (a : Bound) → IsNarrow w a (shown i) → IsNarrow w (scaled_bound (limits_on endpoints) f a) (shown k))
    → Narrow shown (limits_of (bits_of endpoints)) r x i → Narrow shown (limits_of (bits_of endpoints)) r (scale f x) k
unfolding Keeps bound_of limits_of
-- the bound of a product with a fraction
narrow_scale coarse shown r f x i k h p = record { kept = h r.width _ p.kept }
narrow_scale fine shown r f x i k h p = record { kept = h r.width _ p.kept }

-- the bound of a difference
pub narrow_subtract : (endpoints : Scale) → {E : Type 0} (shown : E → Interval) (r : Reach) (x y : Expression)
    (i j k : E)
    → ((w : ℕ) (a b : Bound) → IsNarrow w a (shown i) → IsNarrow w b (shown j)
    → IsNarrow w (difference_bound (limits_on endpoints) a b) (shown k))
    → Narrow shown (limits_of (bits_of endpoints)) r x i → Narrow shown (limits_of (bits_of endpoints)) r y j
    → Narrow shown (limits_of (bits_of endpoints)) r (subtract x y) k
unfolding Keeps bound_of limits_of
narrow_subtract coarse shown r x y i j k h p q = record { kept = h r.width _ _ p.kept q.kept }
narrow_subtract fine shown r x y i j k h p q = record { kept = h r.width _ _ p.kept q.kept }

-- the bound of a product
pub narrow_multiply : (endpoints : Scale) → {E : Type 0} (shown : E → Interval) (r : Reach) (x y : Expression)
    (i j k : E)
    → ((w : ℕ) (a b : Bound) → IsNarrow w a (shown i) → IsNarrow w b (shown j)
    → IsNarrow w (product_bound (limits_on endpoints) a b) (shown k))
    → Narrow shown (limits_of (bits_of endpoints)) r x i → Narrow shown (limits_of (bits_of endpoints)) r y j
    → Narrow shown (limits_of (bits_of endpoints)) r (multiply x y) k
unfolding Keeps bound_of limits_of
narrow_multiply coarse shown r x y i j k h p q = record { kept = h r.width _ _ p.kept q.kept }
narrow_multiply fine shown r x y i j k h p q = record { kept = h r.width _ _ p.kept q.kept }

-- the bound of the lesser
pub narrow_minimum : {E : Type 0} (shown : E → Interval) (l : Limits) (r : Reach) (x y : Expression) (i j k : E)
    → ((w : ℕ) (a b : Bound) → IsNarrow w a (shown i) → IsNarrow w b (shown j)
    → IsNarrow w (minimum_bound a b) (shown k))
    → Narrow shown l r x i → Narrow shown l r y j → Narrow shown l r (minimum x y) k
unfolding Keeps bound_of
narrow_minimum shown l r x y i j k h p q = record { kept = h r.width _ _ p.kept q.kept }

-- the bound of the greater
pub narrow_maximum : {E : Type 0} (shown : E → Interval) (l : Limits) (r : Reach) (x y : Expression) (i j k : E)
    → ((w : ℕ) (a b : Bound) → IsNarrow w a (shown i) → IsNarrow w b (shown j)
    → IsNarrow w (maximum_bound a b) (shown k))
    → Narrow shown l r x i → Narrow shown l r y j → Narrow shown l r (maximum x y) k
unfolding Keeps bound_of
narrow_maximum shown l r x y i j k h p q = record { kept = h r.width _ _ p.kept q.kept }

-- the bound of a hull
pub narrow_hull : {E : Type 0} (shown : E → Interval) (l : Limits) (r : Reach) (x y : Expression) (i j k : E)
    → ((w : ℕ) (a b : Bound) → IsNarrow w a (shown i) → IsNarrow w b (shown j) → IsNarrow w (hull_bound a b) (shown k))
    → Narrow shown l r x i → Narrow shown l r y j → Narrow shown l r (hull x y) k
unfolding Keeps bound_of
narrow_hull shown l r x y i j k h p q = record { kept = h r.width _ _ p.kept q.kept }

-- the bound of an opposite
pub narrow_negate : (endpoints : Scale) → {E : Type 0} (shown : E → Interval) (r : Reach) (x : Expression) (i k : E)
    → ((w : ℕ) (a : Bound) → IsNarrow w a (shown i) → IsNarrow w (negated_bound (limits_on endpoints) a) (shown k))
    → Narrow shown (limits_of (bits_of endpoints)) r x i → Narrow shown (limits_of (bits_of endpoints)) r (negate x) k
unfolding Keeps bound_of limits_of
narrow_negate coarse shown r x i k h p = record { kept = h r.width _ p.kept }
narrow_negate fine shown r x i k h p = record { kept = h r.width _ p.kept }

-- the bound of a widening
pub narrow_widen : (endpoints : Scale) → {E : Type 0} (shown : E → Interval) (r : Reach) (f : Fraction) (x : Expression)
    (i k : E)
    → ((w : ℕ) (a : Bound) → IsNarrow w a (shown i) → IsNarrow w (widen_bound (limits_on endpoints) f a) (shown k))
    → Narrow shown (limits_of (bits_of endpoints)) r x i → Narrow shown (limits_of (bits_of endpoints)) r (widen f x) k
unfolding Keeps bound_of limits_of
narrow_widen coarse shown r f x i k h p = record { kept = h r.width _ p.kept }
narrow_widen fine shown r f x i k h p = record { kept = h r.width _ p.kept }

-- the bound of a quotient
pub narrow_divide : (endpoints : Scale) → {E : Type 0} (shown : E → Interval) (r : Reach) (x y : Expression) (i j k : E)
    → ((w : ℕ) (a b : Bound) → IsNarrow w a (shown i) → IsNarrow w b (shown j)
    → IsNarrow w (quotient_bound (limits_on endpoints) a b) (shown k))
    → Narrow shown (limits_of (bits_of endpoints)) r x i → Narrow shown (limits_of (bits_of endpoints)) r y j
    → Narrow shown (limits_of (bits_of endpoints)) r (divide x y) k
unfolding Keeps bound_of limits_of
narrow_divide coarse shown r x y i j k h p q = record { kept = h r.width _ _ p.kept q.kept }
narrow_divide fine shown r x y i j k h p q = record { kept = h r.width _ _ p.kept q.kept }

-- the bound of a square
pub narrow_square : (endpoints : Scale) → {E : Type 0} (shown : E → Interval) (r : Reach) (x : Expression) (i k : E)
    → ((w : ℕ) (a : Bound) → IsNarrow w a (shown i) → IsNarrow w (power_bound (limits_on endpoints) a 2) (shown k))
    → Narrow shown (limits_of (bits_of endpoints)) r x i → Narrow shown (limits_of (bits_of endpoints)) r (power x 2) k
unfolding Keeps bound_of limits_of
narrow_square coarse shown r x i k h p = record { kept = h r.width _ p.kept }
narrow_square fine shown r x i k h p = record { kept = h r.width _ p.kept }

-- the bound of a remainder
pub narrow_remainder : (endpoints : Scale) → {E : Type 0} (shown : E → Interval) (r : Reach) (m : ℕ) (x : Expression)
    (q : ℤ) (i k : E)
    → ((w : ℕ) (a : Bound) → IsNarrow w a (shown i) → IsNarrow w (remainder_bound (limits_on endpoints) m a) (shown k))
    → Narrow shown (limits_of (bits_of endpoints)) r x i → Narrow shown (limits_of (bits_of endpoints)) r
    (remainder m x q) k
unfolding Keeps bound_of limits_of
narrow_remainder coarse shown r m x q i k h p = record { kept = h r.width _ p.kept }
narrow_remainder fine shown r m x q i k h p = record { kept = h r.width _ p.kept }

-- the bound of endpoints in units of 2^-56
pub narrow_spanned : (endpoints : Scale) → (w : ℕ) (b : Bound) (i j : Interval)
    → (IsNarrow w b i → IsNarrow w (spanned_bound (limits_on endpoints) b) j) → IsNarrow w b i
    → IsNarrow w (spanned_bound (limits_of (bits_of endpoints)) b) j
unfolding limits_of
narrow_spanned coarse w b i j h p = h p
narrow_spanned fine w b i j h p = h p

-- the angle of a periodic term: a phase, and a rate times the value
pub within_angle : {E : Type 0} (shown : E → Interval) (w : World) (f g : Fraction) (x : Expression) (i k : E)
    → sum (between f f) (product (shown i) (between g g)) ⊆ shown k → Within shown w x i
    → Within shown w (add (constant f) (scale g x)) k
unfolding Lies value
within_angle shown w f g x i k h p = record {
  deep = p.deep;
  inside = within_trans
      (sum_within (within_refl (between f f)) (product_within (value_proper w x) (le_refl g) p.inside
      (within_refl (between g g)))) h;
}

pub narrow_angle : (endpoints : Scale) → {E : Type 0} (shown : E → Interval) (r : Reach) (f g : Fraction)
    (x : Expression) (i k : E)
    → ((w : ℕ) (a : Bound) → IsNarrow w a (shown i) → IsNarrow w
    (sum_bound (limits_on endpoints) (constant_bound (limits_on endpoints) f) (scaled_bound (limits_on endpoints) g a))
    (shown k))
    → Narrow shown (limits_of (bits_of endpoints)) r x i → Narrow shown (limits_of (bits_of endpoints)) r
    (add (constant f) (scale g x)) k
unfolding Keeps bound_of limits_of
narrow_angle coarse shown r f g x i k h p = record { kept = h r.width _ p.kept }
narrow_angle fine shown r f g x i k h p = record { kept = h r.width _ p.kept }
