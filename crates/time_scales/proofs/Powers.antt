-- A power of an interval lies within the product of the next lower power and the interval, which may be wider. It is
-- proved of the members: the power of a member is the product of its lower power and itself, and what holds it for the
-- two endpoints holds it for the interval. By it the code may take a cube from a square, and a scaled fourth power from
-- a scaled cube, where the definition has powers.
use Rattle.std.proofs.Common.{◌≡◌, ℕ, suc, Bool, true, false, cond, refl}
use Rattle.book_model.specs.Fraction.{Fraction, ◌≤F◌, times, power, larger, is_at_most, is_even}
use Rattle.book_model.specs.Interval.{Interval, everything, between, IsProper, IsMember, ◌⊆◌, product, least_even}
use Rattle.book_model.specs.Interval.{zero_fraction, power as interval_power}
use Rattle.book_model.proofs.Fractions.{le_refl, le_trans, times_comm, turned_above, turned_below, larger_keeps}
use Rattle.book_model.proofs.Fractions.{at_most_false}
use Rattle.book_model.proofs.Intervals.{least_is, greatest_is, power_smallest, power_holds, product_holds, within_trans}
use Rattle.book_model.proofs.Intervals.{within_everything}
use Rattle.book_model.proofs.Same.{le_of_same, ge_of_same, times_assoc}
use Rattle.book_model.specs.numbers.Bounds.{Limits, Reach, bound_of, power_bound}
use Rattle.book_model.specs.numbers.Expressions.{Expression, World, value, multiply, scale, power as power_of}
use Rattle.book_model.specs.numbers.Relations.{Within, Narrow, Lies, Keeps}
use Rattle.book_model.proofs.Values.{value_proper}

-- a product with its factors in the other order is in the same interval
turned : (i : Interval) (a b : Fraction) → IsMember (times a b) i → IsMember (times b a) i
turned everything a b h = tt
turned (between lo hi) a b h = (turned_above lo a b h.0, turned_below hi a b h.1)

-- the next power of the members
next_of_endpoints : (k : ℕ) (a b : Fraction) → a ≤F b → interval_power (between a b) (suc k) ⊆ product
    (interval_power (between a b) k) (between a b)
unfolding power
next_of_endpoints k a b p =
    power_smallest (suc k) a b (product (interval_power (between a b) k) (between a b)) p
    (λ x m. turned (product (interval_power (between a b) k) (between a b)) (power x k) x
    (product_holds (interval_power (between a b) k) (between a b) (power x k) x (power_holds k (between a b) x m) m))

-- the next power of an interval
pub next_power : (k : ℕ) (i : Interval) → IsProper i → interval_power i (suc k) ⊆ product (interval_power i k) i
unfolding interval_power product
next_power k everything p = within_everything _
next_power k (between a b) p = next_of_endpoints k a b p

-- an enclosure of the product of a square and its root holds the cube
pub cube_holds : {E : Type 0} (shown : E → Interval) (w : World) (x : Expression) (e : E)
    → Within shown w (multiply (power_of x 2) x) e
    → Within shown w (power_of x 3) e
unfolding Lies value
cube_holds shown w x e h = record {
  deep = h.deep;
  inside = within_trans (next_power 2 (value w x) (value_proper w x))
      h.inside;
}

-- and it keeps the cube's bound
pub cube_keeps : {E : Type 0} (shown : E → Interval) (l : Limits) (r : Reach) (x : Expression) (e : E)
    → Narrow shown l r (multiply (power_of x 2) x) e
    → Narrow shown l r (power_of x 3) e
unfolding Keeps bound_of power_bound
cube_keeps shown l r x e h = record { kept = h.kept }

-- what holds the multiples of two endpoints by a fraction holds the multiple of the interval
interval_endpoints : (a b f : Fraction) (j : Interval) → IsMember (times a f) j → IsMember (times b f) j
    → product (between a b) (between f f) ⊆ j
unfolding product
interval_endpoints a b f everything h k = within_everything _
interval_endpoints a b f (between c d) h k =
    record { endpoints = (least_is c _ _ _ _ h.0 h.0 k.0 k.0, greatest_is d _ _ _ _ h.1 h.1 k.1 k.1) }

-- what holds the multiples of each power of a member holds the multiple of the interval of the powers
scaled_power : (k : ℕ) (a b f : Fraction) (j : Interval) → a ≤F b
    → ((x : Fraction) → IsMember x (between a b) → IsMember (times (power x k) f) j)
    → product (interval_power (between a b) k) (between f f) ⊆ j
unfolding interval_power least_even
scaled_power k a b f j p h = by_test (is_even k) refl
  where
    first : IsMember (times (power a k) f) j
    first = h a (le_refl a, p)

    last : IsMember (times (power b k) f) j
    last = h b (p, le_refl b)

    least_of : (t : Bool) → is_at_most zero_fraction a ≡ t → (u : Bool) → is_at_most b zero_fraction ≡ u
        → IsMember (times (cond t (power a k) (cond u (power b k) (power zero_fraction k))) f) j
    least_of true d u e = first
    least_of false d true e = last
    least_of false d false e = h zero_fraction (at_most_false zero_fraction a d, at_most_false b zero_fraction e)

    by_test : (t : Bool) → is_even k ≡ t
        → product (cond t (between (least_even a b k) (larger (power a k) (power b k)))
        (between (power a k) (power b k)))
        (between f f) ⊆ j
    by_test true e =
        interval_endpoints _ _ f j (least_of (is_at_most zero_fraction a) refl (is_at_most b zero_fraction) refl)
        (larger_keeps (λ z. IsMember (times z f) j) (power a k) (power b k) first last)
    by_test false e = interval_endpoints _ _ f j first last

-- a product of three with its last factor in front of the first is in the same interval
turned_of_three : (i : Interval) (x q f : Fraction) → IsMember (times (times q f) x) i
    → IsMember (times (times x q) f) i
turned_of_three everything x q f h = tt
turned_of_three (between lo hi) x q f h = (
  le_trans _ _ _ h.0 (le_trans _ _ _ (times_comm (times q f) x) (ge_of_same (times_assoc x q f))),
  le_trans _ _ _ (le_trans _ _ _ (le_of_same (times_assoc x q f)) (times_comm x (times q f))) h.1,
)

-- the multiple of the next power of an interval lies within the product of the power's multiple and the interval
next_scaled_of_endpoints : (k : ℕ) (a b f : Fraction) → a ≤F b → product (interval_power (between a b) (suc k))
    (between f f) ⊆ product
    (product (interval_power (between a b) k) (between f f)) (between a b)
unfolding power
next_scaled_of_endpoints k a b f p =
    scaled_power (suc k) a b f (product (product (interval_power (between a b) k) (between f f)) (between a b)) p
    (λ x m.
    turned_of_three (product (product (interval_power (between a b) k) (between f f)) (between a b)) x (power x k) f
    (product_holds (product (interval_power (between a b) k) (between f f)) (between a b) (times (power x k) f) x
    (product_holds (interval_power (between a b) k) (between f f) (power x k) f (power_holds k (between a b) x m)
    (le_refl f, le_refl f)) m))

next_scaled : (k : ℕ) (f : Fraction) (i : Interval) → IsProper i
    → product (interval_power i (suc k)) (between f f) ⊆ product (product (interval_power i k) (between f f)) i
unfolding interval_power product
next_scaled k f everything p = within_everything _
next_scaled k f (between a b) p = next_scaled_of_endpoints k a b f p

-- an enclosure of the product of a cube's multiple and its root holds the multiple of the fourth power
pub fourth_holds : {E : Type 0} (shown : E → Interval) (w : World) (a : Fraction) (x : Expression) (e : E)
    → Within shown w (multiply (scale a (power_of x 3)) x) e → Within shown w (scale a (power_of x 4)) e
unfolding Lies value
fourth_holds shown w a x e h =
    record { deep = h.deep; inside = within_trans (next_scaled 3 a (value w x) (value_proper w x)) h.inside }

pub ruleset cubes = (cube_holds, cube_keeps)

pub ruleset fourths = (cube_holds, cube_keeps, fourth_holds)
