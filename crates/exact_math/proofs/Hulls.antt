-- The hull is the least interval that holds both; the hull of a row of intervals.
use Rattle.std.proofs.Common.{◌≡◌, refl, arith, Bool, true, false, ◌*ℤ◌}
use Rattle.std.proofs.lemmas.Int.{ints}
use lib.Signed.{le_z}
use Rattle.exact_math.specs.Fraction.{Fraction, den, ◌≤F◌, is_at_most, opposite, smaller, larger}
use Rattle.exact_math.specs.Interval.{Interval, everything, between, AreWithin, ◌⊆◌, hull, negative}
use Rattle.exact_math.proofs.Fractions.{smaller_keeps, smaller_first, smaller_second, larger_keeps, larger_first}
use Rattle.exact_math.proofs.Fractions.{larger_second}
use Rattle.exact_math.proofs.Intervals.{within_everything}

pub true_at_most : (a b : Fraction) → a ≤F b → is_at_most a b ≡ true
unfolding is_at_most
true_at_most a b h = by_test (le_z (a.num *ℤ den b) (b.num *ℤ den a)) refl
  where
    by_test : (t : Bool) → le_z (a.num *ℤ den b) (b.num *ℤ den a) ≡ t → t ≡ true
    by_test true e = refl
    by_test false e = absurd (omega (arith, ints, h.cross))

pub hull_holds_first : (i j : Interval) → i ⊆ hull i j
unfolding hull
hull_holds_first everything j = within_everything everything
hull_holds_first (between a b) everything = within_everything (between a b)
hull_holds_first (between a b) (between c d) = record { endpoints = (smaller_first a c, larger_first b d) }

pub hull_holds_second : (i j : Interval) → j ⊆ hull i j
unfolding hull
hull_holds_second everything j = within_everything j
hull_holds_second (between a b) everything = within_everything everything
hull_holds_second (between a b) (between c d) = record { endpoints = (smaller_second a c, larger_second b d) }

hull_least_endpoints : (i j k : Interval) → AreWithin i k → AreWithin j k → AreWithin (hull i j) k
unfolding hull
hull_least_endpoints i j everything p q = tt
hull_least_endpoints everything j (between e f) p q = absurd p
hull_least_endpoints (between a b) everything (between e f) p q = absurd q
hull_least_endpoints (between a b) (between c d) (between e f) p q =
    (smaller_keeps (λ z. e ≤F z) a c p.0 q.0, larger_keeps (λ z. z ≤F f) b d p.1 q.1)

-- what holds both holds the hull
pub hull_least : {i j k : Interval} → i ⊆ k → j ⊆ k → hull i j ⊆ k
hull_least {i} {j} {k} p q = record { endpoints = hull_least_endpoints i j k p.endpoints q.endpoints }

pub hull_swap : (i j : Interval) → hull i j ⊆ hull j i
hull_swap i j = hull_least (hull_holds_second j i) (hull_holds_first j i)

-- the opposites of a hull lie within the hull of the opposites
pub negative_hull : (i j : Interval) → negative (hull i j) ⊆ hull (negative i) (negative j)
unfolding negative hull
negative_hull everything j = within_everything everything
negative_hull (between a b) everything = within_everything everything
negative_hull (between a b) (between c d) = record {
  endpoints = (
    larger_keeps (λ z. smaller (opposite b) (opposite d) ≤F opposite z) b d (smaller_first (opposite b) (opposite d))
        (smaller_second (opposite b) (opposite d)),
    smaller_keeps (λ z. opposite z ≤F larger (opposite a) (opposite c)) a c (larger_first (opposite a) (opposite c))
        (larger_second (opposite a) (opposite c)),
  );
}
