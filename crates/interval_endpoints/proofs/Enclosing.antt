-- What the operations on endpoints at a scale hold. By cases of the scale, endpoints are fractions over one known
-- denominator, so that an operation's endpoints and the interval's are compared by multiplying out, which is linear or
-- a certificate; and what is shown of them holds what lies between them (`kept_within`). Whatever has no endpoints is
-- everything.
use Rattle.interval_endpoints.specs.Scales.{Scale, coarse, fine, at_scale, at_square, unit}
use Rattle.std.proofs.Common.{◌≡◌, suc, ◌+◌, ◌^◌, ◌-◌, refl, arith, ℤ, pos, negsuc, ◌+ℤ◌, ◌*ℤ◌, ◌-ℤ◌, ◌≤ℤ◌, [], ◌∷◌}
use Rattle.std.proofs.Common.{◌⊎◌, inl, inr}
use lib.IntN.{neg_ℤ}
use Rattle.std.specs.Prelude.{unsigned_abs}
use Rattle.std.specs.Int.{int_min, int_max}
use Rattle.std.proofs.lemmas.Int.{ints}
use Rattle.book_model.specs.Fraction.{Fraction, ◌≤F◌, plus, opposite, size, times, smaller, larger}
use Rattle.book_model.specs.Interval.{Interval, everything, between, ◌⊆◌, sum, negative, difference, product, minimum}
use Rattle.book_model.specs.Interval.{maximum, hull, widen}
use Rattle.book_model.proofs.Ring.{at, lit, ◌⊕◌, ◌⊖◌, ◌⊗◌, minus}
use Rattle.book_model.proofs.Bounds.{◌≼◌, known, ◌⊠◌, le_by, pos_nonneg}
use Rattle.book_model.proofs.Fractions.{le_trans, by_cross, den_product, smaller_keeps, larger_keeps, smaller_first}
use Rattle.book_model.proofs.Fractions.{smaller_second, larger_first, larger_second}
use Rattle.book_model.proofs.Intervals.{within_trans, within_refl, least_is, greatest_is}
use Rattle.int_division.specs.Rounding.{IsFloor, IsCeiling, IsBelowFour, IsAboveFour}
use Rattle.interval_endpoints.specs.Rounding.{IsMarginAt, ShowsEndpoints}
use Rattle.interval_endpoints.proofs.Keeping.{kept_within}
use Rattle.int_division.proofs.Quotients.{≤ℤ_trans}

-- ---- differences and opposites
-- the endpoints of a difference hold it
pub difference_encloses : (scale : Scale) → (a b c d lo hi : ℤ) (i : Interval) → lo ≡ a -ℤ d → hi ≡ b -ℤ c
    → ShowsEndpoints scale lo hi i
    → difference (between (at_scale scale a) (at_scale scale b)) (between (at_scale scale c) (at_scale scale d)) ⊆ i
unfolding sum negative plus opposite
-- the endpoints of a difference hold it
difference_encloses coarse a b c d lo hi i e f h = within_trans
    (record { endpoints = (record { cross = omega (arith, ints) }, record { cross = omega (arith, ints) }) })
    (kept_within coarse lo hi i h)
difference_encloses fine a b c d lo hi i e f h = within_trans
    (record { endpoints = (record { cross = omega (arith, ints) }, record { cross = omega (arith, ints) }) })
    (kept_within fine lo hi i h)

-- the endpoints of an opposite hold it
pub negative_encloses : (scale : Scale) → (a b lo hi : ℤ) (i : Interval) → lo ≡ pos 0 -ℤ b → hi ≡ pos 0 -ℤ a
    → ShowsEndpoints scale lo hi i
    → negative (between (at_scale scale a) (at_scale scale b)) ⊆ i
unfolding negative opposite
-- the endpoints of an opposite hold it
negative_encloses coarse a b lo hi i e f h =
    within_trans
    (record { endpoints = (record { cross = omega (arith, ints) }, record { cross = omega (arith, ints) }) })
    (kept_within coarse lo hi i h)
negative_encloses fine a b lo hi i e f h =
    within_trans
    (record { endpoints = (record { cross = omega (arith, ints) }, record { cross = omega (arith, ints) }) })
    (kept_within fine lo hi i h)

-- ---- products
-- a number in units of 2^-72
-- a product of endpoints that is at least a number
over : (scale : Scale) → (n a c : ℤ) → n ≤ℤ (a *ℤ c) → at_square scale n ≤F times (at_scale scale a) (at_scale scale c)
unfolding times
-- a product of endpoints that is at least a number
over coarse n a c h = record { cross = omega (arith, ints) }
over fine n a c h = record { cross = omega (arith, ints) }

-- a product of endpoints that is at most a number
under : (scale : Scale) → (n a c : ℤ) → (a *ℤ c) ≤ℤ n → times (at_scale scale a) (at_scale scale c) ≤F at_square scale n
unfolding times
-- a product of endpoints that is at most a number
under coarse n a c h = record { cross = omega (arith, ints) }
under fine n a c h = record { cross = omega (arith, ints) }

-- rounding outwards holds
rounded_within : (scale : Scale) → (l g lo hi : ℤ) → IsFloor lo l (unit scale) → IsCeiling hi g (unit scale)
    → between (at_square scale l) (at_square scale g) ⊆ between (at_scale scale lo) (at_scale scale hi)
-- rounding outwards holds
rounded_within coarse l g lo hi f c = record {
  endpoints = (
    record { cross = omega (arith, ints, f.not_above) },
    record { cross = omega (arith, ints, c.not_below) },
  );
}
rounded_within fine l g lo hi f c =
    record {
      endpoints = (
        record { cross = omega (arith, ints, f.not_above) },
        record { cross = omega (arith, ints, c.not_below) },
      );
    }

-- the endpoints of a product, rounded outwards, hold it
pub product_encloses : (scale : Scale) → (x y x' y' l g lo hi : ℤ) (i : Interval)
    → IsBelowFour l (x *ℤ x') (x *ℤ y') (y *ℤ x') (y *ℤ y')
    → IsAboveFour g (x *ℤ x') (x *ℤ y') (y *ℤ x') (y *ℤ y')
    → IsFloor lo l (unit scale) → IsCeiling hi g (unit scale) → ShowsEndpoints scale lo hi i
    → product (between (at_scale scale x) (at_scale scale y)) (between (at_scale scale x') (at_scale scale y')) ⊆ i
unfolding product
product_encloses scale x y x' y' l g lo hi i b a f c k =
    within_trans
    (record {
      endpoints = (
        least_is (at_square scale l) _ _ _ _ (over scale l x x' b.first) (over scale l x y' b.second)
            (over scale l y x' b.third) (over scale l y y' b.fourth),
        greatest_is (at_square scale g) _ _ _ _ (under scale g x x' a.first) (under scale g x y' a.second)
            (under scale g y x' a.third)
            (under scale g y y' a.fourth),
      );
    })
    (within_trans (rounded_within scale l g lo hi f c) (kept_within scale lo hi i k))

-- the products of endpoints are in order
pub products_order : (l g p q r s : ℤ) → IsBelowFour l p q r s → IsAboveFour g p q r s → l ≤ℤ g
products_order l g p q r s b a = ≤ℤ_trans _ _ _ b.first a.first

-- ---- the lesser and the greater endpoints
-- numbers at the scale keep their order
at_mono : (scale : Scale) → (p q : ℤ) → p ≤ℤ q → at_scale scale p ≤F at_scale scale q
at_mono coarse p q h = record { cross = omega (arith, ints) }
at_mono fine p q h = record { cross = omega (arith, ints) }

-- m is one of two, and at most both
record IsLesser (m p q : ℤ) : Type 0 where
  first : m ≤ℤ p
  second : m ≤ℤ q
  one : (p ≤ℤ m) ⊎ (q ≤ℤ m)

-- what the lesser of two is
lesser : (m p q : ℤ) → m ≡ int_min p q → IsLesser m p q
-- what the lesser of two is
lesser m p q e = record { first = grind (arith, ints); second = grind (arith, ints); one = grind (arith, ints) }

-- m is one of two, and at least both
record IsGreater (m p q : ℤ) : Type 0 where
  first : p ≤ℤ m
  second : q ≤ℤ m
  one : (m ≤ℤ p) ⊎ (m ≤ℤ q)

-- what the greater of two is
greater : (m p q : ℤ) → m ≡ int_max p q → IsGreater m p q
-- what the greater of two is
greater m p q e = record { first = grind (arith, ints); second = grind (arith, ints); one = grind (arith, ints) }

-- the lesser number is at most the smaller fraction
below_smaller : (scale : Scale) → (m p q : ℤ) → m ≡ int_min p q → at_scale scale m ≤F smaller (at_scale scale p)
    (at_scale scale q)
below_smaller scale m p q e = let l = lesser m p q e in smaller_keeps (λ z. at_scale scale m ≤F z) (at_scale scale p)
    (at_scale scale q)
    (at_mono scale m p l.first) (at_mono scale m q l.second)

-- the lesser number is at least the smaller fraction
above_smaller : (scale : Scale) → (m p q : ℤ) → m ≡ int_min p q → smaller (at_scale scale p) (at_scale scale q) ≤F
    at_scale scale m
above_smaller scale m p q e =
    let l = lesser m p q e in
    elim l.one [
      | inl h ↦ le_trans _ _ _ (smaller_first (at_scale scale p) (at_scale scale q)) (at_mono scale p m h)
      | inr h ↦ le_trans _ _ _ (smaller_second (at_scale scale p) (at_scale scale q)) (at_mono scale q m h)
    ]

-- the greater number is at least the larger fraction
above_larger : (scale : Scale) → (m p q : ℤ) → m ≡ int_max p q → larger (at_scale scale p) (at_scale scale q) ≤F
    at_scale scale m
above_larger scale m p q e = let l = greater m p q e in larger_keeps (λ z. z ≤F at_scale scale m) (at_scale scale p)
    (at_scale scale q)
    (at_mono scale p m l.first) (at_mono scale q m l.second)

-- the greater number is at most the larger fraction
below_larger : (scale : Scale) → (m p q : ℤ) → m ≡ int_max p q → at_scale scale m ≤F larger (at_scale scale p)
    (at_scale scale q)
below_larger scale m p q e =
    let l = greater m p q e in
    elim l.one [
      | inl h ↦ le_trans _ _ _ (at_mono scale m p h) (larger_first (at_scale scale p) (at_scale scale q))
      | inr h ↦ le_trans _ _ _ (at_mono scale m q h) (larger_second (at_scale scale p) (at_scale scale q))
    ]

-- two intervals that hold each other
pub record AreSame (i j : Interval) : Type 0 where
  pub there : i ⊆ j
  pub back : j ⊆ i

-- the lesser endpoints are those of the minimum
pub minimum_is : (scale : Scale) → (a b c d lo hi : ℤ) → lo ≡ int_min a c → hi ≡ int_min b d
    → AreSame (minimum (between (at_scale scale a) (at_scale scale b)) (between (at_scale scale c) (at_scale scale d)))
    (between (at_scale scale lo) (at_scale scale hi))
unfolding minimum
-- the lesser endpoints are those of the minimum
minimum_is scale a b c d lo hi e f = record {
  there = record { endpoints = (below_smaller scale lo a c e, above_smaller scale hi b d f) };
  back = record { endpoints = (above_smaller scale lo a c e, below_smaller scale hi b d f) };
}

-- the greater endpoints are those of the maximum
pub maximum_is : (scale : Scale) → (a b c d lo hi : ℤ) → lo ≡ int_max a c → hi ≡ int_max b d
    → AreSame (maximum (between (at_scale scale a) (at_scale scale b)) (between (at_scale scale c) (at_scale scale d)))
    (between (at_scale scale lo) (at_scale scale hi))
unfolding maximum
-- the greater endpoints are those of the maximum
maximum_is scale a b c d lo hi e f = record {
  there = record { endpoints = (below_larger scale lo a c e, above_larger scale hi b d f) };
  back = record { endpoints = (above_larger scale lo a c e, below_larger scale hi b d f) };
}

-- the lesser lower and the greater upper endpoint are those of the hull
pub hull_is : (scale : Scale) → (a b c d lo hi : ℤ) → lo ≡ int_min a c → hi ≡ int_max b d
    → AreSame (hull (between (at_scale scale a) (at_scale scale b)) (between (at_scale scale c) (at_scale scale d)))
    (between (at_scale scale lo) (at_scale scale hi))
unfolding hull
-- the lesser lower and the greater upper endpoint are those of the hull
hull_is scale a b c d lo hi e f = record {
  there = record { endpoints = (below_smaller scale lo a c e, above_larger scale hi b d f) };
  back = record { endpoints = (above_smaller scale lo a c e, below_larger scale hi b d f) };
}

-- the lesser endpoints of two ordered pairs are in order, and so are the greater
pub lesser_order : (a b c d lo hi : ℤ) → a ≤ℤ b → c ≤ℤ d → lo ≡ int_min a c → hi ≡ int_min b d → lo ≤ℤ hi
lesser_order a b c d lo hi p q e f = let l = lesser lo a c e in let g = lesser hi b d f in elim g.one
    [ inl h ↦ omega (arith, ints, l.first) | inr h ↦ omega (arith, ints, l.second) ]

-- the greater of two ordered pairs are in order
pub greater_order : (a b c d lo hi : ℤ) → a ≤ℤ b → c ≤ℤ d → lo ≡ int_max a c → hi ≡ int_max b d → lo ≤ℤ hi
greater_order a b c d lo hi p q e f = let l = greater lo a c e in let g = greater hi b d f in elim l.one
    [ inl h ↦ omega (arith, ints, g.first) | inr h ↦ omega (arith, ints, g.second) ]

-- everything with any interval is everything
pub minimum_first : (j : Interval) → everything ⊆ minimum everything j
unfolding minimum
minimum_first j = within_refl everything

-- the same where the second is everything
pub minimum_second : (a b : Fraction) → everything ⊆ minimum (between a b) everything
unfolding minimum
minimum_second a b = within_refl everything

-- the maximum with everything is everything
pub maximum_first : (j : Interval) → everything ⊆ maximum everything j
unfolding maximum
maximum_first j = within_refl everything

-- the same where the second is everything
pub maximum_second : (a b : Fraction) → everything ⊆ maximum (between a b) everything
unfolding maximum
maximum_second a b = within_refl everything

-- the hull with everything is everything
pub hull_first : (j : Interval) → everything ⊆ hull everything j
unfolding hull
hull_first j = within_refl everything

-- the same where the second is everything
pub hull_second : (a b : Fraction) → everything ⊆ hull (between a b) everything
unfolding hull
hull_second a b = within_refl everything

-- ---- widening
-- a lower endpoint moved by what covers n / d
lower_z : (a m n d k : ℤ) → pos 0 ≤ℤ k → (n *ℤ k) ≤ℤ (m *ℤ d)
    → ((a -ℤ m) *ℤ (k *ℤ d)) ≤ℤ ((a *ℤ d +ℤ neg_ℤ n *ℤ k) *ℤ k)
lower_z a m n d k p h =
    le_by (a ∷ m ∷ n ∷ d ∷ k ∷ []) ((lit (pos 0) ≼ at 4) ∷ (at 2 ⊗ at 4 ≼ at 1 ⊗ at 3) ∷ [])
    ((at 0 ⊖ at 1) ⊗ (at 4 ⊗ at 3))
    ((at 0 ⊗ at 3 ⊕ minus (at 2) ⊗ at 4) ⊗ at 4) (known 0 ⊠ known 1) refl (p, (h, tt))

-- an upper endpoint moved by what covers n / d
upper_z : (a m n d k : ℤ) → pos 0 ≤ℤ k → (n *ℤ k) ≤ℤ (m *ℤ d) → ((a *ℤ d +ℤ n *ℤ k) *ℤ k) ≤ℤ ((a +ℤ m) *ℤ (k *ℤ d))
upper_z a m n d k p h =
    le_by (a ∷ m ∷ n ∷ d ∷ k ∷ []) ((lit (pos 0) ≼ at 4) ∷ (at 2 ⊗ at 4 ≼ at 1 ⊗ at 3) ∷ [])
    ((at 0 ⊗ at 3 ⊕ at 2 ⊗ at 4) ⊗ at 4)
    ((at 0 ⊕ at 1) ⊗ (at 4 ⊗ at 3)) (known 0 ⊠ known 1) refl (p, (h, tt))

-- what a margin covers
covers : (scale : Scale) → (f : Fraction) (m : ℤ) → IsMarginAt scale f m → (pos (unsigned_abs f.num) *ℤ (unit scale))
    ≤ℤ (m *ℤ pos (suc f.below))
covers coarse f m h = let r = h.rounded.not_below in let e : pos (f.below + 1) ≡ pos (suc f.below) =
    omega (arith, ints) in rw e at r
covers fine f m h = let r = h.rounded.not_below in let e : pos (f.below + 1) ≡ pos (suc f.below) =
    omega (arith, ints) in rw e at r

-- endpoints moved outwards by a margin hold the widening
pub widen_encloses : (scale : Scale) → (f : Fraction) (a b m lo hi : ℤ) (i : Interval) → IsMarginAt scale f m
    → lo ≡ a -ℤ m → hi ≡ b +ℤ m
    → ShowsEndpoints scale lo hi i → widen f (between (at_scale scale a) (at_scale scale b)) ⊆ i
unfolding widen plus opposite size
widen_encloses coarse f a b m lo hi i h el eh k =
    let c = covers coarse f m h in
    within_trans
    (record {
      endpoints = (
        by_cross (at_scale coarse lo) _ (pos (2 ^ 36)) (pos (2 ^ 36) *ℤ pos (suc f.below)) refl
            (den_product (2 ^ 36 - 1) f.below)
            (rw el (lower_z a m (pos (unsigned_abs f.num)) (pos (suc f.below)) (pos (2 ^ 36)) (pos_nonneg (2 ^ 36)) c)),
        by_cross _ (at_scale coarse hi) (pos (2 ^ 36) *ℤ pos (suc f.below)) (pos (2 ^ 36))
            (den_product (2 ^ 36 - 1) f.below) refl
            (rw eh (upper_z b m (pos (unsigned_abs f.num)) (pos (suc f.below)) (pos (2 ^ 36)) (pos_nonneg (2 ^ 36)) c)),
      );
    })
    (kept_within coarse lo hi i k)
widen_encloses fine f a b m lo hi i h el eh k =
    let c = covers fine f m h in
    within_trans
    (record {
      endpoints = (
        by_cross (at_scale fine lo) _ (pos (2 ^ 56)) (pos (2 ^ 56) *ℤ pos (suc f.below)) refl
            (den_product (2 ^ 56 - 1) f.below)
            (rw el (lower_z a m (pos (unsigned_abs f.num)) (pos (suc f.below)) (pos (2 ^ 56)) (pos_nonneg (2 ^ 56)) c)),
        by_cross _ (at_scale fine hi) (pos (2 ^ 56) *ℤ pos (suc f.below)) (pos (2 ^ 56))
            (den_product (2 ^ 56 - 1) f.below) refl
            (rw eh (upper_z b m (pos (unsigned_abs f.num)) (pos (suc f.below)) (pos (2 ^ 56)) (pos_nonneg (2 ^ 56)) c)),
      );
    })
    (kept_within fine lo hi i k)

-- a margin isn't negative
pub margin_nonneg : (scale : Scale) → (f : Fraction) (m : ℤ) → IsMarginAt scale f m → pos 0 ≤ℤ m
margin_nonneg coarse f (pos m) h = pos_nonneg m
margin_nonneg fine f (pos m) h = pos_nonneg m
margin_nonneg coarse f (negsuc m) h = absurd (omega (arith, ints, covers coarse f (negsuc m) h))
margin_nonneg fine f (negsuc m) h = absurd (omega (arith, ints, covers fine f (negsuc m) h))
