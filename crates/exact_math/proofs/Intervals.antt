-- What the operations on intervals hold, and that narrower operands give results within.
use Rattle.std.proofs.Common.{◌≡◌, ℕ, zero, suc, refl, sym, arith, Bool, true, false, cond, pos, ◌*ℤ◌, ◌≤ℤ◌, ◌⊎◌, inl}
use Rattle.std.proofs.Common.{inr}
use Rattle.exact_math.specs.Fraction.{Fraction, ◌≤F◌, plus, opposite, size, times, is_at_most, smaller, larger}
use Rattle.exact_math.specs.Fraction.{reciprocal, power, is_even}
use Rattle.exact_math.specs.Smallest.{IsSmallest, IsSmallestOfTwo, IsSmallestAround}
use Rattle.exact_math.specs.Interval.{Interval, everything, between, IsProper, IsMember, AreWithin, ◌⊆◌, sum, negative}
use Rattle.exact_math.specs.Interval.{difference, least, greatest, product, minimum, maximum, hull, one, minus_one}
use Rattle.exact_math.specs.Interval.{clamp, widen, zero_fraction, excludes_zero, quotient, least_even}
use Rattle.exact_math.specs.Interval.{power as interval_power}
use lib.Signed.{lt_z}
use lib.IntN.{neg_ℤ}
use Rattle.std.specs.Prelude.{unsigned_abs}
use Rattle.std.proofs.lemmas.Int.{ints}
use Rattle.exact_math.proofs.Fractions.{le_refl, le_trans, le_total, plus_mono, opposite_mono, IsPositive, IsNegative}
use Rattle.exact_math.proofs.Fractions.{positive_above, negative_below, reciprocal_anti_positive}
use Rattle.exact_math.proofs.Fractions.{reciprocal_anti_negative, power_mono, power_odd_mono, power_even_falling}
use Rattle.exact_math.proofs.Fractions.{power_even_least, at_most_true, at_most_false, smaller_keeps, larger_keeps}
use Rattle.exact_math.proofs.Fractions.{smaller_first, smaller_second, larger_first, larger_second, four_above}
use Rattle.exact_math.proofs.Fractions.{four_below}

pub smaller_mono : (a b c d : Fraction) → a ≤F b → c ≤F d → smaller a c ≤F smaller b d
smaller_mono a b c d h k =
    smaller_keeps (λ x. smaller a c ≤F x) b d (le_trans (smaller a c) a b (smaller_first a c) h)
    (le_trans (smaller a c) c d (smaller_second a c) k)

pub larger_mono : (a b c d : Fraction) → a ≤F b → c ≤F d → larger a c ≤F larger b d
larger_mono a b c d h k =
    larger_keeps (λ x. x ≤F larger b d) a c (le_trans a b (larger b d) h (larger_first b d))
    (le_trans c d (larger b d) k (larger_second b d))

-- ---- members
pub sum_holds : (i j : Interval) (x y : Fraction) → IsMember x i → IsMember y j → IsMember (plus x y) (sum i j)
unfolding sum
sum_holds everything j x y h k = tt
sum_holds (between a b) everything x y h k = tt
sum_holds (between a b) (between c d) x y h k = (plus_mono a x c y h.0 k.0, plus_mono x b y d h.1 k.1)

-- what each of four keeps the least and the greatest keep
pub least_keeps : (P : Fraction → Type 0) (p q r s : Fraction) → P p → P q → P r → P s → P (least p q r s)
unfolding least
least_keeps P p q r s hp hq hr hs = smaller_keeps P _ _ (smaller_keeps P p q hp hq) (smaller_keeps P r s hr hs)

pub greatest_keeps : (P : Fraction → Type 0) (p q r s : Fraction) → P p → P q → P r → P s → P (greatest p q r s)
unfolding greatest
greatest_keeps P p q r s hp hq hr hs = larger_keeps P _ _ (larger_keeps P p q hp hq) (larger_keeps P r s hr hs)

pub least_is : (z p q r s : Fraction) → z ≤F p → z ≤F q → z ≤F r → z ≤F s → z ≤F least p q r s
unfolding least
least_is z p q r s hp hq hr hs =
    smaller_keeps (λ x. z ≤F x) (smaller p q) (smaller r s) (smaller_keeps (λ x. z ≤F x) p q hp hq)
    (smaller_keeps (λ x. z ≤F x) r s hr hs)

pub greatest_is : (z p q r s : Fraction) → p ≤F z → q ≤F z → r ≤F z → s ≤F z → greatest p q r s ≤F z
unfolding greatest
greatest_is z p q r s hp hq hr hs =
    larger_keeps (λ x. x ≤F z) (larger p q) (larger r s) (larger_keeps (λ x. x ≤F z) p q hp hq)
    (larger_keeps (λ x. x ≤F z) r s hr hs)

pub least_below : (p q r s : Fraction) → (least p q r s ≤F p) × (least p q r s ≤F q) × (least p q r s ≤F r)
    × (least p q r s ≤F s)
unfolding least
least_below p q r s = (
  le_trans _ _ _ (smaller_first (smaller p q) (smaller r s)) (smaller_first p q),
  le_trans _ _ _ (smaller_first (smaller p q) (smaller r s)) (smaller_second p q),
  le_trans _ _ _ (smaller_second (smaller p q) (smaller r s)) (smaller_first r s),
  le_trans _ _ _ (smaller_second (smaller p q) (smaller r s)) (smaller_second r s),
)

pub greatest_above : (p q r s : Fraction) → (p ≤F greatest p q r s) × (q ≤F greatest p q r s) × (r ≤F greatest p q r s)
    × (s ≤F greatest p q r s)
unfolding greatest
greatest_above p q r s = (
  le_trans _ _ _ (larger_first p q) (larger_first (larger p q) (larger r s)),
  le_trans _ _ _ (larger_second p q) (larger_first (larger p q) (larger r s)),
  le_trans _ _ _ (larger_first r s) (larger_second (larger p q) (larger r s)),
  le_trans _ _ _ (larger_second r s) (larger_second (larger p q) (larger r s)),
)

pub product_holds : (i j : Interval) (x y : Fraction) → IsMember x i → IsMember y j → IsMember (times x y) (product i j)
unfolding product
product_holds everything j x y h k = tt
product_holds (between a b) everything x y h k = tt
product_holds (between a b) (between c d) x y h k =
    let lo = least_below (times a c) (times a d) (times b c) (times b d) in
    let hi = greatest_above (times a c) (times a d) (times b c) (times b d) in (
      four_above (least (times a c) (times a d) (times b c) (times b d)) a b c d x y h.0 h.1 k.0 k.1 lo.0 lo.1
          lo.2 lo.3,
      four_below (greatest (times a c) (times a d) (times b c) (times b d)) a b c d x y h.0 h.1 k.0 k.1 hi.0 hi.1
          hi.2 hi.3,
    )

-- ---- narrower operands
pub within_everything : (i : Interval) → i ⊆ everything
within_everything i = record { endpoints = tt }

pub within_trans : {i j k : Interval} → i ⊆ j → j ⊆ k → i ⊆ k
within_trans {i} {j} {k} h g = record { endpoints = by_endpoints i j k h.endpoints g.endpoints }
  where
    by_endpoints : (i j k : Interval) → AreWithin i j → AreWithin j k → AreWithin i k
    by_endpoints i j everything h g = tt
    by_endpoints i everything (between e f) h g = absurd g
    by_endpoints everything (between c d) (between e f) h g = absurd h
    by_endpoints (between a b) (between c d) (between e f) h g = (le_trans e c a g.0 h.0, le_trans b d f h.1 g.1)

sum_endpoints : (i i' j j' : Interval) → AreWithin i i' → AreWithin j j' → AreWithin (sum i j) (sum i' j')
unfolding sum
sum_endpoints i everything j j' h k = tt
sum_endpoints i (between a' b') j everything h k = tt
sum_endpoints everything (between a' b') j (between c' d') h k = absurd h
sum_endpoints (between a b) (between a' b') everything (between c' d') h k = absurd k
sum_endpoints (between a b) (between a' b') (between c d) (between c' d') h k =
    (plus_mono a' a c' c h.0 k.0, plus_mono b b' d d' h.1 k.1)

pub sum_within : {i i' j j' : Interval} → i ⊆ i' → j ⊆ j' → sum i j ⊆ sum i' j'
sum_within {i} {i'} {j} {j'} h k = record { endpoints = sum_endpoints i i' j j' h.endpoints k.endpoints }

-- the endpoints of a proper interval within another are members of that
endpoints_within : (a b c d : Fraction) → a ≤F b → AreWithin (between a b) (between c d) → IsMember a (between c d)
    × IsMember b (between c d)
endpoints_within a b c d p h = ((h.0, le_trans a b d p h.1), (le_trans c a b h.0 p, h.1))

product_endpoints : (i i' j j' : Interval) → IsProper i → IsProper j → AreWithin i i' → AreWithin j j'
    → AreWithin (product i j) (product i' j')
unfolding product
product_endpoints i everything j j' p q h k = tt
product_endpoints i (between a' b') j everything p q h k = tt
product_endpoints everything (between a' b') j (between c' d') p q h k = absurd h
product_endpoints (between a b) (between a' b') everything (between c' d') p q h k = absurd k
product_endpoints (between a b) (between a' b') (between c d) (between c' d') p q h k =
    let m = endpoints_within a b a' b' p h in
    let n = endpoints_within c d c' d' q k in
    let ac : IsMember (times a c) (product (between a' b') (between c' d')) = product_holds (between a' b')
    (between c' d') a c m.0 n.0 in
    let ad : IsMember (times a d) (product (between a' b') (between c' d')) = product_holds (between a' b')
    (between c' d') a d m.0 n.1 in
    let bc : IsMember (times b c) (product (between a' b') (between c' d')) = product_holds (between a' b')
    (between c' d') b c m.1 n.0 in
    let bd : IsMember (times b d) (product (between a' b') (between c' d')) = product_holds (between a' b')
    (between c' d') b d m.1 n.1 in (
      least_is _ (times a c) (times a d) (times b c) (times b d) ac.0 ad.0 bc.0 bd.0,
      greatest_is _ (times a c) (times a d) (times b c) (times b d) ac.1 ad.1 bc.1 bd.1,
    )

pub product_within : {i i' j j' : Interval} → IsProper i → IsProper j → i ⊆ i' → j ⊆ j' → product i j ⊆ product i' j'
product_within {i} {i'} {j} {j'} p q h k =
    record { endpoints = product_endpoints i i' j j' p q h.endpoints k.endpoints }

-- ---- the other operations
-- an operation's endpoints, where both operands are bounded
negative_endpoints : (i i' : Interval) → AreWithin i i' → AreWithin (negative i) (negative i')
unfolding negative
negative_endpoints i everything h = tt
negative_endpoints everything (between a' b') h = absurd h
negative_endpoints (between a b) (between a' b') h = (opposite_mono b b' h.1, opposite_mono a' a h.0)

minimum_endpoints : (i i' j j' : Interval) → AreWithin i i' → AreWithin j j' → AreWithin (minimum i j) (minimum i' j')
unfolding minimum
minimum_endpoints i everything j j' h k = tt
minimum_endpoints i (between a' b') j everything h k = tt
minimum_endpoints everything (between a' b') j (between c' d') h k = absurd h
minimum_endpoints (between a b) (between a' b') everything (between c' d') h k = absurd k
minimum_endpoints (between a b) (between a' b') (between c d) (between c' d') h k =
    (smaller_mono a' a c' c h.0 k.0, smaller_mono b b' d d' h.1 k.1)

maximum_endpoints : (i i' j j' : Interval) → AreWithin i i' → AreWithin j j' → AreWithin (maximum i j) (maximum i' j')
unfolding maximum
maximum_endpoints i everything j j' h k = tt
maximum_endpoints i (between a' b') j everything h k = tt
maximum_endpoints everything (between a' b') j (between c' d') h k = absurd h
maximum_endpoints (between a b) (between a' b') everything (between c' d') h k = absurd k
maximum_endpoints (between a b) (between a' b') (between c d) (between c' d') h k =
    (larger_mono a' a c' c h.0 k.0, larger_mono b b' d d' h.1 k.1)

hull_endpoints : (i i' j j' : Interval) → AreWithin i i' → AreWithin j j' → AreWithin (hull i j) (hull i' j')
unfolding hull
hull_endpoints i everything j j' h k = tt
hull_endpoints i (between a' b') j everything h k = tt
hull_endpoints everything (between a' b') j (between c' d') h k = absurd h
hull_endpoints (between a b) (between a' b') everything (between c' d') h k = absurd k
hull_endpoints (between a b) (between a' b') (between c d) (between c' d') h k =
    (smaller_mono a' a c' c h.0 k.0, larger_mono b b' d d' h.1 k.1)

clamped_mono : (x y : Fraction) → x ≤F y → larger minus_one (smaller x one) ≤F larger minus_one (smaller y one)
clamped_mono x y h = larger_mono minus_one minus_one (smaller x one) (smaller y one) (le_refl minus_one)
    (smaller_mono x y one one h (le_refl one))

minus_one_below : minus_one ≤F one
minus_one_below = record { cross = omega (arith, ints) }

clamped_in : (x : Fraction) → (minus_one ≤F larger minus_one (smaller x one))
    × (larger minus_one (smaller x one) ≤F one)
clamped_in x = (
  larger_first minus_one (smaller x one),
  larger_keeps (λ z. z ≤F one) minus_one (smaller x one)
      minus_one_below (smaller_second x one),
)

clamp_endpoints : (i i' : Interval) → AreWithin i i' → AreWithin (clamp i) (clamp i')
unfolding clamp
clamp_endpoints everything everything h = (le_refl minus_one, le_refl one)
clamp_endpoints (between a b) everything h = ((clamped_in a).0, (clamped_in b).1)
clamp_endpoints everything (between a' b') h = absurd h
clamp_endpoints (between a b) (between a' b') h = (clamped_mono a' a h.0, clamped_mono b b' h.1)

widen_endpoints : (e : Fraction) (i i' : Interval) → AreWithin i i' → AreWithin (widen e i) (widen e i')
unfolding widen
widen_endpoints e i everything h = tt
widen_endpoints e everything (between a' b') h = absurd h
widen_endpoints e (between a b) (between a' b') h = (
  plus_mono a' a (opposite (size e)) (opposite (size e)) h.0 (le_refl _),
  plus_mono b b' (size e) (size e) h.1 (le_refl _),
)

-- ---- the quotient
excluded : (c d : Fraction) → c ≤F d → excludes_zero c d ≡ true → (IsPositive c × IsPositive d)
    ⊎ (IsNegative c × IsNegative d)
excluded c d l e = by_test (lt_z (pos 0) c.num) refl e
  where
    by_test : (t : Bool) → lt_z (pos 0) c.num ≡ t → cond t true (lt_z d.num (pos 0)) ≡ true
        → (IsPositive c × IsPositive d) ⊎ (IsNegative c × IsNegative d)
    by_test true p e = let h : IsPositive c = record { above = omega (arith, ints) } in inl (h, positive_above c d h l)
    by_test false p e = let h : IsNegative d = record { under = omega (arith, ints) } in inr (negative_below c d h l, h)

pub positive_excludes : (c d : Fraction) → IsPositive c → excludes_zero c d ≡ true
positive_excludes c d h = let e : true ≡ lt_z (pos 0) c.num = omega (arith, ints) in rw (← e)

pub negative_excludes : (c d : Fraction) → IsNegative d → excludes_zero c d ≡ true
negative_excludes c d h = by_test (lt_z (pos 0) c.num)
  where
    by_test : (t : Bool) → cond t true (lt_z d.num (pos 0)) ≡ true
    by_test true = refl
    by_test false = let e : true ≡ lt_z d.num (pos 0) = omega (arith, ints) in sym e

-- between reciprocals of one sign
reciprocals : (c d c' d' : Fraction) → c ≤F d → excludes_zero c' d' ≡ true → c' ≤F c → d ≤F d'
    → (excludes_zero c d ≡ true)
    × AreWithin (between (reciprocal d) (reciprocal c)) (between (reciprocal d') (reciprocal c'))
reciprocals c d c' d' l e h k =
    elim (excluded c' d' (le_trans _ _ _ h (le_trans _ _ _ l k)) e) [
      | inl s ↦
          let pc = positive_above c' c s.0 h in
          let pd = positive_above c d pc l in
          (positive_excludes c d pc, (reciprocal_anti_positive d d' pd s.1 k, reciprocal_anti_positive c' c s.0 pc h))
      | inr s ↦
          let nd = negative_below d d' s.1 k in
          let nc = negative_below c d nd l in
          (negative_excludes c d nd, (reciprocal_anti_negative d d' nd s.1 k, reciprocal_anti_negative c' c s.0 nc h))
    ]

-- the reciprocals of a proper interval without 0 are in order
reciprocal_proper : (c d : Fraction) → c ≤F d → excludes_zero c d ≡ true → reciprocal d ≤F reciprocal c
reciprocal_proper c d l e =
    elim (excluded c d l e) [
      | inl s ↦ reciprocal_anti_positive c d s.0 s.1 l
      | inr s ↦ reciprocal_anti_negative c d
          s.0 s.1 l
    ]

quotient_endpoints : (i i' j j' : Interval) → IsProper i → IsProper j → AreWithin i i' → AreWithin j j'
    → AreWithin (quotient i j) (quotient i' j')
unfolding quotient
quotient_endpoints i everything j j' p q h k = tt
quotient_endpoints i (between a' b') j everything p q h k = tt
quotient_endpoints everything (between a' b') j (between c' d') p q h k = absurd h
quotient_endpoints (between a b) (between a' b') everything (between c' d') p q h k = absurd k
quotient_endpoints (between a b) (between a' b') (between c d) (between c' d') p q h k =
    by_test (excludes_zero c' d') refl
  where
    by_test : (t : Bool) → excludes_zero c' d' ≡ t → AreWithin
        (cond (excludes_zero c d) (product (between a b) (between (reciprocal d) (reciprocal c))) everything)
        (cond t (product (between a' b') (between (reciprocal d') (reciprocal c'))) everything)
    by_test false e = tt
    by_test true e =
        let r = reciprocals c d c' d' q e k.0 k.1 in
        rw r.0 (product_endpoints (between a b) (between a' b') (between (reciprocal d) (reciprocal c))
        (between (reciprocal d') (reciprocal c')) p
        (reciprocal_proper c d q r.0) h r.1)

pub quotient_within : {i i' j j' : Interval} → IsProper i → IsProper j → i ⊆ i' → j ⊆ j' → quotient i j ⊆ quotient i' j'
quotient_within {i} {i'} {j} {j'} p q h k =
    record { endpoints = quotient_endpoints i i' j j' p q h.endpoints k.endpoints }

pub quotient_holds : (i : Interval) (c d x y : Fraction) → c ≤F d → excludes_zero c d ≡ true → IsMember x i
    → IsMember y (between c d)
    → IsMember (times x (reciprocal y)) (quotient i (between c d))
unfolding quotient
quotient_holds everything c d x y l e h k = tt
quotient_holds (between a b) c d x y l e h k =
    let r = reciprocals y y c d (le_refl y) e k.0 k.1 in
    rw e (product_holds (between a b) (between (reciprocal d) (reciprocal c)) x (reciprocal y) h r.1)

-- ---- powers
even_below : (k : ℕ) (a b x : Fraction) → is_even k ≡ true → a ≤F x → x ≤F b
    → power x k ≤F larger (power a k) (power b k)
even_below k a b x e ax xb =
    elim (le_total zero_fraction x) [
      | inl h ↦ le_trans _ _ _ (power_mono k x b h xb) (larger_second (power a k) (power b k))
      | inr h ↦ le_trans _ _ _ (power_even_falling k a x e ax h).1 (larger_first (power a k) (power b k))
    ]

-- what the least power is a power of
least_even_keeps : (k : ℕ) (a b : Fraction) (P : Fraction → Type 0) → (zero_fraction ≤F a → P (power a k))
    → (b ≤F zero_fraction → P (power b k))
    → (a ≤F zero_fraction → zero_fraction ≤F b → P (power zero_fraction k)) → P (least_even a b k)
unfolding least_even
least_even_keeps k a b P f g h = by_test (is_at_most zero_fraction a) refl (is_at_most b zero_fraction) refl
  where
    by_test : (t : Bool) → is_at_most zero_fraction a ≡ t → (u : Bool) → is_at_most b zero_fraction ≡ u
        → P (cond t (power a k) (cond u (power b k) (power zero_fraction k)))
    by_test true p u q = f (at_most_true zero_fraction a p)
    by_test false p true q = g (at_most_true b zero_fraction q)
    by_test false p false q = h (at_most_false zero_fraction a p) (at_most_false b zero_fraction q)

even_above : (k : ℕ) (a b x : Fraction) → is_even k ≡ true → a ≤F x → x ≤F b → least_even a b k ≤F power x k
even_above k a b x e ax xb =
    least_even_keeps k a b (λ z. z ≤F power x k) (λ h. power_mono k a x h ax) (λ h. (power_even_falling k x b e xb h).1)
    (λ _ _. power_even_least k x e)

pub power_holds : (k : ℕ) (i : Interval) (x : Fraction) → IsMember x i → IsMember (power x k) (interval_power i k)
unfolding interval_power
power_holds k everything x h = tt
power_holds k (between a b) x h = by_test (is_even k) refl
  where
    by_test : (t : Bool) → is_even k ≡ t → IsMember (power x k)
        (cond t (between (least_even a b k) (larger (power a k) (power b k))) (between (power a k) (power b k)))
    by_test true e = (even_above k a b x e h.0 h.1, even_below k a b x e h.0 h.1)
    by_test false e = (power_odd_mono k a x e h.0, power_odd_mono k x b e h.1)

power_endpoints : (k : ℕ) (i i' : Interval) → IsProper i → AreWithin i i'
    → AreWithin (interval_power i k) (interval_power i' k)
unfolding interval_power
power_endpoints k i everything p h = tt
power_endpoints k everything (between a' b') p h = absurd h
power_endpoints k (between a b) (between a' b') p h = by_test (is_even k) refl
  where
    by_test : (t : Bool) → is_even k ≡ t
        → AreWithin (cond t (between (least_even a b k) (larger (power a k) (power b k)))
        (between (power a k) (power b k)))
        (cond t (between (least_even a' b' k) (larger (power a' k) (power b' k))) (between (power a' k) (power b' k)))
    by_test false e = (power_odd_mono k a' a e h.0, power_odd_mono k b b' e h.1)
    by_test true e =
        let m = endpoints_within a b a' b' p h in (
          least_even_keeps k a b (λ z. least_even a' b' k ≤F z) (λ _. even_above k a' b' a e m.0.0 m.0.1)
              (λ _. even_above k a' b' b e m.1.0 m.1.1)
              (λ u v. even_above k a' b' zero_fraction e (le_trans _ _ _ m.0.0 u) (le_trans _ _ _ v m.1.1)),
          larger_keeps (λ z. z ≤F larger (power a' k) (power b' k)) (power a k) (power b k)
              (even_below k a' b' a e m.0.0 m.0.1)
              (even_below k a' b' b e m.1.0 m.1.1),
        )

pub power_within : (k : ℕ) {i i' : Interval} → IsProper i → i ⊆ i' → interval_power i k ⊆ interval_power i' k
power_within k {i} {i'} p h = record { endpoints = power_endpoints k i i' p h.endpoints }

-- ---- results are proper, and the smallest
pub plus_proper : (i j : Interval) → IsProper i → IsProper j → IsProper (sum i j)
unfolding sum
plus_proper everything j p q = tt
plus_proper (between a b) everything p q = tt
plus_proper (between a b) (between c d) p q = plus_mono a b c d p q

pub product_proper : (i j : Interval) → IsProper i → IsProper j → IsProper (product i j)
unfolding product
product_proper everything j p q = tt
product_proper (between a b) everything p q = tt
product_proper (between a b) (between c d) p q =
    let m = product_holds (between a b) (between c d) a c (le_refl a, p) (le_refl c, q) in le_trans _ _ _ m.0 m.1

pub power_proper : (k : ℕ) (i : Interval) → IsProper i → IsProper (interval_power i k)
unfolding interval_power
power_proper k everything p = tt
power_proper k (between a b) p = by_test (is_even k) refl
  where
    by_test : (t : Bool) → is_even k ≡ t
        → IsProper (cond t (between (least_even a b k) (larger (power a k) (power b k)))
        (between (power a k) (power b k)))
    by_test true e = le_trans _ _ _ (even_above k a b a e (le_refl a) p) (larger_first (power a k) (power b k))
    by_test false e = power_odd_mono k a b e p

-- what holds each product of members holds the interval of the products
product_smallest : (a b c d : Fraction) (k : Interval) → a ≤F b → c ≤F d
    → ((x y : Fraction) → IsMember x (between a b) → IsMember y (between c d) → IsMember (times x y) k)
    → product (between a b) (between c d) ⊆ k
unfolding product
product_smallest a b c d everything p q h = record { endpoints = tt }
product_smallest a b c d (between e f) p q h =
    let ac = h a c (le_refl a, p) (le_refl c, q) in
    let ad = h a d (le_refl a, p) (q, le_refl d) in
    let bc = h b c (p, le_refl b) (le_refl c, q) in
    let bd = h b d (p, le_refl b) (q, le_refl d) in
    record { endpoints = (least_is e _ _ _ _ ac.0 ad.0 bc.0 bd.0, greatest_is f _ _ _ _ ac.1 ad.1 bc.1 bd.1) }

-- what holds each power of a member holds the interval of the powers
pub power_smallest : (k : ℕ) (a b : Fraction) (j : Interval) → a ≤F b
    → ((x : Fraction) → IsMember x (between a b) → IsMember (power x k) j)
    → interval_power (between a b) k ⊆ j
unfolding interval_power
power_smallest k a b everything p h = record { endpoints = tt }
power_smallest k a b (between c d) p h = record { endpoints = by_test (is_even k) refl }
  where
    ha : IsMember (power a k) (between c d)
    ha = h a (le_refl a, p)

    hb : IsMember (power b k) (between c d)
    hb = h b (p, le_refl b)

    by_test : (t : Bool) → is_even k ≡ t
        → AreWithin (cond t (between (least_even a b k) (larger (power a k) (power b k)))
        (between (power a k) (power b k)))
        (between c d)
    by_test true e = (
      least_even_keeps k a b (λ z. c ≤F z) (λ _. ha.0) (λ _. hb.0) (λ u v. (h zero_fraction (u, v)).0),
      larger_keeps (λ z. z ≤F d) (power a k) (power b k) ha.1 hb.1,
    )
    by_test false e = (ha.0, hb.1)

-- ---- each operation is monotone under inclusion
pub within_refl : (i : Interval) → i ⊆ i
within_refl i = record { endpoints = by_endpoints i }
  where
    by_endpoints : (i : Interval) → AreWithin i i
    by_endpoints everything = tt
    by_endpoints (between a b) = (le_refl a, le_refl b)

pub negative_within : {i i' : Interval} → i ⊆ i' → negative i ⊆ negative i'
negative_within {i} {i'} h = record { endpoints = negative_endpoints i i' h.endpoints }

pub difference_within : {i i' j j' : Interval} → i ⊆ i' → j ⊆ j' → difference i j ⊆ difference i' j'
difference_within h k = sum_within h (negative_within k)

pub minimum_within : {i i' j j' : Interval} → i ⊆ i' → j ⊆ j' → minimum i j ⊆ minimum i' j'
minimum_within {i} {i'} {j} {j'} h k = record { endpoints = minimum_endpoints i i' j j' h.endpoints k.endpoints }

pub maximum_within : {i i' j j' : Interval} → i ⊆ i' → j ⊆ j' → maximum i j ⊆ maximum i' j'
maximum_within {i} {i'} {j} {j'} h k = record { endpoints = maximum_endpoints i i' j j' h.endpoints k.endpoints }

pub hull_within : {i i' j j' : Interval} → i ⊆ i' → j ⊆ j' → hull i j ⊆ hull i' j'
hull_within {i} {i'} {j} {j'} h k = record { endpoints = hull_endpoints i i' j j' h.endpoints k.endpoints }

pub clamp_within : {i i' : Interval} → i ⊆ i' → clamp i ⊆ clamp i'
clamp_within {i} {i'} h = record { endpoints = clamp_endpoints i i' h.endpoints }

pub widen_within : (e : Fraction) {i i' : Interval} → i ⊆ i' → widen e i ⊆ widen e i'
widen_within e {i} {i'} h = record { endpoints = widen_endpoints e i i' h.endpoints }

-- ---- each operation keeps intervals proper
pub negative_proper : (i : Interval) → IsProper i → IsProper (negative i)
unfolding negative
negative_proper everything p = tt
negative_proper (between a b) p = opposite_mono a b p

pub difference_proper : (i j : Interval) → IsProper i → IsProper j → IsProper (difference i j)
difference_proper i j p q = plus_proper i (negative j) p (negative_proper j q)

pub minimum_proper : (i j : Interval) → IsProper i → IsProper j → IsProper (minimum i j)
unfolding minimum
minimum_proper everything j p q = tt
minimum_proper (between a b) everything p q = tt
minimum_proper (between a b) (between c d) p q = smaller_mono a b c d p q

pub maximum_proper : (i j : Interval) → IsProper i → IsProper j → IsProper (maximum i j)
unfolding maximum
maximum_proper everything j p q = tt
maximum_proper (between a b) everything p q = tt
maximum_proper (between a b) (between c d) p q = larger_mono a b c d p q

pub hull_proper : (i j : Interval) → IsProper i → IsProper j → IsProper (hull i j)
unfolding hull
hull_proper everything j p q = tt
hull_proper (between a b) everything p q = tt
hull_proper (between a b) (between c d) p q = le_trans _ _ _ (smaller_first a c) (le_trans _ _ _ p (larger_first b d))

pub clamp_proper : (i : Interval) → IsProper i → IsProper (clamp i)
unfolding clamp
clamp_proper everything p = minus_one_below
clamp_proper (between a b) p = clamped_mono a b p

-- a natural number's opposite is not above it, at any denominator
opposite_below : (m d : ℕ) → (neg_ℤ (pos m) *ℤ pos (suc d)) ≤ℤ (pos m *ℤ pos (suc d))
opposite_below zero d = omega (arith, ints)
opposite_below (suc m) d = omega (arith, ints)

size_sign : (e : Fraction) → opposite (size e) ≤F size e
unfolding opposite size
size_sign e = record { cross = opposite_below (unsigned_abs e.num) e.below }

pub widen_proper : (e : Fraction) (i : Interval) → IsProper i → IsProper (widen e i)
unfolding widen
widen_proper e everything p = tt
widen_proper e (between a b) p = plus_mono a b (opposite (size e)) (size e) p (size_sign e)

pub quotient_proper : (i j : Interval) → IsProper i → IsProper j → IsProper (quotient i j)
unfolding quotient
quotient_proper everything j p q = tt
quotient_proper (between a b) everything p q = tt
quotient_proper (between a b) (between c d) p q = by_test (excludes_zero c d) refl
  where
    by_test : (t : Bool) → excludes_zero c d ≡ t
        → IsProper (cond t (product (between a b) (between (reciprocal d) (reciprocal c))) everything)
    by_test true e = product_proper (between a b) (between (reciprocal d) (reciprocal c)) p (reciprocal_proper c d q e)
    by_test false e = tt

-- ---- each operation holds the result at members
opposite_between : (a b x : Fraction) → a ≤F x → x ≤F b → (opposite b ≤F opposite x) × (opposite x ≤F opposite a)
opposite_between a b x h k = (opposite_mono x b k, opposite_mono a x h)

pub negative_holds : (i : Interval) (x : Fraction) → IsMember x i → IsMember (opposite x) (negative i)
unfolding negative
negative_holds everything x h = tt
negative_holds (between a b) x h = opposite_between a b x h.0 h.1

negative_smallest : (a b : Fraction) (k : Interval) → a ≤F b
    → ((x : Fraction) → IsMember x (between a b) → IsMember (opposite x) k)
    → negative (between a b) ⊆ k
unfolding negative
negative_smallest a b everything p h = record { endpoints = tt }
negative_smallest a b (between c d) p h = record { endpoints = ((h b (p, le_refl b)).0, (h a (le_refl a, p)).1) }

pub minimum_holds : (i j : Interval) (x y : Fraction) → IsMember x i → IsMember y j
    → IsMember (smaller x y) (minimum i j)
unfolding minimum
minimum_holds everything j x y h k = tt
minimum_holds (between a b) everything x y h k = tt
minimum_holds (between a b) (between c d) x y h k = (smaller_mono a x c y h.0 k.0, smaller_mono x b y d h.1 k.1)

pub maximum_holds : (i j : Interval) (x y : Fraction) → IsMember x i → IsMember y j
    → IsMember (larger x y) (maximum i j)
unfolding maximum
maximum_holds everything j x y h k = tt
maximum_holds (between a b) everything x y h k = tt
maximum_holds (between a b) (between c d) x y h k = (larger_mono a x c y h.0 k.0, larger_mono x b y d h.1 k.1)

pub hull_holds_first : (i j : Interval) (x : Fraction) → IsMember x i → IsMember x (hull i j)
unfolding hull
hull_holds_first everything j x h = tt
hull_holds_first (between a b) everything x h = tt
hull_holds_first (between a b) (between c d) x h =
    (le_trans _ _ _ (smaller_first a c) h.0, le_trans _ _ _ h.1 (larger_first b d))

pub hull_holds_second : (i j : Interval) (x : Fraction) → IsMember x j → IsMember x (hull i j)
unfolding hull
hull_holds_second everything j x h = tt
hull_holds_second (between a b) everything x h = tt
hull_holds_second (between a b) (between c d) x h =
    (le_trans _ _ _ (smaller_second a c) h.0, le_trans _ _ _ h.1 (larger_second b d))

pub clamp_holds : (i : Interval) (x : Fraction) → IsMember x i → IsMember (larger minus_one (smaller x one)) (clamp i)
unfolding clamp
clamp_holds everything x h = clamped_in x
clamp_holds (between a b) x h = (clamped_mono a x h.0, clamped_mono x b h.1)

-- a widened interval holds what lies at most the fraction's size from a member
pub widen_holds : (e : Fraction) (i : Interval) (x y : Fraction) → IsMember x i → opposite (size e) ≤F y → y ≤F size e
    → IsMember (plus x y) (widen e i)
unfolding widen
widen_holds e everything x y h l u = tt
widen_holds e (between a b) x y h l u = (plus_mono a x (opposite (size e)) y h.0 l, plus_mono x b y (size e) h.1 u)

-- ---- each operation gives the smallest interval
sum_smallest : (a b c d : Fraction) (j : Interval) → a ≤F b → c ≤F d
    → ((x y : Fraction) → IsMember x (between a b) → IsMember y (between c d) → IsMember (plus x y) j)
    → sum (between a b) (between c d) ⊆ j
unfolding sum
sum_smallest a b c d everything p q h = record { endpoints = tt }
sum_smallest a b c d (between e f) p q h =
    record { endpoints = ((h a c (le_refl a, p) (le_refl c, q)).0, (h b d (p, le_refl b) (q, le_refl d)).1) }

minimum_smallest : (a b c d : Fraction) (j : Interval) → a ≤F b → c ≤F d
    → ((x y : Fraction) → IsMember x (between a b) → IsMember y (between c d) → IsMember (smaller x y) j)
    → minimum (between a b) (between c d) ⊆ j
unfolding minimum
minimum_smallest a b c d everything p q h = record { endpoints = tt }
minimum_smallest a b c d (between e f) p q h =
    record { endpoints = ((h a c (le_refl a, p) (le_refl c, q)).0, (h b d (p, le_refl b) (q, le_refl d)).1) }

maximum_smallest : (a b c d : Fraction) (j : Interval) → a ≤F b → c ≤F d
    → ((x y : Fraction) → IsMember x (between a b) → IsMember y (between c d) → IsMember (larger x y) j)
    → maximum (between a b) (between c d) ⊆ j
unfolding maximum
maximum_smallest a b c d everything p q h = record { endpoints = tt }
maximum_smallest a b c d (between e f) p q h =
    record { endpoints = ((h a c (le_refl a, p) (le_refl c, q)).0, (h b d (p, le_refl b) (q, le_refl d)).1) }

-- what holds both intervals holds their hull
pub hull_smallest : (a b c d : Fraction) (j : Interval) → between a b ⊆ j → between c d ⊆ j
    → hull (between a b) (between c d) ⊆ j
unfolding hull
hull_smallest a b c d everything h k = record { endpoints = tt }
hull_smallest a b c d (between e f) h k = record {
  endpoints = (
    smaller_keeps (λ z. e ≤F z) a c h.endpoints.0 k.endpoints.0,
    larger_keeps (λ z. z ≤F f) b d h.endpoints.1
        k.endpoints.1,
  );
}

-- ---- the operations of which all of this is so
pub sums_smallest : IsSmallestOfTwo plus sum
sums_smallest = record { holds = sum_holds; smallest = sum_smallest }

pub products_smallest : IsSmallestOfTwo times product
products_smallest = record { holds = product_holds; smallest = product_smallest }

pub minima_smallest : IsSmallestOfTwo smaller minimum
minima_smallest = record { holds = minimum_holds; smallest = minimum_smallest }

pub maxima_smallest : IsSmallestOfTwo larger maximum
maxima_smallest = record { holds = maximum_holds; smallest = maximum_smallest }

pub negatives_smallest : IsSmallest opposite negative
negatives_smallest = record { holds = negative_holds; smallest = negative_smallest }

pub powers_smallest : (k : ℕ) → IsSmallest (λ x. power x k) (λ i. interval_power i k)
powers_smallest k = record { holds = power_holds k; smallest = power_smallest k }

pub hulls_smallest : IsSmallestAround hull
hulls_smallest = record { first = hull_holds_first; second = hull_holds_second; smallest = hull_smallest }
