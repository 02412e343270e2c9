-- Roots on the grid of 2^-2n: they are the greatest and the least of their kind, and they nest.
use Rattle.std.proofs.Common.{◌≡◌, ℕ, zero, suc, ◌+◌, ◌-◌, ◌*◌, ◌/◌, ◌^◌, ◌≤◌, ◌<◌, refl, sym, ◌∙◌, ap, subst, arith}
use Rattle.std.proofs.Common.{Bool, true, false, cond, ℤ, pos, negsuc, ◌*ℤ◌, ◌≤ℤ◌, ◌⊎◌, inl, inr, [], ◌∷◌}
use Rattle.std.specs.Prelude.{nat_le}
use Rattle.std.proofs.lemmas.Int.{ints}
use Rattle.std.proofs.lemmas.Bool.{leb-true, leb-false}
use Rattle.std.proofs.Math.Nat.{mul-le-mul_left}
use Rattle.exact_math.specs.Fraction.{Fraction, ◌≤F◌, times, below_product}
use Rattle.exact_math.specs.Interval.{Interval, everything, between, IsProper, AreWithin, ◌⊆◌}
use Rattle.exact_math.proofs.Fractions.{le_trans, den_product, by_cross}
use Rattle.exact_math.proofs.Ring.{at, lit, ◌⊗◌}
use Rattle.exact_math.proofs.Certificates.{zero_F, ◌≼◌, known, ◌⊞◌, ◌⊠◌, natural, le_by}
use Rattle.exact_math.proofs.Narrowing.{Narrowing}
use Rattle.book_model.specs.numbers.Roots.{root_below, root_above, root_by_digits, on_grid, natural_part, not_negative}
use Rattle.book_model.specs.numbers.Roots.{root_low, root_high, root_of, IsGreatestRoot, IsLeastRoot}

-- ---- whole numbers
pub record IsRoot (m r : ℕ) : Type 0 where
  pub under : r * r ≤ m
  pub next : m < suc r * suc r

at_step : (m r : ℕ) (t : Bool) → IsRoot m r → nat_le (suc r * suc r) (suc m) ≡ t → IsRoot (suc m) (cond t (suc r) r)
at_step m r true h e = let l = leb-true (suc r * suc r) (suc m) e in
    record { under = l; next = omega (arith, h.under, h.next) }
at_step m r false h e = let l = leb-false (suc r * suc r) (suc m) e in
    record { under = omega (arith, h.under, h.next); next = l }

root_below_is : (m : ℕ) → IsRoot m (root_below m)
unfolding root_below
root_below_is zero = record { under = omega arith; next = omega arith }
root_below_is (suc m) = at_step m (root_below m) (nat_le (suc (root_below m) * suc (root_below m)) (suc m))
    (root_below_is m) refl

-- digit by digit
digit_step : (m q r : ℕ) (t : Bool) → q * 4 ≤ m → m < q * 4 + 4 → IsRoot q r → nat_le (suc (2 * r) * suc (2 * r)) m ≡ t
    → IsRoot m (cond t (suc (2 * r)) (2 * r))
digit_step m q r true a b h e = let l = leb-true (suc (2 * r) * suc (2 * r)) m e in let u = h.under in let n = h.next in
    record
    { under = l; next = omega (arith, a, b, u, n) }
digit_step m q r false a b h e = let l = leb-false (suc (2 * r) * suc (2 * r)) m e in let u = h.under in
    let n = h.next in record
    { under = omega (arith, a, b, u, n); next = l }

pub digits_are : (j m : ℕ) → m < 4 ^ j → IsRoot m (root_by_digits j m)
unfolding root_by_digits
digits_are zero m h = record { under = omega arith; next = omega (arith, h) }
digits_are (suc j) m h =
    let c : 4 ^ suc j ≡ 4 * 4 ^ j = omega arith in
    let a : (m / 4) * 4 ≤ m = omega arith in
    let b : m < (m / 4) * 4 + 4 = omega arith in
    digit_step m (m / 4) (root_by_digits j (m / 4))
    (nat_le (suc (2 * root_by_digits j (m / 4)) * suc (2 * root_by_digits j (m / 4))) m) a b
    (digits_are j (m / 4) (omega (arith, h, c, a, b))) refl

squares : (j k : ℕ) → j ≤ k → j * j ≤ k * k
squares j k h = let a = mul-le-mul_left j h in let b = mul-le-mul_left k h in omega (arith, a, b)

split : (j k : ℕ) → (j ≤ k) ⊎ (suc k ≤ j)
split j k = grind arith

pub below_reaches : (m k : ℕ) → k * k ≤ m → k ≤ root_below m
below_reaches m k h = by_split (split k (root_below m))
  where
    by_split : (k ≤ root_below m) ⊎ (suc (root_below m) ≤ k) → k ≤ root_below m
    by_split (inl l) = l
    by_split (inr l) = let s = squares (suc (root_below m)) k l in let n = (root_below_is m).next in
        absurd (omega (arith, s, n, h))

pub above_holds : (m : ℕ) → m ≤ root_above m * root_above m
unfolding root_above
above_holds zero = omega arith
above_holds (suc m) = let n = (root_below_is m).next in omega (arith, n)

pub above_least : (m k : ℕ) → m ≤ k * k → root_above m ≤ k
unfolding root_above
above_least zero k h = omega arith
above_least (suc m) k h = by_split (split (suc (root_below m)) k)
  where
    by_split : (suc (root_below m) ≤ k) ⊎ (suc k ≤ suc (root_below m)) → suc (root_below m) ≤ k
    by_split (inl l) = l
    by_split (inr l) = let s = squares k (root_below m) (omega (arith, l)) in let n = (root_below_is m).under in
        absurd (omega (arith, s, n, h))

-- ---- on the grid
grid_positive : (n : ℕ) → suc (4 ^ n - 1) ≡ 4 ^ n
grid_positive zero = refl
grid_positive (suc n) = let h = grid_positive n in omega (arith, h)

-- the square of k / 2^2n is k k / 2^4n
squared_den : (n : ℕ) → pos (suc (below_product (4 ^ n - 1) (4 ^ n - 1))) ≡ pos (16 ^ n)
squared_den n = den_product (4 ^ n - 1) (4 ^ n - 1) ∙ by_powers n
  where
    fourths : (n : ℕ) → 4 ^ n * 4 ^ n ≡ 16 ^ n
    fourths zero = refl
    fourths (suc n) =
        let h = fourths n in
        let a : 4 ^ suc n ≡ 4 * 4 ^ n = omega arith in
        let b : 16 ^ suc n ≡ 16 * 16 ^ n = omega arith in
        rw (a, b) (omega (arith, h))

    by_powers : (n : ℕ) → pos (suc (4 ^ n - 1)) *ℤ pos (suc (4 ^ n - 1)) ≡ pos (16 ^ n)
    by_powers n = rw (grid_positive n) (ap pos (fourths n))

-- the square of k / 2^2n is at most N / (d + 1)
square_under : (n k N d : ℕ) → k * k ≤ (N * 16 ^ n) / suc d
    → times (on_grid n k) (on_grid n k) ≤F record { num = pos N; below = d }
unfolding times
square_under n k N d h =
    by_cross (times (on_grid n k) (on_grid n k)) (record { num = pos N; below = d }) (pos (16 ^ n)) (pos (suc d))
    (squared_den n) refl
    (let m = mul-le-mul_left (suc d) h in let q : ((N * 16 ^ n) / suc d) * suc d ≤ N * 16 ^ n = omega arith in
    omega (arith, ints, m, q))

under_square : (n k N d : ℕ) → times (on_grid n k) (on_grid n k) ≤F record { num = pos N; below = d }
    → k * k ≤ (N * 16 ^ n) / suc d
unfolding times
under_square n k N d h =
    let e = squared_den n in
    let c = h.cross in
    let l : (pos (k * k) *ℤ pos (suc d)) ≤ℤ (pos N *ℤ pos (16 ^ n)) =
    subst (λ z. (pos (k * k) *ℤ pos (suc d)) ≤ℤ (pos N *ℤ z)) e c in
    by_quotient (N * 16 ^ n) (k * k) d (omega (arith, ints, l))
  where
    by_quotient : (a b d : ℕ) → b * suc d ≤ a → b ≤ a / suc d
    by_quotient a b d h = by_split (split b (a / suc d))
      where
        by_split : (b ≤ a / suc d) ⊎ (suc (a / suc d) ≤ b) → b ≤ a / suc d
        by_split (inl l) = l
        by_split (inr l) = let m = mul-le-mul_left (suc d) l in let q : a < (a / suc d + 1) * suc d = omega arith in
            absurd (omega (arith, m, q, h))

abbrev count_low : ℕ → Fraction → ℕ
count_low n a = root_below ((natural_part a.num * 16 ^ n) / suc a.below)

abbrev count_high : ℕ → Fraction → ℕ
count_high n a = root_above ((natural_part a.num * 16 ^ n + a.below) / suc a.below)

grid_mono : (n j k : ℕ) → j ≤ k → on_grid n j ≤F on_grid n k
grid_mono n j k h = let m = mul-le-mul_left (suc (4 ^ n - 1)) h in record { cross = omega (arith, ints, m) }

pub low_is : (n : ℕ) (a : Fraction) → IsGreatestRoot n (not_negative a) (root_low n a)
unfolding root_low
low_is n a = record {
  multiple = (count_low n a, refl);
  square = square_under n (count_low n a) (natural_part a.num) a.below
      ((root_below_is ((natural_part a.num * 16 ^ n) / suc a.below)).under);
  greatest = λ k h. grid_mono n k (count_low n a) (below_reaches _ k (under_square n k (natural_part a.num) a.below h));
}

-- the square of k / 2^2n is at least N / (d + 1)
square_over : (n k N d : ℕ) → (N * 16 ^ n + d) / suc d ≤ k * k → record { num = pos N; below = d } ≤F times
    (on_grid n k) (on_grid n k)
unfolding times
square_over n k N d h =
    by_cross (record { num = pos N; below = d }) (times (on_grid n k) (on_grid n k)) (pos (suc d)) (pos (16 ^ n)) refl
    (squared_den n)
    (let m = mul-le-mul_left (suc d) h in let q : N * 16 ^ n ≤ ((N * 16 ^ n + d) / suc d) * suc d = omega arith in
    omega (arith, ints, m, q))

over_square : (n k N d : ℕ) → record { num = pos N; below = d } ≤F times (on_grid n k) (on_grid n k)
    → (N * 16 ^ n + d) / suc d ≤ k * k
unfolding times
over_square n k N d h =
    let e = squared_den n in
    let c = h.cross in
    let l : (pos N *ℤ pos (16 ^ n)) ≤ℤ (pos (k * k) *ℤ pos (suc d)) =
    subst (λ z. (pos N *ℤ z) ≤ℤ (pos (k * k) *ℤ pos (suc d))) e c in
    by_quotient (N * 16 ^ n) (k * k) d (omega (arith, ints, l))
  where
    by_quotient : (a b d : ℕ) → a ≤ b * suc d → (a + d) / suc d ≤ b
    by_quotient a b d h = by_split (split ((a + d) / suc d) b)
      where
        by_split : ((a + d) / suc d ≤ b) ⊎ (suc b ≤ (a + d) / suc d) → (a + d) / suc d ≤ b
        by_split (inl l) = l
        by_split (inr l) = let m = mul-le-mul_left (suc d) l in let q : ((a + d) / suc d) * suc d ≤ a + d =
            omega arith in absurd (omega (arith, m, q, h))

pub high_is : (n : ℕ) (a : Fraction) → IsLeastRoot n (not_negative a) (root_high n a)
unfolding root_high
high_is n a = record {
  multiple = (count_high n a, refl);
  square = square_over n (count_high n a) (natural_part a.num) a.below
      (above_holds ((natural_part a.num * 16 ^ n + a.below) / suc a.below));
  least = λ k h. grid_mono n (count_high n a) k (above_least _ k (over_square n k (natural_part a.num) a.below h));
}

-- ---- they keep the order, and nest
not_negative_mono : (a b : Fraction) → a ≤F b → not_negative a ≤F not_negative b
not_negative_mono a b h = by_parts a.num b.num a.below b.below h.cross
  where
    by_parts : (m n : ℤ) (p q : ℕ) → (m *ℤ pos (suc q)) ≤ℤ (n *ℤ pos (suc p))
        → not_negative (record { num = m; below = p }) ≤F not_negative (record { num = n; below = q })
    by_parts (pos m) (pos n) p q h = record { cross = h }
    by_parts (pos zero) (negsuc n) p q h = record { cross = omega (arith, ints) }
    by_parts (pos (suc m)) (negsuc n) p q h = absurd (omega (arith, ints, h))
    by_parts (negsuc m) (pos n) p q h = record { cross = omega (arith, ints) }
    by_parts (negsuc m) (negsuc n) p q h = record { cross = omega (arith, ints) }

low_mono : (n : ℕ) (a b : Fraction) → a ≤F b → root_low n a ≤F root_low n b
low_mono n a b h =
    let x = low_is n a in
    let e = x.multiple.1 in
    subst (λ z. z ≤F root_low n b) (sym e)
    ((low_is n b).greatest x.multiple.0 (le_trans _ _ _ (subst (λ z. times z z ≤F not_negative a) e x.square)
    (not_negative_mono a b h)))

high_mono : (n : ℕ) (a b : Fraction) → a ≤F b → root_high n a ≤F root_high n b
high_mono n a b h =
    let x = high_is n b in
    let e = x.multiple.1 in
    subst (λ z. root_high n a ≤F z) (sym e)
    ((high_is n a).least x.multiple.0
    (le_trans _ _ _ (not_negative_mono a b h) (subst (λ z. not_negative b ≤F times z z) e x.square)))

-- k / 2^2n is 4 k / 2^(2n + 2)
finer : (n k : ℕ) → (on_grid n k ≤F on_grid (suc n) (4 * k)) × (on_grid (suc n) (4 * k) ≤F on_grid n k)
finer n k =
    let a = grid_positive n in
    let b = grid_positive (suc n) in
    let c : 4 ^ suc n ≡ 4 * 4 ^ n = omega arith in
    let d : suc (4 ^ suc n - 1) ≡ 4 * suc (4 ^ n - 1) = omega (arith, a, b, c) in
    (record { cross = rw d (omega (arith, ints)) }, record { cross = rw d (omega (arith, ints)) })

squares_mono : (x y : Fraction) → zero_F ≤F x → x ≤F y → times x x ≤F times y y
squares_mono x y h k = le_by (x ∷ y ∷ []) ((lit (pos 0) ≼ at 0) ∷ (at 0 ≼ at 1) ∷ []) (at 0 ⊗ at 0) (at 1 ⊗ at 1)
    (known 1 ⊠ (known 1 ⊞ natural 2 ⊠ known 0))
    refl (h, (k, tt))

grid_nonneg : (n k : ℕ) → zero_F ≤F on_grid n k
grid_nonneg n k = record { cross = omega (arith, ints) }

low_rises : (n : ℕ) (a : Fraction) → root_low n a ≤F root_low (suc n) a
low_rises n a =
    let x = low_is n a in
    let e = x.multiple.1 in
    let k = x.multiple.0 in
    let f = finer n k in
    subst (λ z. z ≤F root_low (suc n) a) (sym e)
    (le_trans _ _ _ f.0
    ((low_is (suc n) a).greatest (4 * k) (le_trans _ _ _ (squares_mono _ _ (grid_nonneg (suc n) (4 * k)) f.1)
    (subst (λ z. times z z ≤F not_negative a) e x.square))))

high_falls : (n : ℕ) (a : Fraction) → root_high (suc n) a ≤F root_high n a
high_falls n a =
    let x = high_is n a in
    let e = x.multiple.1 in
    let k = x.multiple.0 in
    let f = finer n k in
    subst (λ z. root_high (suc n) a ≤F z) (sym e)
    (le_trans _ _ _
    ((high_is (suc n) a).least (4 * k) (le_trans _ _ _ (subst (λ z. not_negative a ≤F times z z) e x.square)
    (squares_mono _ _ (grid_nonneg n k) f.0)))
    f.1)

no_greater_square : (j k d : ℕ) → suc k ≤ j → (pos (j * j) *ℤ pos (suc d)) ≤ℤ (pos (k * k) *ℤ pos (suc d)) → ⊥
no_greater_square j k d l c = let s = squares (suc k) j l in let m = mul-le-mul_left (suc d) s in
    omega (arith, ints, c, m)

from_squares : (n j k : ℕ) → times (on_grid n j) (on_grid n j) ≤F times (on_grid n k) (on_grid n k)
    → on_grid n j ≤F on_grid n k
unfolding times
from_squares n j k h = by_split (split j k)
  where
    by_split : (j ≤ k) ⊎ (suc k ≤ j) → on_grid n j ≤F on_grid n k
    by_split (inl l) = grid_mono n j k l
    by_split (inr l) = absurd (no_greater_square j k (below_product (4 ^ n - 1) (4 ^ n - 1)) l h.cross)

low_high : (n : ℕ) (a : Fraction) → root_low n a ≤F root_high n a
low_high n a =
    let x = high_is n a in
    let y = low_is n a in
    subst (λ z. z ≤F root_high n a) (sym y.multiple.1) (subst (λ z. on_grid n y.multiple.0 ≤F z) (sym x.multiple.1)
    (from_squares n y.multiple.0 x.multiple.0
    (le_trans _ _ _ (subst (λ z. times z z ≤F not_negative a) y.multiple.1 y.square)
    (subst (λ z. not_negative a ≤F times z z) x.multiple.1 x.square))))

root_proper : (n : ℕ) (i : Interval) → IsProper i → IsProper (root_of n i)
unfolding root_of
root_proper n everything p = tt
root_proper n (between a b) p = le_trans _ _ _ (low_mono n a b p) (low_high n b)

root_endpoints : (n : ℕ) (i j : Interval) → AreWithin i j → AreWithin (root_of n i) (root_of n j)
unfolding root_of
root_endpoints n i everything h = tt
root_endpoints n everything (between c d) h = absurd h
root_endpoints n (between a b) (between c d) h = (low_mono n c a h.0, high_mono n b d h.1)

pub root_within : (n : ℕ) {i j : Interval} → i ⊆ j → root_of n i ⊆ root_of n j
root_within n {i} {j} h = record { endpoints = root_endpoints n i j h.endpoints }

root_deeper : (n : ℕ) (i : Interval) → root_of (suc n) i ⊆ root_of n i
unfolding root_of
root_deeper n everything = record { endpoints = tt }
root_deeper n (between a b) = record { endpoints = (low_rises n a, high_falls n b) }

pub roots : Narrowing root_of
roots = record { proper = root_proper; within = λ n {i} {j} p h. root_within n h; deeper = λ n i p. root_deeper n i }
