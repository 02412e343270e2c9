-- Bounds by size and width alone: sums, and products with any fraction of at most some size. So what is computed at a
-- symbolic fraction, as a polynomial in Horner's form, has a bound that is computed of its coefficients.
use Rattle.std.specs.Prelude.{◌≡◌, ℕ, suc, ◌+◌, ◌*◌, ◌/◌, ◌^◌, ◌≤◌, ◌<◌, true, nat_lt, unsigned_abs, ℤ, pos, negsuc}
use Rattle.std.specs.Prelude.{neg_ℤ, ◌+ℤ◌, ◌*ℤ◌, ◌≤ℤ◌, ◌<ℤ◌}
use Rattle.std.proofs.Common.{arith}
use Rattle.std.specs.Int.{int_min, int_max}
use Rattle.std.proofs.lemmas.Int.{ints, clamps, by_lt_z, unsigned_abs-mul}
use Rattle.std.proofs.lemmas.Bool.{lt-ltb}
use Rattle.std.proofs.Math.Nat.{mul-le-mul_right, mul-le-mul_left}
use Rattle.book_model.specs.Fraction.{Fraction, floor_quotient}
use Rattle.book_model.proofs.Floors.{floor_quotient_is}
use Rattle.book_model.specs.numbers.Bounds.{Bound, bounded, IsNarrow, limits_at, ceil_div, ceil_quotient, range_size}
use Rattle.book_model.specs.numbers.Bounds.{scaled_bound, sum_bound}
use Rattle.book_model.specs.Interval.{Interval}
use Rattle.book_model.specs.programs.Widths.{IsAbout}
use Rattle.encl_core.specs.Sizes.{HasSize}
use Rattle.encl_core.proofs.Measuring.{looser, remeasured}

-- a bound of numbers of at most this size, in 2^-32, and this width, in 2^-64
pub data IsCovered : Bound → ℕ → ℕ → Type 0 where
  covered : {a b : ℤ} {s m S u : ℕ} → neg_ℤ (pos S) ≤ℤ a → a ≤ℤ pos S → neg_ℤ (pos S) ≤ℤ b → b ≤ℤ pos S → m ≤ u
      → IsCovered (bounded a b s m) S u

-- a greater width
pub wider_covered : (x : Bound) (S u v : ℕ) → u ≤ v → IsCovered x S u → IsCovered x S v
wider_covered x S u v l (covered {a = a} {b = b} {s = s} {m = m} p p2 q q2 r) = let h : m ≤ v = omega arith in
    covered p p2 q q2 h

-- a quotient of what is at least -G times the divisor, or at most G times
nat_floor : (n d : ℕ) → (n / suc d) * suc d ≤ n
nat_floor n d = omega arith

no_less : (q : ℤ) (G d : ℕ) (z : ℤ) → q <ℤ neg_ℤ (pos G) → z <ℤ (q *ℤ pos (suc d) +ℤ pos (suc d))
    → neg_ℤ (pos (G * suc d)) ≤ℤ z → ⊥
no_less (pos n) G d z l c h = omega (arith, ints)
no_less (negsuc n) G d z l c h =
    let g : G ≤ n = omega (arith, ints, l) in
    let k : G * suc d ≤ n * suc d = mul-le-mul_right (suc d) g in
    let e : suc n * suc d ≡ n * suc d + suc d = omega arith in
    omega (arith, ints, k, e)

pub floor_least : (z : ℤ) (d G : ℕ) → neg_ℤ (pos (G * suc d)) ≤ℤ z → neg_ℤ (pos G) ≤ℤ floor_quotient z d
floor_least z d G h =
    let q = floor_quotient_is z d in
    by_lt_z (floor_quotient z d) (neg_ℤ (pos G)) (λ l. absurd (no_less (floor_quotient z d) G d z l q.close h)) (λ k. k)

pub ceil_most : (z : ℤ) (d G : ℕ) → z ≤ℤ pos (G * suc d) → ceil_quotient z d ≤ℤ pos G
ceil_most z d G h =
    let f = floor_least (neg_ℤ z) d G (omega (arith, ints, h)) in
    omega (arith, ints, f)

no_more : (t m N F d : ℕ) → m * F < t → t * suc d ≤ m * N + d → m * N ≤ m * F * suc d → ⊥
no_more t m N F d l h k =
    let g : (m * F + 1) * suc d ≤ t * suc d = mul-le-mul_right (suc d) (omega (arith, l)) in
    let e : (m * F + 1) * suc d ≡ m * F * suc d + suc d = grind arith in
    omega (arith, g, e, h, k)

width_least : (m N F d : ℕ) → N ≤ F * suc d → ceil_div (m * N) d ≤ m * F
width_least m N F d h =
    let p : m * N ≤ m * (F * suc d) = mul-le-mul_left m h in
    let e : m * (F * suc d) ≡ m * F * suc d = grind arith in
    let f = nat_floor (m * N + d) d in
    by_lt_z (pos (m * F)) (pos (ceil_div (m * N) d))
    (λ l. absurd (no_more (ceil_div (m * N) d) m N F d (omega (arith, ints, l)) f (omega (arith, p, e))))
    (λ k. omega (arith, ints, k))

too_great : (q : ℤ) (G d : ℕ) (z : ℤ) → pos G <ℤ q → (q *ℤ pos (suc d)) ≤ℤ z → z ≤ℤ pos (G * suc d) → ⊥
too_great (negsuc n) G d z l c h = omega (arith, ints)
too_great (pos n) G d z l c h =
    let k : (G + 1) * suc d ≤ n * suc d = mul-le-mul_right (suc d) (omega (arith, ints, l)) in
    let e : (G + 1) * suc d ≡ G * suc d + suc d = grind arith in
    omega (arith, ints, k, e)

pub floor_most : (z : ℤ) (d G : ℕ) → z ≤ℤ pos (G * suc d) → floor_quotient z d ≤ℤ pos G
floor_most z d G h =
    let q = floor_quotient_is z d in
    by_lt_z (pos G) (floor_quotient z d) (λ l. absurd (too_great (floor_quotient z d) G d z l q.not_above h)) (λ k. k)

pub ceil_least : (z : ℤ) (d G : ℕ) → neg_ℤ (pos (G * suc d)) ≤ℤ z → neg_ℤ (pos G) ≤ℤ ceil_quotient z d
ceil_least z d G h =
    let f = floor_most (neg_ℤ z) d G (omega (arith, ints, h)) in
    omega (arith, ints, f)

-- the size of two numbers
pub size_least : (a b : ℤ) (S : ℕ) → neg_ℤ (pos S) ≤ℤ a → a ≤ℤ pos S → neg_ℤ (pos S) ≤ℤ b → b ≤ℤ pos S
    → range_size a b ≤ S
size_least a b S h i k l = omega (arith, ints)

-- ---- sums
pub sum_covered : (x y : Bound) (S u Z v : ℕ) → S + Z < 2 ^ 100 → IsCovered x S u → IsCovered y Z v
    → IsCovered (sum_bound (limits_at 56) x y) (S + Z) (u + v)
unfolding sum_bound
sum_covered x y S u Z v b (covered {a = a} {b = c} {s = s} {m = m} p p2 q q2 r)
    (covered {a = d} {b = e} {s = t} {m = n} p' p2' q' q2' r') =
    let h1 : neg_ℤ (pos (S + Z)) ≤ℤ (a +ℤ d) = omega (arith, ints) in
    let h2 : (a +ℤ d) ≤ℤ pos (S + Z) = omega (arith, ints) in
    let h3 : neg_ℤ (pos (S + Z)) ≤ℤ (c +ℤ e) = omega (arith, ints) in
    let h4 : (c +ℤ e) ≤ℤ pos (S + Z) = omega (arith, ints) in
    let h5 : m + n ≤ u + v = omega arith in
    let z = size_least (a +ℤ d) (c +ℤ e) (S + Z) h1 h2 h3 h4 in
    let t : nat_lt (range_size (a +ℤ d) (c +ℤ e)) (2 ^ 100) ≡ true = lt-ltb _ _ (omega (arith, z, b)) in
    rw t (covered h1 h2 h3 h4 h5)

-- ---- products with a fraction
record IsAround (z : ℤ) (d G : ℕ) : Type 0 where
  low : neg_ℤ (pos (G * suc d)) ≤ℤ z
  high : z ≤ℤ pos (G * suc d)

around_product : (a n : ℤ) (S F d : ℕ) → neg_ℤ (pos S) ≤ℤ a → a ≤ℤ pos S → unsigned_abs n ≤ F * suc d
    → IsAround (a *ℤ n) d (S * F)
around_product a n S F d h k i =
    let m = unsigned_abs-mul a n in
    let p : unsigned_abs a * unsigned_abs n ≤ S * unsigned_abs n = mul-le-mul_right (unsigned_abs n)
    (omega (arith, ints)) in
    let q : S * unsigned_abs n ≤ S * (F * suc d) = mul-le-mul_left S i in
    let e : S * (F * suc d) ≡ S * F * suc d = grind arith in
    let z : unsigned_abs (a *ℤ n) ≤ S * F * suc d = omega (arith, m, p, q, e) in
    record { low = omega (arith, ints, z); high = omega (arith, ints, z) }

small_product : (A N S : ℕ) → A ≤ S → S < 2 ^ 62 → N ≤ 2 ^ 40 → A * N < 2 ^ 102
small_product A N S h k i =
    let p : A * N ≤ A * 2 ^ 40 = mul-le-mul_left A i in
    omega (arith, p, h, k)

pub scaled_covered : (x : Bound) (f : Fraction) (S u F : ℕ) → S < 2 ^ 62 → S * F < 2 ^ 100 → HasSize F f
    → IsCovered x S u
    → IsCovered (scaled_bound (limits_at 56) f x) (S * F) (u * F + 2 ^ 9)
unfolding scaled_bound
scaled_covered x f S u F c e i (covered {a = a} {b = b} {s = s} {m = m} p p2 q q2 r) =
    let l = around_product a f.num S F f.below p p2 i.size in
    let k = around_product b f.num S F f.below q q2 i.size in
    let l1 = floor_least (a *ℤ f.num) f.below (S * F) l.low in
    let l2 = floor_most (a *ℤ f.num) f.below (S * F) l.high in
    let l3 = ceil_least (a *ℤ f.num) f.below (S * F) l.low in
    let l4 = ceil_most (a *ℤ f.num) f.below (S * F) l.high in
    let k1 = floor_least (b *ℤ f.num) f.below (S * F) k.low in
    let k2 = floor_most (b *ℤ f.num) f.below (S * F) k.high in
    let k3 = ceil_least (b *ℤ f.num) f.below (S * F) k.low in
    let k4 = ceil_most (b *ℤ f.num) f.below (S * F) k.high in
    let lo = int_min (floor_quotient (a *ℤ f.num) f.below) (floor_quotient (b *ℤ f.num) f.below) in
    let hi = int_max (ceil_quotient (a *ℤ f.num) f.below) (ceil_quotient (b *ℤ f.num) f.below) in
    let h1 : neg_ℤ (pos (S * F)) ≤ℤ lo = omega (arith, ints, clamps) in
    let h2 : lo ≤ℤ pos (S * F) = omega (arith, ints, clamps) in
    let h3 : neg_ℤ (pos (S * F)) ≤ℤ hi = omega (arith, ints, clamps) in
    let h4 : hi ≤ℤ pos (S * F) = omega (arith, ints, clamps) in
    let z = size_least lo hi (S * F) h1 h2 h3 h4 in
    let y = size_least a b S p p2 q q2 in
    let t1 : nat_lt (range_size a b * unsigned_abs f.num) (2 ^ 102) ≡ true =
    lt-ltb _ _ (small_product _ _ S y c i.numerator) in
    let t2 : nat_lt (range_size lo hi) (2 ^ 100) ≡ true = lt-ltb _ _ (omega (arith, z, e)) in
    let w = width_least m (unsigned_abs f.num) F f.below i.size in
    let v : m * F ≤ u * F = mul-le-mul_right F r in
    let h5 : ceil_div (m * unsigned_abs f.num) f.below + 2 ^ 9 ≤ u * F + 2 ^ 9 = omega (arith, w, v) in
    rw (t1, t2) (covered h1 h2 h3 h4 h5)

-- what keeps a bound that is covered
pub within_covered : (x : Bound) (S u : ℕ) (i : Interval) → IsCovered x S u → IsNarrow 0 x i → IsAbout S u i
within_covered x S u i (covered {a = a} {b = b} {s = s} {m = m} p p2 q q2 r) h =
    looser a b _ _ m u i p q2 r (record { kept = remeasured a b 0 s m 0 0 m i (omega arith) h })
