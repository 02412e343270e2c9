-- Roots of endpoints, and endpoints that are cut to -1..1, keep their bounds. No root stands in a bound: the width of
-- the roots times the least root is bounded by the width of the numbers, so both sides are compared as squares, by
-- splitting on which of two whole numbers is the greater and multiplying out.
use Rattle.interval_endpoints.specs.Scales.{Scale, coarse, fine, at_scale, unit, units, bits_of, limits_on, bits_of}
use Rattle.interval_endpoints.specs.Scales.{spans, grains, slack}
use Rattle.std.proofs.Common.{◌≡◌, ℕ, zero, suc, ◌+◌, ◌*◌, ◌-◌, ◌/◌, ◌^◌, ◌≤◌, ◌<◌, refl, subst, arith, Bool, true}
use Rattle.std.proofs.Common.{false, ℤ, pos, negsuc, ◌+ℤ◌, ◌*ℤ◌, ◌-ℤ◌, ◌≤ℤ◌, ◌<ℤ◌, ◌⊎◌, inl, inr}
use Rattle.std.proofs.lemmas.Int.{ints, clamps}
use Rattle.std.proofs.lemmas.Bool.{ltb-true}
use Rattle.std.proofs.Math.Nat.{mul-le-mul_left}
use Rattle.book_model.specs.Interval.{Interval, everything, between}
use Rattle.book_model.specs.numbers.Bounds.{Bound, unbounded, bounded, Limits, Reach, limited, ceil_div, root_around}
use Rattle.book_model.specs.numbers.Bounds.{root_bound, clamp_bound, cut_32, IsNarrow, limits_of, bound_of}
use Rattle.book_model.specs.numbers.Expressions.{Expression, root, clamp as clamp_of}
use Rattle.book_model.specs.numbers.Relations.{Narrow, Keeps}
use Rattle.book_model.specs.numbers.Roots.{natural_part, root_by_digits}
use Rattle.book_model.proofs.Roots.{IsRoot, digits_are}
use Rattle.interval_endpoints.specs.Rounding.{ShowsEndpoints}
use Rattle.interval_endpoints.proofs.Keeping.{AreKept, kept_of, spans_of, limited_narrow, both}
use Rattle.interval_endpoints.proofs.RootEndpoints.{cut_of}

split : (j k : ℕ) → (j ≤ k) ⊎ (suc k ≤ j)
split j k = grind arith

squares : (j k : ℕ) → j ≤ k → j * j ≤ k * k
squares j k h = let a = mul-le-mul_left j h in let b = mul-le-mul_left k h in omega (arith, a, b)

-- ---- whole numbers: X and Y are roots' arguments in units of the scale, a and b their range in 2^-32
low_kept : (scale : Scale) → (a X r g : ℕ) → a * (spans scale) ≤ X → X * (units scale) < suc r * suc r
    → g * g ≤ a * 2 ^ 32 → g * (spans scale) ≤ r
low_kept coarse a X r g h k l = by_split (split (g * 16) r)
  where
    by_split : (g * 16 ≤ r) ⊎ (suc r ≤ g * 16) → g * 16 ≤ r
    by_split (inl m) = m
    by_split (inr m) = let s = squares (suc r) (g * 16) m in absurd (omega (arith, s, h, k, l))
low_kept fine a X r g h k l = by_split (split (g * 2 ^ 24) r)
  where
    by_split : (g * 2 ^ 24 ≤ r) ⊎ (suc r ≤ g * 2 ^ 24) → g * 2 ^ 24 ≤ r
    by_split (inl m) = m
    by_split (inr m) = let s = squares (suc r) (g * 2 ^ 24) m in absurd (omega (arith, s, h, k, l))

high_kept : (scale : Scale) → (b Y t h : ℕ) → Y ≤ b * (spans scale) → t * t < Y * (units scale) → b * 2 ^ 32 < h * h
    → suc t ≤ h * (spans scale)
high_kept coarse b Y t h k l m = by_split (split (suc t) (h * 16))
  where
    by_split : (suc t ≤ h * 16) ⊎ (suc (h * 16) ≤ suc t) → suc t ≤ h * 16
    by_split (inl n) = n
    by_split (inr n) = let s = squares (h * 16) t (omega (arith, n)) in absurd (omega (arith, s, k, l, m))
high_kept fine b Y t h k l m = by_split (split (suc t) (h * 2 ^ 24))
  where
    by_split : (suc t ≤ h * 2 ^ 24) ⊎ (suc (h * 2 ^ 24) ≤ suc t) → suc t ≤ h * 2 ^ 24
    by_split (inl n) = n
    by_split (inr n) = let s = squares (h * 2 ^ 24) t (omega (arith, n)) in absurd (omega (arith, s, k, l, m))

cancel : (g x y : ℕ) → 0 < g → g * x ≤ g * y → x ≤ y
cancel g x y h k = by_split (split x y)
  where
    by_split : (x ≤ y) ⊎ (suc y ≤ x) → x ≤ y
    by_split (inl l) = l
    by_split (inr l) = let m = mul-le-mul_left g l in absurd (omega (arith, m, h, k))

-- the difference of roots, less two units, times the least root
gap_kept : (scale : Scale) → (X Y r d g : ℕ) → X * (units scale) < suc r * suc r
    → (suc r + d) * (suc r + d) < Y * (units scale) → g * (spans scale) ≤ r
    → g * d * (2 * spans scale) + X * (units scale) ≤ Y * (units scale)
gap_kept coarse X Y r d g h k l = let m = mul-le-mul_left d l in omega (arith, h, k, m)
gap_kept fine X Y r d g h k l = let m = mul-le-mul_left d l in omega (arith, h, k, m)

ceil_is : (n g : ℕ) → 0 < g → n ≤ ceil_div n (g - 1) * g
ceil_is n (suc d) h = let q : n ≤ ((n + d) / suc d) * suc d = omega arith in let e : suc d - 1 ≡ d = omega arith in
    rw e q
ceil_is n zero h = absurd (omega (arith, h))

wide_kept : (scale : Scale) → (s k w X Y d g S K : ℕ) → 0 < g
    → Y * (grains scale) ≤ X * (grains scale) + (s * w + k * 2 ^ 40)
    → g * d * (2 * spans scale) + X * (units scale) ≤ Y * (units scale) → s * 2 ^ 31 ≤ S * g → k * 2 ^ 31 ≤ K * g
    → d * (grains scale) ≤ S * w + K * 2 ^ 40
wide_kept coarse s k w X Y d g S K p h l m n = cancel g (d * 2 ^ 68) (S * w + K * 2 ^ 40) p
    (let a = mul-le-mul_left w m in omega (arith, h, l, n, a))
wide_kept fine s k w X Y d g S K p h l m n = cancel g (d * 2 ^ 48) (S * w + K * 2 ^ 40) p
    (let a = mul-le-mul_left w m in omega (arith, h, l, n, a))

close_kept : (scale : Scale) → (s k w X Y r t g : ℕ) → 0 < g → X * (units scale) < suc r * suc r
    → t * t < Y * (units scale) → g * (spans scale) ≤ r
    → Y * (grains scale) ≤ X * (grains scale) + (s * w + k * 2 ^ 40)
    → suc t * (grains scale) ≤ r * (grains scale)
    + (ceil_div (s * 2 ^ 31) (g - 1) * w + (ceil_div (k * 2 ^ 31) (g - 1) + 2 * (slack scale)) * 2 ^ 40)
close_kept coarse s k w X Y r t g p h l m c = by_split (split t (suc r))
  where
    by_split : (t ≤ suc r) ⊎ (suc (suc r) ≤ t) → suc t * 2 ^ 68 ≤ r * 2 ^ 68 +
        (ceil_div (s * 2 ^ 31) (g - 1) * w + (ceil_div (k * 2 ^ 31) (g - 1) + 2 * 2 ^ 28) * 2 ^ 40)
    by_split (inl n) = omega (arith, n)
    by_split (inr n) =
        let e : t ≡ suc r + (t - suc r) = omega (arith, n) in
        let f : (suc r + (t - suc r)) * (suc r + (t - suc r)) < Y * 2 ^ 36 = rw (← e) l in
        let q = gap_kept coarse X Y r (t - suc r) g h f m in
        let z = wide_kept coarse s k w X Y (t - suc r) g (ceil_div (s * 2 ^ 31) (g - 1)) (ceil_div (k * 2 ^ 31) (g - 1))
        p c q (ceil_is (s * 2 ^ 31) g p)
        (ceil_is (k * 2 ^ 31) g p) in
        omega (arith, e, z, n)
close_kept fine s k w X Y r t g p h l m c = by_split (split t (suc r))
  where
    by_split : (t ≤ suc r) ⊎ (suc (suc r) ≤ t) → suc t * 2 ^ 48 ≤ r * 2 ^ 48 +
        (ceil_div (s * 2 ^ 31) (g - 1) * w + (ceil_div (k * 2 ^ 31) (g - 1) + 2 * 2 ^ 8) * 2 ^ 40)
    by_split (inl n) = omega (arith, n)
    by_split (inr n) =
        let e : t ≡ suc r + (t - suc r) = omega (arith, n) in
        let f : (suc r + (t - suc r)) * (suc r + (t - suc r)) < Y * 2 ^ 56 = rw (← e) l in
        let q = gap_kept fine X Y r (t - suc r) g h f m in
        let z = wide_kept fine s k w X Y (t - suc r) g (ceil_div (s * 2 ^ 31) (g - 1)) (ceil_div (k * 2 ^ 31) (g - 1)) p
        c q (ceil_is (s * 2 ^ 31) g p)
        (ceil_is (k * 2 ^ 31) g p) in
        omega (arith, e, z, n)

-- ---- the bound of a root
abbrev slope_over : ℕ → ℕ → ℕ
slope_over s g = ceil_div (s * 2 ^ 31) (g - 1)

abbrev slack_over : (scale : Scale) → ℕ → ℕ → ℕ
slack_over coarse k g = ceil_div (k * 2 ^ 31) (g - 1) + 2 * 2 ^ 28
slack_over fine k g = ceil_div (k * 2 ^ 31) (g - 1) + 2 * 2 ^ 8

root_kept : (scale : Scale) → (a b s k w X Y r t g h : ℕ) → AreKept scale (pos a) (pos b) s k w (pos X) (pos Y)
    → X * (units scale) < suc r * suc r
    → t * t < Y * (units scale) → 0 < g → g * g ≤ a * 2 ^ 32 → b * 2 ^ 32 < h * h → pos r ≤ℤ pos (suc t)
    → AreKept scale (pos g) (pos h) (slope_over s g) (slack_over scale k g) w (pos r) (pos (suc t))
root_kept coarse a b s k w X Y r t g h n c d p e f o =
    let la = n.above in
    let lb = n.below in
    let lc = n.close in
    let x : a * 16 ≤ X = omega (arith, ints, la) in
    let y : Y ≤ b * 16 = omega (arith, ints, lb) in
    let z : Y * 2 ^ 68 ≤ X * 2 ^ 68 + (s * w + k * 2 ^ 40) = omega (arith, ints, lc) in
    let u = low_kept coarse a X r g x c e in
    let v = high_kept coarse b Y t h y d f in
    let q = close_kept coarse s k w X Y r t g p c d u z in
    record {
      ordered = o;
      above = omega (arith, ints, u);
      below = omega (arith, ints, v);
      close = omega (arith, ints, q);
    }
root_kept fine a b s k w X Y r t g h n c d p e f o =
    let la = n.above in
    let lb = n.below in
    let lc = n.close in
    let x : a * 2 ^ 24 ≤ X = omega (arith, ints, la) in
    let y : Y ≤ b * 2 ^ 24 = omega (arith, ints, lb) in
    let z : Y * 2 ^ 48 ≤ X * 2 ^ 48 + (s * w + k * 2 ^ 40) = omega (arith, ints, lc) in
    let u = low_kept fine a X r g x c e in
    let v = high_kept fine b Y t h y d f in
    let q = close_kept fine s k w X Y r t g p c d u z in
    record {
      ordered = o;
      above = omega (arith, ints, u);
      below = omega (arith, ints, v);
      close = omega (arith, ints, q);
    }

-- no root of a number that is not positive counts
root_kept_zero : (scale : Scale) → (g h S K w r : ℕ) → pos r ≤ℤ pos 0 → g * (spans scale) ≤ r
    → AreKept scale (pos g) (pos h) S K w (pos r) (pos 0)
root_kept_zero coarse g h S K w r o u = record {
  ordered = o;
  above = omega (arith, ints, u);
  below = omega (arith, ints);
  close = omega (arith, ints);
}
root_kept_zero fine g h S K w r o u = record {
  ordered = o;
  above = omega (arith, ints, u);
  below = omega (arith, ints);
  close = omega (arith, ints);
}

pub record AreRoots (scale : Scale) (x y lo hi : ℤ) : Type 0 where
  pub ordered : lo ≤ℤ hi
  pub natural : pos 0 ≤ℤ lo
  pub above : (pos (natural_part x) *ℤ (unit scale)) <ℤ ((lo +ℤ pos 1) *ℤ (lo +ℤ pos 1))
  pub below : pos 1 ≤ℤ hi → ((hi -ℤ pos 1) *ℤ (hi -ℤ pos 1)) <ℤ (pos (natural_part y) *ℤ (unit scale))

one_more : (scale : Scale) → (X r : ℕ) → (pos X *ℤ (unit scale)) <ℤ ((pos r +ℤ pos 1) *ℤ (pos r +ℤ pos 1))
    → X * (units scale) < suc r * suc r
one_more coarse X r h =
    let e : pos r +ℤ pos 1 ≡ pos (suc r) = omega (arith, ints) in
    let l = subst (λ z. (pos X *ℤ pos (2 ^ 36)) <ℤ (z *ℤ z)) e h in
    omega (arith, ints, l)
one_more fine X r h =
    let e : pos r +ℤ pos 1 ≡ pos (suc r) = omega (arith, ints) in
    let l = subst (λ z. (pos X *ℤ pos (2 ^ 56)) <ℤ (z *ℤ z)) e h in
    omega (arith, ints, l)

one_less : (scale : Scale) → (Y t : ℕ) → ((pos (suc t) -ℤ pos 1) *ℤ (pos (suc t) -ℤ pos 1)) <ℤ (pos Y *ℤ (unit scale))
    → t * t < Y * (units scale)
one_less coarse Y t h =
    let e : pos (suc t) -ℤ pos 1 ≡ pos t = omega (arith, ints) in
    let l = subst (λ z. (z *ℤ z) <ℤ (pos Y *ℤ pos (2 ^ 36))) e h in
    omega (arith, ints, l)
one_less fine Y t h =
    let e : pos (suc t) -ℤ pos 1 ≡ pos t = omega (arith, ints) in
    let l = subst (λ z. (z *ℤ z) <ℤ (pos Y *ℤ pos (2 ^ 56))) e h in
    omega (arith, ints, l)

endpoints_kept : (scale : Scale) → (a b s k w g h : ℕ) (x y lo hi : ℤ) → AreKept scale (pos a) (pos b) s k w x y
    → AreRoots scale x y lo hi → 0 < g
    → g * g ≤ a * 2 ^ 32 → b * 2 ^ 32 < h * h → AreKept scale (pos g) (pos h) (slope_over s g) (slack_over scale k g) w
    lo hi
endpoints_kept coarse a b s k w g h (negsuc x) y lo hi n r p e f = absurd (omega (arith, ints, n.above))
endpoints_kept fine a b s k w g h (negsuc x) y lo hi n r p e f = absurd (omega (arith, ints, n.above))
endpoints_kept coarse a b s k w g h (pos x) (negsuc y) lo hi n r p e f =
    absurd (omega (arith, ints, n.above, n.ordered))
endpoints_kept fine a b s k w g h (pos x) (negsuc y) lo hi n r p e f = absurd (omega (arith, ints, n.above, n.ordered))
endpoints_kept coarse a b s k w g h (pos x) (pos y) (negsuc lo) hi n r p e f = absurd (omega (arith, ints, r.natural))
endpoints_kept fine a b s k w g h (pos x) (pos y) (negsuc lo) hi n r p e f = absurd (omega (arith, ints, r.natural))
endpoints_kept coarse a b s k w g h (pos x) (pos y) (pos lo) (negsuc hi) n r p e f =
    absurd (omega (arith, ints, r.ordered))
endpoints_kept fine a b s k w g h (pos x) (pos y) (pos lo) (negsuc hi) n r p e f =
    absurd (omega (arith, ints, r.ordered))
endpoints_kept coarse a b s k w g h (pos x) (pos y) (pos lo) (pos zero) n r p e f =
    let la = n.above in
    root_kept_zero coarse g h _ _ w lo r.ordered (low_kept coarse a x lo g (omega (arith, ints, la))
    (one_more coarse x lo r.above) e)
endpoints_kept fine a b s k w g h (pos x) (pos y) (pos lo) (pos zero) n r p e f =
    let la = n.above in
    root_kept_zero fine g h _ _ w lo r.ordered (low_kept fine a x lo g (omega (arith, ints, la))
    (one_more fine x lo r.above) e)
endpoints_kept coarse a b s k w g h (pos x) (pos y) (pos lo) (pos (suc hi)) n r p e f =
    root_kept coarse a b s k w x y lo hi g h n (one_more coarse x lo r.above)
    (one_less coarse y hi (r.below (omega (arith, ints)))) p e f r.ordered
endpoints_kept fine a b s k w g h (pos x) (pos y) (pos lo) (pos (suc hi)) n r p e f =
    root_kept fine a b s k w x y lo hi g h n (one_more fine x lo r.above)
    (one_less fine y hi (r.below (omega (arith, ints)))) p e f r.ordered

pub limited_by : (t : Bool) (w : ℕ) (b : Bound) (i : Interval) → (t ≡ true → IsNarrow w b i)
    → IsNarrow w (limited t b) i
unfolding IsNarrow
limited_by true w b i h = h refl
limited_by false w b i h = tt

digits_of : (n : ℕ) → n < 2 ^ 58 → IsRoot (n * 2 ^ 32) (root_by_digits 48 (n * 2 ^ 32))
digits_of n h = digits_are 48 (n * 2 ^ 32) (omega (arith, h))

-- the roots of numbers up to b lie from 0 to h, and so are no further apart than that
roots_within : (scale : Scale) → (a b s k w h : ℕ) (x y lo hi : ℤ) → AreKept scale (pos a) (pos b) s k w x y
    → AreRoots scale x y lo hi → b * 2 ^ 32 < h * h
    → AreKept scale (pos 0) (pos h) 0 (h * 2 ^ 32) w lo hi
roots_within coarse a b s k w h x y lo (negsuc hi) n r f = absurd (omega (arith, ints, r.natural, r.ordered))
roots_within fine a b s k w h x y lo (negsuc hi) n r f = absurd (omega (arith, ints, r.natural, r.ordered))
roots_within coarse a b s k w h x y lo (pos zero) n r f = record {
  ordered = r.ordered;
  above = omega (arith, ints, r.natural);
  below = omega (arith, ints);
  close = omega (arith, ints, r.natural);
}
roots_within fine a b s k w h x y lo (pos zero) n r f = record {
  ordered = r.ordered;
  above = omega (arith, ints, r.natural);
  below = omega (arith, ints);
  close = omega (arith, ints, r.natural);
}
roots_within coarse a b s k w h x (negsuc y) lo (pos (suc hi)) n r f = absurd (omega (arith, ints, n.ordered, n.above))
roots_within fine a b s k w h x (negsuc y) lo (pos (suc hi)) n r f = absurd (omega (arith, ints, n.ordered, n.above))
roots_within coarse a b s k w h x (pos y) lo (pos (suc hi)) n r f =
    let lb = n.below in
    let v = high_kept coarse b y hi h (omega (arith, ints, lb)) (one_less coarse y hi (r.below (omega (arith, ints)))) f
    in
    record {
      ordered = r.ordered;
      above = omega (arith, ints, r.natural);
      below = omega (arith, ints, v);
      close = omega (arith, ints, v, r.natural);
    }
roots_within fine a b s k w h x (pos y) lo (pos (suc hi)) n r f =
    let lb = n.below in
    let v = high_kept fine b y hi h (omega (arith, ints, lb)) (one_less fine y hi (r.below (omega (arith, ints)))) f in
    record {
      ordered = r.ordered;
      above = omega (arith, ints, r.natural);
      below = omega (arith, ints, v);
      close = omega (arith, ints, v, r.natural);
    }

around_narrow : (scale : Scale) → (w a b s k g h : ℕ) (x y lo hi : ℤ) (i : Interval) → g * g ≤ a * 2 ^ 32
    → b * 2 ^ 32 < h * h → AreRoots scale x y lo hi
    → ShowsEndpoints scale lo hi i → AreKept scale (pos a) (pos b) s k w x y
    → IsNarrow w (root_around (limits_on scale) g h s k) i
around_narrow coarse w a b s k zero h x y lo hi i e f r v n = limited_narrow coarse _ _ _ _ _ w lo hi i
    (λ u. ltb-true _ _ u)
    (roots_within coarse a b s k w h x y lo hi n r f) v
around_narrow fine w a b s k zero h x y lo hi i e f r v n = limited_narrow fine _ _ _ _ _ w lo hi i
    (λ u. ltb-true _ _ u)
    (roots_within fine a b s k w h x y lo hi n r f) v
around_narrow coarse w a b s k (suc g) h x y lo hi i e f r v n = limited_narrow coarse _ _ _ _ _ w lo hi i
    (λ u. ltb-true _ _ u)
    (endpoints_kept coarse a b s k w (suc g) h x y lo hi n r (omega arith) e f) v
around_narrow fine w a b s k (suc g) h x y lo hi i e f r v n = limited_narrow fine _ _ _ _ _ w lo hi i
    (λ u. ltb-true _ _ u)
    (endpoints_kept fine a b s k w (suc g) h x y lo hi n r (omega arith) e f) v

bounded_narrow : (scale : Scale) → (w a b s k : ℕ) (x y lo hi : ℤ) (i : Interval) → a < 2 ^ 58 → b < 2 ^ 58
    → AreRoots scale x y lo hi → ShowsEndpoints scale lo hi i
    → AreKept scale (pos a) (pos b) s k w x y
    → IsNarrow w (root_around (limits_on scale) (root_by_digits 48 (a * 2 ^ 32)) (suc (root_by_digits 48 (b * 2 ^ 32)))
    s k) i
bounded_narrow scale w a b s k x y lo hi i p q r v n =
    let d = digits_of a p in
    let e = digits_of b q in
    around_narrow scale w a b s k (root_by_digits 48 (a * 2 ^ 32)) (suc (root_by_digits 48 (b * 2 ^ 32))) x y lo hi i
    d.under e.next r v n

-- the root of 0 is 0
zero_roots : (scale : Scale) → (a s k w : ℕ) (x y lo hi : ℤ) → AreKept scale (pos a) (pos 0) s k w x y
    → AreRoots scale x y lo hi
    → AreKept scale (pos 0) (pos 0) 0 0 w lo hi
zero_roots scale a s k w x y lo (negsuc hi) n r = absurd (omega (arith, ints, r.natural, r.ordered))
zero_roots coarse a s k w x y lo (pos zero) n r = record {
  ordered = r.ordered;
  above = omega (arith, ints, r.natural);
  below = omega (arith, ints);
  close = omega (arith, ints, r.natural);
}
zero_roots fine a s k w x y lo (pos zero) n r = record {
  ordered = r.ordered;
  above = omega (arith, ints, r.natural);
  below = omega (arith, ints);
  close = omega (arith, ints, r.natural);
}
zero_roots coarse a s k w x (negsuc y) lo (pos (suc hi)) n r = absurd (omega (arith, ints, n.ordered, n.above))
zero_roots fine a s k w x (negsuc y) lo (pos (suc hi)) n r = absurd (omega (arith, ints, n.ordered, n.above))
zero_roots coarse a s k w x (pos y) lo (pos (suc hi)) n r = let e : y
    ≡ 0 = omega (arith, ints, n.below) in
    absurd (omega (arith, one_less coarse y hi (r.below (omega (arith, ints))), e))
zero_roots fine a s k w x (pos y) lo (pos (suc hi)) n r = let e : y
    ≡ 0 = omega (arith, ints, n.below) in absurd (omega (arith, one_less fine y hi (r.below (omega (arith, ints))), e))

pub root_narrow : (scale : Scale) → (w : ℕ) (p : Bound) (x y lo hi : ℤ) (i : Interval) → AreRoots scale x y lo hi
    → ShowsEndpoints scale lo hi i
    → IsNarrow w p (between (at_scale scale x) (at_scale scale y)) → IsNarrow w (root_bound (limits_on scale) p) i
unfolding root_bound IsNarrow
root_narrow coarse w unbounded x y lo hi i r v h = tt
root_narrow fine w unbounded x y lo hi i r v h = tt
root_narrow coarse w (bounded (negsuc a) b s k) x y lo hi i r v h = tt
root_narrow fine w (bounded (negsuc a) b s k) x y lo hi i r v h = tt
root_narrow coarse w (bounded (pos a) (negsuc b) s k) x y lo hi i r v h = tt
root_narrow fine w (bounded (pos a) (negsuc b) s k) x y lo hi i r v h = tt
root_narrow coarse w (bounded (pos a) (pos zero) s k) x y lo hi i r v h =
    limited_narrow coarse _ _ _ _ _ w lo hi i (λ l. omega arith)
    (zero_roots coarse a s k w x y lo hi (kept_of coarse _ _ _ _ _ _ _ h) r) v
root_narrow fine w (bounded (pos a) (pos zero) s k) x y lo hi i r v h =
    limited_narrow fine _ _ _ _ _ w lo hi i (λ l. omega arith)
    (zero_roots fine a s k w x y lo hi (kept_of fine _ _ _ _ _ _ _ h) r) v
root_narrow coarse w (bounded (pos a) (pos (suc b)) s k) x y lo hi i r v h =
    limited_by _ w _ i λ t.
    let c = both _ _ (both _ _ t).0 in
    bounded_narrow coarse w a (suc b) s k x y lo hi i (ltb-true _ _ c.0) (ltb-true _ _ c.1) r v
    (kept_of coarse _ _ _ _ _ _ _ h)
root_narrow fine w (bounded (pos a) (pos (suc b)) s k) x y lo hi i r v h =
    limited_by _ w _ i λ t.
    let l : suc b < 2 ^ 46 = ltb-true _ _ (both _ _ t).1 in
    let m = kept_of fine _ _ _ _ _ _ _ h in
    let n : a ≤ suc b = omega (arith, ints, m.ordered, m.above, m.below) in
    bounded_narrow fine w a (suc b) s k x y lo hi i (omega (arith, l, n)) (omega (arith, l)) r v m

pub root_of_all : (w : ℕ) (l : Limits) (x : Bound) (i : Interval) → IsNarrow w x everything
    → IsNarrow w (root_bound l x) i
unfolding root_bound IsNarrow
root_of_all w l unbounded i h = tt
root_of_all w l (bounded a b s k) i h = absurd h

-- ---- the bound of what is cut to -1..1
cut_kept : (scale : Scale) → (a b : ℤ) (s k w : ℕ) (x y lo hi : ℤ) → lo ≡ cut_of scale x → hi ≡ cut_of scale y
    → AreKept scale a b s k w x y
    → AreKept scale (cut_32 a) (cut_32 b) s k w lo hi
cut_kept coarse a b s k w x y lo hi e f h = record {
  ordered = omega (arith, ints, clamps, e, f, h.ordered);
  above = omega (arith, ints, clamps, e, h.above);
  below = omega (arith, ints, clamps, f, h.below);
  close = omega (arith, ints, clamps, e, f, h.ordered, h.close);
}
cut_kept fine a b s k w x y lo hi e f h = record {
  ordered = omega (arith, ints, clamps, e, f, h.ordered);
  above = omega (arith, ints, clamps, e, h.above);
  below = omega (arith, ints, clamps, f, h.below);
  close = omega (arith, ints, clamps, e, f, h.ordered, h.close);
}

pub clamp_narrow : (scale : Scale) → (w : ℕ) (p : Bound) (x y lo hi : ℤ) → lo ≡ cut_of scale x → hi ≡ cut_of scale y
    → IsNarrow w p (between (at_scale scale x) (at_scale scale y))
    → IsNarrow w (clamp_bound p) (between (at_scale scale lo) (at_scale scale hi))
unfolding clamp_bound IsNarrow
clamp_narrow scale w unbounded x y lo hi e f h = tt
clamp_narrow scale w (bounded a b s k) x y lo hi e f h = spans_of scale _ _ _ _ _ lo hi
    (cut_kept scale a b s k w x y lo hi e f (kept_of scale _ _ _ _ _ _ _ h))

pub clamp_of_all : (w : ℕ) (x : Bound) (i : Interval) → IsNarrow w x everything → IsNarrow w (clamp_bound x) i
unfolding clamp_bound IsNarrow
clamp_of_all w unbounded i h = tt
clamp_of_all w (bounded a b s k) i h = absurd h

-- ---- as expressions
pub narrow_root : {E : Type 0} (shown : E → Interval) (bits : ℕ) (r : Reach) (x : Expression) (i k : E)
    → ((w : ℕ) (a : Bound) → IsNarrow w a (shown i) → IsNarrow w (root_bound (limits_of bits) a) (shown k))
    → Narrow shown (limits_of bits) r x i
    → Narrow shown (limits_of bits) r (root x) k
unfolding Keeps bound_of
narrow_root shown bits r x i k h p = record { kept = h r.width _ p.kept }

pub narrow_clamp : {E : Type 0} (shown : E → Interval) (l : Limits) (r : Reach) (x : Expression) (i k : E)
    → ((w : ℕ) (a : Bound) → IsNarrow w a (shown i) → IsNarrow w (clamp_bound a) (shown k)) → Narrow shown l r x i
    → Narrow shown l r (clamp_of x) k
unfolding Keeps bound_of
narrow_clamp shown l r x i k h p = record { kept = h r.width _ p.kept }

-- at a scale
pub narrow_root_at : (scale : Scale) → {E : Type 0} (shown : E → Interval) (r : Reach) (x : Expression) (i k : E)
    → ((w : ℕ) (a : Bound) → IsNarrow w a (shown i) → IsNarrow w (root_bound (limits_on scale) a) (shown k))
    → Narrow shown (limits_of (bits_of scale)) r x i
    → Narrow shown (limits_of (bits_of scale)) r (root x) k
unfolding Keeps bound_of limits_of
narrow_root_at coarse shown r x i k h p = record { kept = h r.width _ p.kept }
narrow_root_at fine shown r x i k h p = record { kept = h r.width _ p.kept }
