-- Bounds at coarser scales by those at the finest: the ranges are the same, and the widths grow by no more than the
-- unit does. So what is computed at the scale 2^-56 alone holds at each scale from 2^-36 on.
use Rattle.std.specs.Prelude.{◌≡◌, ℕ, zero, suc, ◌+◌, ◌-◌, ◌*◌, ◌^◌, ◌≤◌, ◌<◌, ◌&&◌, ℤ, pos, Bool, true, false, nat_le}
use Rattle.std.specs.Prelude.{nat_lt, refl, List, length, slice_index_or, unsigned_abs, ◌+ℤ◌, ◌*ℤ◌}
use Rattle.std.specs.Int.{int_min, int_max}
use lib.Signed.{le_z}
use Rattle.std.proofs.Common.{arith}
use Rattle.std.proofs.Math.Nat.{mul-le-mul_right, mul-le-mul_left}
use Rattle.std.proofs.lemmas.Int.{ints, by_lt_z}
use Rattle.std.proofs.lemmas.Bool.{ltb-true, leb-true, lt-ltb, le-leb}
use Rattle.book_model.specs.Fraction.{Fraction, floor_quotient}
use Rattle.book_model.specs.declared.frac.Frac.{Frac}
use Rattle.book_model.specs.declared.tables.TheConstants.{SECOND}
use Rattle.book_model.specs.numbers.Bounds.{Bound, bounded, unbounded, Limits, limited, range_size, ceil_div}
use Rattle.book_model.specs.numbers.Bounds.{ceil_quotient, floor_at_32, ceil_at_32, bound_of, implies, integer_bound}
use Rattle.book_model.specs.numbers.Bounds.{constant_bound, sum_bound, scaled_bound}
use Rattle.book_model.specs.numbers.Expressions.{integer, constant, add, scale}
use Rattle.book_model.specs.numbers.Fractions.{fraction_of}
use Rattle.book_model.specs.sky.Correction.{int_power, polynomial_to, polynomial_of, seconds_of, no_fraction}
use Rattle.book_model.specs.sky.Time.{hundreds_of, centuries_to_july}
use Rattle.book_model.specs.declared.correction_rows.CorrectionForm.{CorrectionForm}
use Rattle.book_model.specs.declared.correction_rows.CorrectionForm.TheVariants.{SecondsSince, SecondsByHundreds}
use Rattle.book_model.specs.declared.correction_rows.CorrectionForm.TheVariants.{DaysByCenturies}
use Rattle.book_model.proofs.CorrectionRows.{both}
use Rattle.time_scales.specs.Corrections.{computed_by}
use Rattle.time_scales.specs.Horner.{horner_to, horner_of}

-- the unit of the scale 2^-56, and what each scale bears
abbrev pub finest : Limits
finest = record { unit = 2 ^ 8; sizes = 2 ^ 58; products = 0; constants = 2 ^ 70; factors = 2 ^ 102 }

-- limits whose unit is p times the finest, and that bear what each scale does
pub record AreCoarser (p : ℕ) (l : Limits) : Type 0 where
  pub unit : l.unit ≡ p * 2 ^ 8
  pub sizes : 2 ^ 58 ≤ l.sizes
  pub constants : 2 ^ 70 ≤ l.constants
  pub factors : 2 ^ 102 ≤ l.factors

-- the same range, and at most p times the width
pub record IsCoarser (p : ℕ) (a b : ℤ) (s k : ℕ) (c d : ℤ) (t m : ℕ) : Type 0 where
  pub low : c ≡ a
  pub high : d ≡ b
  pub slope : t ≡ s
  pub width : m ≤ p * k

abbrev pub Coarser : ℕ → Bound → Bound → Type 0
Coarser p unbounded y = Unit {0}
Coarser p (bounded a b s k) unbounded = ⊥
Coarser p (bounded a b s k) (bounded c d t m) = IsCoarser p a b s k c d t m

-- ---- the operations
coarser_limited : (p : ℕ) (t u : Bool) (a b : ℤ) (s k m : ℕ) → (t ≡ true → u ≡ true) → m ≤ p * k
    → Coarser p (limited t (bounded a b s k)) (limited u (bounded a b s m))
coarser_limited p false u a b s k m f h = tt
coarser_limited p true u a b s k m f h = rw (f refl) (record { low = refl; high = refl; slope = refl; width = h })

below_more : (n a b : ℕ) → a ≤ b → nat_lt n a ≡ true → nat_lt n b ≡ true
below_more n a b h e = let l = ltb-true n a e in lt-ltb n b (omega arith)

both_below : (n a b m c d : ℕ) → a ≤ b → c ≤ d → (nat_lt n a && nat_lt m c) ≡ true → (nat_lt n b && nat_lt m d) ≡ true
both_below n a b m c d h k e =
    let t = both (nat_lt n a) (nat_lt m c) e in rw (below_more n a b h t.0, below_more m c d k t.1) refl

coarser_integer : (p : ℕ) (l : Limits) (n : ℤ) → AreCoarser p l → Coarser p (integer_bound finest n) (integer_bound l n)
unfolding integer_bound
coarser_integer p l n h =
    let size = unsigned_abs n * 2 ^ 32 in
    let at = n *ℤ pos (2 ^ 32) in
    coarser_limited p (nat_lt size (2 ^ 58)) (nat_lt size l.sizes) at at 0 0 0
    (below_more size (2 ^ 58) l.sizes h.sizes) (omega arith)

coarser_constant : (p : ℕ) (l : Limits) (f : Fraction) → AreCoarser p l
    → Coarser p (constant_bound finest f) (constant_bound l f)
unfolding constant_bound
coarser_constant p l f h =
    let num = unsigned_abs f.num in
    let size = range_size (floor_at_32 f) (ceil_at_32 f) in
    coarser_limited p (nat_lt num (2 ^ 70) && nat_lt size (2 ^ 58)) (nat_lt num l.constants && nat_lt size l.sizes)
    (floor_at_32 f) (ceil_at_32 f) 0 (2 ^ 8)
    l.unit (both_below num (2 ^ 70) l.constants size (2 ^ 58) l.sizes h.constants h.sizes) (omega (arith, h.unit))

added : (p k m k' m' : ℕ) → k' ≤ p * k → m' ≤ p * m → k' + m' ≤ p * (k + m)
added p k m k' m' h i = omega arith

coarser_sum : (p : ℕ) (l : Limits) (x y x' y' : Bound) → AreCoarser p l → Coarser p x x' → Coarser p y y'
    → Coarser p (sum_bound finest x y) (sum_bound l x' y')
unfolding sum_bound
coarser_sum p l unbounded y x' y' h i j = tt
coarser_sum p l (bounded a b s k) unbounded x' y' h i j = tt
coarser_sum p l (bounded a b s k) (bounded c d t m) unbounded y' h i j = absurd i
coarser_sum p l (bounded a b s k) (bounded c d t m) (bounded a' b' s' k') unbounded h i j = absurd j
coarser_sum p l (bounded a b s k) (bounded c d t m) (bounded a' b' s' k') (bounded c' d' t' m') h i j =
    rw (i.low, i.high, i.slope, j.low, j.high, j.slope)
    (let size = range_size (a +ℤ c) (b +ℤ d) in
    coarser_limited p (nat_lt size (2 ^ 58)) (nat_lt size l.sizes) (a +ℤ c) (b +ℤ d) (s + t) (k + m) (k' + m')
    (below_more size (2 ^ 58) l.sizes h.sizes)
    (added p k m k' m' i.width j.width))

-- n is at most its quotient, rounded up, times the divisor; and a quotient is at most what it is at most by the divisor
ceil_above : (n d : ℕ) → n ≤ ceil_div n d * suc d
ceil_above n d = omega arith

ceil_floor : (n d : ℕ) → ceil_div n d * suc d ≤ n + d
ceil_floor n d = omega arith

no_more : (t q d n : ℕ) → q < t → t * suc d ≤ n + d → n ≤ q * suc d → ⊥
no_more t q d n l h k =
    let g : (q + 1) * suc d ≤ t * suc d = mul-le-mul_right (suc d) (omega (arith, l)) in
    omega (arith, g, h, k)

ceil_least : (n d q : ℕ) → n ≤ q * suc d → ceil_div n d ≤ q
ceil_least n d q h =
    by_lt_z (pos q) (pos (ceil_div n d)) (λ l. absurd (no_more (ceil_div n d) q d n (omega (arith, ints, l))
    (ceil_floor n d) h))
    (λ k. omega (arith, ints, k))

scaled_width : (p k k' N d u : ℕ) → k' ≤ p * k → u ≡ p * 2 ^ 8
    → ceil_div (k' * N) d + 2 * u ≤ p * (ceil_div (k * N) d + 2 * 2 ^ 8)
scaled_width p k k' N d u h e = by_quotient (ceil_div (k * N) d) (ceil_above (k * N) d)
  where
    by_quotient : (q : ℕ) → k * N ≤ q * suc d → ceil_div (k' * N) d + 2 * u ≤ p * (q + 2 * 2 ^ 8)
    by_quotient q a =
        let b : k' * N ≤ (p * k) * N = mul-le-mul_right N h in
        let c : p * (k * N) ≤ p * (q * suc d) = mul-le-mul_left p a in
        let f : k' * N ≤ (p * q) * suc d = omega (arith, b, c) in
        let g = ceil_least (k' * N) d (p * q) f in
        omega (arith, g, e)

coarser_scaled : (p : ℕ) (l : Limits) (f : Fraction) (x x' : Bound) → AreCoarser p l → Coarser p x x'
    → Coarser p (scaled_bound finest f x) (scaled_bound l f x')
unfolding scaled_bound
coarser_scaled p l f unbounded x' h i = tt
coarser_scaled p l f (bounded a b s k) unbounded h i = absurd i
coarser_scaled p l f (bounded a b s k) (bounded c d t m) h i =
    rw (i.low, i.high, i.slope)
    (let low = int_min (floor_quotient (a *ℤ f.num) f.below) (floor_quotient (b *ℤ f.num) f.below) in
    let high = int_max (ceil_quotient (a *ℤ f.num) f.below) (ceil_quotient (b *ℤ f.num) f.below) in
    let most = range_size a b * unsigned_abs f.num in
    let size = range_size low high in
    coarser_limited p (nat_lt most (2 ^ 102) && nat_lt size (2 ^ 58)) (nat_lt most l.factors && nat_lt size l.sizes)
    low high (ceil_div (s * unsigned_abs f.num) f.below)
    (ceil_div (k * unsigned_abs f.num) f.below + 2 * 2 ^ 8) (ceil_div (m * unsigned_abs f.num) f.below + 2 * l.unit)
    (both_below most (2 ^ 102) l.factors size (2 ^ 58) l.sizes h.factors h.sizes)
    (scaled_width p k m (unsigned_abs f.num) f.below l.unit i.width h.unit))

-- ---- ΔT
module _ (p : ℕ) (l : Limits) (h : AreCoarser p l) (r : ℕ → Bound) where
  coarser_horner : (cs : List Frac) (c : Fraction) (k : ℕ)
      → Coarser p (bound_of finest r (horner_to cs c k)) (bound_of l r (horner_to cs c k))
  unfolding horner_to bound_of
  coarser_horner cs c zero = coarser_integer p l (pos 0) h
  coarser_horner cs c (suc k) = coarser_sum p l _ _ _ _ h (coarser_scaled p l c _ _ h (coarser_horner cs c k))
      (coarser_constant p l (fraction_of (slice_index_or cs (length cs - suc k) no_fraction)) h)

  coarser_polynomial : (cs : List Frac) (x : ℤ) (n : ℕ)
      → Coarser p (bound_of finest r (polynomial_to cs x n)) (bound_of l r (polynomial_to cs x n))
  unfolding polynomial_to bound_of
  coarser_polynomial cs x zero = coarser_integer p l (pos 0) h
  coarser_polynomial cs x (suc n) = coarser_sum p l _ _ _ _ h (coarser_polynomial cs x n)
      (coarser_scaled p l (fraction_of (slice_index_or cs n no_fraction)) _ _ h (coarser_integer p l (int_power x n) h))

  pub coarser_correction : (form : CorrectionForm) (cs : List Frac) (y : ℤ)
      → Coarser p (bound_of finest r (computed_by form cs y)) (bound_of l r (computed_by form cs y))
  unfolding computed_by seconds_of polynomial_of horner_of bound_of
  coarser_correction (SecondsSince origin) cs y = coarser_scaled p l (fraction_of SECOND) _ _ h
      (coarser_polynomial cs _ (length cs))
  coarser_correction SecondsByHundreds cs y = coarser_scaled p l (fraction_of SECOND) _ _ h
      (coarser_horner cs (hundreds_of y) (length cs))
  coarser_correction DaysByCenturies cs y = coarser_horner cs (centuries_to_july y) (length cs)

all_true : (p q r t : Bool) → p ≡ true → q ≡ true → r ≡ true → t ≡ true → (p && q && r && t) ≡ true
all_true p q r t e f g h = rw (e, f, g, h) refl

-- what a bound at the finest scale implies, one that is p times as wide at most implies too, p times as wide
pub implied : (p u W : ℕ) (x y : Bound) → W ≡ p * 2 ^ 8 → Coarser p x y → (low high : ℤ)
    → implies x (bounded low high 0 (u * 2 ^ 8)) ≡ true
    → implies y (bounded low high 0 (u * W)) ≡ true
unfolding implies
implied p u W unbounded y w h low high e = absurd (cc)
implied p u W (bounded a b s k) unbounded w h low high e = absurd h
implied p u W (bounded a b s k) (bounded c d t m) w h low high e =
    let f = both (le_z low a && le_z b high && nat_le s 0) (nat_le k (u * 2 ^ 8)) e in
    let g = both (le_z low a && le_z b high) (nat_le s 0) f.0 in
    let i = both (le_z low a) (le_z b high) g.0 in
    let v : p * k ≤ p * (u * 2 ^ 8) = mul-le-mul_left p (leb-true k (u * 2 ^ 8) f.1) in
    let z : m ≤ u * W = rw w (omega (arith, h.width, v)) in
    rw (h.low, h.high, h.slope) (all_true _ _ _ _ i.0 i.1 g.1 (le-leb m (u * W) z))
