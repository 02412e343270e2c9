-- Spans and their days as quotients of whole numbers, and how large quotients get.
use Rattle.std.specs.Prelude.{◌≡◌, ℕ, suc, ◌+◌, ◌-◌, ◌*◌, ◌/◌, ◌≤◌, ◌<◌, ◌^◌, ℤ, pos, negsuc, ◌+ℤ◌, ◌*ℤ◌, ◌≤ℤ◌, refl}
use Rattle.std.proofs.Common.{zero, arith, ap, sym, ◌∙◌, SFits}
use Rattle.std.specs.Int.{w128}
use Rattle.std.proofs.lemmas.Int.{ints}
use Rattle.book_model.specs.Fraction.{floor_quotient, times, plus, reciprocal, below_product}
use Rattle.book_model.proofs.Floors.{floor_quotient_mono}
use Rattle.book_model.proofs.Fractions.{den_product}
use Rattle.book_model.proofs.IntLaws.{mul_assoc, mul_one}
use Rattle.std.proofs.Math.Nat.{mul-le-mul_right}
use Rattle.book_model.specs.calendars.Spans.{ratio, days_of, spans_of, days_of_years, months_of_days, years_of_days}
use Rattle.book_model.specs.calendars.Spans.{nearest}

-- the denominator of a product
below_is : (m n : ℕ) → suc m * suc n - 1 ≡ below_product m n
below_is m n = let e = den_product m n in omega (arith, ints, e)

-- the same, of the product of two denominators
over_is : (t d : ℕ) → (suc t - 1) * (suc d - 1) + (suc t - 1) + (suc d - 1) ≡ suc t * suc d - 1
over_is t d =
    let a : suc t - 1 ≡ t = omega arith in
    let b : suc d - 1 ≡ d = omega arith in
    rw (a, b) (sym (below_is t d))

first_is : (s d : ℕ) → (0 * s + 0 + s) * (suc d - 1) + (0 * s + 0 + s) + (suc d - 1) ≡ suc s * suc d - 1
first_is s d =
    let a : 0 * s + 0 + s ≡ s = omega arith in
    let b : suc d - 1 ≡ d = omega arith in
    rw (a, b) (sym (below_is s d))

-- the numerator of a sum
sum_is : (days n : ℤ) (s t d : ℕ) → (days *ℤ pos (suc (suc t - 1))) *ℤ pos (suc (suc d - 1)) +ℤ n *ℤ pos
    (suc (0 * s + 0 + s))
    ≡ days *ℤ pos (suc t * suc d) +ℤ n *ℤ pos (suc s)
sum_is days n s t d =
    let a : suc t - 1 ≡ t = omega arith in
    let b : suc d - 1 ≡ d = omega arith in
    let c : 0 * s + 0 + s ≡ s = omega arith in
    rw (a, b, c) (ap (λ x. x +ℤ n *ℤ pos (suc s)) (mul_assoc days (pos (suc t)) (pos (suc d))))

-- the days of a count as a quotient of whole numbers
pub days_as_quotient : (s n : ℤ) (t d : ℕ) → 0 < t → 0 < d → days_of (ratio s t) (ratio n d) ≡ floor_quotient (s *ℤ n)
    (t * d - 1)
unfolding days_of times
days_as_quotient s n zero d h k = absurd (omega arith)
days_as_quotient s n (suc t) zero h k = absurd (omega arith)
days_as_quotient s n (suc t) (suc d) h k = ap (floor_quotient (s *ℤ n)) (over_is t d)

pub spans_as_quotient : (days n : ℤ) (s t d : ℕ) → 0 < s → 0 < t → 0 < d
    → spans_of (ratio (pos s) t) days (ratio n d) ≡ floor_quotient (days *ℤ pos (t * d) +ℤ n *ℤ pos s) (s * d - 1)
unfolding spans_of times plus reciprocal
spans_as_quotient days n zero t d h k l = absurd (omega arith)
spans_as_quotient days n (suc s) zero d h k l = absurd (omega arith)
spans_as_quotient days n (suc s) (suc t) zero h k l = absurd (omega arith)
spans_as_quotient days n (suc s) (suc t) (suc d) h k l =
    ap (λ x. floor_quotient x ((0 * s + 0 + s) * (suc d - 1) + (0 * s + 0 + s) + (suc d - 1))) (sum_is days n s t d)
    ∙ ap (floor_quotient (days *ℤ pos (suc t * suc d) +ℤ n *ℤ pos (suc s))) (first_is s d)

pub years_are_spans : (days : ℤ) → years_of_days days ≡ spans_of (ratio (pos 365242189) 1000000) days (ratio (pos 1) 2)
unfolding years_of_days nearest spans_of
years_are_spans days = refl

pub months_are_spans : (days : ℤ) → months_of_days days ≡ spans_of (ratio (pos 29530588861) 1000000000) days
    (ratio (pos 1) 2)
unfolding months_of_days nearest spans_of
months_are_spans days = refl

pub years_have_days : (years : ℤ) → days_of_years years ≡ days_of (ratio (pos 365242189) 1000000) (ratio years 1)
unfolding days_of_years
years_have_days years = refl

-- a quotient lies between two numbers where the number lies between their products with the divisor
pub record LiesWithin (low high z : ℤ) : Type 0 where
  pub from : low ≤ℤ z
  pub to : z ≤ℤ high

-- so many parts times a count of which spans are taken
abbrev pub WithinCounts : ℕ → ℤ → Type 0
WithinCounts parts z = LiesWithin (negsuc 99999999 *ℤ pos parts) (pos 100000000 *ℤ pos parts) z

-- a number whose quotient by a divisor lies from -100,000,000,000 to 100,000,000,000
abbrev pub WithinQuotients : ℕ → ℤ → Type 0
WithinQuotients divisor z = LiesWithin (negsuc 99999999999 *ℤ pos divisor) (pos 100000000000 *ℤ pos divisor) z

pub quotient_lies : (n : ℤ) (d a b : ℕ) → 0 < d → (negsuc a *ℤ pos d) ≤ℤ n → n ≤ℤ (pos b *ℤ pos d)
    → LiesWithin (negsuc a) (pos b) (floor_quotient n (d - 1))
quotient_lies n zero a b h k l = absurd (omega arith)
quotient_lies n (suc d) a b h k l =
    let e : suc d - 1 ≡ d = omega arith in
    let low = floor_quotient_mono (negsuc a) n 0 d (rw (mul_one n) k) in
    let high = floor_quotient_mono n (pos b) d 0 (rw (mul_one n) l) in
    let one : (m : ℕ) → m / 1 ≡ m = λ m. omega arith in
    rw e (record { from = rw (one a) at low; to = rw (one b) at high })

-- a count of at most 100,000,000 either way times a number of parts
pub product_lies : (n : ℤ) (p : ℕ) → negsuc 99999999 ≤ℤ n → n ≤ℤ pos 100000000 → WithinCounts p (n *ℤ pos p)
product_lies (pos n) p h k =
    let low : pos 0 ≤ℤ pos (n * p) = omega (arith, ints) in
    let many : n * p ≤ 100000000 * p = mul-le-mul_right p (omega (arith, ints, k)) in
    record { from = omega (arith, ints); to = omega (arith, ints, many) }
product_lies (negsuc n) p h k =
    let many : suc n * p ≤ 100000000 * p = mul-le-mul_right p (omega (arith, ints, h)) in
    record { from = omega (arith, ints, many); to = omega (arith, ints) }

-- the number of a count of spans lies within the quotient's bounds
pub days_lie : (n : ℤ) (s t d : ℕ) → WithinCounts s n → s ≤ 1000 * t → 0 < d → WithinQuotients (t * d) n
days_lie n s t zero h k l = absurd (omega arith)
days_lie n s t (suc d) h k l =
    let more : t ≤ t * suc d = grind arith in
    let low : (negsuc 99999999 *ℤ pos s) ≤ℤ n = h.from in
    let high : n ≤ℤ (pos 100000000 *ℤ pos s) = h.to in
    record { from = omega (arith, ints, more, low, k); to = omega (arith, ints, more, high, k) }

-- the number of a sum of days and spans lies within the quotient's bounds
pub sums_lie : (n m : ℤ) (s t d : ℕ) → WithinCounts (t * d) n → WithinCounts s m → t ≤ s → 0 < d
    → WithinQuotients (s * d) (n +ℤ m)
sums_lie n m s t zero h k l o = absurd (omega arith)
sums_lie n m s t (suc d) h k l o =
    let more : s ≤ s * suc d = grind arith in
    let less : t * suc d ≤ s * suc d = mul-le-mul_right (suc d) l in
    let low : (negsuc 99999999 *ℤ pos (t * suc d)) ≤ℤ n = h.from in
    let high : n ≤ℤ (pos 100000000 *ℤ pos (t * suc d)) = h.to in
    let low_m : (negsuc 99999999 *ℤ pos s) ≤ℤ m = k.from in
    let high_m : m ≤ℤ (pos 100000000 *ℤ pos s) = k.to in
    record { from = omega (arith, ints, more, less, low, low_m); to = omega (arith, ints, more, less, high, high_m) }

-- the sum fits 128 bits
pub sum_fits : (n : ℤ) (s d : ℕ) → WithinQuotients (s * d) n → s ≤ 2 ^ 35 → d < 2 ^ 16 → SFits w128 n
sum_fits n s d h k l =
    let most : s * d ≤ 2 ^ 35 * d = mul-le-mul_right d k in
    let low : (negsuc 99999999999 *ℤ pos (s * d)) ≤ℤ n = h.from in
    let high : n ≤ℤ (pos 100000000000 *ℤ pos (s * d)) = h.to in
    omega (arith, ints, most, low, high, l)

-- a product of positive numbers is positive
pub product_above : (s d : ℕ) → 0 < s → 0 < d → 0 < s * d
product_above s d h k = grind arith
