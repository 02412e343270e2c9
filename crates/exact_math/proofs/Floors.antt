-- The greatest whole number that is not above a fraction: it keeps the order, and lies less than 1 below.
use Rattle.std.specs.Prelude.{ℕ, ℤ, pos, negsuc, ◌+◌, ◌*◌, ◌/◌, ◌≤◌, ◌<◌, ◌+ℤ◌, ◌*ℤ◌, ◌≤ℤ◌, ◌<ℤ◌}
use Rattle.std.proofs.Common.{suc, arith, ◌⊎◌, inl, inr}
use Rattle.std.proofs.lemmas.Int.{ints}
use Rattle.std.proofs.Math.Nat.{mul-le-mul_left}
use Rattle.exact_math.proofs.IntLaws.{add_mul}
use Rattle.exact_math.specs.Fraction.{Fraction, ◌≤F◌, ◌<F◌, whole, floor_quotient, floor}

-- quotients keep the order of fractions
quotient_mono : (a b d e : ℕ) → a * suc e ≤ b * suc d → a / suc d ≤ b / suc e
quotient_mono a b d e h = go (compare_with (a / suc d) (b / suc e))
  where
    compare_with : (p q : ℕ) → (p ≤ q) ⊎ (q + 1 ≤ p)
    compare_with p q = grind arith

    go : ((a / suc d ≤ b / suc e) ⊎ (b / suc e + 1 ≤ a / suc d)) → a / suc d ≤ b / suc e
    go (inl k) = k
    go (inr k) =
        let low : (a / suc d) * suc d ≤ a = omega arith in
        let high : b < (b / suc e + 1) * suc e = omega arith in
        let l = mul-le-mul_left (suc e) low in
        let m = mul-le-mul_left (suc d) high in
        let n = mul-le-mul_left (suc d * suc e) k in
        absurd (omega (arith, l, m, n))

-- the same for the numbers below 0
quotient_below : (m n d e : ℕ) → suc m * suc d ≤ suc n * suc e → m / suc e ≤ n / suc d
quotient_below m n d e h = go (compare_with (m / suc e) (n / suc d))
  where
    compare_with : (p q : ℕ) → (p ≤ q) ⊎ (q + 1 ≤ p)
    compare_with p q = grind arith

    go : ((m / suc e ≤ n / suc d) ⊎ (n / suc d + 1 ≤ m / suc e)) → m / suc e ≤ n / suc d
    go (inl k) = k
    go (inr k) =
        let low : (m / suc e) * suc e + 1 ≤ suc m = omega arith in
        let high : suc n ≤ (n / suc d + 1) * suc d = omega arith in
        let l = mul-le-mul_left (suc d) low in
        let r = mul-le-mul_left (suc e) high in
        let t = mul-le-mul_left (suc d * suc e) k in
        absurd (omega (arith, l, r, t))

pub floor_quotient_mono : (n m : ℤ) (d e : ℕ) → (n *ℤ pos (suc e)) ≤ℤ (m *ℤ pos (suc d))
    → floor_quotient n d ≤ℤ floor_quotient m e
floor_quotient_mono (pos a) (pos b) d e h = let k = quotient_mono a b d e (omega (arith, ints)) in omega (arith, ints)
floor_quotient_mono (pos a) (negsuc b) d e h = absurd (omega (arith, ints))
floor_quotient_mono (negsuc a) (pos b) d e h = omega (arith, ints)
floor_quotient_mono (negsuc a) (negsuc b) d e h = let k = quotient_below b a d e (omega (arith, ints)) in
    omega (arith, ints)

pub floor_mono : (a b : Fraction) → a ≤F b → floor a ≤ℤ floor b
floor_mono a b h = floor_quotient_mono a.num b.num a.below b.below h.cross

-- the quotient times the divisor is at most the number, and less than the divisor below it
pub record IsFloorQuotient (q n : ℤ) (d : ℕ) : Type 0 where
  pub not_above : (q *ℤ pos (suc d)) ≤ℤ n
  pub close : n <ℤ (q *ℤ pos (suc d) +ℤ pos (suc d))

nat_floor : (n d : ℕ) → ((n / suc d) * suc d ≤ n) × (n < (n / suc d) * suc d + suc d)
nat_floor n d = (omega arith, omega arith)

pub floor_quotient_is : (n : ℤ) (d : ℕ) → IsFloorQuotient (floor_quotient n d) n d
floor_quotient_is (pos n) d = let w = nat_floor n d in
    record { not_above = omega (arith, ints, w.0, w.1); close = omega (arith, ints, w.0, w.1) }
floor_quotient_is (negsuc n) d = let w = nat_floor n d in
    record { not_above = omega (arith, ints, w.0, w.1); close = omega (arith, ints, w.0, w.1) }

-- the floor of a fraction is at most it, and more than 1 less is not
pub floor_below : (a : Fraction) → whole (floor a) ≤F a
floor_below a = let h = floor_quotient_is a.num a.below in record { cross = omega (arith, ints, h.not_above) }

close_z : (n q : ℤ) (d : ℕ) → n <ℤ (q *ℤ pos (suc d) +ℤ pos (suc d)) → (n *ℤ pos 1) <ℤ ((q +ℤ pos 1) *ℤ pos (suc d))
close_z n q d h = rw (add_mul q (pos 1) (pos (suc d))) (omega (arith, ints, h))

pub floor_close : (a : Fraction) → a <F whole (floor a +ℤ pos 1)
floor_close a = record { strict = close_z a.num (floor a) a.below (floor_quotient_is a.num a.below).close }
