-- Rounded quotients, over plain numbers. What is linear is left to omega, over the cases of a number's sign; an
-- inequality with products is a certificate, a sum of products of the inequalities that are known (`le_by`), which a
-- normal form checks. So the definitions' quotients and those of the language lead to `IsFloor` and `IsCeiling`, by
-- which the crates above go, and rounding outwards keeps order.
use Rattle.std.proofs.Common.{◌≡◌, ℕ, zero, suc, ◌+◌, ◌-◌, ◌*◌, ◌/◌, ◌^◌, ◌≤◌, ◌<◌, refl, arith, ℤ, pos, negsuc, ◌+ℤ◌}
use Rattle.std.proofs.Common.{◌*ℤ◌, ◌≤ℤ◌, ◌<ℤ◌, [], ◌∷◌}
use Rattle.std.specs.Prelude.{int_div, neg_ℤ}
use Rattle.std.specs.Int.{int_div_euclid}
use Rattle.std.proofs.lemmas.Int.{ints}
use Rattle.exact_math.specs.Fraction.{floor_quotient}
use Rattle.exact_math.proofs.Ring.{at, lit, ◌⊕◌, ◌⊗◌}
use Rattle.exact_math.proofs.Bounds.{◌≼◌, known, ◌⊞◌, ◌⊠◌, times as naturally, le_by, le_over, refute}
use Rattle.exact_math.proofs.Floors.{floor_quotient_is}
use Rattle.int_division.specs.Rounding.{IsFloor, IsCeiling, AreSorted}

-- a number below another is at most one less
pub next_le : (a b : ℤ) → a <ℤ b → (a +ℤ pos 1) ≤ℤ b
next_le a b h = omega (arith, ints)

-- a number that is at most one less is below
pub lt_next : (a b : ℤ) → (a +ℤ pos 1) ≤ℤ b → a <ℤ b
lt_next a b h = omega (arith, ints)

-- the order of whole numbers is transitive
pub ≤ℤ_trans : (a b c : ℤ) → a ≤ℤ b → b ≤ℤ c → a ≤ℤ c
≤ℤ_trans a b c h k = omega (arith, ints)

-- the euclidean quotient by a positive number is rounded down
pub floor_div_is : (n d : ℤ) → pos 0 <ℤ d → IsFloor (int_div_euclid n d) n d
floor_div_is (pos n) (pos (suc d)) h = record { not_above = omega (arith, ints); close = omega (arith, ints) }
floor_div_is (negsuc n) (pos (suc d)) h = record { not_above = omega (arith, ints); close = omega (arith, ints) }
floor_div_is n (pos zero) h = absurd (omega (arith, ints))
floor_div_is n (negsuc d) h = absurd (omega (arith, ints))

-- the quotient towards 0 of a number that isn't negative is rounded down
pub quotient_down : (n d : ℤ) → pos 0 ≤ℤ n → pos 0 <ℤ d → IsFloor (int_div n d) n d
quotient_down (pos n) (pos (suc d)) h o = record { not_above = omega (arith, ints); close = omega (arith, ints) }
quotient_down (negsuc n) d h o = absurd (omega (arith, ints))
quotient_down n (pos zero) h o = absurd (omega (arith, ints))
quotient_down n (negsuc d) h o = absurd (omega (arith, ints))

below_zero : (q d n : ℕ) → q * suc d ≤ suc n → suc n < q * suc d + suc d
    → IsCeiling (neg_ℤ (pos q)) (negsuc n) (pos (suc d))
below_zero zero d n h k = record { not_below = omega (arith, ints); close = omega (arith, ints) }
below_zero (suc q) d n h k = record { not_below = omega (arith, ints); close = omega (arith, ints) }

-- and that of a number that isn't positive is rounded up
pub quotient_up : (n d : ℤ) → n ≤ℤ pos 0 → pos 0 <ℤ d → IsCeiling (int_div n d) n d
quotient_up (pos n) (pos (suc d)) h o = record { not_below = omega (arith, ints); close = omega (arith, ints) }
quotient_up (negsuc n) (pos (suc d)) h o = below_zero (suc n / suc d) d n (omega arith) (omega arith)
quotient_up n (pos zero) h o = absurd (omega (arith, ints))
quotient_up n (negsuc d) h o = absurd (omega (arith, ints))

-- a quotient above the number refutes itself
room_z : (q m d : ℤ) → (q *ℤ d) ≤ℤ m → pos 0 ≤ℤ m → pos 1 ≤ℤ d → (m +ℤ pos 1) ≤ℤ q → ⊥
room_z q m d h k o n =
    let vq = at 0 in
    let vm = at 1 in
    let vd = at 2 in
    let one = lit (pos 1) in
    refute (q ∷ m ∷ d ∷ []) ((vq ⊗ vd ≼ vm) ∷ (lit (pos 0) ≼ vm) ∷ (one ≼ vd) ∷ (vm ⊕ one ≼ vq) ∷ [])
    (known 3 ⊞ known 0 ⊞ known 2 ⊠ known 3 ⊞ known 2 ⊠ known 1 ⊞ known 2) refl (h, (k, (o, (n, tt))))

-- a quotient below the number refutes itself
room_below_z : (q m d : ℤ) → m ≤ℤ (q *ℤ d) → m ≤ℤ pos 0 → pos 1 ≤ℤ d → (q +ℤ pos 1) ≤ℤ m → ⊥
room_below_z q m d h k o n =
    let vq = at 0 in
    let vm = at 1 in
    let vd = at 2 in
    let one = lit (pos 1) in
    refute (q ∷ m ∷ d ∷ []) ((vm ≼ vq ⊗ vd) ∷ (vm ≼ lit (pos 0)) ∷ (one ≼ vd) ∷ (vq ⊕ one ≼ vm) ∷ [])
    (known 3 ⊞ known 0 ⊞ known 2 ⊠ known 3 ⊞ known 2 ⊠ known 1 ⊞ known 2) refl (h, (k, (o, (n, tt))))

-- a quotient rounded down stays what it is where both numbers are raised
raised_floor : (q n k : ℤ) → IsFloor q n k → IsFloor q (n *ℤ pos (2 ^ 36)) (k *ℤ pos (2 ^ 36))
raised_floor q n k f =
    let t = lit (pos (2 ^ 36)) in
    let one = lit (pos 1) in
    record {
      not_above = le_by (q ∷ n ∷ k ∷ []) ((at 0 ⊗ at 2 ≼ at 1) ∷ []) (at 0 ⊗ (at 2 ⊗ t)) (at 1 ⊗ t)
          (naturally (2 ^ 36) ⊠ known 0) refl (f.not_above, tt);
      close = lt_next _ _ (le_by (q ∷ n ∷ k ∷ []) ((at 1 ⊕ one ≼ at 0 ⊗ at 2 ⊕ at 2) ∷ []) (at 1 ⊗ t ⊕ one)
          (at 0 ⊗ (at 2 ⊗ t) ⊕ at 2 ⊗ t)
          (naturally (2 ^ 36) ⊠ known 0 ⊞ naturally (2 ^ 36 - 1)) refl (next_le _ _ f.close, tt));
    }

-- and so does one rounded up
raised_ceiling : (q n k : ℤ) → IsCeiling q n k → IsCeiling q (n *ℤ pos (2 ^ 36)) (k *ℤ pos (2 ^ 36))
raised_ceiling q n k f =
    let t = lit (pos (2 ^ 36)) in
    let one = lit (pos 1) in
    record {
      not_below = le_by (q ∷ n ∷ k ∷ []) ((at 1 ≼ at 0 ⊗ at 2) ∷ []) (at 1 ⊗ t) (at 0 ⊗ (at 2 ⊗ t))
          (naturally (2 ^ 36) ⊠ known 0) refl (f.not_below, tt);
      close = lt_next _ _ (le_by (q ∷ n ∷ k ∷ []) ((at 0 ⊗ at 2 ⊕ one ≼ at 1 ⊕ at 2) ∷ []) (at 0 ⊗ (at 2 ⊗ t) ⊕ one)
          (at 1 ⊗ t ⊕ at 2 ⊗ t)
          (naturally (2 ^ 36) ⊠ known 0 ⊞ naturally (2 ^ 36 - 1)) refl (next_le _ _ f.close, tt));
    }

-- the same for a denominator that holds the scale
pub fine_floor : (q n k d : ℤ) → k *ℤ pos (2 ^ 36) ≡ d → IsFloor q n k → IsFloor q (n *ℤ pos (2 ^ 36)) d
fine_floor q n k d e f = rw e at (raised_floor q n k f)

pub fine_ceiling : (q n k d : ℤ) → k *ℤ pos (2 ^ 36) ≡ d → IsCeiling q n k → IsCeiling q (n *ℤ pos (2 ^ 36)) d
fine_ceiling q n k d e f = rw e at (raised_ceiling q n k f)

-- products of numbers that aren't negative are in the order of the numbers
pub products_mono : (a b c d : ℤ) → pos 0 ≤ℤ a → pos 0 ≤ℤ c → a ≤ℤ b → c ≤ℤ d → (a *ℤ c) ≤ℤ (b *ℤ d)
products_mono a b c d h k m n =
    le_by (a ∷ b ∷ c ∷ d ∷ []) ((lit (pos 0) ≼ at 0) ∷ (lit (pos 0) ≼ at 2) ∷ (at 0 ≼ at 1) ∷ (at 2 ≼ at 3) ∷ [])
    (at 0 ⊗ at 2) (at 1 ⊗ at 3)
    (known 2 ⊠ known 3 ⊞ known 2 ⊠ known 1 ⊞ known 0 ⊠ known 3) refl (h, (k, (m, (n, tt))))

-- numbers are in order where their multiples are
order_z : (m g d lo hi : ℤ) → m ≤ℤ g → (lo *ℤ d) ≤ℤ m → g ≤ℤ (hi *ℤ d) → pos 1 ≤ℤ d → lo ≤ℤ hi
order_z m g d lo hi h0 h1 h2 h3 =
    le_over (m ∷ g ∷ d ∷ lo ∷ hi ∷ []) ((at 0 ≼ at 1) ∷ (at 3 ⊗ at 2 ≼ at 0) ∷ (at 1 ≼ at 4 ⊗ at 2) ∷ []) (at 2) (at 3)
    (at 4) (known 0 ⊞ known 1 ⊞ known 2)
    refl h3 (h0, (h1, (h2, tt)))

-- rounding outwards keeps the order
pub outward_order : (m g d lo hi : ℤ) → m ≤ℤ g → IsFloor lo m d → IsCeiling hi g d → pos 0 <ℤ d → lo ≤ℤ hi
outward_order m g d lo hi h f c o = order_z m g d lo hi h f.not_above c.not_below (next_le _ _ o)

-- the lesser of two is at most the greater
pub sorted_order : (m g p q : ℤ) → AreSorted m g p q → m ≤ℤ g
sorted_order m g p q s = ≤ℤ_trans _ _ _ s.low_first s.high_first

-- the quotient of the definitions is rounded down
pub floor_quotient_floor : (n : ℤ) (d : ℕ) → IsFloor (floor_quotient n d) n (pos (suc d))
floor_quotient_floor n d = let f = floor_quotient_is n d in record { not_above = f.not_above; close = f.close }

-- the quotient of Euclid by a positive number is that rounded down
pub euclid_is : (n : ℤ) (m : ℕ) → 0 < m → int_div_euclid n (pos m) ≡ floor_quotient n (m - 1)
euclid_is n zero h = absurd (omega arith)
euclid_is (pos n) (suc m) h = let e : suc m - 1 ≡ m = omega arith in rw e refl
euclid_is (negsuc n) (suc m) h = let e : suc m - 1 ≡ m = omega arith in rw e refl
