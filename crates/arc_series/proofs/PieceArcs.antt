-- The arctangents of the pieces, by those of numbers from 0 to 1/2. The code's quotient is the number that the
-- definition takes in that piece, to one part; the constant of the piece is added, or subtracted for the negative ones,
-- whose spans are the opposites.
use Rattle.std.specs.Prelude.{unsigned_abs}
use Rattle.std.proofs.Common.{◌≡◌, ℕ, zero, suc, ◌≤◌, ◌-◌, ◌*◌, ◌+◌, ◌^◌, refl, arith, ℤ, pos, negsuc, ◌+ℤ◌, ◌-ℤ◌, ◌≤ℤ◌}
use Rattle.std.proofs.lemmas.Int.{ints}
use lib.IntN.{neg_ℤ}
use Rattle.book_model.specs.Fraction.{Fraction, ◌≈◌, whole, plus, opposite, times, reciprocal}
use Rattle.book_model.proofs.Same.{same_trans, opposite_cong}
use Rattle.book_model.specs.Interval.{Interval, between, ◌⊆◌, sum, negative, difference}
use Rattle.book_model.proofs.Intervals.{within_trans, within_refl, negative_within, sum_within}
use Rattle.book_model.specs.programs.Leading.{units_of_56}
use Rattle.book_model.specs.numbers.Octants.{only}
use Rattle.book_model.specs.numbers.Arcs.{arc_near, arc_above, arc_beyond, mirrored}
use Rattle.book_model.proofs.ArcPieces.{turned}
use Rattle.arc_series.specs.Kernel.{IsNumber}
use Rattle.arc_series.proofs.QuotientLemmas.{steps, near_number, turned_above, turned_below, over_one}

-- what the kernel says of a number q
abbrev pub Holds_number : ℕ → ℤ → ℤ → Type 0
Holds_number q lo hi = (n : ℕ) (x : Fraction) → 40 ≤ n → IsNumber q x → arc_near n x ⊆ between (units_of_56 lo)
    (units_of_56 hi)

abbrev pub Holds_mirrored : ℕ → ℤ → ℤ → Type 0
Holds_mirrored q lo hi = (n : ℕ) (x : Fraction) → 40 ≤ n → 1 ≤ q → IsNumber q (opposite x)
    → arc_near n x ⊆ between (units_of_56 (neg_ℤ hi)) (units_of_56 (neg_ℤ lo))

-- ---- numbers and spans more, and less
more_endpoints : (k : ℕ) (lo hi low high : ℤ) → low ≡ pos (k * 2 ^ 56) +ℤ lo → high ≡ pos (k * 2 ^ 56) +ℤ hi
    → sum (only (whole (pos k))) (between (units_of_56 lo) (units_of_56 hi)) ⊆ between (units_of_56 low)
    (units_of_56 high)
unfolding sum plus
more_endpoints k lo hi low high e f =
    record { endpoints = (record { cross = omega (arith, ints, e) }, record { cross = omega (arith, ints, f) }) }

pub more_held : (k : ℕ) (lo hi low high : ℤ) (i : Interval) → low ≡ pos (k * 2 ^ 56) +ℤ lo
    → high ≡ pos (k * 2 ^ 56) +ℤ hi
    → i ⊆ between (units_of_56 lo) (units_of_56 hi) → sum (only (whole (pos k))) i ⊆ between (units_of_56 low)
    (units_of_56 high)
more_held k lo hi low high i e f h = within_trans (sum_within (within_refl (only (whole (pos k)))) h)
    (more_endpoints k lo hi low high e f)

opposite_endpoints : (lo hi low high : ℤ) → low ≡ neg_ℤ hi → high ≡ neg_ℤ lo
    → negative (between (units_of_56 lo) (units_of_56 hi)) ⊆ between (units_of_56 low) (units_of_56 high)
unfolding negative opposite
opposite_endpoints lo hi low high e f =
    record { endpoints = (record { cross = omega (arith, ints, e) }, record { cross = omega (arith, ints, f) }) }

pub opposite_held : (lo hi low high : ℤ) (i : Interval) → low ≡ neg_ℤ hi → high ≡ neg_ℤ lo
    → i ⊆ between (units_of_56 lo) (units_of_56 hi)
    → negative i ⊆ between (units_of_56 low) (units_of_56 high)
opposite_held lo hi low high i e f h = within_trans (negative_within h) (opposite_endpoints lo hi low high e f)

pub less_held : (k : ℕ) (lo hi low high : ℤ) (i : Interval) → low ≡ pos (k * 2 ^ 56) -ℤ hi
    → high ≡ pos (k * 2 ^ 56) -ℤ lo
    → i ⊆ between (units_of_56 lo) (units_of_56 hi) → difference (only (whole (pos k))) i ⊆ between (units_of_56 low)
    (units_of_56 high)
less_held k lo hi low high i e f h =
    more_held k (neg_ℤ hi) (neg_ℤ lo) low high (negative i) (omega (arith, ints, e)) (omega (arith, ints, f))
    (opposite_held lo hi (neg_ℤ hi) (neg_ℤ lo) i refl refl h)

-- ---- from 0 to 1/2
pub near_arc : (n k : ℕ) (x : Fraction) (lo hi : ℤ) → 40 ≤ n → pos k ≤ℤ pos (2 ^ 55) → x ≈ units_of_56 (pos k)
    → Holds_number (k * 256) lo hi
    → arc_near n x ⊆ between (units_of_56 lo) (units_of_56 hi)
near_arc n k x lo hi d h e f = f n x d (near_number k x h e)

pub near_opposite : (n k : ℕ) (x : Fraction) (lo hi : ℤ) → 40 ≤ n → pos k ≤ℤ pos (2 ^ 55) → 1 ≤ k
    → opposite x ≈ units_of_56 (pos k)
    → Holds_mirrored (k * 256) lo hi → arc_near n x ⊆ between (units_of_56 (neg_ℤ hi)) (units_of_56 (neg_ℤ lo))
near_opposite n k x lo hi d h l e f = f n x d (omega (arith, l)) (near_number k (opposite x) h e)

-- ---- from 1/2 to 3
-- what a quotient says
abbrev pub Is_near : ℕ → ℕ → ℕ → Type 0
Is_near q number divisor = (x : Fraction) → times x (whole (pos divisor)) ≈ whole (pos number) → IsNumber q x

pub above_one : (n k q : ℕ) (x : Fraction) (lo hi low high : ℤ) → 40 ≤ n → pos (2 ^ 55) ≤ℤ pos k → steps ≤ k
    → x ≈ units_of_56 (pos k)
    → Is_near q (k - steps) (steps + k) → Holds_number q lo hi
    → low ≡ pos (45 * 2 ^ 56) +ℤ lo → high ≡ pos (45 * 2 ^ 56) +ℤ hi → arc_above n x ⊆ between (units_of_56 low)
    (units_of_56 high)
unfolding arc_above
above_one n k q x lo hi low high d h l e g f a b = more_held 45 lo hi low high _ a b
    (f n (turned x) d (g (turned x) (turned_above k x h l e)))

pub below_one : (n k q : ℕ) (x : Fraction) (lo hi low high : ℤ) → 40 ≤ n → pos (2 ^ 55) ≤ℤ pos k → k ≤ steps → 1 ≤ q
    → x ≈ units_of_56 (pos k)
    → Is_near q (steps - k) (steps + k) → Holds_mirrored q lo hi
    → low ≡ pos (45 * 2 ^ 56) -ℤ hi → high ≡ pos (45 * 2 ^ 56) -ℤ lo → arc_above n x ⊆ between (units_of_56 low)
    (units_of_56 high)
unfolding arc_above
below_one n k q x lo hi low high d h l m e g f a b =
    more_held 45 (neg_ℤ hi) (neg_ℤ lo) low high _ (omega (arith, ints, a)) (omega (arith, ints, b))
    (f n (turned x) d m (g (opposite (turned x)) (turned_below k x h l e)))

-- ---- from 3 on
pub beyond_three : (n k q : ℕ) (x : Fraction) (lo hi low high : ℤ) → 40 ≤ n → pos (3 * 2 ^ 56) ≤ℤ pos k
    → x ≈ units_of_56 (pos k) → Is_near q steps k
    → Holds_number q lo hi
    → low ≡ pos (90 * 2 ^ 56) -ℤ hi → high ≡ pos (90 * 2 ^ 56) -ℤ lo → arc_beyond n x ⊆ between (units_of_56 low)
    (units_of_56 high)
unfolding arc_beyond
beyond_three n k q x lo hi low high d h e g f a b = less_held 90 lo hi low high _ a b
    (f n (reciprocal x) d (g (reciprocal x) (over_one k x h e)))

-- ---- negative numbers
opposite_at : (j : ℤ) (k : ℕ) → j ≡ neg_ℤ (pos k) → opposite (units_of_56 j) ≈ units_of_56 (pos k)
unfolding opposite
opposite_at j k f = record { cross = omega (arith, ints, f) }

pub opposite_same : (x : Fraction) (j : ℤ) (k : ℕ) → x ≈ units_of_56 j → j ≡ neg_ℤ (pos k)
    → opposite x ≈ units_of_56 (pos k)
opposite_same x j k e f = same_trans (opposite_cong e) (opposite_at j k f)

pub mirrored_held : (arc : ℕ → Fraction → Interval) (n k : ℕ) (x : Fraction) (j lo hi low high : ℤ)
    → ((m : ℕ) (y : Fraction) → 40 ≤ m → y ≈ units_of_56 (pos k) → arc m y ⊆ between (units_of_56 lo) (units_of_56 hi))
    → 40 ≤ n → x ≈ units_of_56 j → j ≡ neg_ℤ (pos k) → low ≡ neg_ℤ hi → high ≡ neg_ℤ lo
    → mirrored arc n x ⊆ between (units_of_56 low) (units_of_56 high)
mirrored_held arc n k x j lo hi low high f d e g a b = opposite_held lo hi low high _ a b
    (f n (opposite x) d (opposite_same x j k e g))

-- what lies between opposites lies in the opposite span
pub opposite_span : (lo hi low high : ℤ) (i : Interval) → low ≡ neg_ℤ hi → high ≡ neg_ℤ lo
    → i ⊆ between (units_of_56 (neg_ℤ hi)) (units_of_56 (neg_ℤ lo))
    → i ⊆ between (units_of_56 low) (units_of_56 high)
opposite_span lo hi low high i e f h = rw (e, f) h

-- the size of a number
pub size_below : (j : ℤ) → j ≤ℤ pos 0 → j ≡ neg_ℤ (pos (unsigned_abs j))
size_below (pos zero) h = refl
size_below (pos (suc n)) h = absurd (omega (arith, ints, h))
size_below (negsuc n) h = refl

pub size_above : (j : ℤ) → pos 0 ≤ℤ j → j ≡ pos (unsigned_abs j)
size_above (pos n) h = refl
size_above (negsuc n) h = absurd (omega (arith, ints, h))
