-- The terms of sine, cosine and arctangent: each is the one before times x x and a ratio.
use Rattle.std.proofs.Common.{ℕ, suc, ◌≤◌, refl, arith, pos, negsuc, [], ◌∷◌}
use Rattle.std.proofs.lemmas.Int.{ints}
use Rattle.exact_math.proofs.Ring.{Poly, at, lit, ◌⊗◌, minus}
use Rattle.exact_math.specs.Fraction.{Fraction, ◌≤F◌, ◌≈◌, whole, times, power}
use Rattle.exact_math.specs.Sums.{one_over}
use Rattle.book_model.specs.numbers.Series.{over_factorial, double, sine_term, cosine_term, arctan_term}
use Rattle.exact_math.proofs.Fractions.{le_refl, le_trans}
use Rattle.exact_math.proofs.Same.{le_of_same, ge_of_same, same_of_le}
use Rattle.exact_math.proofs.FractionRing.{same_by}
use Rattle.exact_math.proofs.Certificates.{zero_F, ◌≼◌, ◌≗◌, known, multiple, ◌⊞◌, ◌⊠◌, square, natural, le_by, le_over}
use Rattle.exact_math.proofs.Alternating.{Halving, Rising, Falling}
use Rattle.exact_math.proofs.Ratios.{Ratios, Small, halving, Pair, rising, by_cubes, by_lag}

abbrev one : Poly
one = lit (pos 1)

abbrev none : Poly
none = lit (pos 0)

abbrev half : Fraction
half = one_over 1

-- ---- 1 / (n + 1)
pub one_over_nonneg : (n : ℕ) → zero_F ≤F one_over n
one_over_nonneg n = record { cross = omega (arith, ints) }

pub one_over_small : (m n : ℕ) → m ≤ n → times (whole (pos (suc m))) (one_over n) ≤F whole (pos 1)
unfolding times
one_over_small m n h = record { cross = omega (arith, ints) }

pub one_over-whole : (n : ℕ) → times (whole (pos (suc n))) (one_over n) ≈ whole (pos 1)
unfolding times
one_over-whole n = record { cross = omega (arith, ints) }

-- ---- arguments
-- from 0 to c / d
pub record IsUpTo (c d : ℕ) (x : Fraction) : Type 0 where
  pub nonneg : zero_F ≤F x
  pub bound : times (whole (pos d)) x ≤F whole (pos c)

pub square_nonneg : {c d : ℕ} (x : Fraction) → IsUpTo c d x → zero_F ≤F times x x
square_nonneg x h = le_by (x ∷ []) ((none ≼ at 0) ∷ []) none (at 0 ⊗ at 0) (known 0 ⊠ known 0) refl (h.nonneg, tt)

squares : (x y : Fraction) → zero_F ≤F x → x ≤F y → times x x ≤F times y y
squares x y h k = le_by (x ∷ y ∷ []) ((none ≼ at 0) ∷ (at 0 ≼ at 1) ∷ []) (at 0 ⊗ at 0) (at 1 ⊗ at 1)
    (known 1 ⊠ (known 1 ⊞ natural 2 ⊠ known 0)) refl
    (h, (k, tt))

square_fifths : (x : Fraction) → IsUpTo 4 5 x → times (whole (pos 25)) (times x x) ≤F whole (pos 16)
square_fifths x h =
    le_by (x ∷ []) ((none ≼ at 0) ∷ (lit (pos 5) ⊗ at 0 ≼ lit (pos 4)) ∷ []) (lit (pos 25) ⊗ (at 0 ⊗ at 0))
    (lit (pos 16))
    (known 1 ⊠ (known 1 ⊞ natural 10 ⊠ known 0)) refl (h.nonneg, (h.bound, tt))

square_half : (x : Fraction) → IsUpTo 1 2 x → times (whole (pos 4)) (times x x) ≤F whole (pos 1)
square_half x h =
    le_by (x ∷ []) ((none ≼ at 0) ∷ (lit (pos 2) ⊗ at 0 ≼ one) ∷ []) (lit (pos 4) ⊗ (at 0 ⊗ at 0)) one
    (known 1 ⊠ (known 1 ⊞ natural 4 ⊠ known 0)) refl
    (h.nonneg, (h.bound, tt))

-- ---- the ratios 1 / ((n + 1) (n + 2)), for n from 1 on
abbrev pub falling : ℕ → Fraction
falling n = times (one_over n) (one_over (suc n))

pub falling_nonneg : (n : ℕ) → zero_F ≤F falling n
falling_nonneg n = le_by (one_over n ∷ one_over (suc n) ∷ []) ((none ≼ at 0) ∷ (none ≼ at 1) ∷ []) none (at 0 ⊗ at 1)
    (known 0 ⊠ known 1) refl
    (one_over_nonneg n, (one_over_nonneg (suc n), tt))

falling_small : (n : ℕ) → 1 ≤ n → times (whole (pos 6)) (falling n) ≤F whole (pos 1)
falling_small n h =
    le_by (one_over n ∷ one_over (suc n) ∷ []) ((none ≼ at 0) ∷ (lit (pos 2) ⊗ at 0 ≼ one) ∷ (lit (pos 3) ⊗ at 1 ≼ one)
    ∷ []) (lit (pos 6) ⊗ (at 0 ⊗ at 1)) one
    (known 1 ⊞ natural 2 ⊠ known 0 ⊠ known 2) refl
    (one_over_nonneg n, (one_over_small 1 n h, (one_over_small 2 (suc n) (omega arith), tt)))

four_small : (u r : Fraction) → zero_F ≤F u → times (whole (pos 25)) u ≤F whole (pos 16)
    → times (whole (pos 6)) r ≤F whole (pos 1)
    → times (whole (pos 4)) (times u r) ≤F whole (pos 1)
four_small u r h k l =
    le_over 149 (u ∷ r ∷ []) ((none ≼ at 0) ∷ (lit (pos 25) ⊗ at 0 ≼ lit (pos 16)) ∷ (lit (pos 6) ⊗ at 1 ≼ one) ∷ [])
    (lit (pos 4) ⊗ (at 0 ⊗ at 1)) one
    (natural 86 ⊞ natural 4 ⊠ known 1 ⊞ natural 100 ⊠ known 0 ⊠ known 2) refl (h, (k, (l, tt)))

six_small : (u r : Fraction) → zero_F ≤F u → times (whole (pos 25)) u ≤F whole (pos 16)
    → times (whole (pos 6)) r ≤F whole (pos 1)
    → times (whole (pos 6)) (times u r) ≤F whole (pos 1)
six_small u r h k l =
    le_over 24 (u ∷ r ∷ []) ((none ≼ at 0) ∷ (lit (pos 25) ⊗ at 0 ≼ lit (pos 16)) ∷ (lit (pos 6) ⊗ at 1 ≼ one) ∷ [])
    (lit (pos 6) ⊗ (at 0 ⊗ at 1)) one
    (natural 9 ⊞ known 1 ⊞ natural 25 ⊠ known 0 ⊠ known 2) refl (h, (k, (l, tt)))

small_fifths : (f : ℕ → ℕ) → ((k : ℕ) → 1 ≤ f k) → (x : Fraction) → IsUpTo 4 5 x
    → Small (times x x) (λ k. falling (f k))
small_fifths f h x w = record {
  square = square_nonneg x w;
  nonneg = λ k. falling_nonneg (f k);
  small = λ k. four_small (times x x) (falling (f k)) (square_nonneg x w) (square_fifths x w)
      (falling_small (f k) (h k));
}

-- ---- sine
abbrev pub sine_index : ℕ → ℕ
sine_index k = suc (double k)

pub sine_step : (x : Fraction) (k : ℕ) → sine_term x (suc k) ≈ times (sine_term x k)
    (times (times x x) (falling (sine_index k)))
unfolding sine_term power over_factorial
sine_step x k =
    same_by (x ∷ power x (suc (double k)) ∷ over_factorial (suc (double k)) ∷ one_over (suc (double k)) ∷ one_over
    (suc (suc (double k))) ∷ [])
    ((at 0 ⊗ (at 0 ⊗ at 1)) ⊗ ((at 2 ⊗ at 3) ⊗ at 4)) ((at 1 ⊗ at 2) ⊗ ((at 0 ⊗ at 0) ⊗ (at 3 ⊗ at 4))) refl

pub sine_first : (x : Fraction) → sine_term x 0 ≈ x
unfolding sine_term power over_factorial
sine_first x = same_by (x ∷ []) ((at 0 ⊗ one) ⊗ (one ⊗ one)) (at 0) refl

sine_ratios : (x : Fraction) → zero_F ≤F x → Ratios (sine_term x) (times x x) (λ k. falling (sine_index k))
sine_ratios x h = record {
  first = le_trans zero_F x (sine_term x 0) h (ge_of_same (sine_first x));
  steps = sine_step x;
}

sine_small : (x : Fraction) → IsUpTo 4 5 x → Small (times x x) (λ k. falling (sine_index k))
sine_small = small_fifths sine_index (λ k. omega arith)

-- from the first term on
pub cosine_step_from_first : (x : Fraction) (k : ℕ) → cosine_term x (suc k) ≈ times (cosine_term x k)
    (times (times x x) (falling (double k)))
unfolding cosine_term power over_factorial
cosine_step_from_first x k =
    same_by (x ∷ power x (double k) ∷ over_factorial (double k) ∷ one_over (double k) ∷ one_over (suc (double k)) ∷ [])
    ((at 0 ⊗ (at 0 ⊗ at 1)) ⊗ ((at 2 ⊗ at 3) ⊗ at 4)) ((at 1 ⊗ at 2) ⊗ ((at 0 ⊗ at 0) ⊗ (at 3 ⊗ at 4))) refl

pub cosine_one : (x : Fraction) → cosine_term x 0 ≈ whole (pos 1)
unfolding cosine_term power over_factorial
cosine_one x = same_by [] (one ⊗ one) one refl

pub sine_halving : (x : Fraction) → IsUpTo 4 5 x → Halving (sine_term x)
sine_halving x w = halving (sine_term x) (times x x) (λ k. falling (sine_index k)) (sine_ratios x w.nonneg)
    (sine_small x w)

first_in_order : {p q x y : Fraction} → p ≈ x → q ≈ y → x ≤F y → p ≤F q
first_in_order {p} {q} {x} {y} e f h = le_trans p x q (le_of_same e) (le_trans x y q h (ge_of_same f))

pub sine_rising : (x y : Fraction) → IsUpTo 4 5 x → IsUpTo 4 5 y → x ≤F y → Rising (sine_term x) (sine_term y)
sine_rising x y w v h =
    let c : Pair (sine_term x) (sine_term y) (times x x) (times y y) (λ k. falling (sine_index k)) = record {
      left = sine_ratios x w.nonneg;
      right = sine_ratios y v.nonneg;
      left_small = sine_small x w;
      small = sine_small y v;
      arguments = squares x y w.nonneg h;
      first = first_in_order (sine_first x) (sine_first y) h;
    } in
    rising (sine_term x) (sine_term y) (times x x) (times y y) (λ k. falling (sine_index k)) c
    (by_cubes (sine_term x) (sine_term y) x y (λ k. falling (sine_index k)) c (record {
      is_x = sine_first x;
      is_y = sine_first y;
      nonneg = w.nonneg;
      order = h;
      ratio = falling_nonneg 1;
      small = six_small (times y y) (falling 1) (square_nonneg y v) (square_fifths y v) (falling_small 1 (omega arith));
    }))

-- ---- cosine, from its second term on
abbrev cosine_index : ℕ → ℕ
cosine_index k = suc (suc (double k))

abbrev cosine_rest : Fraction → ℕ → Fraction
cosine_rest x k = cosine_term x (suc k)

cosine_step : (x : Fraction) (k : ℕ) → cosine_rest x (suc k) ≈ times (cosine_rest x k)
    (times (times x x) (falling (cosine_index k)))
unfolding cosine_term power over_factorial
cosine_step x k =
    same_by (x ∷ power x (double (suc k)) ∷ over_factorial (double (suc k)) ∷ one_over (double (suc k)) ∷ one_over
    (suc (double (suc k))) ∷ [])
    ((at 0 ⊗ (at 0 ⊗ at 1)) ⊗ ((at 2 ⊗ at 3) ⊗ at 4)) ((at 1 ⊗ at 2) ⊗ ((at 0 ⊗ at 0) ⊗ (at 3 ⊗ at 4))) refl

-- half the square
cosine_first : (x : Fraction) → cosine_rest x 0 ≈ times half (times x x)
unfolding cosine_term power over_factorial
cosine_first x = same_by (x ∷ half ∷ []) ((at 0 ⊗ (at 0 ⊗ one)) ⊗ ((one ⊗ one) ⊗ at 1)) (at 1 ⊗ (at 0 ⊗ at 0)) refl

half_nonneg : zero_F ≤F half
half_nonneg = one_over_nonneg 1

cosine_first_nonneg : (x : Fraction) → zero_F ≤F cosine_rest x 0
cosine_first_nonneg x =
    le_by (cosine_rest x 0 ∷ half ∷ x ∷ []) ((at 0 ≗ at 1 ⊗ (at 2 ⊗ at 2)) ∷ (none ≼ at 1) ∷ []) none (at 0)
    (known 1 ⊠ square (at 2) ⊞ multiple 0 (lit (negsuc 0))) refl (cosine_first x, (half_nonneg, tt))

cosine_ratios : (x : Fraction) → Ratios (cosine_rest x) (times x x) (λ k. falling (cosine_index k))
cosine_ratios x = record { first = cosine_first_nonneg x; steps = cosine_step x }

cosine_small : (x : Fraction) → IsUpTo 4 5 x → Small (times x x) (λ k. falling (cosine_index k))
cosine_small = small_fifths cosine_index (λ k. omega arith)

pub cosine_halving : (x : Fraction) → IsUpTo 4 5 x → Halving (cosine_rest x)
cosine_halving x w = halving (cosine_rest x) (times x x) (λ k. falling (cosine_index k)) (cosine_ratios x)
    (cosine_small x w)

cosine_firsts : (x y : Fraction) → IsUpTo 4 5 x → x ≤F y → cosine_rest x 0 ≤F cosine_rest y 0
cosine_firsts x y w h =
    le_by (cosine_rest x 0 ∷ cosine_rest y 0 ∷ half ∷ x ∷ y ∷ [])
    ((at 0 ≗ at 2 ⊗ (at 3 ⊗ at 3)) ∷ (at 1 ≗ at 2 ⊗ (at 4 ⊗ at 4)) ∷ (none ≼ at 2) ∷ (at 3 ⊗ at 3 ≼ at 4 ⊗ at 4) ∷ [])
    (at 0) (at 1)
    (known 2 ⊠ known 3 ⊞ multiple 0 one ⊞ multiple 1 (lit (negsuc 0))) refl
    (cosine_first x, (cosine_first y, (half_nonneg, (squares x y w.nonneg h, tt))))

cosine_lag : (x y : Fraction) → times (cosine_rest x 0) (times y y) ≤F times (times x x) (cosine_rest y 0)
cosine_lag x y =
    le_by (cosine_rest x 0 ∷ cosine_rest y 0 ∷ half ∷ x ∷ y ∷ [])
    ((at 0 ≗ at 2 ⊗ (at 3 ⊗ at 3)) ∷ (at 1 ≗ at 2 ⊗ (at 4 ⊗ at 4)) ∷ []) (at 0 ⊗ (at 4 ⊗ at 4))
    ((at 3 ⊗ at 3) ⊗ at 1)
    (multiple 0 (at 4 ⊗ at 4) ⊞ multiple 1 (minus (at 3 ⊗ at 3))) refl (cosine_first x, (cosine_first y, tt))

pub cosine_falling : (x y : Fraction) → IsUpTo 4 5 x → IsUpTo 4 5 y → x ≤F y → Falling (cosine_term x) (cosine_term y)
unfolding cosine_term power
cosine_falling x y w v h =
    let c : Pair (cosine_rest x) (cosine_rest y) (times x x) (times y y) (λ k. falling (cosine_index k)) = record {
      left = cosine_ratios x;
      right = cosine_ratios y;
      left_small = cosine_small x w;
      small = cosine_small y v;
      arguments = squares x y w.nonneg h;
      first = cosine_firsts x y w h;
    } in
    record {
      first = le_refl _;
      rest = rising (cosine_rest x) (cosine_rest y) (times x x) (times y y) (λ k. falling (cosine_index k)) c
          (by_lag (cosine_rest x) (cosine_rest y) (times x x) (times y y) (λ k. falling (cosine_index k)) c 0
          (cosine_lag x y));
    }

-- ---- arctangent
-- (2 k + 1) / (2 k + 3)
abbrev slow : ℕ → Fraction
slow k = times (whole (pos (suc (double k)))) (one_over (suc (suc (double k))))

slow_nonneg : (k : ℕ) → zero_F ≤F slow k
unfolding times
slow_nonneg k = record { cross = omega (arith, ints) }

slow_small : (k : ℕ) → slow k ≤F whole (pos 1)
unfolding times
slow_small k = record { cross = omega (arith, ints) }

arctan_step : (x : Fraction) (k : ℕ) → arctan_term x (suc k) ≈ times (arctan_term x k) (times (times x x) (slow k))
unfolding arctan_term power
arctan_step x k =
    let ρ = x ∷ power x (suc (double k)) ∷ one_over (double k) ∷ whole (pos (suc (double k))) ∷ one_over
    (suc (suc (double k))) ∷ [] in
    let cs = (at 3 ⊗ at 2 ≗ one) ∷ [] in
    let p = (at 0 ⊗ (at 0 ⊗ at 1)) ⊗ at 4 in
    let q = (at 1 ⊗ at 2) ⊗ ((at 0 ⊗ at 0) ⊗ (at 3 ⊗ at 4)) in
    let m = at 0 ⊗ (at 0 ⊗ at 1) ⊗ at 4 in
    same_of_le
    (le_by ρ cs p q (multiple 0 (minus m)) refl (one_over-whole (double k), tt))
    (le_by ρ cs q p (multiple 0 m) refl (one_over-whole (double k), tt))

arctan_first : (x : Fraction) → arctan_term x 0 ≈ x
unfolding arctan_term power
arctan_first x = same_by (x ∷ []) ((at 0 ⊗ one) ⊗ one) (at 0) refl

arctan_ratios : (x : Fraction) → zero_F ≤F x → Ratios (arctan_term x) (times x x) slow
arctan_ratios x h = record {
  first = le_trans zero_F x (arctan_term x 0) h (ge_of_same (arctan_first x));
  steps = arctan_step x;
}

four_slow : (u r : Fraction) → zero_F ≤F u → times (whole (pos 4)) u ≤F whole (pos 1) → r ≤F whole (pos 1)
    → times (whole (pos 4)) (times u r) ≤F whole (pos 1)
four_slow u r h k l =
    le_by (u ∷ r ∷ []) ((none ≼ at 0) ∷ (lit (pos 4) ⊗ at 0 ≼ one) ∷ (at 1 ≼ one) ∷ []) (lit (pos 4) ⊗ (at 0 ⊗ at 1))
    one
    (known 1 ⊞ natural 4 ⊠ known 0 ⊠ known 2) refl (h, (k, (l, tt)))

six_slow : (u r : Fraction) → zero_F ≤F u → times (whole (pos 4)) u ≤F whole (pos 1)
    → times (whole (pos 3)) r ≤F whole (pos 1)
    → times (whole (pos 6)) (times u r) ≤F whole (pos 1)
six_slow u r h k l =
    le_over 1 (u ∷ r ∷ []) ((none ≼ at 0) ∷ (lit (pos 4) ⊗ at 0 ≼ one) ∷ (lit (pos 3) ⊗ at 1 ≼ one) ∷ [])
    (lit (pos 6) ⊗ (at 0 ⊗ at 1)) one
    (natural 1 ⊞ known 1 ⊞ natural 4 ⊠ known 0 ⊠ known 2) refl (h, (k, (l, tt)))

slow_first : times (whole (pos 3)) (slow 0) ≤F whole (pos 1)
unfolding times
slow_first = record { cross = record { le = tt } }

arctan_small : (x : Fraction) → IsUpTo 1 2 x → Small (times x x) slow
arctan_small x w = record {
  square = square_nonneg x w;
  nonneg = slow_nonneg;
  small = λ k.
      four_slow (times x x) (slow k) (square_nonneg x w) (square_half x w) (slow_small k);
}

pub arctan_halving : (x : Fraction) → IsUpTo 1 2 x → Halving (arctan_term x)
arctan_halving x w = halving (arctan_term x) (times x x) slow (arctan_ratios x w.nonneg) (arctan_small x w)

pub arctan_rising : (x y : Fraction) → IsUpTo 1 2 x → IsUpTo 1 2 y → x ≤F y → Rising (arctan_term x) (arctan_term y)
arctan_rising x y w v h =
    let c : Pair (arctan_term x) (arctan_term y) (times x x) (times y y) slow = record {
      left = arctan_ratios x w.nonneg;
      right = arctan_ratios y v.nonneg;
      left_small = arctan_small x w;
      small = arctan_small y v;
      arguments = squares x y w.nonneg h;
      first = first_in_order (arctan_first x) (arctan_first y) h;
    } in
    rising (arctan_term x) (arctan_term y) (times x x) (times y y) slow c
    (by_cubes (arctan_term x) (arctan_term y) x y slow c (record {
      is_x = arctan_first x;
      is_y = arctan_first y;
      nonneg = w.nonneg;
      order = h;
      ratio = slow_nonneg 0;
      small = six_slow (times y y) (slow 0) (square_nonneg y v) (square_half y v) slow_first;
    }))
