-- Bounds by size and width alone: constants, their sines, and sums over rows. A row's numbers are symbolic, so its
-- bound isn't computed but covered by one of a known size and width (`IsCovered`): of a constant by rounding, of a sine
-- since each extent that the definition distinguishes is small, by cases. Over a table sizes and widths add up, by
-- induction on the rows.
use Rattle.std.specs.Prelude.{◌≡◌, ℕ, zero, suc, ◌+◌, ◌*◌, ◌-◌, ◌^◌, ◌≤◌, ◌<◌, Bool, true, false, ◌&&◌, cond, nat_lt}
use Rattle.std.specs.Prelude.{unsigned_abs, ℤ, pos, negsuc, neg_ℤ, ◌+ℤ◌, ◌-ℤ◌, ◌*ℤ◌, ◌≤ℤ◌, ◌<ℤ◌, List, slice_index_or}
use Rattle.std.specs.Prelude.{refl}
use lib.Signed.{lt_z}
use Rattle.std.proofs.Common.{arith}
use Rattle.std.proofs.lemmas.Int.{ints}
use Rattle.std.proofs.lemmas.Float.{T_from_true}
use Rattle.std.proofs.lemmas.Bool.{lt-ltb, ltb-true}
use Rattle.std.proofs.Math.Nat.{mul-le-mul_left}
use Rattle.book_model.specs.Fraction.{Fraction, floor_quotient}
use Rattle.book_model.proofs.Floors.{floor_quotient_is}
use Rattle.book_model.proofs.IntLaws.{add_mul}
use Rattle.book_model.specs.numbers.Bounds.{Bound, bounded, bound_of, integer_bound, limits_at, ceil_div, ceil_quotient}
use Rattle.book_model.specs.numbers.Bounds.{range_size, floor_at_32, ceil_at_32, constant_bound, spanned_bound}
use Rattle.book_model.specs.numbers.Bounds.{sine_spans, Extent, sine_extent, sine_to, cosine_from, octant_extent}
use Rattle.book_model.specs.numbers.Bounds.{opposites, octant_at, lie_inside, inside_extent, sine_near_none}
use Rattle.book_model.specs.numbers.Bounds.{eighth_turn}
use Rattle.book_model.specs.numbers.Expressions.{Expression}
use Rattle.book_model.specs.numbers.Octants.{octant_of_turn}
use Rattle.book_model.specs.numbers.Terms.{terms_to}
use Rattle.encl_core.proofs.Covering.{IsCovered, covered, sum_covered, floor_least, floor_most, ceil_least, ceil_most}
use Rattle.encl_core.proofs.Covering.{size_least}

-- ---- constants
constant_size : (f : Fraction) (F : ℕ) → F < 2 ^ 60 → unsigned_abs f.num ≤ F * suc f.below
    → range_size (floor_at_32 f) (ceil_at_32 f) ≤ F * 2 ^ 32
constant_size f F b h =
    let e : F * 2 ^ 32 * suc f.below ≡ F * suc f.below * 2 ^ 32 = grind arith in
    let l : neg_ℤ (pos (F * 2 ^ 32 * suc f.below)) ≤ℤ (f.num *ℤ pos (2 ^ 32)) = omega (arith, ints, e, h) in
    let u : (f.num *ℤ pos (2 ^ 32)) ≤ℤ pos (F * 2 ^ 32 * suc f.below) = omega (arith, ints, e, h) in
    size_least (floor_at_32 f) (ceil_at_32 f) (F * 2 ^ 32) (floor_least _ f.below (F * 2 ^ 32) l)
    (floor_most _ f.below (F * 2 ^ 32) u)
    (ceil_least _ f.below (F * 2 ^ 32) l) (ceil_most _ f.below (F * 2 ^ 32) u)

pub constant_covered : (f : Fraction) (F : ℕ) → F < 2 ^ 60 → unsigned_abs f.num ≤ F * suc f.below
    → unsigned_abs f.num < 2 ^ 70
    → IsCovered (constant_bound (limits_at 56) f) (F * 2 ^ 32) (2 ^ 8)
unfolding constant_bound
constant_covered f F b h k =
    let e : F * 2 ^ 32 * suc f.below ≡ F * suc f.below * 2 ^ 32 = grind arith in
    let l : neg_ℤ (pos (F * 2 ^ 32 * suc f.below)) ≤ℤ (f.num *ℤ pos (2 ^ 32)) = omega (arith, ints, e, h) in
    let u : (f.num *ℤ pos (2 ^ 32)) ≤ℤ pos (F * 2 ^ 32 * suc f.below) = omega (arith, ints, e, h) in
    let h1 = floor_least (f.num *ℤ pos (2 ^ 32)) f.below (F * 2 ^ 32) l in
    let h2 = floor_most (f.num *ℤ pos (2 ^ 32)) f.below (F * 2 ^ 32) u in
    let h3 = ceil_least (f.num *ℤ pos (2 ^ 32)) f.below (F * 2 ^ 32) l in
    let h4 = ceil_most (f.num *ℤ pos (2 ^ 32)) f.below (F * 2 ^ 32) u in
    let z = size_least (floor_at_32 f) (ceil_at_32 f) (F * 2 ^ 32) h1 h2 h3 h4 in
    let t1 : nat_lt (unsigned_abs f.num) (2 ^ 70) ≡ true = lt-ltb _ _ k in
    let t2 : nat_lt (range_size (floor_at_32 f) (ceil_at_32 f)) (2 ^ 100) ≡ true = lt-ltb _ _ (omega (arith, z, b)) in
    let h5 : 2 ^ 8 ≤ 2 ^ 8 = omega arith in
    rw (t1, t2) (covered h1 h2 h3 h4 h5)

-- ---- sines
record IsSmall (e : Extent) : Type 0 where
  low : neg_ℤ (pos (2 ^ 33)) ≤ℤ e.least
  low_most : e.least ≤ℤ pos (2 ^ 33)
  high : neg_ℤ (pos (2 ^ 33)) ≤ℤ e.greatest
  high_most : e.greatest ≤ℤ pos (2 ^ 33)

square_most : (n : ℕ) → n ≤ 45 * 2 ^ 32 → n * n ≤ 45 * 2 ^ 32 * (45 * 2 ^ 32)
square_most n h =
    let p : n * n ≤ n * (45 * 2 ^ 32) = mul-le-mul_left n h in
    omega (arith, p, h)

record IsSmallCosine (n : ℕ) : Type 0 where
  low : neg_ℤ (pos (2 ^ 33)) ≤ℤ cosine_from n
  high : cosine_from n ≤ℤ pos (2 ^ 33)

cosine_small : (n : ℕ) → n ≤ 45 * 2 ^ 32 → IsSmallCosine n
cosine_small n h = let q = square_most n h in record { low = omega (arith, ints, q); high = omega (arith, ints, q) }

opposite_small : (e : Extent) → IsSmall e → IsSmall (opposites e)
opposite_small e h = record {
  low = omega (arith, ints, h.high_most);
  low_most = omega (arith, ints, h.high);
  high = omega (arith, ints, h.low_most);
  high_most = omega (arith, ints, h.low);
}

octant_small : (j f t : ℕ) → f ≤ 45 * 2 ^ 32 → t ≤ 45 * 2 ^ 32 → IsSmall (octant_extent j f t)
octant_small zero f t h k = record {
  low = omega (arith, ints);
  low_most = omega (arith, ints);
  high = omega (arith, ints);
  high_most = omega (arith, ints);
}
octant_small (suc zero) f t h k =
    let c = cosine_small (45 * 2 ^ 32 - f) (omega arith) in
    record { low = c.low; low_most = c.high; high = omega (arith, ints); high_most = omega (arith, ints) }
octant_small (suc (suc zero)) f t h k =
    let c = cosine_small t k in
    record { low = c.low; low_most = c.high; high = omega (arith, ints); high_most = omega (arith, ints) }
octant_small (suc (suc (suc zero))) f t h k = record {
  low = omega (arith, ints);
  low_most = omega (arith, ints);
  high = omega (arith, ints);
  high_most = omega (arith, ints);
}
octant_small (suc (suc (suc (suc j)))) f t h k = opposite_small (octant_extent j f t) (octant_small j f t h k)

two : (p q : Bool) → (p && q) ≡ true → (p ≡ true) × (q ≡ true)
two true true e = (refl, refl)
two true false e = absurd (cc)
two false q e = absurd (cc)

lt_true : (a b : ℤ) → lt_z a b ≡ true → a <ℤ b
lt_true a b e = record { lt = T_from_true _ e }

inside_small : (k a b : ℤ) → a ≤ℤ b → lie_inside k a b ≡ true → IsSmall (inside_extent k a b)
inside_small k a b o e =
    let t = two (lt_z (k *ℤ pos eighth_turn) a) (lt_z b (k *ℤ pos eighth_turn +ℤ pos eighth_turn)) e in
    let l : (k *ℤ pos eighth_turn) <ℤ a = lt_true (k *ℤ pos eighth_turn) a t.0 in
    let r : b <ℤ (k *ℤ pos eighth_turn +ℤ pos eighth_turn) = lt_true b (k *ℤ pos eighth_turn +ℤ pos eighth_turn) t.1 in
    octant_small (octant_of_turn k) (unsigned_abs (a -ℤ k *ℤ pos eighth_turn))
    (unsigned_abs (b -ℤ k *ℤ pos eighth_turn)) (omega (arith, ints, l, r))
    (omega (arith, ints, l, r))

near_small : (n : ℕ) → IsSmall (sine_near_none n)
near_small n = by_test (nat_lt n eighth_turn) refl
  where
    by_test : (t : Bool) → nat_lt n eighth_turn ≡ t → IsSmall
        (cond t (record { least = neg_ℤ (sine_to n); greatest = sine_to n })
        (record { least = neg_ℤ (pos (2 ^ 32)); greatest = pos (2 ^ 32) }))
    by_test true e = let h = ltb-true _ _ e in record {
      low = omega (arith, ints, h);
      low_most = omega (arith, ints, h);
      high = omega (arith, ints, h);
      high_most = omega (arith, ints, h);
    }
    by_test false e = record {
      low = omega (arith, ints);
      low_most = omega (arith, ints);
      high = omega (arith, ints);
      high_most = omega (arith, ints);
    }

extent_small : (a b : ℤ) → a ≤ℤ b → IsSmall (sine_extent a b)
extent_small a b o = by_test (lie_inside (octant_at a) a b) refl
  where
    by_test : (t : Bool) → lie_inside (octant_at a) a b ≡ t
        → IsSmall (cond t (inside_extent (octant_at a) a b) (sine_near_none (range_size a b)))
    by_test true e = inside_small (octant_at a) a b o e
    by_test false e = near_small (range_size a b)

-- ---- the sine of a constant
no_more : (w : ℤ) (d : ℕ) → (w *ℤ pos (suc d)) ≤ℤ pos 0 → w ≤ℤ pos 0
no_more (pos zero) d h = omega (arith, ints)
no_more (pos (suc n)) d h = let e : suc n * suc d ≡ n * suc d + suc d = omega arith in
    absurd (omega (arith, ints, e, h))
no_more (negsuc n) d h = omega (arith, ints)

floor_under_ceil : (z : ℤ) (d : ℕ) → floor_quotient z d ≤ℤ ceil_quotient z d
floor_under_ceil z d =
    let a = floor_quotient_is z d in
    let b = floor_quotient_is (neg_ℤ z) d in
    let s : ((floor_quotient z d +ℤ floor_quotient (neg_ℤ z) d) *ℤ pos (suc d))
    ≤ℤ pos 0 = rw (add_mul (floor_quotient z d) (floor_quotient (neg_ℤ z) d) (pos (suc d)))
    (omega (arith, ints, a.not_above, b.not_above)) in
    let n = no_more (floor_quotient z d +ℤ floor_quotient (neg_ℤ z) d) d s in
    omega (arith, ints, n)

sine_covered : (a b : ℤ) → a ≤ℤ b → range_size a b < 2 ^ 95
    → IsCovered (spanned_bound (limits_at 56) (sine_spans (bounded a b 0 (2 ^ 8)))) (2 ^ 33)
    (40 * 2 ^ 8)
unfolding sine_spans spanned_bound
sine_covered a b o h =
    let x = extent_small a b o in
    let z = size_least (sine_extent a b).least (sine_extent a b).greatest (2 ^ 33) x.low x.low_most x.high x.high_most
    in
    let t1 : nat_lt (range_size a b) (2 ^ 95) ≡ true = lt-ltb _ _ h in
    let t2 : nat_lt (range_size (sine_extent a b).least (sine_extent a b).greatest) (2 ^ 100) ≡ true =
    lt-ltb _ _ (omega (arith, z)) in
    let h1 = x.low in
    let h2 = x.low_most in
    let h3 = x.high in
    let h4 = x.high_most in
    let h5 : ceil_div (2 ^ 8) 56 + 36 * 2 ^ 8 + 2 * 2 ^ 8 ≤ 40 * 2 ^ 8 = omega arith in
    rw (t1, t2) (covered h1 h2 h3 h4 h5)

pub constant_sine_covered : (f : Fraction) (F : ℕ) → F < 2 ^ 60 → unsigned_abs f.num ≤ F * suc f.below
    → unsigned_abs f.num < 2 ^ 70
    → IsCovered (spanned_bound (limits_at 56) (sine_spans (constant_bound (limits_at 56) f))) (2 ^ 33) (40 * 2 ^ 8)
unfolding constant_bound
constant_sine_covered f F b h k =
    let r = constant_size f F b h in
    let t1 : nat_lt (unsigned_abs f.num) (2 ^ 70) ≡ true = lt-ltb _ _ k in
    let t2 : nat_lt (range_size (floor_at_32 f) (ceil_at_32 f)) (2 ^ 100) ≡ true = lt-ltb _ _ (omega (arith, r, b)) in
    let o = floor_under_ceil (f.num *ℤ pos (2 ^ 32)) f.below in
    rw (t1, t2) (sine_covered (floor_at_32 f) (ceil_at_32 f) o (omega (arith, r, b)))

-- ---- sums over rows
pub terms_covered : {R : Type 0} (b : ℕ → Bound) (term : R → Expression) (none : R) (rows : List R) (n S u : ℕ)
    → n * S < 2 ^ 100
    → ((k : ℕ) → IsCovered (bound_of (limits_at 56) b (term (slice_index_or rows k none))) S u)
    → IsCovered (bound_of (limits_at 56) b (terms_to term none rows n)) (n * S) (n * u)
unfolding bound_of integer_bound terms_to
terms_covered b term none rows zero S u l h =
    let h1 : neg_ℤ (pos 0) ≤ℤ pos 0 = omega (arith, ints) in
    let h2 : pos 0 ≤ℤ pos 0 = omega (arith, ints) in
    let h5 : 0 ≤ 0 = omega arith in
    let e : 0 * S ≡ 0 = omega arith in
    let d : 0 * u ≡ 0 = omega arith in
    rw (e, d) (covered h1 h2 h1 h2 h5)
terms_covered b term none rows (suc n) S u l h =
    let e : suc n * S ≡ n * S + S = omega arith in
    let d : suc n * u ≡ n * u + u = omega arith in
    rw (e, d) (sum_covered _ _ (n * S) (n * u) S u (omega (arith, l, e))
    (terms_covered b term none rows n S u (omega (arith, l, e)) h) (h n))
