-- How wide a polynomial at a fraction of at most some size is: computed of its coefficients. Each step of Horner's form
-- multiplies what it has by the fraction and adds a coefficient, so that its size and its width are recursions over the
-- coefficients (`horner_size`, `horner_width`); that they stay within what a scale bears is a test of numbers alone
-- (`horner_fits`), which callers compute for a table.
use Rattle.std.specs.Prelude.{◌≡◌, ℕ, zero, suc, ◌+◌, ◌*◌, ◌^◌, ◌≤◌, ◌<◌, Bool, true, false, ◌&&◌, nat_lt, unsigned_abs}
use Rattle.std.specs.Prelude.{pos, neg_ℤ, ◌≤ℤ◌, List, length, refl}
use Rattle.std.proofs.Common.{arith}
use Rattle.std.proofs.lemmas.Int.{ints}
use Rattle.std.proofs.lemmas.Bool.{lt-ltb, ltb-true}
use Rattle.book_model.specs.Fraction.{Fraction}
use Rattle.book_model.specs.Interval.{Interval}
use Rattle.book_model.specs.declared.frac.Frac.{Frac}
use Rattle.book_model.specs.numbers.Bounds.{Bound, unbounded, Reach, bound_of, integer_bound, constant_bound, limits_at}
use Rattle.book_model.specs.numbers.Bounds.{limits_of, range_size, floor_at_32, ceil_at_32}
use Rattle.book_model.specs.numbers.Relations.{Narrow, Keeps}
use Rattle.book_model.proofs.Implying.{limits_within}
use Rattle.book_model.specs.programs.Widths.{IsAbout}
use Rattle.encl_core.specs.Sizes.{HasSize}
use Rattle.encl_core.proofs.Covering.{IsCovered, covered, wider_covered, sum_covered, scaled_covered, within_covered}
use Rattle.time_scales.specs.Horner.{horner_to, horner_of, horner_size, horner_width, horner_fits, coefficient_at}

four : (p q r s : Bool) → (p && (q && (r && s))) ≡ true → (p ≡ true) × (q ≡ true) × (r ≡ true) × (s ≡ true)
four true true true true e = (refl, refl, refl, refl)
four true true true false e = absurd (cc)
four true true false s e = absurd (cc)
four true false r s e = absurd (cc)
four false q r s e = absurd (cc)

constant_covered : (f : Fraction) → unsigned_abs f.num < 2 ^ 70 → range_size (floor_at_32 f) (ceil_at_32 f) < 2 ^ 100
    → IsCovered (constant_bound (limits_at 56) f) (range_size (floor_at_32 f) (ceil_at_32 f)) (2 ^ 8)
unfolding constant_bound
constant_covered f h k =
    let t1 : nat_lt (unsigned_abs f.num) (2 ^ 70) ≡ true = lt-ltb _ _ h in
    let t2 : nat_lt (range_size (floor_at_32 f) (ceil_at_32 f)) (2 ^ 100) ≡ true = lt-ltb _ _ k in
    let h1 : neg_ℤ (pos (range_size (floor_at_32 f) (ceil_at_32 f))) ≤ℤ floor_at_32 f = omega (arith, ints) in
    let h2 : floor_at_32 f ≤ℤ pos (range_size (floor_at_32 f) (ceil_at_32 f)) = omega (arith, ints) in
    let h3 : neg_ℤ (pos (range_size (floor_at_32 f) (ceil_at_32 f))) ≤ℤ ceil_at_32 f = omega (arith, ints) in
    let h4 : ceil_at_32 f ≤ℤ pos (range_size (floor_at_32 f) (ceil_at_32 f)) = omega (arith, ints) in
    let h5 : 2 ^ 8 ≤ 2 ^ 8 = omega arith in
    rw (t1, t2) (covered h1 h2 h3 h4 h5)

none : ℕ → Bound
none k = unbounded

horner_covered : (cs : List Frac) (f : Fraction) (F k : ℕ) (b : ℕ → Bound) → HasSize F f → horner_fits cs F k ≡ true
    → IsCovered (bound_of (limits_at 56) b (horner_to cs f k)) (horner_size cs F k) (horner_width F k)
unfolding bound_of integer_bound horner_to horner_size horner_width horner_fits
horner_covered cs f F zero b i e =
    let h1 : neg_ℤ (pos 0) ≤ℤ pos 0 = omega (arith, ints) in
    let h2 : pos 0 ≤ℤ pos 0 = omega (arith, ints) in
    let h5 : 0 ≤ 0 = omega arith in
    covered h1 h2 h1 h2 h5
horner_covered cs f F (suc k) b i e =
    let t = four (horner_fits cs F k) _ _ _ e in
    let p : horner_size cs F k < 2 ^ 62 = ltb-true _ _ t.1 in
    let q : horner_size cs F k * F + range_size (floor_at_32 (coefficient_at cs k)) (ceil_at_32 (coefficient_at cs k))
    < 2 ^ 100 = ltb-true _ _ t.2 in
    let r : unsigned_abs (coefficient_at cs k).num < 2 ^ 70 = ltb-true _ _ t.3 in
    let a = horner_covered cs f F k b i t.0 in
    wider_covered _ _ _ _ (omega arith)
    (sum_covered _ _ (horner_size cs F k * F) (horner_width F k * F + 2 ^ 9) _ (2 ^ 8) q
    (scaled_covered _ f (horner_size cs F k) (horner_width F k) F p (omega (arith, q)) i a)
    (constant_covered (coefficient_at cs k) r (omega (arith, q))))

-- what keeps the bound of Horner's form at such a fraction
pub horner_within : {E : Type 0} (shown : E → Interval) (n : ℕ) (cs : List Frac) (f : Fraction) (F : ℕ) (e : E) → n ≡ 56
    → HasSize F f
    → horner_fits cs F (length cs) ≡ true → ((r : Reach) → Narrow shown (limits_of n) r (horner_of cs f) e)
    → IsAbout (horner_size cs F (length cs)) (horner_width F (length cs)) (shown e)
unfolding Keeps horner_of
horner_within shown n cs f F e p i t h =
    let l = limits_within n (omega arith) (omega arith) in
    let z = h (record { width = 0; bounds = none }) in
    within_covered _ _ _ (shown e) (horner_covered cs f F (length cs) none i t) (rw (l, p) at z.kept)
