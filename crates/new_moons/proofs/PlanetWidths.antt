-- How wide the sum of the planets' periodic terms is, over a whole number of months: its days are exact, so that
-- only the roundings of its rows are left.
use Rattle.std.specs.Prelude.{◌≡◌, ℕ, ◌*◌, ◌^◌, ◌<◌, true, nat_lt, unsigned_abs, refl, ℤ, pos, ◌*ℤ◌}
use Rattle.std.proofs.Common.{arith}
use Rattle.std.proofs.lemmas.Bool.{lt-ltb}
use Rattle.std.proofs.lemmas.Int.{ints}
use Rattle.book_model.specs.Interval.{Interval}
use Rattle.book_model.specs.numbers.Bounds.{Bound, unbounded, bounded, Reach, IsNarrow, bound_of, integer_bound}
use Rattle.book_model.specs.numbers.Bounds.{limits_at, limits_of}
use Rattle.book_model.specs.numbers.Expressions.{integer}
use Rattle.book_model.specs.numbers.Relations.{Narrow, Keeps}
use Rattle.book_model.specs.programs.Widths.{IsAbout}
use Rattle.book_model.proofs.Implying.{limits_within}
use Rattle.encl_core.proofs.Measuring.{looser}
use Rattle.periodic_terms.specs.Turning.{width_of_sum}
use Rattle.new_moons.specs.Widths.{IsNearMonth}
use Rattle.new_moons.specs.declared.planets.TheConstants.{PLANET_SLOPE, PLANET_SIZES}

abbrev month_bounds : ℕ → Bound
month_bounds k = unbounded

integer_kept : (n : ℤ) → unsigned_abs n < 2 ^ 40 → IsNarrow 0 (integer_bound (limits_at 56) n)
    ≡ IsNarrow 0 (bounded (n *ℤ pos (2 ^ 32)) (n *ℤ pos (2 ^ 32)) 0 0)
unfolding integer_bound
integer_kept n h = let t : nat_lt (unsigned_abs n * 2 ^ 32) (2 ^ 100) ≡ true =
    lt-ltb _ _ (omega (arith, h)) in rw t refl

pub months_within : {E : Type 0} (shown : E → Interval) (n : ℕ) (k : ℤ) (e : E) → n ≡ 56 → IsNearMonth k
    → ((r : Reach) → Narrow shown (limits_of n) r (integer k) e) → IsAbout (2 ^ 52) 0 (shown e)
unfolding Keeps bound_of
months_within shown n k e p h f =
    let l = limits_within n (omega arith) (omega arith) in
    let z = f (record { width = 0; bounds = month_bounds }) in
    let y : IsNarrow 0 (integer_bound (limits_at 56) k) (shown e) = rw (l, p) at z.kept in
    let x = rw (integer_kept k (omega (arith, ints, h.0, h.1))) at y in
    looser _ _ _ _ 0 0 (shown e) (omega (arith, ints, h.0, h.1)) (omega (arith, ints, h.0, h.1)) (omega arith)
    (record { kept = x })

pub planets_sum_within : (i : Interval) → IsAbout (PLANET_SIZES * 2 ^ 32) (width_of_sum PLANET_SLOPE PLANET_SIZES 0) i
    → IsAbout (2 ^ 46) (2 ^ 37) i
planets_sum_within i h = looser _ _ _ _ _ (2 ^ 37) i (omega (arith, ints)) (omega (arith, ints)) (omega arith) h
