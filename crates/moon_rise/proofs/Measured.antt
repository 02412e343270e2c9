-- How wide the moon's distance is at the scale 2^-56. The sum of its terms is one number of known width, by that of the
-- moment; the distance is computed with bounds in its place, once, and `measured` leads to the width of any enclosure.
use Rattle.std.specs.Prelude.{◌≡◌, ℕ, ◌+◌, ◌*◌, ◌^◌, true, pos, neg_ℤ, refl}
use Rattle.std.proofs.Common.{arith}
use Rattle.book_model.specs.Interval.{Interval}
use Rattle.book_model.specs.numbers.Bounds.{Bound, bounded, Reach, implies, bound_of, limits_at, limits_of}
use Rattle.book_model.specs.numbers.Bounds.{constant_bound, sum_bound, scaled_bound}
use Rattle.book_model.specs.numbers.Expressions.{add, argument, constant, scale}
use Rattle.book_model.specs.numbers.Relations.{Narrow}
use Rattle.book_model.specs.programs.Widths.{IsAbout}
use Rattle.book_model.specs.sky.Distance.{metre}
use Rattle.encl_core.proofs.Measuring.{measured, sloped}
use Rattle.moon_rise.specs.Computed.{mean_kilometres}
use Rattle.moon_rise.specs.Widths.{IsDistance}

-- the sum of the terms, in metres, by the width of the moment: each angle is at most 14 times as wide as that, and the
-- sum 962,000 times as wide as an angle
abbrev sum_bound_of : ℕ → Bound
sum_bound_of k = bounded (neg_ℤ (pos (29900000 * 2 ^ 32))) (pos (29900000 * 2 ^ 32)) (13468000 * 2 ^ 40) (2 ^ 51)

abbrev pub terms_reach : ℕ → Reach
terms_reach v = record { width = v; bounds = sum_bound_of }

pub terms_within : {E : Type 0} (shown : E → Interval) (n v : ℕ) (y : E)
    → IsAbout (29900000 * 2 ^ 32) (962000 * (14 * v + 2 ^ 22) + 2 ^ 50 + 2 ^ 9) (shown y)
    → Narrow shown (limits_of n) (terms_reach v) (argument 0) y
terms_within shown n v y h = sloped shown (limits_of n) v (962000 * (14 * v + 2 ^ 22) + 2 ^ 50 + 2 ^ 9) sum_bound_of 0
    (neg_ℤ (pos (29900000 * 2 ^ 32)))
    (pos (29900000 * 2 ^ 32)) (13468000 * 2 ^ 40) (2 ^ 51) y refl (omega arith) h

distance_reach : implies (bound_of (limits_at 56) sum_bound_of
    (add (constant mean_kilometres) (scale metre (argument 0))))
    (bounded (pos (355000 * 2 ^ 32)) (pos (415000 * 2 ^ 32)) (13500 * 2 ^ 40) (3 * 2 ^ 40)) ≡ true
unfolding implies bound_of constant_bound sum_bound scaled_bound
distance_reach = refl

pub distance_within : {E : Type 0} (shown : E → Interval) (n v : ℕ) (y : E) → n ≡ 56
    → Narrow shown (limits_of n) (terms_reach v) (add (constant mean_kilometres) (scale metre (argument 0))) y
    → IsDistance v (shown y)
distance_within shown n v y e h =
    measured shown n v sum_bound_of (add (constant mean_kilometres) (scale metre (argument 0))) _ _ (13500 * 2 ^ 40)
    (3 * 2 ^ 40) (16384 * v + 2 ^ 42) y e
    distance_reach (omega arith) h
