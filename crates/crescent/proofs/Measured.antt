-- How wide the arc of light is at the scale 2^-56. Its cosine is computed with bounds in place of the latitude and the
-- phase, once, as a closed term; `measured` leads from there to the width of any enclosure.
use Rattle.std.specs.Prelude.{◌≡◌, ℕ, ◌*◌, ◌^◌, true, pos, neg_ℤ, refl, if◌then◌else◌, ◌==◌}
use Rattle.std.proofs.Common.{arith}
use Rattle.book_model.specs.Interval.{Interval}
use Rattle.book_model.specs.numbers.Bounds.{Bound, bounded, Reach, implies, bound_of, limits_at, limits_of}
use Rattle.book_model.specs.numbers.Bounds.{product_bound, spanned_bound, cosine_spans}
use Rattle.book_model.specs.numbers.Expressions.{Expression, argument}
use Rattle.book_model.specs.numbers.Relations.{Narrow}
use Rattle.book_model.specs.sky.Crescent.{arc_cosine_of}
use Rattle.encl_core.proofs.Measuring.{measured, sloped}
use Rattle.rise_set.specs.Altitudes.{IsMoonAngle, IsMoonLatitude}
use Rattle.crescent.specs.Widths.{IsArcCosine}

abbrev arc_bounds : ℕ → Bound
arc_bounds k = if k == 0 then bounded (neg_ℤ (pos (7 * 2 ^ 32))) (pos (7 * 2 ^ 32)) 0 (2 ^ 37)
    else bounded (pos 0) (pos (360 * 2 ^ 32)) 0 (2 ^ 38)

arc_reach : implies (bound_of (limits_at 56) arc_bounds (arc_cosine_of (argument 0) (argument 1)))
    (bounded (neg_ℤ (pos (2 ^ 33))) (pos (2 ^ 33)) 0 (2 ^ 33))
    ≡ true
unfolding implies bound_of product_bound spanned_bound cosine_spans arc_cosine_of
arc_reach = refl

pub arc_within : {E : Type 0} (shown : E → Interval) (n : ℕ) (b f y : E) → n ≡ 56 → IsMoonLatitude (shown b)
    → IsMoonAngle (shown f)
    → ((r : Reach) (p q : Expression) → Narrow shown (limits_of n) r p b → Narrow shown (limits_of n) r q f
    → Narrow shown (limits_of n) r (arc_cosine_of p q) y) → IsArcCosine (shown y)
arc_within shown n b f y e h k g =
    measured shown n 0 arc_bounds (arc_cosine_of (argument 0) (argument 1)) _ _ 0 (2 ^ 33) (2 ^ 33) y e arc_reach
    (omega arith)
    (g (record { width = 0; bounds = arc_bounds }) (argument 0) (argument 1)
    (sloped shown (limits_of n) 0 (2 ^ 37) arc_bounds 0 (neg_ℤ (pos (7 * 2 ^ 32))) (pos (7 * 2 ^ 32)) 0 (2 ^ 37) b refl
    (omega arith) h)
    (sloped shown (limits_of n) 0 (2 ^ 38) arc_bounds 1 (pos 0) (pos (360 * 2 ^ 32)) 0 (2 ^ 38) f refl (omega arith) k))
