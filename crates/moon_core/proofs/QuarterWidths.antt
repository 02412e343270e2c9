-- How wide the moments are at which the moon was last at a phase, at the scale 2^-56. The degrees that it is past the
-- phase are as wide as the phase; the bound of the moment to which the mean phase leads back is computed of them
-- (`back_reach`), and so are the two bounds of the bisection, two days before and after. A bisection adds 2^15 to the
-- wider of these.
use Rattle.std.specs.Prelude.{◌≡◌, ℕ, ◌+◌, ◌-◌, ◌*◌, ◌^◌, true, ℤ, pos, neg_ℤ, refl, if◌then◌else◌, ◌==◌, Result, Ok}
use Rattle.std.specs.Prelude.{Err}
use Rattle.std.proofs.Common.{arith}
use Rattle.std.proofs.lemmas.Int.{ints}
use Rattle.book_model.specs.Interval.{Interval}
use Rattle.book_model.specs.declared.fail.Fail.{Fail}
use Rattle.book_model.specs.numbers.Bounds.{Bound, bounded, Reach, implies, bound_of, limits_at, limits_of}
use Rattle.book_model.specs.numbers.Bounds.{integer_bound, sum_bound, difference_bound, scaled_bound, minimum_bound}
use Rattle.book_model.specs.numbers.Expressions.{Expression, argument, integer, add, subtract, minimum}
use Rattle.book_model.specs.numbers.Ranges.{IsInTable}
use Rattle.book_model.specs.numbers.Relations.{Narrow}
use Rattle.book_model.specs.programs.Widths.{IsAbout, IsMoment, IsSmall, IsUpTo, Measures, table_days, table_from}
use Rattle.book_model.specs.programs.Widths.{table_to}
use Rattle.book_model.specs.sky.Phases.{phase_back_by}
use Rattle.encl_core.proofs.Measuring.{measured, sloped, looser, drawn}
use Rattle.sun_core.proofs.SearchMeasured.{apart_within, turn_is_angle, moment_wider}
use Rattle.time_scales.proofs.ZoneWidths.{whole_day_within}
use Rattle.sun_core.specs.Widths.{IsNearMoment}

-- ---- how far the moon is past a phase
pub past_within : {E : Type 0} (shown : E → Interval) (n v : ℕ) (p f d : E) → n ≡ 56 → IsUpTo 360 v (shown p)
    → IsMoment 0 (shown f)
    → ((r : Reach) (x y : Expression) → Narrow shown (limits_of n) r x p → Narrow shown (limits_of n) r y f
    → Narrow shown (limits_of n) r (subtract x y) d)
    → IsAbout (2 ^ 90) v (shown d)
past_within shown n v p f d e h k g = looser _ _ _ _ (v + 0) v _ (omega (arith, ints)) (omega (arith, ints))
    (omega arith)
    (apart_within shown n v 0 p f d e (turn_is_angle v _ h) k g)

-- ---- the moment to which the mean phase leads back: a moment of the table, and degrees that are 24 times as wide
abbrev moment_bounds : ℕ → Bound
moment_bounds k = if k == 0 then table_days 0 (2 ^ 40) 0 else bounded (pos 0) (pos (360 * 2 ^ 32)) (24 * 2 ^ 40)
    (2 ^ 37)

back_reach : implies (bound_of (limits_at 56) moment_bounds (phase_back_by (argument 1) (argument 0)))
    (bounded (neg_ℤ (pos (2 ^ 52))) (pos (2 ^ 52)) (3 * 2 ^ 40) (2 ^ 34 - 2 ^ 24)) ≡ true
unfolding implies bound_of difference_bound scaled_bound phase_back_by
back_reach = refl

pub back_within : {E : Type 0} (shown : E → Interval) (n v : ℕ) (t p x : E) → n ≡ 56 → IsInTable (shown t)
    → IsMoment v (shown t)
    → IsUpTo 360 (24 * v + 2 ^ 37) (shown p)
    → ((r : Reach) (a b : Expression) → Narrow shown (limits_of n) r a p → Narrow shown (limits_of n) r b t
    → Narrow shown (limits_of n) r (phase_back_by a b) x) → IsNearMoment (3 * v + (2 ^ 34 - 2 ^ 24)) (shown x)
back_within shown n v t p x e i h k f =
    measured shown n v moment_bounds (phase_back_by (argument 1) (argument 0)) _ _ (3 * 2 ^ 40) (2 ^ 34 - 2 ^ 24)
    (3 * v + (2 ^ 34 - 2 ^ 24)) x e back_reach
    (omega arith)
    (f (record { width = v; bounds = moment_bounds }) (argument 1) (argument 0)
    (sloped shown (limits_of n) v (24 * v + 2 ^ 37) moment_bounds 1 (pos 0) (pos (360 * 2 ^ 32)) (24 * 2 ^ 40) (2 ^ 37)
    p refl (omega arith) k)
    (sloped shown (limits_of n) v v moment_bounds 0 (table_from 0) (table_to 0) (2 ^ 40) 0 t refl (omega arith)
    (drawn _ _ _ _ v (shown t) i h)))

-- ---- the bounds about it
abbrev end_bounds : ℕ → Bound
end_bounds k = if k == 0 then bounded (neg_ℤ (pos (2 ^ 58))) (pos (2 ^ 58)) (2 ^ 40) 0
    else bounded (neg_ℤ (pos (2 ^ 52))) (pos (2 ^ 52)) (2 ^ 40) 0

low_reach : implies (bound_of (limits_at 56) end_bounds (subtract (argument 1) (integer (pos 2))))
    (bounded (neg_ℤ (pos (2 ^ 58))) (pos (2 ^ 58)) (2 ^ 40) 0)
    ≡ true
unfolding implies bound_of difference_bound integer_bound
low_reach = refl

high_reach : implies (bound_of (limits_at 56) end_bounds (minimum (argument 0) (add (argument 1) (integer (pos 2)))))
    (bounded (neg_ℤ (pos (2 ^ 58))) (pos (2 ^ 58)) (2 ^ 40) 0) ≡ true
unfolding implies bound_of minimum_bound sum_bound integer_bound
high_reach = refl

module _ {E : Type 0} (shown : E → Interval) (n v : ℕ) (t about days : E) (e : n ≡ 56) (h : IsMoment v (shown t))
    (k : IsNearMoment v (shown about))
    (i : (r : Reach) → Narrow shown (limits_of n) r (integer (pos 2)) days)
  where
    t_kept : Narrow shown (limits_of n) (record { width = v; bounds = end_bounds }) (argument 0) t
    t_kept = sloped shown (limits_of n) v v end_bounds 0 (neg_ℤ (pos (2 ^ 58))) (pos (2 ^ 58)) (2 ^ 40) 0 t refl
        (omega arith) h

    about_kept : Narrow shown (limits_of n) (record { width = v; bounds = end_bounds }) (argument 1) about
    about_kept = sloped shown (limits_of n) v v end_bounds 1 (neg_ℤ (pos (2 ^ 52))) (pos (2 ^ 52)) (2 ^ 40) 0 about refl
        (omega arith) k

    pub low_within : (x : E) → ((r : Reach) (p q : Expression) → Narrow shown (limits_of n) r p about
        → Narrow shown (limits_of n) r q days
        → Narrow shown (limits_of n) r (subtract p q) x) → IsMoment v (shown x)
    low_within x f =
        let r : Reach = record { width = v; bounds = end_bounds } in
        measured shown n v end_bounds (subtract (argument 1) (integer (pos 2))) _ _ (2 ^ 40) 0 v x e low_reach
        (omega arith)
        (f r (argument 1) _ about_kept (i r))

    pub high_within : (d x : E) → ((r : Reach) (p q : Expression) → Narrow shown (limits_of n) r p about
        → Narrow shown (limits_of n) r q days
        → Narrow shown (limits_of n) r (add p q) d)
        → ((r : Reach) (p q : Expression) → Narrow shown (limits_of n) r p t → Narrow shown (limits_of n) r q d
        → Narrow shown (limits_of n) r (minimum p q) x)
        → IsMoment v (shown x)
    high_within d x f g =
        let r : Reach = record { width = v; bounds = end_bounds } in
        measured shown n v end_bounds (minimum (argument 0) (add (argument 1) (integer (pos 2)))) _ _ (2 ^ 40) 0 v x e
        high_reach (omega arith)
        (g r (argument 0) _ t_kept (f r (argument 1) _ about_kept (i r)))

-- what is found about it
pub passage_measured : {E : Type 0} (shown : E → Interval) (v : ℕ) (r : Result E Fail)
    → Measures (λ x. IsMoment (3 * v + (2 ^ 34 - 2 ^ 24) + 2 ^ 24) (shown x)) r
    → Measures (λ x. IsMoment (3 * v + 2 ^ 34) (shown x)) r
passage_measured shown v (Ok x) h = moment_wider (3 * v + (2 ^ 34 - 2 ^ 24) + 2 ^ 24) (3 * v + 2 ^ 34) (shown x)
    (omega arith) h
passage_measured shown v (Err f) h = h

-- ---- a whole number within 40,000,000 of 0, as a moment
pub whole_moment : {E : Type 0} (shown : E → Interval) (n : ℕ) (d : ℤ) (x : E) → n ≡ 56 → IsSmall d
    → ((r : Reach) → Narrow shown (limits_of n) r (integer d) x)
    → IsMoment 0 (shown x)
whole_moment shown n d x e h f = looser _ _ _ _ 0 0 _ (omega (arith, ints)) (omega (arith, ints)) (omega arith)
    (whole_day_within shown n d x e (h.0, omega (arith, ints, h.1)) f)
