-- How wide the moments are at which the sun is next at a longitude, at the scale 2^-56. The degrees that the sun is
-- before it are as wide as its longitude; the bound of the moment to which the mean sun leads is computed of them
-- (`forward_reach`), and so are the two bounds of the bisection, five days before and after. A bisection adds 2^15 to
-- the wider of these.
use Rattle.std.specs.Prelude.{◌≡◌, ℕ, ◌+◌, ◌-◌, ◌*◌, ◌^◌, true, pos, neg_ℤ, refl, if◌then◌else◌, ◌==◌, Result, Ok, Err}
use Rattle.std.proofs.Common.{arith}
use Rattle.std.proofs.lemmas.Int.{ints}
use Rattle.book_model.specs.Interval.{Interval}
use Rattle.book_model.specs.declared.fail.Fail.{Fail}
use Rattle.book_model.specs.numbers.Bounds.{Bound, bounded, Reach, implies, bound_of, limits_at, limits_of}
use Rattle.book_model.specs.numbers.Bounds.{integer_bound, sum_bound, difference_bound, scaled_bound, maximum_bound}
use Rattle.book_model.specs.numbers.Expressions.{Expression, argument, integer, add, subtract, maximum}
use Rattle.book_model.specs.numbers.Ranges.{IsInTable}
use Rattle.book_model.specs.numbers.Relations.{Narrow}
use Rattle.book_model.specs.programs.Widths.{IsAbout, IsMoment, IsUpTo, Measures, table_days, table_from, table_to}
use Rattle.book_model.specs.sky.Sun.{forward_by}
use Rattle.encl_core.proofs.Measuring.{measured, sloped, looser, drawn}
use Rattle.angle_search.proofs.Measured.{apart_within, turn_is_angle, moment_wider}
use Rattle.sun_core.specs.Widths.{IsNearMoment}

-- ---- how far the sun is before a longitude
pub short_within : {E : Type 0} (shown : E → Interval) (n v : ℕ) (l s d : E) → n ≡ 56 → IsMoment 0 (shown l)
    → IsUpTo 360 v (shown s)
    → ((r : Reach) (p q : Expression) → Narrow shown (limits_of n) r p l → Narrow shown (limits_of n) r q s
    → Narrow shown (limits_of n) r (subtract p q) d)
    → IsAbout (2 ^ 90) v (shown d)
short_within shown n v l s d e h k f = looser _ _ _ _ (0 + v) v _ (omega (arith, ints)) (omega (arith, ints))
    (omega arith)
    (apart_within shown n 0 v l s d e h (turn_is_angle v _ k) f)

-- ---- the moment to which the mean sun leads: a moment of the table, and degrees that are about twice as wide
abbrev moment_bounds : ℕ → Bound
moment_bounds k = if k == 0 then table_days 0 (2 ^ 40) 0 else bounded (pos 0) (pos (360 * 2 ^ 32)) (2 * 2 ^ 40) (2 ^ 32)

forward_reach : implies (bound_of (limits_at 56) moment_bounds (forward_by (argument 1) (argument 0)))
    (bounded (neg_ℤ (pos (2 ^ 52))) (pos (2 ^ 52)) (4 * 2 ^ 40) (2 ^ 33 - 2 ^ 24)) ≡ true
unfolding implies bound_of sum_bound scaled_bound forward_by
forward_reach = refl

pub forward_within : {E : Type 0} (shown : E → Interval) (n v : ℕ) (t p x : E) → n ≡ 56 → IsInTable (shown t)
    → IsMoment v (shown t)
    → IsUpTo 360 (2 * v + 2 ^ 32) (shown p)
    → ((r : Reach) (a b : Expression) → Narrow shown (limits_of n) r a p → Narrow shown (limits_of n) r b t
    → Narrow shown (limits_of n) r (forward_by a b) x)
    → IsNearMoment (4 * v + (2 ^ 33 - 2 ^ 24)) (shown x)
forward_within shown n v t p x e i h k f =
    measured shown n v moment_bounds (forward_by (argument 1) (argument 0)) _ _ (4 * 2 ^ 40) (2 ^ 33 - 2 ^ 24)
    (4 * v + (2 ^ 33 - 2 ^ 24)) x e forward_reach
    (omega arith)
    (f (record { width = v; bounds = moment_bounds }) (argument 1) (argument 0)
    (sloped shown (limits_of n) v (2 * v + 2 ^ 32) moment_bounds 1 (pos 0) (pos (360 * 2 ^ 32)) (2 * 2 ^ 40) (2 ^ 32) p
    refl (omega arith) k)
    (sloped shown (limits_of n) v v moment_bounds 0 (table_from 0) (table_to 0) (2 ^ 40) 0 t refl (omega arith)
    (drawn _ _ _ _ v (shown t) i h)))

-- ---- the bounds about it
abbrev end_bounds : ℕ → Bound
end_bounds k = if k == 0 then bounded (neg_ℤ (pos (2 ^ 58))) (pos (2 ^ 58)) (2 ^ 40) 0
    else bounded (neg_ℤ (pos (2 ^ 52))) (pos (2 ^ 52)) (2 ^ 40) 0

low_reach : implies
    (bound_of (limits_at 56) end_bounds (maximum (argument 0) (subtract (argument 1) (integer (pos 5)))))
    (bounded (neg_ℤ (pos (2 ^ 58))) (pos (2 ^ 58)) (2 ^ 40) 0) ≡ true
unfolding implies bound_of maximum_bound difference_bound integer_bound
low_reach = refl

high_reach : implies (bound_of (limits_at 56) end_bounds (add (argument 1) (integer (pos 5))))
    (bounded (neg_ℤ (pos (2 ^ 58))) (pos (2 ^ 58)) (2 ^ 40) 0) ≡ true
unfolding implies bound_of sum_bound integer_bound
high_reach = refl

module _ {E : Type 0} (shown : E → Interval) (n v : ℕ) (t about days : E) (e : n ≡ 56) (h : IsMoment v (shown t))
    (k : IsNearMoment v (shown about))
    (i : (r : Reach) → Narrow shown (limits_of n) r (integer (pos 5)) days)
  where
    t_kept : Narrow shown (limits_of n) (record { width = v; bounds = end_bounds }) (argument 0) t
    t_kept = sloped shown (limits_of n) v v end_bounds 0 (neg_ℤ (pos (2 ^ 58))) (pos (2 ^ 58)) (2 ^ 40) 0 t refl
        (omega arith) h

    about_kept : Narrow shown (limits_of n) (record { width = v; bounds = end_bounds }) (argument 1) about
    about_kept = sloped shown (limits_of n) v v end_bounds 1 (neg_ℤ (pos (2 ^ 52))) (pos (2 ^ 52)) (2 ^ 40) 0 about refl
        (omega arith) k

    pub low_within : (d x : E) → ((r : Reach) (p q : Expression) → Narrow shown (limits_of n) r p about
        → Narrow shown (limits_of n) r q days
        → Narrow shown (limits_of n) r (subtract p q) d)
        → ((r : Reach) (p q : Expression) → Narrow shown (limits_of n) r p t → Narrow shown (limits_of n) r q d
        → Narrow shown (limits_of n) r (maximum p q) x)
        → IsMoment v (shown x)
    low_within d x f g =
        let r : Reach = record { width = v; bounds = end_bounds } in
        measured shown n v end_bounds (maximum (argument 0) (subtract (argument 1) (integer (pos 5)))) _ _ (2 ^ 40) 0 v
        x e low_reach (omega arith)
        (g r (argument 0) _ t_kept (f r (argument 1) _ about_kept (i r)))

    pub high_within : (x : E) → ((r : Reach) (p q : Expression) → Narrow shown (limits_of n) r p about
        → Narrow shown (limits_of n) r q days
        → Narrow shown (limits_of n) r (add p q) x) → IsMoment v (shown x)
    high_within x f =
        let r : Reach = record { width = v; bounds = end_bounds } in
        measured shown n v end_bounds (add (argument 1) (integer (pos 5))) _ _ (2 ^ 40) 0 v x e high_reach (omega arith)
        (f r (argument 1) _ about_kept (i r))

-- what is found about it
pub passage_measured : {E : Type 0} (shown : E → Interval) (v : ℕ) (r : Result E Fail)
    → Measures (λ x. IsMoment (4 * v + (2 ^ 33 - 2 ^ 24) + 2 ^ 24) (shown x)) r
    → Measures (λ x. IsMoment (4 * v + 2 ^ 33) (shown x)) r
passage_measured shown v (Ok x) h = moment_wider (4 * v + (2 ^ 33 - 2 ^ 24) + 2 ^ 24) (4 * v + 2 ^ 33) (shown x)
    (omega arith) h
passage_measured shown v (Err f) h = h
