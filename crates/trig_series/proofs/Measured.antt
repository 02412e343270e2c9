-- How wide a sine and a cosine are at the scale 2^-56, whatever the degrees. What is measured keeps a bound with any
-- range, and the bound of a sine then computes to a 57th of the width, 36 parts and two units, which the row of the
-- table allows.
use Rattle.std.specs.Prelude.{◌≡◌, ℕ, ◌+◌, ◌*◌, ◌/◌, ◌^◌, pos, neg_ℤ}
use Rattle.std.proofs.Common.{arith}
use Rattle.std.proofs.lemmas.Int.{ints}
use Rattle.book_model.specs.Interval.{Interval}
use Rattle.book_model.specs.numbers.Bounds.{Bound, bounded, Limits, Reach, bound_of, limits_of, spanned_bound}
use Rattle.book_model.specs.numbers.Bounds.{sine_spans, cosine_spans}
use Rattle.book_model.specs.numbers.Expressions.{Expression, argument, sine, cosine}
use Rattle.book_model.specs.numbers.Relations.{Narrow, Keeps}
use Rattle.book_model.specs.programs.Widths.{IsAbout}
use Rattle.book_model.proofs.Implying.{limits_within}
use Rattle.encl_core.proofs.Measuring.{looser}

abbrev any_degrees : ℕ → ℕ → Bound
any_degrees v k = bounded (neg_ℤ (pos (2 ^ 94))) (pos (2 ^ 94)) 0 v

degrees_kept : {E : Type 0} (shown : E → Interval) (l : Limits) (v : ℕ) (x : E) → IsAbout (2 ^ 94) v (shown x)
    → Narrow shown l (record { width = 0; bounds = any_degrees v }) (argument 0) x
unfolding Keeps bound_of
degrees_kept shown l v x h = record { kept = h.kept }

-- a 57th of the width, 36 parts and two units
sine_kept : {E : Type 0} (shown : E → Interval) (n v : ℕ) (y : E) → n ≡ 56
    → Narrow shown (limits_of n) (record { width = 0; bounds = any_degrees v }) (sine (argument 0)) y
    → IsAbout (2 ^ 32) ((v + 56) / 57 + 36 * 2 ^ 8 + 2 * 2 ^ 8) (shown y)
unfolding Keeps bound_of spanned_bound sine_spans
sine_kept shown n v y e z =
    let l = limits_within n (omega arith) (omega arith) in
    record { kept = rw (l, e) at z.kept }

cosine_kept : {E : Type 0} (shown : E → Interval) (n v : ℕ) (y : E) → n ≡ 56
    → Narrow shown (limits_of n) (record { width = 0; bounds = any_degrees v }) (cosine (argument 0)) y
    → IsAbout (2 ^ 32) ((v + 56) / 57 + 36 * 2 ^ 8 + 2 * 2 ^ 8) (shown y)
unfolding Keeps bound_of spanned_bound cosine_spans
cosine_kept shown n v y e z =
    let l = limits_within n (omega arith) (omega arith) in
    record { kept = rw (l, e) at z.kept }

parts_within : (v : ℕ) (i : Interval) → IsAbout (2 ^ 32) ((v + 56) / 57 + 36 * 2 ^ 8 + 2 * 2 ^ 8) i
    → IsAbout (2 ^ 32) (v / 57 + 2 ^ 14) i
parts_within v i h = looser _ _ _ _ ((v + 56) / 57 + 36 * 2 ^ 8 + 2 * 2 ^ 8) (v / 57 + 2 ^ 14) i (omega (arith, ints))
    (omega (arith, ints)) (omega arith) h

pub sine_within : {E : Type 0} (shown : E → Interval) (n v : ℕ) (x y : E) → n ≡ 56 → IsAbout (2 ^ 94) v (shown x)
    → ((r : Reach) (a : Expression) → Narrow shown (limits_of n) r a x → Narrow shown (limits_of n) r (sine a) y)
    → IsAbout (2 ^ 32) (v / 57 + 2 ^ 14) (shown y)
sine_within shown n v x y e h f =
    parts_within v _
    (sine_kept shown n v y e (f (record { width = 0; bounds = any_degrees v }) (argument 0)
    (degrees_kept shown (limits_of n) v x h)))

pub cosine_within : {E : Type 0} (shown : E → Interval) (n v : ℕ) (x y : E) → n ≡ 56 → IsAbout (2 ^ 94) v (shown x)
    → ((r : Reach) (a : Expression) → Narrow shown (limits_of n) r a x → Narrow shown (limits_of n) r (cosine a) y)
    → IsAbout (2 ^ 32) (v / 57 + 2 ^ 14) (shown y)
cosine_within shown n v x y e h f =
    parts_within v _
    (cosine_kept shown n v y e (f (record { width = 0; bounds = any_degrees v }) (argument 0)
    (degrees_kept shown (limits_of n) v x h)))
