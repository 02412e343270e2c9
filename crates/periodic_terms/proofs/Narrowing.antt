-- How wide spans and sums are, as measures of enclosures: from an enclosure to the endpoints of its span, and back. A
-- measure is a bound of range and width in 2^-64; a span's endpoints are whole numbers of 2^-56, in which both become
-- inequalities that `omega` decides. Into an enclosure goes the bound of a span, which is two units wider. The reach of
-- the factor's square is computed of the factor's bound.
use Rattle.std.proofs.Common.{◌≡◌, ℕ, ◌+◌, ◌*◌, ◌^◌, ◌≤◌, refl, arith, true, ℤ, pos, ◌+ℤ◌, ◌-ℤ◌, ◌*ℤ◌, ◌≤ℤ◌, ◌<ℤ◌}
use Rattle.std.specs.Prelude.{nat_lt}
use Rattle.std.proofs.lemmas.Int.{ints}
use Rattle.book_model.specs.Interval.{Interval, everything, between, ◌⊆◌}
use Rattle.book_model.proofs.Intervals.{within_everything}
use Rattle.book_model.specs.numbers.Bounds.{Bound, bounded, Reach, IsNarrow, bound_of, implies, limits_at, limits_of}
use Rattle.book_model.specs.numbers.Bounds.{power_bound, range_size, spanned_bound}
use Rattle.book_model.specs.numbers.Expressions.{Expression, World, argument, power, value}
use Rattle.book_model.specs.numbers.Relations.{Lies, Narrow, Within}
use Rattle.book_model.specs.programs.Leading.{units_of_56}
use Rattle.book_model.specs.programs.Widths.{IsWithin}
use Rattle.book_model.proofs.Implying.{limits_within}
use Rattle.encl_core.proofs.Measuring.{looser, measured, sloped}
use Rattle.trig_series.proofs.SineLemmas.{AreKept, span_keeps, kept_of, spans_of}
use Rattle.periodic_terms.specs.Widths.{IsFactorSpan, IsFactorWithin, IsUsualEccentricity}

-- ---- what is measured has endpoints
pub some_span : (a b : ℤ) (v : ℕ) (i : Interval) → i ≡ everything → IsWithin a b v i → ⊥
unfolding IsNarrow
some_span a b v i e h = let k : IsNarrow 0 (bounded a b 0 v) everything = rw e at h.kept in k

pub endpoints_of : (a b : ℤ) (v : ℕ) (i : Interval) (lo hi : ℤ) → lo ≤ℤ hi
    → i ⊆ between (units_of_56 lo) (units_of_56 hi)
    → between (units_of_56 lo) (units_of_56 hi) ⊆ i → IsWithin a b v i → AreKept a b 0 v 0 lo hi
unfolding IsNarrow
endpoints_of a b v i lo hi o g h k = kept_of a b 0 v 0 lo hi (span_keeps 0 (bounded a b 0 v) i lo hi o g h k.kept)

pub endpoints_within : (a b : ℤ) (v : ℕ) (lo hi : ℤ) → lo ≤ℤ hi → (a *ℤ pos (2 ^ 24)) ≤ℤ lo → hi ≤ℤ (b *ℤ pos (2 ^ 24))
    → ((hi -ℤ lo) *ℤ pos 256) ≤ℤ pos v → IsWithin a b v (between (units_of_56 lo) (units_of_56 hi))
unfolding IsNarrow
endpoints_within a b v lo hi o l u d = record {
  kept = spans_of a b 0 v 0 lo hi (record { low = l; high = u; order = o; close = omega (arith, ints, d) });
}

-- ---- an enclosure from such a span
pub spanned_within : {E : Type 0} (shown : E → Interval) (n : ℕ) (a b : ℤ) (v : ℕ) (i : Interval) (e : E) → n ≡ 56
    → nat_lt (range_size a b) (limits_at 56).sizes ≡ true → IsWithin a b v i
    → ((w : ℕ) (b : Bound) → IsNarrow w b i → IsNarrow w (spanned_bound (limits_of n) b) (shown e))
    → IsWithin a b (v + 2 ^ 9) (shown e)
unfolding spanned_bound
spanned_within shown n a b v i e p f h k =
    let l = limits_within n (omega arith) (omega arith) in
    record { kept = rw (l, p, f) at (k 0 (bounded a b 0 v) h.kept) }

-- ---- the factor
abbrev eccentricity_bounds : ℕ → Bound
eccentricity_bounds k = bounded (pos (3 * 2 ^ 30)) (pos (35 * 2 ^ 27)) 0 (2 ^ 24)

square_reach : implies (bound_of (limits_at 56) eccentricity_bounds (power (argument 0) 2))
    (bounded (pos (2 ^ 30)) (pos (39 * 2 ^ 27)) 0 (2 ^ 26)) ≡ true
unfolding implies bound_of power_bound
square_reach = refl

pub square_within : {E : Type 0} (shown : E → Interval) (n : ℕ) (e y : E) → n ≡ 56 → IsUsualEccentricity (shown e)
    → ((r : Reach) (x : Expression) → Narrow shown (limits_of n) r x e → Narrow shown (limits_of n) r (power x 2) y)
    → IsFactorWithin (shown y)
square_within shown n e y p h f =
    measured shown n 0 eccentricity_bounds (power (argument 0) 2) (pos (2 ^ 30)) (pos (39 * 2 ^ 27)) 0 (2 ^ 26)
    (2 ^ 26) y p square_reach (omega arith)
    (f (record { width = 0; bounds = eccentricity_bounds }) (argument 0)
    (sloped shown (limits_of n) 0 (2 ^ 24) eccentricity_bounds 0 (pos (3 * 2 ^ 30)) (pos (35 * 2 ^ 27)) 0
    (2 ^ 24) e refl (omega arith) h))

pub factor_span : (a b : ℤ) (v : ℕ) (lo hi : ℤ) → pos (2 ^ 30) ≤ℤ a → b ≤ℤ pos (39 * 2 ^ 27) → v ≤ 2 ^ 26
    → AreKept a b 0 v 0 lo hi → IsFactorSpan lo hi
factor_span a b v lo hi p q r h = record {
  low = omega (arith, ints, p, h.low);
  high = omega (arith, ints, q, h.high);
  order = h.order;
  close = omega (arith, ints, r, h.close);
}

-- ---- a turn
pub half_close : (half v : ℕ) (middle lo hi : ℤ) → (lo +ℤ hi) <ℤ (middle *ℤ pos 2 +ℤ pos 2)
    → pos half ≡ (hi -ℤ middle) *ℤ pos 32 +ℤ pos 90
    → ((hi -ℤ lo) *ℤ pos 256) ≤ℤ pos v → half * 16 ≤ v + 2 ^ 11
half_close half v middle lo hi c e d = omega (arith, ints, c, e, d)

-- ---- an enclosure of every number holds all
pub anywhere : {E : Type 0} {shown : E → Interval} {w : World} {x : Expression} {e : E} → shown e ≡ everything
    → 40 ≤ w.depth → Within shown w x e
unfolding Lies
anywhere {w = w} {x = x} k d = record { deep = d; inside = rw k (within_everything (value w x)) }

pub usual_within : (i : Interval) → IsUsualEccentricity i → IsFactorWithin i
usual_within i h = looser (pos (3 * 2 ^ 30)) (pos (35 * 2 ^ 27)) (pos (2 ^ 30)) (pos (39 * 2 ^ 27)) (2 ^ 24) (2 ^ 26) i
    (omega (arith, ints)) (omega
    (arith, ints)) (omega arith) h
