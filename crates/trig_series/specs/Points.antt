-- The sines at single angles as spans: near the endpoints of the series, and exact where an octant begins and ends.
use Rattle.std.specs.Prelude.{ℕ, zero, suc, neg_ℤ, unsigned_abs, ◌-◌, ◌*◌, ◌^◌, ℤ, pos, ◌+ℤ◌, ◌-ℤ◌, ◌*ℤ◌, ◌≤ℤ◌, ◌<ℤ◌}
use Rattle.book_model.specs.Fraction.{◌≤F◌}
use Rattle.book_model.specs.Sums.{lower, upper}
use Rattle.book_model.specs.numbers.Octants.{octant_of_turn}
use Rattle.book_model.specs.numbers.Series.{sine_term, cosine_term}
use Rattle.encl_core.specs.parts.TheConstants.{OCTANT, QUARTER, ONE}
use Rattle.encl_core.specs.Units.{at_64}
use Rattle.trig_series.specs.Kernel.{in_radians}

-- lo is hardly below the sine of d degrees in units of 2^-56, and hi hardly above it: by four and a half parts of 2^-56
pub record IsNearSine (d : ℕ) (lo hi : ℤ) : Type 0 where
  pub low : upper (sine_term (in_radians d)) 8 ≤F at_64 (lo *ℤ pos 256 +ℤ pos 1152)
  pub high : at_64 (hi *ℤ pos 256 -ℤ pos 1152) ≤F lower (sine_term (in_radians d)) 8

-- the same of the cosine
pub record IsNearCosine (d : ℕ) (lo hi : ℤ) : Type 0 where
  pub low : upper (cosine_term (in_radians d)) 9 ≤F at_64 (lo *ℤ pos 256 +ℤ pos 1152)
  pub high : at_64 (hi *ℤ pos 256 -ℤ pos 1152) ≤F lower (cosine_term (in_radians d)) 9

-- the same of the sine at d degrees into octant j of a turn
unfoldable pub IsPoint : ℕ → ℕ → ℤ → ℤ → Type 0
IsPoint zero d lo hi = IsNearSine d lo hi
IsPoint (suc zero) d lo hi = IsNearCosine (OCTANT - d) lo hi
IsPoint (suc (suc zero)) d lo hi = IsNearCosine d lo hi
IsPoint (suc (suc (suc zero))) d lo hi = IsNearSine (OCTANT - d) lo hi
IsPoint (suc (suc (suc (suc j)))) d lo hi = IsPoint j d (neg_ℤ hi) (neg_ℤ lo)

-- the sine where octant j of a turn begins, in parts of 2^-56
abbrev pub edge_of : ℕ → ℤ
edge_of zero = pos 0
edge_of (suc zero) = pos 50952413380206180
edge_of (suc (suc zero)) = ONE
edge_of (suc (suc (suc zero))) = pos 50952413380206180
edge_of (suc (suc (suc (suc j)))) = neg_ℤ (edge_of j)

-- e lies from lo to hi
pub record IsAt (e lo hi : ℤ) : Type 0 where
  pub above : lo ≤ℤ e
  pub below : e ≤ℤ hi

-- two spans whose endpoints are no further apart than a 57th of w and nine parts
pub record AreSteady (w lo hi lo' hi' : ℤ) : Type 0 where
  pub up : (pos 57 *ℤ (hi' -ℤ lo)) ≤ℤ (w +ℤ pos 513)
  pub down : (pos 57 *ℤ (hi -ℤ lo')) ≤ℤ (w +ℤ pos 513)

-- a span that lies within a 57th of w, and nine parts, of e
pub record IsAround (e w lo hi : ℤ) : Type 0 where
  pub up : (pos 57 *ℤ (hi -ℤ e)) ≤ℤ (w +ℤ pos 513)
  pub down : (pos 57 *ℤ (e -ℤ lo)) ≤ℤ (w +ℤ pos 513)

-- a span that is hardly below 20 parts in 1279 of f, and hardly above a 57th of t, as the sine from f to t degrees
pub record IsRising (f t lo hi : ℤ) : Type 0 where
  pub up : (pos 57 *ℤ hi) ≤ℤ (t +ℤ pos 513)
  pub down : (pos 20 *ℤ f) ≤ℤ (pos 1279 *ℤ (lo +ℤ pos 5))

-- a number that is hardly below 1 less the square of an 81st of t, as the cosine of at most t degrees
pub record IsCrest (t lo : ℤ) : Type 0 where
  pub down : (((ONE -ℤ lo) -ℤ pos 5) *ℤ pos (6561 * 2 ^ 56)) ≤ℤ (t *ℤ t)

-- the sine from f to t degrees into octant j of a turn: a rising sine or a falling cosine, or the other way round
unfoldable pub IsPart : ℕ → ℕ → ℕ → ℤ → ℤ → Type 0
IsPart zero f t lo hi = IsRising (pos f) (pos t) lo hi
IsPart (suc zero) f t lo hi = IsCrest (pos (OCTANT - f)) lo
IsPart (suc (suc zero)) f t lo hi = IsCrest (pos t) lo
IsPart (suc (suc (suc zero))) f t lo hi = IsRising (pos (OCTANT - t)) (pos (OCTANT - f)) lo hi
IsPart (suc (suc (suc (suc j)))) f t lo hi = IsPart j f t (neg_ℤ hi) (neg_ℤ lo)

-- the degrees from lo to hi lie inside octant k
pub record IsInside (k lo hi : ℤ) : Type 0 where
  pub above : (k *ℤ pos OCTANT) <ℤ lo
  pub below : hi <ℤ (k *ℤ pos OCTANT +ℤ pos OCTANT)

-- a span that lies within -16 and 16
pub record IsSmall (lo hi : ℤ) : Type 0 where
  pub above : neg_ℤ (pos (2 ^ 60)) ≤ℤ lo
  pub below : hi ≤ℤ pos (2 ^ 60)

-- the sine of what lies between two endpoints of degrees: it lies in -1..1, it is hardly wider than a 57th of the
-- endpoints' width, near 0 degrees it is near 0, near 90 degrees near 1, and inside an octant it is as the octant's
-- endpoints say
pub record IsNarrowSine (from to lo hi : ℤ) : Type 0 where
  pub above : neg_ℤ ONE ≤ℤ lo
  pub below : hi ≤ℤ ONE
  pub narrow : neg_ℤ (pos (2 ^ 120)) ≤ℤ from → to ≤ℤ pos (2 ^ 120)
      → (pos 57 *ℤ (hi -ℤ lo)) ≤ℤ ((to -ℤ from) +ℤ pos 2052)
  pub small : (a : ℤ) → neg_ℤ a ≤ℤ from → to ≤ℤ a → a <ℤ pos OCTANT → IsAround (pos 0) a lo hi
  pub crest : (a : ℤ) → (QUARTER -ℤ a) ≤ℤ from → to ≤ℤ (QUARTER +ℤ a) → a <ℤ pos OCTANT → IsCrest a lo
  pub inside : neg_ℤ (pos (2 ^ 120)) ≤ℤ from → to ≤ℤ pos (2 ^ 120) → (k : ℤ) → IsInside k from to
      → IsPart (octant_of_turn k) (unsigned_abs (from -ℤ k *ℤ pos OCTANT)) (unsigned_abs (to -ℤ k *ℤ pos OCTANT)) lo hi

-- the same of the cosine, which is near 1 at 0 degrees
pub record IsNarrowCosine (from to lo hi : ℤ) : Type 0 where
  pub above : neg_ℤ ONE ≤ℤ lo
  pub below : hi ≤ℤ ONE
  pub narrow : neg_ℤ (pos (2 ^ 119)) ≤ℤ from → to ≤ℤ pos (2 ^ 119)
      → (pos 57 *ℤ (hi -ℤ lo)) ≤ℤ ((to -ℤ from) +ℤ pos 2052)
  pub crest : (a : ℤ) → neg_ℤ a ≤ℤ from → to ≤ℤ a → a <ℤ pos OCTANT → IsCrest a lo
  pub inside : neg_ℤ (pos (2 ^ 119)) ≤ℤ from → to ≤ℤ pos (2 ^ 119) → (k : ℤ)
      → IsInside k (from +ℤ QUARTER) (to +ℤ QUARTER)
      → IsPart (octant_of_turn k) (unsigned_abs ((from +ℤ QUARTER) -ℤ k *ℤ pos OCTANT))
      (unsigned_abs ((to +ℤ QUARTER) -ℤ k *ℤ pos OCTANT)) lo hi
