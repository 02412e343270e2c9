-- Measures of enclosures: from the bound of an expression, and back. An argument of a known width is one that keeps the
-- bound with slope 1 and no slack. The computed bound of an expression implies (`implies`, which is evaluated) one with
-- numbers, and its slope and slack at the argument's width are the width of what is enclosed.
use Rattle.std.specs.Prelude.{◌≡◌, ℕ, ◌+◌, ◌*◌, ◌-◌, ◌^◌, ◌≤◌, true, ℤ, pos, ◌*ℤ◌, ◌≤ℤ◌}
use Rattle.std.proofs.Common.{arith}
use Rattle.std.proofs.lemmas.Int.{ints}
use Rattle.book_model.specs.Fraction.{◌≤F◌}
use Rattle.book_model.specs.Interval.{Interval, everything, between, ◌⊆◌}
use Rattle.book_model.proofs.Fractions.{le_refl, le_trans, plus_mono}
use Rattle.book_model.specs.numbers.Bounds.{Bound, bounded, Limits, IsNarrow, at_32, bound_of, implies, limits_at}
use Rattle.book_model.specs.numbers.Bounds.{limits_of}
use Rattle.book_model.specs.numbers.Expressions.{Expression, argument}
use Rattle.book_model.specs.numbers.Ranges.{IsBetween}
use Rattle.book_model.specs.numbers.Relations.{Narrow, Keeps}
use Rattle.book_model.proofs.Implying.{settled_at, limits_within}
use Rattle.book_model.specs.programs.Widths.{IsWithin, IsAbout, IsMoment}

grains_below : (p q : ℕ) → p ≤ q → (record { num = pos p; below = 2 ^ 104 - 1 }) ≤F
    (record { num = pos q; below = 2 ^ 104 - 1 })
grains_below p q h = record { cross = omega (arith, ints) }

-- a width by another slope and slack, which give no less
pub remeasured : (a b : ℤ) (w s k u t m : ℕ) (i : Interval) → s * w + k * 2 ^ 40 ≤ t * u + m * 2 ^ 40
    → IsNarrow w (bounded a b s k) i
    → IsNarrow u (bounded a b t m) i
unfolding IsNarrow
remeasured a b w s k u t m everything h n = n
remeasured a b w s k u t m (between lo hi) h n = record {
  ordered = n.ordered;
  above = n.above;
  below = n.below;
  close = le_trans _ _ _ n.close
      (plus_mono lo lo _ _ (le_refl lo) (grains_below (s * w + k * 2 ^ 40) (t * u + m * 2 ^ 40) h));
}

-- an argument that is as wide as the moment from which widths count
pub measured_argument : {E : Type 0} (shown : E → Interval) (l : Limits) (low high : ℤ) (v k : ℕ) (e : E)
    → IsWithin low high v (shown e)
    → Narrow shown l (record { width = v; bounds = λ n. bounded low high (2 ^ 40) 0 }) (argument k) e
unfolding Keeps bound_of
measured_argument shown l low high v k e h =
    record { kept = remeasured low high 0 0 v v (2 ^ 40) 0 (shown e) (omega arith) h.kept }

-- an enclosure is measured by the computed bound of its expression at the scale 2^-56
pub measured : {E : Type 0} (shown : E → Interval) (n w : ℕ) (b : ℕ → Bound) (x : Expression) (low high : ℤ) (s k u : ℕ)
    (e : E) → n ≡ 56
    → implies (bound_of (limits_at 56) b x) (bounded low high s k) ≡ true → s * w + k * 2 ^ 40 ≤ u * 2 ^ 40
    → Narrow shown (limits_of n) (record { width = w; bounds = b }) x e → IsWithin low high u (shown e)
measured shown n w b x low high s k u e p i h y =
    let l = limits_within n (omega arith) (omega arith) in
    record {
      kept = remeasured low high w s k 0 0 u (shown e) (omega arith)
          (settled_at shown n w b x (bounded low high s k) e (rw (l, p) i) y);
    }

-- what lies between two whole numbers
pub drawn : (lo hi low high : ℤ) (v : ℕ) (i : Interval) → IsBetween lo hi i → IsWithin low high v i
    → IsWithin (lo *ℤ pos (2 ^ 32)) (hi *ℤ pos (2 ^ 32)) v i
unfolding IsNarrow
drawn lo hi low high v everything b h = record { kept = h.kept }
drawn lo hi low high v (between x y) b h = record {
  kept = record {
    ordered = h.kept.ordered;
    above = le_trans _ _ _ (record { cross = omega (arith, ints) }) b.0;
    below = le_trans _ _ _ b.1 (record { cross = omega (arith, ints) });
    close = h.kept.close;
  };
}

at_mono : (a b : ℤ) → a ≤ℤ b → at_32 a ≤F at_32 b
at_mono a b h = record { cross = omega (arith, ints) }

-- a wider range, and a greater width
pub looser : (a b c d : ℤ) (v u : ℕ) (i : Interval) → c ≤ℤ a → b ≤ℤ d → v ≤ u → IsWithin a b v i → IsWithin c d u i
unfolding IsNarrow
looser a b c d v u everything h k l n = record { kept = n.kept }
looser a b c d v u (between x y) h k l n = record {
  kept = record {
    ordered = n.kept.ordered;
    above = le_trans _ _ _ (at_mono c a h) n.kept.above;
    below = le_trans _ _ _ n.kept.below (at_mono b d k);
    close = le_trans _ _ _ n.kept.close (plus_mono x x _ _ (le_refl x) (grains_below _ _ (omega arith)));
  };
}

-- what is as long as something measured
pub narrower : (a b : ℤ) (v : ℕ) (i j : Interval) → i ⊆ j → j ⊆ i → IsWithin a b v j → IsWithin a b v i
unfolding IsNarrow
narrower a b v i everything h k n = absurd n.kept
narrower a b v everything (between x y) h k n = absurd h.endpoints
narrower a b v (between u t) (between x y) h k n = record {
  kept = record {
    ordered = le_trans _ _ _ k.endpoints.0 (le_trans _ _ _ n.kept.ordered k.endpoints.1);
    above = le_trans _ _ _ n.kept.above h.endpoints.0;
    below = le_trans _ _ _ h.endpoints.1 n.kept.below;
    close = le_trans _ _ _ h.endpoints.1 (le_trans _ _ _ n.kept.close (plus_mono x u _ _ h.endpoints.0 (le_refl _)));
  };
}

-- a moment is a number that a floor can have
pub moment_about : (v : ℕ) (i : Interval) → IsMoment v i → IsAbout (2 ^ 90) v i
moment_about v i h = looser _ _ _ _ v v i (omega (arith, ints)) (omega (arith, ints)) (omega arith) h

-- an argument whose width is linear in that from which widths count
pub sloped : {E : Type 0} (shown : E → Interval) (l : Limits) (v u : ℕ) (bounds : ℕ → Bound) (k : ℕ) (a b : ℤ) (s m : ℕ)
    (x : E) → bounds k ≡ bounded a b s m
    → u * 2 ^ 40 ≤ s * v + m * 2 ^ 40 → IsWithin a b u (shown x)
    → Narrow shown l (record { width = v; bounds = bounds }) (argument k) x
unfolding Keeps bound_of
sloped shown l v u bounds k a b s m x e h i =
    record { kept = rw e (remeasured a b 0 0 u v s m (shown x) (omega (arith, h)) i.kept) }
