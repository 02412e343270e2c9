-- A bound that implies another: an enclosure that keeps the first keeps the second.
use Rattle.std.proofs.Common.{◌≡◌, ℕ, ◌≤◌, refl, arith, Bool, true, false, ◌&&◌, ℤ, ◌≤ℤ◌}
use Rattle.std.proofs.lemmas.Int.{ints}
use Rattle.std.specs.Prelude.{nat_le}
use Rattle.std.proofs.lemmas.Bool.{leb-true, le-leb}
use lib.Dec.{leb}
use Rattle.std.specs.Int.Signed.{le_z, le_z_yes}
use Rattle.std.proofs.lemmas.Float.{T_from_true}
use Rattle.exact_math.specs.Fraction.{◌≤F◌}
use Rattle.exact_math.specs.Interval.{Interval, everything, between}
use Rattle.exact_math.proofs.Fractions.{le_trans, plus_mono, le_refl}
use Rattle.book_model.specs.numbers.Bounds.{Bound, unbounded, bounded, IsNarrow, implies, bound_of, at_32, breadth}
use Rattle.book_model.specs.numbers.Bounds.{limits_of, limits_at, limits_36}
use Rattle.book_model.specs.numbers.Expressions.{Expression}
use Rattle.book_model.specs.numbers.Relations.{Narrow, Keeps}

parts : (p q r s : Bool) → (p && q && r && s) ≡ true → (p ≡ true) × (q ≡ true) × (r ≡ true) × (s ≡ true)
parts true true true true e = (refl, refl, refl, refl)
parts true true true false e = cc
parts true true false s e = cc
parts true false r s e = cc
parts false q r s e = cc

le_true : (a b : ℤ) → le_z a b ≡ true → a ≤ℤ b
le_true a b e = le_z_yes (T_from_true _ e)

at_mono : (a b : ℤ) → a ≤ℤ b → at_32 a ≤F at_32 b
at_mono a b h = record { cross = omega (arith, ints) }

wider : (w s k t m : ℕ) → s ≤ t → k ≤ m → breadth w s k ≤F breadth w t m
wider w s k t m h j = record { cross = grind (arith, ints) }

pub implied : (w : ℕ) (x y : Bound) (i : Interval) → implies x y ≡ true → IsNarrow w x i → IsNarrow w y i
unfolding implies IsNarrow
implied w unbounded unbounded i e h = tt
implied w (bounded a b s k) unbounded i e h = tt
implied w unbounded (bounded c d t m) i e h = cc
implied w (bounded a b s k) (bounded c d t m) everything e h = h
implied w (bounded a b s k) (bounded c d t m) (between lo hi) e h =
    let p = parts (le_z c a) (le_z b d) (leb s t) (leb k m) e in
    record {
      ordered = h.ordered;
      above = le_trans _ _ _ (at_mono c a (le_true c a p.0)) h.above;
      below = le_trans _ _ _ h.below (at_mono b d (le_true b d p.1));
      close = le_trans _ _ _ h.close
          (plus_mono lo lo _ _ (le_refl lo) (wider w s k t m (leb-true s t p.2) (leb-true k m p.3)));
    }

pub limits_at_36 : (n : ℕ) → n ≡ 36 → limits_of n ≡ limits_36
unfolding limits_of
limits_at_36 n e = rw e refl

pub limits_within : (n : ℕ) → 36 ≤ n → n ≤ 56 → limits_of n ≡ limits_at n
unfolding limits_of
limits_within n a b =
    let p : nat_le 36 n ≡ true = le-leb 36 n a in
    let q : nat_le n 56 ≡ true = le-leb n 56 b in
    rw (p, q) refl

-- an enclosure keeps each bound that the computed bound of its expression implies
pub settled_at : {E : Type 0} (shown : E → Interval) (n w : ℕ) (b : ℕ → Bound) (x : Expression) (y : Bound) (e : E)
    → implies (bound_of (limits_of n) b x) y
    ≡ true
    → Narrow shown (limits_of n) (record { width = w; bounds = b }) x e → IsNarrow w y (shown e)
unfolding Keeps
settled_at shown n w b x y e i h = implied w (bound_of (limits_of n) b x) y (shown e) i h.kept

-- the same at scale 2^-36
pub settled : {E : Type 0} (shown : E → Interval) (n w : ℕ) (b : ℕ → Bound) (x : Expression) (y : Bound) (e : E)
    → n ≡ 36 → implies (bound_of limits_36 b x) y
    ≡ true
    → Narrow shown (limits_of n) (record { width = w; bounds = b }) x e → IsNarrow w y (shown e)
settled shown n w b x y e p i h = settled_at shown n w b x y e (rw (limits_at_36 n p) i) h
