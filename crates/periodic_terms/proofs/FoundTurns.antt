-- What is found of mean angles and of their factor, as the code returns it: an Option. Each lemma goes by its two
-- cases: of `None` nothing is owed, and of `Some` what holds of every interval within a span's endpoints holds of the
-- value of an expression that the enclosure of the span holds. A half width may be replaced by a greater one, by which
-- the factor and its square share one.
use Rattle.std.specs.Prelude.{IfSome, Some, None, Option}
use Rattle.std.proofs.Common.{◌≡◌, ℕ, ◌≤◌, arith, ℤ, pos, ◌+ℤ◌, ◌-ℤ◌, ◌≤ℤ◌}
use Rattle.std.proofs.lemmas.Int.{ints}
use Rattle.book_model.specs.Interval.{Interval, between, ◌⊆◌}
use Rattle.book_model.proofs.Intervals.{within_trans}
use Rattle.book_model.specs.numbers.Expressions.{Expression, World, value, power}
use Rattle.book_model.specs.numbers.Relations.{Within, Lies}
use Rattle.book_model.specs.programs.Leading.{units_of_56}
use Rattle.periodic_terms.specs.Angles.{IsFactor, IsNearTurn}
use Rattle.periodic_terms.specs.declared.mean.MeanFactor.{MeanFactor}
use Rattle.periodic_terms.specs.declared.mean.MeanFactors.{MeanFactors}
use Rattle.periodic_terms.specs.declared.mean.MeanTurn.{MeanTurn}

pub turn_found : {E : Type 0} (shown : E → Interval) (angle : E) (lo hi : ℤ) (o : Option MeanTurn)
    → shown angle ⊆ between (units_of_56 lo) (units_of_56 hi)
    → IfSome o (λ t. (i : Interval) → i ⊆ between (units_of_56 lo) (units_of_56 hi)
    → IsNearTurn (pos t.turn.0) t.half.count i)
    → IfSome o (λ t. (w : World) (x : Expression) → Within shown w x angle → IsNearTurn (pos t.turn.0) t.half.count
    (value w x))
unfolding Lies
turn_found shown angle lo hi None s h = h
turn_found shown angle lo hi (Some t) s h = λ w x k. h (value w x) (within_trans k.inside s)

factor_inside : (f h : ℕ) (lo hi : ℤ) (i : Interval) → (pos f -ℤ pos h) ≤ℤ lo → hi ≤ℤ (pos f +ℤ pos h)
    → i ⊆ between (units_of_56 lo) (units_of_56 hi) → IsFactor f h i
factor_inside f h lo hi i l u k = within_trans k (record {
  endpoints =
      (record { cross = omega (arith, ints, l) }, record { cross = omega (arith, ints, u) });
})

pub factor_found : {E : Type 0} (shown : E → Interval) (factor : E) (lo hi : ℤ) (o : Option MeanFactor)
    → shown factor ⊆ between (units_of_56 lo) (units_of_56 hi)
    → IfSome o (λ f. (pos f.middle.0 -ℤ pos f.wide.0) ≤ℤ lo) → IfSome o (λ f. hi ≤ℤ (pos f.middle.0 +ℤ pos f.wide.0))
    → IfSome o (λ f. (w : World) (x : Expression) → Within shown w x factor → IsFactor f.middle.0 f.wide.0 (value w x))
unfolding Lies
factor_found shown factor lo hi None s l u = l
factor_found shown factor lo hi (Some f) s l u = λ w x k. factor_inside f.middle.0 f.wide.0 lo hi (value w x) l u
    (within_trans k.inside s)

-- wider ones
pub wider_factor : (f v h : ℕ) (i : Interval) → v ≤ h → IsFactor f v i → IsFactor f h i
wider_factor f v h i l k = within_trans k (record {
  endpoints = (
    record { cross = omega (arith, ints, l) },
    record { cross = omega (arith, ints, l) },
  );
})

pub first_found : {E : Type 0} (shown : E → Interval) (factor : E) (f v : ℕ) (o : Option MeanFactors)
    → ((w : World) (x : Expression)
    → Within shown w x factor → IsFactor f v (value w x))
    → IfSome o (λ t. t.first.0 ≡ f) → IfSome o (λ t. v ≤ t.wide.0) → IfSome o (λ t. (w : World)
    (x : Expression) → Within shown w x factor → IsFactor t.first.0 t.wide.0 (value w x))
first_found shown factor f v None h e l = e
first_found shown factor f v (Some t) h e l = λ w x k. rw e (wider_factor f v t.wide.0 (value w x) l (h w x k))

pub second_found : {E : Type 0} (shown : E → Interval) (factor : E) (f v : ℕ) (o : Option MeanFactors)
    → ((w : World) (x : Expression)
    → Within shown w x factor → IsFactor f v (value w (power x 2)))
    → IfSome o (λ t. t.second.0 ≡ f) → IfSome o (λ t. v ≤ t.wide.0) → IfSome o (λ t. (w : World)
    (x : Expression) → Within shown w x factor → IsFactor t.second.0 t.wide.0 (value w (power x 2)))
second_found shown factor f v None h e l = e
second_found shown factor f v (Some t) h e l =
    λ w x k. rw e (wider_factor f v t.wide.0 (value w (power x 2)) l (h w x k))
