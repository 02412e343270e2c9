-- The first new moon from a moment on doesn't lie before it. The walk ends where a comparison answers that the new moon
-- is not before the moment; so the moment's lower bound is one of the new moon too. The walk is followed step by step,
-- by induction on the steps that are left.
use Rattle.std.specs.Prelude.{◌≡◌, ℕ, zero, suc, not, cond, Bool, true, false, Option, Some, None, ℤ, pos, ◌+ℤ◌}
use Rattle.std.specs.Prelude.{if◌then◌else◌, refl, ◌-ℤ◌}
use Rattle.book_model.specs.Fraction.{is_at_most}
use Rattle.book_model.specs.Interval.{Interval, everything, between, IsProper}
use Rattle.book_model.proofs.Fractions.{le_trans, at_most_true}
use Rattle.book_model.specs.declared.site.Site.TheVariants.{MoonWalk}
use Rattle.book_model.specs.declared.time_tables.TheConstants.{TABLE_START, TABLE_END}
use Rattle.book_model.specs.numbers.Expressions.{Expression, World, value}
use Rattle.book_model.specs.numbers.Ranges.{IsBetween}
use Rattle.book_model.specs.programs.Programs.{Program, answer, void, compare, compare_at, after_compare, when, run}
use Rattle.book_model.specs.programs.Programs.{valued, outcome}
use Rattle.book_model.specs.sky.NewMoons.{new_moon_of}
use Rattle.book_model.specs.sky.Phases.{number_of_moon, is_moon_before_of, walk_of, moon_from_of}
use Rattle.book_model.proofs.Estimates.{valued_same}
use Rattle.book_model.proofs.FactRuns.{parts}
use Rattle.book_model.proofs.Values.{value_proper}
use Rattle.moon_core.proofs.PhaseRanges.{new_moon_between}

not_below : (p q : Bool) → cond (not p) (Some true) (when q false) ≡ Some false → q ≡ true
not_below true true e = refl
not_below true false e = absurd (cc)
not_below false q e = absurd (cc)

-- what isn't below a number that lies from one whole number on lies so, too
from_there : (lo hi l h : ℤ) (i j : Interval) → IsProper j → IsBetween lo hi j → IsBetween l h i
    → compare_at i j ≡ Some false → IsBetween lo h i
unfolding compare_at
from_there lo hi l h everything j p b d e = tt
from_there lo hi l h (between x y) everything p b d e = absurd (cc)
from_there lo hi l h (between x y) (between u v) p b d e = (
  le_trans _ _ _ b.0
      (le_trans _ _ _ p (at_most_true _ _ (not_below (is_at_most u y) (is_at_most v x) e))),
  d.1,
)

same_value : {A : Type 0} (w : World) (p : Program A) (a b : A) → outcome (run w p) ≡ valued a
    → outcome (run w p) ≡ valued b → a ≡ b
same_value w p a b h k = cc

no_void : (w : World) (k : ℤ) → outcome (run w (void MoonWalk)) ≡ valued k → ⊥
unfolding outcome run
no_void w k e = absurd (cc)

decided_there : (w : World) (m x : Expression) (t : Bool) → outcome (run w (compare MoonWalk m x answer)) ≡ valued t
    → compare_at (value w m) (value w x)
    ≡ Some t
unfolding after_compare outcome run
decided_there w m x t e = by (compare_at (value w m) (value w x)) refl e
  where
    by : (o : Option Bool) → compare_at (value w m) (value w x) ≡ o
        → outcome (after_compare MoonWalk (value w m) (value w x) o (λ q. run w (answer q)))
        ≡ valued t → compare_at (value w m) (value w x) ≡ Some t
    by None c h = absurd (cc)
    by (Some q) c h = let s : q ≡ t = cc in cc

not_before : (w : World) (x m : Expression) (n lo hi : ℤ) → IsBetween lo hi (value w x)
    → outcome (run w (is_moon_before_of n x)) ≡ valued false
    → outcome (run w (new_moon_of n)) ≡ valued m → IsBetween lo (TABLE_END +ℤ pos 200) (value w m)
unfolding is_moon_before_of
not_before w x m n lo hi b f e =
    let c = parts w (new_moon_of n) (λ m. compare MoonWalk m x answer) false f in
    let s : c.part ≡ m = same_value w (new_moon_of n) c.part m c.first e in
    from_there lo hi (TABLE_START -ℤ pos 200) (TABLE_END +ℤ pos 200) (value w m) (value w x) (value_proper w x) b
    (new_moon_between w n m e)
    (decided_there w m x false (rw s at c.then))

walked_from : (w : World) (more : ℕ) (x m : Expression) (n k lo hi : ℤ) → IsBetween lo hi (value w x)
    → outcome (run w (walk_of more x n)) ≡ valued k
    → outcome (run w (new_moon_of k)) ≡ valued m → IsBetween lo (TABLE_END +ℤ pos 200) (value w m)
unfolding walk_of
walked_from w zero x m n k lo hi b h e = absurd (no_void w k h)
walked_from w (suc more) x m n k lo hi b h e =
    let t = parts w (is_moon_before_of n x) (λ before. if before then walk_of more x (n +ℤ pos 1) else answer n) k h in
    by_test t.part (λ g. walked_from w more x m (n +ℤ pos 1) k lo hi b g e) t.first t.then
  where
    by_test : (t : Bool) → (outcome (run w (walk_of more x (n +ℤ pos 1))) ≡ valued k
        → IsBetween lo (TABLE_END +ℤ pos 200) (value w m))
        → outcome (run w (is_moon_before_of n x)) ≡ valued t
        → outcome (run w (if t then walk_of more x (n +ℤ pos 1) else answer n)) ≡ valued k
        → IsBetween lo (TABLE_END +ℤ pos 200) (value w m)
    by_test true go f g = go g
    by_test false go f g = let s : n ≡ k = valued_same w n k g in not_before w x m n lo hi b f (rw (← s) at e)

-- where a moment lies from one whole number on
pub moon_from_near : (w : World) (x m : Expression) (lo hi : ℤ) → IsBetween lo hi (value w x)
    → outcome (run w (moon_from_of x)) ≡ valued m
    → IsBetween lo (TABLE_END +ℤ pos 200) (value w m)
unfolding moon_from_of
moon_from_near w x m lo hi b e =
    let n = parts w (number_of_moon x) _ m e in
    let k = parts w (walk_of 6 x n.part) _ m n.then in
    walked_from w 6 x m n.part k.part lo hi b k.first k.then
