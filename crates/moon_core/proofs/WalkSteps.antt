-- A walk over the numbers of new moons, number by number. The definition is a recursion on how many numbers are left:
-- one lemma for none, and one for one more, each a single unfolding. They are the ruleset `walks`.
use Rattle.std.specs.Prelude.{◌≡◌, ℕ, zero, suc, ◌-◌, ◌≤◌, ℤ, pos, ◌+ℤ◌, if◌then◌else◌, refl}
use Rattle.std.proofs.Common.{arith}
use Rattle.book_model.specs.declared.site.Site.TheVariants.{MoonWalk}
use Rattle.book_model.specs.numbers.Expressions.{Expression}
use Rattle.book_model.specs.sky.Phases.{is_moon_before_of, walk_of}
use Rattle.book_model.specs.programs.Programs.{answer, void, bind}

pub walk_none : (x : Expression) (k : ℤ) → walk_of 0 x k ≡ void MoonWalk
unfolding walk_of
walk_none x k = refl

pub walk_more : (more : ℕ) (x : Expression) (k : ℤ) → 1 ≤ more → walk_of more x k
    ≡ bind (is_moon_before_of k x) (λ before. if before then walk_of (more - 1) x (k +ℤ pos 1) else answer k)
unfolding walk_of
walk_more zero x k h = absurd (omega (arith, h))
walk_more (suc m) x k h = let z : suc m - 1 ≡ m = omega arith in rw z refl

pub ruleset walks = (walk_none, walk_more)
