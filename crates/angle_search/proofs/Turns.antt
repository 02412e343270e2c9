-- Iterations of a bisection, one after another. The definition is a recursion on the iterations that are left, and the
-- code tests the bounds first: `after_test` is what follows that test, with the test's answer as an argument, so that
-- each case is one unfolding. The ruleset `turning` has one lemma a case.
use Rattle.std.specs.Prelude.{◌≡◌, ℕ, zero, suc, ◌-◌, ◌≤◌, Bool, true, false, if◌then◌else◌, refl}
use Rattle.std.proofs.Common.{arith}
use Rattle.book_model.specs.declared.site.Site.TheVariants.{BisectEnd}
use Rattle.book_model.specs.programs.Bisection.{middle_of, are_near_of, has_passed_at, bisected_of}
use Rattle.book_model.specs.numbers.Expressions.{Expression}
use Rattle.book_model.specs.programs.Programs.{Program, answer, void, bind}

-- what follows the test of the bounds, where so many iterations are left
unfoldable pub after_test : ℕ → (Expression → Program Expression) → (y l u : Expression) → Bool → Program Expression
after_test zero f y l u near = if near then answer (middle_of l u) else void BisectEnd
after_test (suc more) f y l u near =
    if near then answer (middle_of l u)
    else (bind (has_passed_at f y (middle_of l u)) (λ passed.
    if passed then bisected_of more f y l (middle_of l u) else bisected_of more f y (middle_of l u) u))

pub turn_is : (more : ℕ) (f : Expression → Program Expression) (y l u : Expression) → bisected_of more f y l u
    ≡ bind (are_near_of l u) (after_test more f y l u)
unfolding bisected_of after_test
turn_is zero f y l u = refl
turn_is (suc more) f y l u = refl

pub when_near : (more : ℕ) (f : Expression → Program Expression) (y l u : Expression)
    → after_test more f y l u true ≡ answer (middle_of l u)
unfolding after_test
when_near zero f y l u = refl
when_near (suc more) f y l u = refl

pub no_turn : (f : Expression → Program Expression) (y l u : Expression) → after_test 0 f y l u false ≡ void BisectEnd
unfolding after_test
no_turn f y l u = refl

pub next_turn : (more : ℕ) (f : Expression → Program Expression) (y l u : Expression) → 1 ≤ more
    → after_test more f y l u false ≡ bind (has_passed_at f y (middle_of l u))
    (λ passed. if passed then bisected_of (more - 1) f y l (middle_of l u) else bisected_of (more - 1) f y
    (middle_of l u) u)
unfolding after_test
next_turn zero f y l u h = absurd (omega (arith, h))
next_turn (suc m) f y l u h = let z : suc m - 1 ≡ m = omega arith in rw z refl

pub ruleset turning = (turn_is, when_near, no_turn, next_turn)
