-- Approximations of dawn and dusk, one after another. The definition is a recursion on how many are left: one lemma for
-- none, and one for one more, each a single unfolding.
use Rattle.std.specs.Prelude.{◌≡◌, ℕ, zero, suc, ◌-◌, ◌≤◌, if◌then◌else◌, refl}
use Rattle.std.proofs.Common.{arith}
use Rattle.book_model.specs.declared.horizon.Location.{Location}
use Rattle.book_model.specs.declared.horizon.Twilight.{Twilight}
use Rattle.book_model.specs.declared.site.Site.TheVariants.{Settle}
use Rattle.book_model.specs.numbers.Expressions.{Expression}
use Rattle.book_model.specs.sky.Horizon.{approximation_of, has_settled_of, settled_of}
use Rattle.book_model.specs.programs.Programs.{answer, void, bind}

pub settled_none : (p : Location) (k : Twilight) (a x : Expression) → settled_of 0 p k a x ≡ void Settle
unfolding settled_of
settled_none p k a x = refl

pub settled_more : (more : ℕ) (p : Location) (k : Twilight) (a x : Expression) → 1 ≤ more
    → settled_of more p k a x ≡ bind (approximation_of p k a x)
    (λ y. bind (has_settled_of x y) (λ settled. if settled then answer y else settled_of (more - 1) p k a y))
unfolding settled_of
settled_more zero p k a x h = absurd (omega (arith, h))
settled_more (suc m) p k a x h = let z : suc m - 1 ≡ m = omega arith in rw z refl

pub ruleset settling = (settled_none, settled_more)
