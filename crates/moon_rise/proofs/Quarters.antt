-- Halvings, and quarters of an hour, one after another: the definitions' recursions by one step, each for none left and
-- for more. They are rulesets, by which a call that recurs in the same way proves itself.
use Rattle.std.specs.Prelude.{◌≡◌, ℕ, zero, suc, ◌+◌, ◌-◌, ◌*◌, ◌≤◌, ◌&&◌, not, if◌then◌else◌, Bool, negsuc, refl}
use Rattle.std.proofs.Common.{arith}
use Rattle.book_model.specs.programs.Programs.{Program, answer, bind}
use Rattle.book_model.specs.programs.Crossings.{middle_of, halved_of, minute_in_of, crossing_from}

pub halved_none : (holds : ℕ → Program Bool) (low high : ℕ) → halved_of 0 holds low high ≡ answer low
unfolding halved_of
halved_none holds low high = refl

pub halved_more : (more : ℕ) (holds : ℕ → Program Bool) (low high : ℕ) → 1 ≤ more → halved_of more holds low high
    ≡ bind (holds (middle_of low high)) (λ now.
    if now then halved_of (more - 1) holds low (middle_of low high) else halved_of (more - 1) holds (middle_of low high)
    high)
unfolding halved_of
halved_more zero holds low high h = absurd (omega (arith, h))
halved_more (suc m) holds low high h = let z : suc m - 1 ≡ m = omega arith in rw z refl

pub ruleset halving = (halved_none, halved_more)

pub no_quarter : (holds : ℕ → Program Bool) (k : ℕ) (before : Bool) → crossing_from 0 holds k before ≡ answer (negsuc 0)
unfolding crossing_from
no_quarter holds k before = refl

pub quarter_more : (more : ℕ) (holds : ℕ → Program Bool) (k : ℕ) (before : Bool) → 1 ≤ more
    → crossing_from more holds k before
    ≡ bind (holds (16 * k + 16)) (λ after. if not before && after then minute_in_of holds k
    else crossing_from (more - 1) holds (k + 1) after)
unfolding crossing_from
quarter_more zero holds k before h = absurd (omega (arith, h))
quarter_more (suc m) holds k before h = let z : suc m - 1 ≡ m = omega arith in let y : k + 1 ≡ suc k = omega arith in
    rw (z, y) refl

pub ruleset quarters = (no_quarter, quarter_more)
