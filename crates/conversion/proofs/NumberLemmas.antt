-- What is new among others has the number that follows their count.
use Rattle.std.proofs.Common.{◌≡◌, ℕ, Bool, true, false, not, ◌||◌, ◌+◌, refl, List, [], ◌∷◌, length, arith}
use Rattle.std.specs.Prelude.{if◌then◌else◌, IsTrue}
use Rattle.std.specs.List.{list_any, position_or_len}

module _ {X : Type 0} (p : X → Bool) where
  -- where none passes, the place is the length
  none_placed : (xs : List X) → list_any p xs ≡ false → position_or_len p xs ≡ length xs
  none_placed [] h = refl
  none_placed (x ∷ xs) h = step (p x) (list_any p xs) h (none_placed xs)
    where
      step : (t u : Bool) → (t || u) ≡ false → (u ≡ false → position_or_len p xs ≡ length xs)
          → (if not t then 1 + position_or_len p xs else 0) ≡ length (x ∷ xs)
      step true u h rest = absurd (cc)
      step false u h rest = omega (arith, rest h)

-- a number behind the place of what is new
pub new_number : {X : Type 0} (p : X → Bool) (xs : List X) (is_new : Bool) (place number : ℕ)
    → is_new ≡ not (list_any p xs)
    → place ≡ position_or_len p xs → number ≡ place + 1 → IsTrue is_new → number ≡ length xs + 1
new_number p xs is_new place number new placed next holds = by (list_any p xs) refl
  where
    by : (t : Bool) → list_any p xs ≡ t → number ≡ length xs + 1
    by true any = absurd (cc)
    by false any = omega (arith, placed, next, none_placed p xs any)
