-- Words of another length than a name.
use lib.Pointwise.{pointwise}
use Rattle.std.proofs.Common.{◌≡◌, ℕ, Bool, true, false, List, [], ◌∷◌, length, nat_eq, refl, arith}
use Rattle.std.proofs.lemmas.Bool.Decides.{nat_tests}
use Rattle.std.specs.Prelude.{◌&&◌, ◌==◌}

-- are not that name
pub other_length : (word name : List ℕ) → (length word == length name) ≡ false → pointwise nat_eq word name ≡ false
other_length [] [] h = absurd (cc)
other_length [] (y ∷ ys) h = refl
other_length (x ∷ xs) [] h = refl
other_length (x ∷ xs) (y ∷ ys) h =
    let shorter : (length xs == length ys) ≡ false = grind (arith, nat_tests) in
    step (nat_eq x y) (other_length xs ys shorter)
  where
    step : (t : Bool) → pointwise nat_eq xs ys ≡ false → (t && pointwise nat_eq xs ys) ≡ false
    step true rest = rest
    step false rest = refl
