-- The numbers that digits spell.
use Rattle.std.proofs.Common.{◌≡◌, ℕ, ◌+◌, ◌-◌, ◌*◌, ◌/◌, ◌<◌, Bool, true, false, List, [], ◌∷◌, length, drop, get_or}
use Rattle.std.proofs.Common.{refl, arith, nat_lt}
use Rattle.std.proofs.lemmas.List.{drop_more}
use Rattle.std.specs.Prelude.{Some, None, ◌&&◌, if◌then◌else◌}
use Rattle.std.proofs.lemmas.Bool.Decides.{nat_tests}
use Rattle.book_model.specs.lines.Lines.{value_from}
use Rattle.cert_parser.specs.Digits.{at_most}

above : (g n : ℕ) → g < n → at_most g (Some n) ≡ None
above g n h = grind (arith, nat_tests)

-- once a number is above the greatest it stays so, whatever digits follow
over : (g n : ℕ) (bs : List ℕ) → g < n → at_most g (value_from n bs) ≡ None
over g n [] h = above g n h
over g n (b ∷ bs) h = step (nat_lt 47 b && nat_lt b 58) (over g (10 * n + (b - 48)) bs (omega arith))
  where
    step : (t : Bool) → at_most g (value_from (10 * n + (b - 48)) bs) ≡ None
        → at_most g (if t then value_from (10 * n + (b - 48)) bs else None) ≡ None
    step true rest = rest
    step false rest = refl

-- a digit takes the number above the greatest
pub over_digit : (g n : ℕ) (bs : List ℕ) (i : ℕ) → i < length bs → (g - (get_or bs i 0 - 48)) / 10 < n
    → at_most g (value_from n (drop i bs)) ≡ None
over_digit g n bs i h k = rw (drop_more bs i 0 h)
    (step (nat_lt 47 b && nat_lt b 58) (over g (10 * n + (b - 48)) (drop (i + 1) bs) (omega arith)))
  where
    b : ℕ
    b = get_or bs i 0

    step : (t : Bool) → at_most g (value_from (10 * n + (b - 48)) (drop (i + 1) bs)) ≡ None
        → at_most g (if t then value_from (10 * n + (b - 48)) (drop (i + 1) bs) else None) ≡ None
    step true rest = rest
    step false rest = refl
