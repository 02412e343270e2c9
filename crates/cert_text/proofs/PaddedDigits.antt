-- The last digits of a number, by its quotients by ten.
use Rattle.std.proofs.Common.{◌≡◌, ◌∙◌, ℕ, zero, suc, ◌+◌, ◌-◌, ◌/◌, ◌%◌, ◌^◌, ◌<◌, ◌≤◌, List, [], ◌∷◌, ◌++◌, length}
use Rattle.std.proofs.Common.{length-append, append_assoc, ap, sym, refl, arith}
use Rattle.std.proofs.Math.Nat.{pow-suc}
use Rattle.std.proofs.lemmas.Fmt.{decimal_by_steps_wide}
use Rattle.std.proofs.lemmas.List.{replicate-append-replicate}
use Rattle.std.specs.Prelude.{replicate}
use Rattle.book_model.specs.lines.Text.{padded}

-- so many of a number's last digits
abbrev pub last_digits : ℕ → ℕ → List ℕ
last_digits zero n = []
last_digits (suc k) n = last_digits k (n / 10) ++ (48 + n % 10) ∷ []

-- those of 0
zero_digits : (k : ℕ) → last_digits k 0 ≡ replicate k 48
zero_digits zero = refl
zero_digits (suc k) =
    let one : k + 1 ≡ suc k = omega arith in
    ap (λ ds. ds ++ 48 ∷ []) (zero_digits k) ∙ (replicate-append-replicate k 1 48 ∙ ap (λ n. replicate n 48) one)

-- digits with leading zeros
record IsPadded (k n : ℕ) (ds : List ℕ) : Type 0 where
  short : length ds ≤ suc k
  digits : replicate (suc k - length ds) 48 ++ ds ≡ last_digits (suc k) n

-- of every width that has room for the number
abbrev ArePadded : ℕ → List ℕ → Type 0
ArePadded n ds = (k : ℕ) → n < 10 ^ suc k → IsPadded k n ds

one_digit : (n : ℕ) → n < 10 → ArePadded n ((48 + n) ∷ [])
one_digit n h = λ k below.
    let none : n / 10 ≡ 0 = omega arith in
    let same : n % 10 ≡ n = omega arith in
    let width : suc k - 1 ≡ k = omega arith in
    record {
      short = omega arith;
      digits = rw (none, same, width, zero_digits k) refl;
    }

digit_more : (n : ℕ) (ds : List ℕ) → 10 ≤ n → ArePadded (n / 10) ds → ArePadded n (ds ++ (48 + n % 10) ∷ [])
digit_more n ds h prefix = λ k below. step k below
  where
    step : (k : ℕ) → n < 10 ^ suc k → IsPadded k n (ds ++ (48 + n % 10) ∷ [])
    step zero below = absurd (omega arith)
    step (suc k) below =
        let less : n / 10 < 10 ^ suc k = omega (arith, pow-suc 10 (suc k)) in
        let rest = prefix k less in
        let longer : length (ds ++ (48 + n % 10) ∷ []) ≡ suc (length ds) =
        omega (arith, length-append ds ((48 + n % 10) ∷ [])) in
        let width : suc (suc k) - suc (length ds) ≡ suc k - length ds = omega arith in
        record {
          short = omega (arith, longer, rest.short);
          digits = rw (longer, width) (sym (append_assoc (replicate (suc k - length ds) 48) ds ((48 + n % 10) ∷ []))
              ∙ ap (λ more. more ++ (48 + n % 10) ∷ []) rest.digits);
        }

-- a number with leading zeros is its last digits
padded_digits : (k n : ℕ) → n < 10 ^ suc k → n < 10 ^ 64 → padded (suc k) n ≡ last_digits (suc k) n
padded_digits k n below small = (decimal_by_steps_wide ArePadded one_digit digit_more n small k below).digits

-- a number below 10,000, and one below 100
pub four_digits : (n : ℕ) → n < 10000 → padded 4 n
    ≡ (48 + n / 10 / 10 / 10 % 10) ∷ (48 + n / 10 / 10 % 10) ∷ (48 + n / 10 % 10) ∷ (48 + n % 10) ∷ []
four_digits n h = padded_digits 3 n h (omega arith)

pub two_digits : (n : ℕ) → n < 100 → padded 2 n ≡ (48 + n / 10 % 10) ∷ (48 + n % 10) ∷ []
two_digits n h = padded_digits 1 n h (omega arith)
