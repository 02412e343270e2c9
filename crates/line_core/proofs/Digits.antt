-- The digits of a number spell it, with leading zeros too. The digits of a number are those of its tenth and one digit
-- more: all that is to be said of them is one record (Spells), which holds of a single digit and is kept by one digit
-- more; an induction of std over such steps gives it of every number.
use Rattle.std.proofs.Common.{◌≡◌, ℕ, ◌+◌, ◌-◌, ◌*◌, ◌/◌, ◌%◌, ◌^◌, ◌<◌, ◌≤◌, Bool, true, false, List, [], ◌∷◌, ◌++◌}
use Rattle.std.proofs.Common.{length, length-append, get_or, refl, arith, nat_lt, decimal}
use Rattle.std.proofs.lemmas.Bool.Decides.{nat_tests}
use Rattle.std.proofs.lemmas.Fmt.{decimal_by_steps_wide}
use Rattle.std.proofs.lemmas.List.Folds.{list_all-append}
use Rattle.std.specs.List.{list_all}
use Rattle.std.specs.Prelude.{Some, None, ◌&&◌, if◌then◌else◌}
use Rattle.book_model.specs.lines.Lines.{is_printable, value_from}

-- one digit more
value_end : (k m d : ℕ) (ds : List ℕ) → value_from k ds ≡ Some m → 48 ≤ d → d < 58
    → value_from k (ds ++ d ∷ []) ≡ Some (10 * m + (d - 48))
value_end k m d [] h low high =
    let same : k ≡ m = cc in
    let digit : (nat_lt 47 d && nat_lt d 58) ≡ true = grind (arith, nat_tests) in
    rw (digit, same) refl
value_end k m d (b ∷ bs) h low high = step (nat_lt 47 b && nat_lt b 58) h
    (λ e. value_end (10 * k + (b - 48)) m d bs e low high)
  where
    step : (t : Bool) → (if t then value_from (10 * k + (b - 48)) bs else None) ≡ Some m
        → (value_from (10 * k + (b - 48)) bs ≡ Some m → value_from (10 * k + (b - 48)) (bs ++ d ∷ []) ≡ Some
        (10 * m + (d - 48)))
        → (if t then value_from (10 * k + (b - 48)) (bs ++ d ∷ []) else None) ≡ Some (10 * m + (d - 48))
    step true h rest = rest h
    step false h rest = cc

-- digits spell a number, and don't begin with 0 where it isn't 0
pub record Spells (n : ℕ) (ds : List ℕ) : Type 0 where
  pub value : value_from 0 ds ≡ Some n
  pub some : 0 < length ds
  pub first : 0 < n → 48 < get_or ds 0 0
  pub digit : 48 ≤ get_or ds 0 0
  pub alone : n ≡ 0 → length ds ≡ 1
  pub printed : list_all is_printable ds ≡ true

digit_spells : (n : ℕ) → n < 10 → Spells n ((48 + n) ∷ [])
digit_spells n h = record {
  value =
      let same : 10 * 0 + (48 + n - 48) ≡ n = omega arith in
      let is_digit : (nat_lt 47 (48 + n) && nat_lt (48 + n) 58) ≡ true = grind (arith, nat_tests) in
      rw (is_digit, same) refl;
  some = omega arith;
  first = λ k. omega arith;
  digit = omega arith;
  alone = λ e. refl;
  printed = grind (arith, nat_tests);
}

-- the first of digits stays where one more is written
first_stays : (ds : List ℕ) (d : ℕ) → 0 < length ds → get_or (ds ++ d ∷ []) 0 0 ≡ get_or ds 0 0
first_stays [] d h = absurd (omega arith)
first_stays (b ∷ bs) d h = refl

digit_more : (n : ℕ) (ds : List ℕ) → 10 ≤ n → Spells (n / 10) ds → Spells n (ds ++ (48 + n % 10) ∷ [])
digit_more n ds h s =
    let whole : 10 * (n / 10) + (48 + n % 10 - 48) ≡ n = omega arith in
    let prefix : 0 < n / 10 = omega arith in
    record {
      value = rw whole at (value_end 0 (n / 10) (48 + n % 10) ds s.value (omega arith) (omega arith));
      some = omega (arith, length-append ds ((48 + n % 10) ∷ []));
      first = λ k. rw (first_stays ds (48 + n % 10) s.some) (s.first prefix);
      digit = rw (first_stays ds (48 + n % 10) s.some) s.digit;
      alone = λ e. absurd (omega arith);
      printed = rw (list_all-append is_printable ds ((48 + n % 10) ∷ []))
          (rw s.printed (digit_spells (n % 10) (omega arith)).printed);
    }

pub digits_spell : (n : ℕ) → n < 10 ^ 64 → Spells n (decimal n)
digits_spell n h = decimal_by_steps_wide Spells digit_spells digit_more n h

-- digits are a word
pub decimal_some : (n : ℕ) → n < 10 ^ 64 → 0 < length (decimal n)
decimal_some n h = (digits_spell n h).some

pub decimal_printed : (n : ℕ) → n < 10 ^ 64 → list_all is_printable (decimal n) ≡ true
decimal_printed n h = (digits_spell n h).printed
