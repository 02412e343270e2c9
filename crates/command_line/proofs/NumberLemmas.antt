-- The numbers that arguments spell.
use Rattle.std.proofs.Common.{◌≡◌, ◌∙◌, ◌≤◌, ◌<◌, ◌^◌, ◌&&◌, ℕ, Bool, true, false, cond, nat_le, List, length, Some}
use Rattle.std.proofs.Common.{None, Ok, Err, rules, arith, ap, refl, sym}
use Rattle.std.specs.Str.{all_ascii_digits}
use Rattle.std.specs.Str.Parse.{ParsesUnsigned}
use Rattle.std.proofs.lemmas.Str.Parse.{IsNumeralModel, numerals_by_weight, parse_digits, tells_all_ascii_digits}
use Rattle.command_line.specs.Words.{between, is_number, number_word, worth}

-- std reads digits by what they are worth
own : IsNumeralModel (λ ds. all_ascii_digits ds ≡ true) worth
own = numerals_by_weight _ tells_all_ascii_digits worth (search rules)

first_part : (a b : Bool) → (a && b) ≡ true → a ≡ true
first_part true b e = refl
first_part false b e = cc

second_part : (a b : Bool) → (a && b) ≡ true → b ≡ true
second_part true b e = e
second_part false b e = cc

digits_of : (word : List ℕ) → is_number word ≡ true → all_ascii_digits word ≡ true
digits_of word e = second_part (nat_le 1 (length word) && nat_le (length word) 20) _ e

some_digit : (word : List ℕ) → is_number word ≡ true → 0 < length word
some_digit word e =
    let one : nat_le 1 (length word) ≡ true = first_part _ (nat_le (length word) 20)
    (first_part _ (all_ascii_digits word) e) in
    grind arith

chosen : (t : Bool) (v : ℕ) → t ≡ true → cond t (Some v) None ≡ Some v
chosen true v e = refl
chosen false v e = cc

-- an argument that is a number spells what it is worth
spelled : (word : List ℕ) → is_number word ≡ true → number_word word ≡ Some (worth word)
spelled word e = chosen (is_number word) (worth word) e

-- a number between its bounds
inside : (low high n : ℕ) → low ≤ n → n ≤ high → between low high (Some n) ≡ Some n
inside low high n l h = grind arith

above : (low high n : ℕ) → high < n → between low high (Some n) ≡ None
above low high n h = grind arith

below : (low high n : ℕ) → n < low → between low high (Some n) ≡ None
below low high n h = grind arith

module _ (E : Type 0) (word : List ℕ) (low high : ℕ) (number : is_number word ≡ true) where
  read : (n : ℕ) → ParsesUnsigned {E = E} 64 10 word (Ok n) → number_word word ≡ Some n
  read n h = spelled word number ∙ ap (λ v. Some v)
      (sym (parse_digits own {E = E} 64 word (Ok n) h (digits_of word number)).1)

  -- what std reads, where it lies between the bounds
  pub reads_inside : (n : ℕ) → ParsesUnsigned {E = E} 64 10 word (Ok n) → low ≤ n → n ≤ high
      → Some n ≡ between low high (number_word word)
  reads_inside n h l m = sym (ap (between low high) (read n h) ∙ inside low high n l m)

  pub reads_above : (n : ℕ) → ParsesUnsigned {E = E} 64 10 word (Ok n) → high < n
      → None ≡ between low high (number_word word)
  reads_above n h m = sym (ap (between low high) (read n h) ∙ above low high n m)

  pub reads_below : (n : ℕ) → ParsesUnsigned {E = E} 64 10 word (Ok n) → n < low
      → None ≡ between low high (number_word word)
  reads_below n h l = sym (ap (between low high) (read n h) ∙ below low high n l)

  -- a number that std can't read lies above each bound of 64 bits
  pub reads_none : (e : E) → ParsesUnsigned 64 10 word (Err e) → high < 2 ^ 64
      → None ≡ between low high (number_word word)
  reads_none e h fits = sym (ap (between low high) (spelled word number) ∙ above low high (worth word)
      (past (2 ^ 64) (parse_digits own {E = E} 64 word (Err e) h (digits_of word number)) fits))
    where
      past : (most : ℕ) → (((0 < length word) × (worth word < most)) → ⊥) → high < most → high < worth word
      past most refused fits = decide (nat_le most (worth word)) refl
        where
          decide : (t : Bool) → nat_le most (worth word) ≡ t → high < worth word
          decide true e = grind arith
          decide false e = let small : worth word < most = grind arith in
              absurd (refused (some_digit word number, small))
