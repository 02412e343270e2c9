-- The text of a date is read as its numbers. A numeral is any one to seven digits with a value, so that numbers with
-- and without leading zeros are one case. Digits hold no dash: by induction over them the parts of numerals with dashes
-- between them are the numerals, each of which is read as its number. Last it is shown of each form in which a date is
-- written that it is such numerals, by the number of its fields.
use Rattle.std.proofs.Common.{◌≡◌, ◌∙◌, ℕ, zero, suc, ◌+◌, ◌-◌, ◌*◌, ◌<◌, ◌≤◌, Bool, true, false, List, [], ◌∷◌, ◌++◌}
use Rattle.std.proofs.Common.{length, length-append, map, take, replicate, ap, refl, arith, nat_lt, decimal, pos}
use Rattle.std.proofs.lemmas.Bool.Decides.{nat_tests}
use Rattle.std.proofs.lemmas.Fmt.{length-decimal-le}
use Rattle.std.proofs.lemmas.List.{length-replicate}
use Rattle.std.proofs.lemmas.List.Folds.{list_all-append}
use Rattle.std.specs.List.{list_all, flat_map}
use Rattle.std.specs.Prelude.{Some, None, ◌&&◌, ◌==◌, if◌then◌else◌}
use Rattle.book_model.specs.lines.Lines.{is_printable, IsWord, parts_of, onto_first, number_of, value_from}
use Rattle.book_model.specs.lines.Requests.{fields_with, numbers_of, is_of_seven_digits}
use Rattle.book_model.specs.lines.Text.{dashed, dash_text, dashed_text, gregorian_text, padded}
use Rattle.line_core.proofs.Digits.{decimal_some, digits_spell}
use Rattle.line_core.proofs.SpacedWords.{both}

-- ---- numerals

abbrev pub is_digit : ℕ → Bool
is_digit b = nat_lt 47 b && nat_lt b 58

-- one to seven digits that spell a number, with leading zeros or without
pub record IsNumeral (n : ℕ) (ds : List ℕ) : Type 0 where
  pub value : value_from 0 ds ≡ Some n
  pub some : 0 < length ds
  pub few : length ds ≤ 7

-- what has a value is digits
all_digits : (k n : ℕ) (ds : List ℕ) → value_from k ds ≡ Some n → list_all is_digit ds ≡ true
all_digits k n [] h = refl
all_digits k n (b ∷ bs) h = step (is_digit b) refl h (λ e. all_digits (10 * k + (b - 48)) n bs e)
  where
    step : (t : Bool) → is_digit b ≡ t → (if t then value_from (10 * k + (b - 48)) bs else None) ≡ Some n
        → (value_from (10 * k + (b - 48)) bs ≡ Some n → list_all is_digit bs ≡ true)
        → (is_digit b && list_all is_digit bs) ≡ true
    step true e h rest = rw (e, rest h) refl
    step false e h rest = absurd (cc)

-- a numeral is read as its number
numeral_read : (n : ℕ) (ds : List ℕ) → IsNumeral n ds → number_of ds ≡ Some n
numeral_read n ds h =
    let some : 0 < length ds = h.some in
    let few : length ds ≤ 7 = h.few in
    let fits : (nat_lt 0 (length ds) && nat_lt (length ds) 8) ≡ true = grind (arith, nat_tests) in
    rw fits h.value

-- the digits of a number below ten million are one
numeral : (n : ℕ) → n < 10000000 → IsNumeral n (decimal n)
numeral n h = record {
  value = (digits_spell n (omega arith)).value;
  some = decimal_some n (omega arith);
  few = length-decimal-le 7 n (omega arith) (omega arith) (omega arith);
}

-- leading zeros change no number
after_zeros : (zeros : ℕ) (ds : List ℕ) → value_from 0 (replicate zeros 48 ++ ds) ≡ value_from 0 ds
after_zeros zero ds = refl
after_zeros (suc zeros) ds = after_zeros zeros ds

-- and they make a numeral of at most seven digits
padded_numeral : (width n : ℕ) → width ≤ 7 → n < 10000000 → IsNumeral n (padded width n)
padded_numeral width n h small =
    let plain = numeral n small in
    let size : length (padded width n) ≡ (width - length (decimal n)) + length (decimal n) =
    length-append (replicate (width - length (decimal n)) 48)
    (decimal n) ∙ ap (λ k. k + length (decimal n)) (length-replicate (width - length (decimal n)) 48) in
    record {
      value = after_zeros (width - length (decimal n)) (decimal n) ∙ plain.value;
      some = omega (arith, size, plain.some);
      few = omega (arith, size, plain.few, h);
    }

-- ---- numerals with dashes between them

-- numerals, each after a dash
abbrev pub dashes : List (List ℕ) → List ℕ
dashes [] = []
dashes (p ∷ ps) = 45 ∷ (p ++ dashes ps)

-- each is the numeral of its number
abbrev pub AreNumerals : List ℕ → List (List ℕ) → Type 0
AreNumerals [] [] = Unit {0}
AreNumerals [] (p ∷ ps) = ⊥
AreNumerals (n ∷ ns) [] = ⊥
AreNumerals (n ∷ ns) (p ∷ ps) = IsNumeral n p × AreNumerals ns ps

-- digits are part of the part that they begin
parts_begin : (ds rest : List ℕ) (parts : List (List ℕ)) → list_all is_digit ds ≡ true → parts_of rest ≡ [] ∷ parts
    → parts_of (ds ++ rest) ≡ ds ∷ parts
parts_begin [] rest parts h k = k
parts_begin (b ∷ bs) rest parts h k =
    let p = both (is_digit b) (list_all is_digit bs) h in
    let first = p.0 in
    let dash : (b == 45) ≡ false = grind (arith, nat_tests) in
    rw dash (ap (onto_first b) (parts_begin bs rest parts p.1 k))

parts_after : (ns : List ℕ) (ps : List (List ℕ)) → AreNumerals ns ps → parts_of (dashes ps) ≡ [] ∷ ps
parts_after [] [] h = refl
parts_after [] (p ∷ ps) h = absurd h
parts_after (n ∷ ns) [] h = absurd h
parts_after (n ∷ ns) (p ∷ ps) h = ap (λ parts. [] ∷ parts) (parts_begin p (dashes ps) ps (all_digits 0 n p h.0.value)
    (parts_after ns ps h.1))

-- what numerals with dashes between them spell
numbers_spelled : (ns : List ℕ) (ps : List (List ℕ)) → AreNumerals ns ps → numbers_of ps ≡ Some ns
numbers_spelled [] [] h = refl
numbers_spelled [] (p ∷ ps) h = absurd h
numbers_spelled (n ∷ ns) [] h = absurd h
numbers_spelled (n ∷ ns) (p ∷ ps) h = rw (numeral_read n p h.0, numbers_spelled ns ps h.1) refl

-- a text is numerals of these numbers, of which there is one or more, with dashes between them
pub record IsDate (numbers : List ℕ) (text : List ℕ) : Type 0 where
  pub first : List ℕ
  pub others : List (List ℕ)
  pub joined : text ≡ first ++ dashes others
  pub numerals : AreNumerals numbers (first ∷ others)

-- it is read as these numbers
pub date_numbers : (ns text : List ℕ) → IsDate ns text → numbers_of (parts_of text) ≡ Some ns
date_numbers [] text h = absurd h.numerals
date_numbers (n ∷ ns) text h =
    let parts : parts_of text ≡ h.first ∷ h.others = rw h.joined
    (parts_begin h.first (dashes h.others) h.others (all_digits 0 n h.first h.numerals.0.value)
    (parts_after ns h.others h.numerals.1)) in
    rw parts (numbers_spelled (n ∷ ns) (h.first ∷ h.others) h.numerals)

-- ---- it is a word, and short

printed_digits : (ds : List ℕ) → list_all is_digit ds ≡ true → list_all is_printable ds ≡ true
printed_digits [] h = refl
printed_digits (b ∷ bs) h =
    let p = both (is_digit b) (list_all is_digit bs) h in
    let digit = p.0 in
    let first : is_printable b ≡ true = grind (arith, nat_tests) in
    rw (first, printed_digits bs p.1) refl

numeral_printed : (n : ℕ) (ds : List ℕ) → IsNumeral n ds → list_all is_printable ds ≡ true
numeral_printed n ds h = printed_digits ds (all_digits 0 n ds h.value)

dashes_printed : (ns : List ℕ) (ps : List (List ℕ)) → AreNumerals ns ps → list_all is_printable (dashes ps) ≡ true
dashes_printed [] [] h = refl
dashes_printed [] (p ∷ ps) h = absurd h
dashes_printed (n ∷ ns) [] h = absurd h
dashes_printed (n ∷ ns) (p ∷ ps) h = rw (
  list_all-append is_printable p (dashes ps),
  numeral_printed n p h.0,
  dashes_printed ns ps h.1,
) refl

dashes_length : (ns : List ℕ) (ps : List (List ℕ)) → AreNumerals ns ps → length (dashes ps) ≤ 8 * length ns
dashes_length [] [] h = omega arith
dashes_length [] (p ∷ ps) h = absurd h
dashes_length (n ∷ ns) [] h = absurd h
dashes_length (n ∷ ns) (p ∷ ps) h = omega (arith, length-append p (dashes ps), h.0.few, dashes_length ns ps h.1)

-- a word of at most so many bytes
pub record IsShortWord (most : ℕ) (word : List ℕ) : Type 0 where
  pub is_word : IsWord word
  pub short : length word ≤ most

pub date_word : (ns text : List ℕ) → IsDate ns text → length ns ≤ 5 → IsShortWord 40 text
date_word [] text h few = absurd h.numerals
date_word (n ∷ ns) text h few =
    let size : length text ≡ length h.first + length (dashes h.others) =
    rw h.joined (length-append h.first (dashes h.others)) in
    record {
      is_word = record {
        some = omega (arith, size, h.numerals.0.some);
        printed = rw (
          h.joined,
          list_all-append is_printable h.first (dashes h.others),
          numeral_printed n h.first h.numerals.0,
          dashes_printed ns h.others h.numerals.1,
        ) refl;
      };
      short = omega (arith, size, h.numerals.0.few, dashes_length ns h.others h.numerals.1);
    }

-- ---- the text of a date

-- the fields of at most five numbers are these numbers
fields_taken : (ns : List ℕ) → length ns ≤ 5 → take (length ns) (fields_with ns).values ≡ map (λ n. pos n) ns
fields_taken [] h = refl
fields_taken (a ∷ []) h = refl
fields_taken (a ∷ b ∷ []) h = refl
fields_taken (a ∷ b ∷ d ∷ []) h = refl
fields_taken (a ∷ b ∷ d ∷ e ∷ []) h = refl
fields_taken (a ∷ b ∷ d ∷ e ∷ f ∷ []) h = refl
fields_taken (a ∷ b ∷ d ∷ e ∷ f ∷ g ∷ ns) h = absurd (omega arith)

-- numbers after dashes are their numerals after dashes
others_dashed : (ns : List ℕ) → flat_map dash_text (map (λ n. pos n) ns) ≡ dashes (map decimal ns)
others_dashed [] = refl
others_dashed (n ∷ ns) = ap (λ t. 45 ∷ (decimal n ++ t)) (others_dashed ns)

dashed_numbers : (n : ℕ) (ns : List ℕ) → dashed (map (λ n. pos n) (n ∷ ns)) ≡ decimal n ++ dashes (map decimal ns)
dashed_numbers n ns = ap (λ t. decimal n ++ t) (others_dashed ns)

plain_numerals : (ns : List ℕ) → list_all is_of_seven_digits ns ≡ true → AreNumerals ns (map decimal ns)
plain_numerals [] h = tt
plain_numerals (n ∷ ns) h =
    let p = both (is_of_seven_digits n) (list_all is_of_seven_digits ns) h in
    let first = p.0 in
    let small : n < 10000000 = grind (arith, nat_tests) in
    (numeral n small, plain_numerals ns p.1)

pub dashed_date : (n : ℕ) (ns : List ℕ) → length (n ∷ ns) ≤ 5 → list_all is_of_seven_digits (n ∷ ns) ≡ true
    → IsDate (n ∷ ns) (dashed_text (fields_with (n ∷ ns)))
unfolding dashed_text
dashed_date n ns few small = record {
  first = decimal n;
  others = map decimal ns;
  joined = ap dashed (fields_taken (n ∷ ns) few) ∙ dashed_numbers n ns;
  numerals = plain_numerals (n ∷ ns) small;
}

pub gregorian_date : (y m d : ℕ) → list_all is_of_seven_digits (y ∷ m ∷ d ∷ []) ≡ true
    → IsDate (y ∷ m ∷ d ∷ []) (gregorian_text (fields_with (y ∷ m ∷ d ∷ [])))
unfolding gregorian_text
gregorian_date y m d h =
    let p = both (is_of_seven_digits y) (list_all is_of_seven_digits (m ∷ d ∷ [])) h in
    let q = both (is_of_seven_digits m) (list_all is_of_seven_digits (d ∷ [])) p.1 in
    let r = both (is_of_seven_digits d) true q.1 in
    let year = p.0 in
    let month = q.0 in
    let day = r.0 in
    record {
      first = padded 4 y;
      others = padded 2 m ∷ padded 2 d ∷ [];
      joined = refl;
      numerals = (
        padded_numeral 4 y (omega arith) (grind (arith, nat_tests)),
        (
          padded_numeral 2 m (omega arith) (grind (arith, nat_tests)),
          (padded_numeral 2 d (omega arith) (grind (arith, nat_tests)), tt),
        ),
      );
    }
