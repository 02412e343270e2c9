-- The digits of a number are read as it.
use Rattle.std.proofs.Common.{◌≡◌, ℕ, zero, suc, ◌-◌, ◌^◌, ◌<◌, ◌≤◌, true, false, List, length, get_or, arith, nat_le}
use Rattle.std.proofs.Common.{decimal}
use Rattle.std.proofs.lemmas.Bool.Decides.{nat_tests}
use Rattle.std.proofs.lemmas.Int.{ints}
use Rattle.std.specs.List.{list_all}
use Rattle.std.specs.Fmt.{signed_decimal}
use Rattle.std.specs.Prelude.{Some, ◌==◌, ◌≤ℤ◌, ℤ, pos, negsuc, refl}
use Rattle.book_model.specs.lines.Lines.{is_printable}
use Rattle.line_core.proofs.Digits.{Spells, digits_spell, decimal_some, decimal_printed}
use Rattle.cert_parser.specs.Digits.{begins_well, natural_of, counter_of, integer_of}

-- what spells a number begins well
spelt_well : (n : ℕ) (ds : List ℕ) → Spells n ds → begins_well ds ≡ true
spelt_well zero ds s = rw (s.alone refl) refl
spelt_well (suc n) ds s =
    let first : 48 < get_or ds 0 0 = s.first (omega arith) in
    let some : 0 < length ds = s.some in
    grind (arith, nat_tests)

-- a number up to the greatest is read from what spells it
natural_spelt : (g n : ℕ) (ds : List ℕ) → n ≤ g → Spells n ds → natural_of g ds ≡ Some n
unfolding natural_of
natural_spelt g n ds h s = rw (spelt_well n ds s, s.value) (let low : nat_le n g ≡ true = grind (arith, nat_tests) in
    rw low refl)

-- a number up to the greatest is read from its digits
pub natural_read : (g n : ℕ) → n ≤ g → n < 10 ^ 64 → natural_of g (decimal n) ≡ Some n
natural_read g n h small = natural_spelt g n (decimal n) h (digits_spell n small)

-- a counter is read from its digits
pub counter_read : (n : ℕ) → n ≤ 2 ^ 32 - 1 → counter_of (decimal n) ≡ Some n
counter_read n h = natural_read (2 ^ 32 - 1) n h (omega arith)

-- a number of 128 bits
pub record IsWide (z : ℤ) : Type 0 where
  pub low : negsuc (2 ^ 127 - 1) ≤ℤ z
  pub high : z ≤ℤ pos (2 ^ 127 - 1)

-- a signed number is read from its digits
pub integer_read : (z : ℤ) → IsWide z → integer_of (signed_decimal z) ≡ Some z
unfolding integer_of
integer_read (pos n) h =
    let small : n ≤ 2 ^ 127 - 1 = omega (arith, ints, h.high) in
    let unsigned : (get_or (decimal n) 0 0 == 45) ≡ false =
    grind (arith, nat_tests, (digits_spell n (omega arith)).digit) in
    rw (unsigned, natural_read (2 ^ 127 - 1) n small (omega arith)) refl
integer_read (negsuc n) h =
    let small : suc n ≤ 2 ^ 127 = omega (arith, ints, h.low) in
    let some : (suc n == 0) ≡ false = grind (arith, nat_tests) in
    let same : suc n - 1 ≡ n = omega arith in
    rw (natural_read (2 ^ 127) (suc n) small (omega arith)) (rw (some, same) refl)

pub signed_some : (z : ℤ) → IsWide z → 0 < length (signed_decimal z)
signed_some (pos n) h = decimal_some n (omega (arith, ints, h.high))
signed_some (negsuc n) h = omega arith

pub signed_printed : (z : ℤ) → IsWide z → list_all is_printable (signed_decimal z) ≡ true
signed_printed (pos n) h = decimal_printed n (omega (arith, ints, h.high))
signed_printed (negsuc n) h = decimal_printed (suc n) (omega (arith, ints, h.low))
