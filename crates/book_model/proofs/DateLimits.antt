-- The fields of a date that a calendar may have, each within its limits.
use Rattle.std.proofs.Common.{◌≡◌, ◌<◌, ◌≤◌, Bool, true, false, ◌&&◌, ◌==◌, nat_le, refl, arith, ℕ, suc, zero}
use Rattle.std.proofs.lemmas.Bool.Decides.{nat_tests}
use Rattle.std.proofs.lemmas.Int.{ints}
use Rattle.std.specs.Prelude.{IsTrue, ℤ, pos, negsuc, ◌≤ℤ◌, unsigned_abs, slice_index_or}
use lib.IntN.{neg_ℤ}
use Rattle.book_model.specs.declared.calendar.Calendar.{Calendar}
use Rattle.book_model.specs.declared.calendar.Calendar.TheVariants.{Gregorian}
use Rattle.book_model.specs.declared.request.Fields.{Fields}
use Rattle.book_model.specs.calendars.Dates.{row_of, field, is_within, are_within, has_day_of_month, may_have}
use Rattle.book_model.specs.calendars.Dates.{year_number, has_some_year, IsAskable}

-- a field lies within its limits
pub record LiesWithin (c : Calendar) (f : Fields) (k : ℕ) : Type 0 where
  pub low : (slice_index_or (row_of c).limits k (0, 0)).0 ≤ field f k
  pub high : field f k ≤ (slice_index_or (row_of c).limits k (0, 0)).1

both : (p q : Bool) → (p && q) ≡ true → (p ≡ true) × (q ≡ true)
both true true e = (refl, refl)
both true false e = absurd (cc)
both false q e = absurd (cc)

-- what holds of five fields holds of each
one_of_five : (test : ℕ → Bool) (k : ℕ) → k < 5 → (test 0 && test 1 && test 2 && test 3 && test 4) ≡ true
    → test k ≡ true
one_of_five test k few h =
    let e = both (test 0 && test 1 && test 2 && test 3) (test 4) h in
    let d = both (test 0 && test 1 && test 2) (test 3) e.0 in
    let c = both (test 0 && test 1) (test 2) d.0 in
    let a = both (test 0) (test 1) c.0 in
    by k few a.0 a.1 c.1 d.1 e.1
  where
    by : (k : ℕ) → k < 5 → test 0 ≡ true → test 1 ≡ true → test 2 ≡ true → test 3 ≡ true → test 4 ≡ true → test k ≡ true
    by zero few a b c d e = a
    by (suc zero) few a b c d e = b
    by (suc (suc zero)) few a b c d e = c
    by (suc (suc (suc zero))) few a b c d e = d
    by (suc (suc (suc (suc zero)))) few a b c d e = e
    by (suc (suc (suc (suc (suc k))))) few a b c d e = absurd (omega (arith, few))

-- each field of a date that a calendar may have lies within its limits
pub within_limits : (c : Calendar) (f : Fields) (k : ℕ) → k < 5 → IsTrue (may_have c f) → LiesWithin c f k
unfolding may_have
within_limits c f k few h =
    let counted = both ((f.count == (row_of c).count) && are_within (row_of c) f) (has_day_of_month c f) h in
    let within = both (f.count == (row_of c).count) (are_within (row_of c) f) counted.0 in
    let here : is_within (row_of c) f k ≡ true = one_of_five (is_within (row_of c) f) k few within.1 in
    let endpoints = both (nat_le (slice_index_or (row_of c).limits k (0, 0)).0 (field f k))
    (nat_le (field f k) (slice_index_or (row_of c).limits k (0, 0)).1)
    here in
    record { low = grind (arith, nat_tests, endpoints.0); high = grind (arith, nat_tests, endpoints.1) }

-- a number whose size is at most so much
pub by_size : (z : ℤ) (n : ℕ) → unsigned_abs z ≤ n → (neg_ℤ (pos n) ≤ℤ z) × (z ≤ℤ pos n)
by_size (pos m) n h = (omega (arith, ints, h), omega (arith, ints, h))
by_size (negsuc m) n h = (omega (arith, ints, h), omega (arith, ints, h))

-- two dates have as many fields, and the same ones less their signs
pub record HaveSameFields (f g : Fields) : Type 0 where
  pub count : g.count ≡ f.count
  pub first : field g 0 ≡ field f 0
  pub second : field g 1 ≡ field f 1
  pub third : field g 2 ≡ field f 2
  pub fourth : field g 3 ≡ field f 3
  pub fifth : field g 4 ≡ field f 4

same_day : (c : Calendar) (f g : Fields) → HaveSameFields f g → has_day_of_month c g ≡ has_day_of_month c f
same_day Gregorian f g same = rw (same.first, same.second, same.third) refl
same_day _ f g same = refl

-- what may be asked the day of doesn't depend on signs
pub askable_again : (c : Calendar) (f g : Fields) → HaveSameFields f g → IsAskable c f → IsAskable c g
unfolding may_have has_some_year year_number
askable_again c f g same h = (
  rw (same_day c f g same, same.count, same.first, same.second, same.third, same.fourth, same.fifth) h.0,
  rw (same.first, same.second, same.third, same.fourth, same.fifth) h.1,
)

-- a date that a calendar may have has as many fields as the calendar says
pub counted : (c : Calendar) (f : Fields) → IsTrue (may_have c f) → f.count ≡ (row_of c).count
unfolding may_have
counted c f h =
    let all = both ((f.count == (row_of c).count) && are_within (row_of c) f) (has_day_of_month c f) h in
    grind (arith, nat_tests, (both (f.count == (row_of c).count) (are_within (row_of c) f) all.0).0)
