-- The Gregorian year: first days rise with the years, and each day falls in one year.
use Rattle.std.specs.Prelude.{◌≡◌, Bool, true, false, if◌then◌else◌, ℤ, pos, ◌+ℤ◌, ◌-ℤ◌, ◌*ℤ◌, ◌≤ℤ◌, ◌<ℤ◌, int_lt, refl}
use Rattle.std.proofs.Common.{arith}
use Rattle.std.proofs.lemmas.Int.{ints, by_lt_z}
use Rattle.exact_math.specs.Fraction.{floor_quotient}
use Rattle.exact_math.proofs.Floors.{IsFloorQuotient, floor_quotient_is}
use Rattle.book_model.specs.calendars.Gregorian.{first_day, year_of_day, IsYearOfDay}

-- 400 years have 146097 days: how far a year's first day may lie from that pace, in 400ths of a day
pub record KeepsPace (y first : ℤ) : Type 0 where
  pub not_early : (pos 146097 *ℤ y) ≤ℤ (pos 400 *ℤ first +ℤ pos 146396)
  pub not_late : (pos 400 *ℤ first +ℤ pos 145301) ≤ℤ (pos 146097 *ℤ y)

pub first_day_paces : (y : ℤ) → KeepsPace y (first_day y)
unfolding first_day
first_day_paces y =
    let f = floor_quotient_is (y -ℤ pos 1) 3 in
    let h = floor_quotient_is (y -ℤ pos 1) 99 in
    let g = floor_quotient_is (y -ℤ pos 1) 399 in
    record {
      not_early = omega (arith, ints, f.not_above, f.close, h.not_above, h.close, g.not_above, g.close);
      not_late = omega (arith, ints, f.not_above, f.close, h.not_above, h.close, g.not_above, g.close);
    }

-- a later year begins later
pub first_day_rises_strictly : (y z : ℤ) → y <ℤ z → first_day y <ℤ first_day z
first_day_rises_strictly y z h = let p = first_day_paces y in let q = first_day_paces z in
    omega (arith, ints, p.not_late, q.not_early)

pub first_day_rises : (y z : ℤ) → y ≤ℤ z → first_day y ≤ℤ first_day z
first_day_rises y z h = by_lt_z y z (λ l. let s = first_day_rises_strictly y z l in omega (arith, ints))
    (λ l. let e : y ≡ z = omega (arith, ints) in rw e (omega (arith, ints)))

-- the year that is near is the day's year, unless the next has begun
near_is : (near d : ℤ) → IsFloorQuotient near (pos 400 *ℤ (d +ℤ pos 1)) 146096 → (b : Bool)
    → int_lt d (first_day (near +ℤ pos 1)) ≡ b
    → IsYearOfDay (if b then near else near +ℤ pos 1) d
near_is near d q true e =
    let p = first_day_paces near in
    record { begun = omega (arith, ints, p.not_late, q.not_above); not_over = grind (arith, ints) }
near_is near d q false e =
    let p = first_day_paces (near +ℤ pos 1 +ℤ pos 1) in
    record { begun = grind (arith, ints); not_over = omega (arith, ints, p.not_early, q.close) }

-- the year that is defined is the year of the day
pub year_is : (d : ℤ) → IsYearOfDay (year_of_day d) d
unfolding year_of_day
year_is d = let near = floor_quotient (pos 400 *ℤ (d +ℤ pos 1)) 146096 in
    near_is near d (floor_quotient_is (pos 400 *ℤ (d +ℤ pos 1)) 146096)
    (int_lt d (first_day (near +ℤ pos 1))) refl

-- a day's year isn't after that of a later day
pub years_rise : (y z d e : ℤ) → IsYearOfDay y d → IsYearOfDay z e → d ≤ℤ e → y ≤ℤ z
years_rise y z d e p q h =
    by_lt_z z y
    (λ l. let r = first_day_rises (z +ℤ pos 1) y (omega (arith, ints)) in
    absurd (omega (arith, ints, r, p.begun, q.not_over)))
    (λ l. l)

pub year_mono : (d e : ℤ) → d ≤ℤ e → year_of_day d ≤ℤ year_of_day e
year_mono d e h = years_rise (year_of_day d) (year_of_day e) d e (year_is d) (year_is e) h

pub year_unique : (y z d : ℤ) → IsYearOfDay y d → IsYearOfDay z d → y ≡ z
year_unique y z d p q =
    let a = years_rise y z d d p q (omega (arith, ints)) in
    let b = years_rise z y d d q p (omega (arith, ints)) in
    omega (arith, ints)
