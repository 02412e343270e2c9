-- How narrow the values of ΔT are at each scale: computed for each year at the finest scale, and no wider at the
-- others. A test that is computed goes over the rows and over the years of each (`table_close`); `holds_at` takes the
-- year at hand out of it. To the scales from 2^-36 to 2^-56, which are 21, the result is carried by `CoarserBounds`, of
-- which that each scale is coarser is computed too.
use Rattle.std.specs.Prelude.{◌≡◌, ℕ, zero, suc, ◌+◌, ◌-◌, ◌*◌, ◌^◌, nat_le, nat_eq, ◌≤◌, ◌<◌, ℤ, pos, ◌+ℤ◌, ◌≤ℤ◌, ◌<ℤ◌}
use Rattle.std.specs.Prelude.{Bool, true, ◌&&◌, List, Option, Some, None, IfSome, refl}
use Rattle.std.specs.List.{list_all}
use Rattle.std.specs.Option.{option_map_or}
use Rattle.std.proofs.Common.{arith, subst, ◌⊎◌, inl, inr}
use Rattle.std.proofs.lemmas.Int.{ints, by_lt_z}
use Rattle.std.proofs.lemmas.Bool.{leb-true, eqb-true}
use Rattle.book_model.specs.Interval.{Interval}
use Rattle.book_model.specs.numbers.Bounds.{Bound, unbounded, Reach, IsNarrow, bound_of, implies, integer_bound}
use Rattle.book_model.specs.numbers.Bounds.{constant_bound, sum_bound, scaled_bound, limits_of}
use Rattle.book_model.specs.calendars.Gregorian.{fixed_of, first_day, days_of_months}
use Rattle.book_model.specs.sky.Correction.{Correction, corrections, row_of_year, int_power, polynomial_to}
use Rattle.book_model.specs.sky.Correction.{polynomial_of, seconds_of}
use Rattle.book_model.specs.numbers.Relations.{Narrow}
use Rattle.book_model.proofs.Implying.{settled_at}
use Rattle.book_model.specs.declared.correction_rows.CorrectionForm.{CorrectionForm}
use Rattle.book_model.specs.declared.frac.Frac.{Frac}
use Rattle.book_model.proofs.CorrectionRows.{both, year_row}
use Rattle.time_scales.specs.Corrections.{computed_by, correction_bound}
use Rattle.time_scales.specs.Horner.{horner_to, horner_of}
use Rattle.time_scales.proofs.CorrectionRows.{years_of, year_inside}
use Rattle.time_scales.proofs.CoarserBounds.{finest, AreCoarser, coarser_correction, implied}

-- no argument is promised anything
abbrev pub no_bound : ℕ → Bound
no_bound k = unbounded

-- whether a test holds of the n numbers from y on
unfoldable pub holds_from : (ℤ → Bool) → ℤ → ℕ → Bool
holds_from f y zero = true
holds_from f y (suc n) = f y && holds_from f (y +ℤ pos 1) n

-- whether a test holds of the numbers below n
unfoldable pub holds_below : (ℕ → Bool) → ℕ → Bool
holds_below f zero = true
holds_below f (suc n) = f n && holds_below f n

-- ΔT of a year by a form is at most so many units of 2^-bits wide
unfoldable is_close : (units bits : ℕ) → CorrectionForm → List Frac → ℤ → Bool
is_close units bits form cs y = implies (bound_of (limits_of bits) no_bound (computed_by form cs y))
    (correction_bound units bits)

-- and so many units of 2^-56, by what each scale bears
unfoldable is_finest : (units : ℕ) → CorrectionForm → List Frac → ℤ → Bool
is_finest units form cs y = implies (bound_of finest no_bound (computed_by form cs y)) (correction_bound units 56)

-- the values of ΔT of a row
unfoldable are_finest : (units : ℕ) → Correction → Bool
are_finest units row = holds_from (is_finest units row.form row.coefficients) row.first (years_of row)

-- a row keeps what it promises
unfoldable keeps_units : Correction → Bool
keeps_units row = option_map_or (λ units. are_finest units row) row.units true

table_close : list_all keeps_units corrections ≡ true
unfolding corrections keeps_units are_finest holds_from is_finest implies bound_of integer_bound constant_bound
    sum_bound scaled_bound
    computed_by seconds_of polynomial_of polynomial_to int_power horner_of horner_to fixed_of first_day days_of_months
table_close = refl

same_or_later : (y z : ℤ) → y ≤ℤ z → (y ≡ z) ⊎ ((y +ℤ pos 1) ≤ℤ z)
same_or_later y z h = by_lt_z y z (λ l. inr (omega (arith, ints))) (λ l. inl (omega (arith, ints)))

pub holds_at : (f : ℤ → Bool) (n : ℕ) (y z : ℤ) → holds_from f y n ≡ true → y ≤ℤ z → z <ℤ (y +ℤ pos n) → f z ≡ true
unfolding holds_from
holds_at f zero y z e h k = absurd (omega (arith, ints))
holds_at f (suc n) y z e h k =
    let b = both (f y) (holds_from f (y +ℤ pos 1) n) e in
    elim (same_or_later y z h) [
      | inl p ↦ subst (λ t. f t ≡ true) p b.0
      | inr p ↦ holds_at f n (y +ℤ pos 1) z b.1 p
          (omega (arith, ints))
    ]

pub holds_of : (f : ℕ → Bool) (n k : ℕ) → holds_below f n ≡ true → k < n → f k ≡ true
unfolding holds_below
holds_of f zero k e h = absurd (omega arith)
holds_of f (suc n) k e h =
    let b = both (f n) (holds_below f n) e in
    by_lt_z (pos k) (pos n) (λ l. holds_of f n k b.1 (omega (arith, ints))) (λ l. let p : n ≡ k = omega (arith, ints) in
    subst (λ t. f t ≡ true) p b.0)

-- ---- the scales from 2^-36 to 2^-56
-- the unit of a scale k bits finer than 2^-36, and what it bears
abbrev unit_at : ℕ → ℕ
unit_at k = 2 ^ (20 - k)

abbrev is_coarser : ℕ → Bool
is_coarser k = nat_eq (limits_of (36 + k)).unit (unit_at k * 2 ^ 8) && (nat_le (2 ^ 58) (limits_of (36 + k)).sizes
    && (nat_le (2 ^ 70) (limits_of (36 + k)).constants && (nat_le (2 ^ 102) (limits_of (36 + k)).factors
    && nat_eq (2 ^ (64 - (36 + k))) (unit_at k * 2 ^ 8))))

scales_coarser : holds_below is_coarser 21 ≡ true
unfolding holds_below limits_of
scales_coarser = refl

record IsScaled (k : ℕ) : Type 0 where
  limits : AreCoarser (unit_at k) (limits_of (36 + k))
  width : 2 ^ (64 - (36 + k)) ≡ unit_at k * 2 ^ 8

scale_is : (k : ℕ) → k < 21 → IsScaled k
scale_is k h =
    let a = both _ _ (holds_of is_coarser 21 k scales_coarser h) in
    let b = both _ _ a.1 in
    let c = both _ _ b.1 in
    let d = both _ _ c.1 in
    record {
      limits = record {
        unit = eqb-true _ _ a.0;
        sizes = leb-true _ _ b.0;
        constants = leb-true _ _ c.0;
        factors = leb-true _ _ d.0;
      };
      width = eqb-true _ _ d.1;
    }

-- what holds of ΔT's bound at the finest scale holds at the scale k bits finer than 2^-36
implied_at : (k u : ℕ) → k < 21 → (r : ℕ → Bound) (form : CorrectionForm) (cs : List Frac) (y : ℤ)
    → implies (bound_of finest r (computed_by form cs y)) (correction_bound u 56) ≡ true
    → implies (bound_of (limits_of (36 + k)) r (computed_by form cs y)) (correction_bound u (36 + k)) ≡ true
implied_at k u h r form cs y e =
    let s = scale_is k h in
    implied (unit_at k) u (2 ^ (64 - (36 + k))) _ _ s.width (coarser_correction (unit_at k) (limits_of (36 + k))
    s.limits r form cs y) _ _ e

-- ---- the rows
row_close : (row : Correction) (u n : ℕ) (y : ℤ) → are_finest u row ≡ true → 36 ≤ n → n ≤ 56 → row.first ≤ℤ y
    → y ≤ℤ row.last
    → is_close u n row.form row.coefficients y ≡ true
unfolding are_finest is_finest is_close
row_close row u n y c a b h k =
    let p : 36 + (n - 36) ≡ n = omega arith in
    let e = holds_at (is_finest u row.form row.coefficients) (years_of row) row.first y c h (year_inside row y h k) in
    let f = implied_at (n - 36) u (omega arith) no_bound row.form row.coefficients y e in
    subst (λ t. implies (bound_of (limits_of t) no_bound (computed_by row.form row.coefficients y))
    (correction_bound u t) ≡ true) p f

-- ΔT that keeps its computed bound is close
close : {E : Type 0} (shown : E → Interval) (u n : ℕ) (y : ℤ) (form : CorrectionForm) (cs : List Frac) (e : E)
    → is_close u n form cs y ≡ true
    → ((r : Reach) → Narrow shown (limits_of n) r (computed_by form cs y) e)
    → IsNarrow 0 (correction_bound u n) (shown e)
unfolding is_close
close shown u n y form cs e c f = settled_at shown n 0 no_bound (computed_by form cs y) (correction_bound u n) e c
    (f (record { width = 0; bounds = no_bound }))

by_units : {E : Type 0} (shown : E → Interval) (n : ℕ) (y : ℤ) (row : Correction) (e : E) (o : Option ℕ)
    → option_map_or (λ units. are_finest units row) o true ≡ true → 36 ≤ n → n ≤ 56 → row.first ≤ℤ y → y ≤ℤ row.last
    → ((r : Reach) → Narrow shown (limits_of n) r (computed_by row.form row.coefficients y) e)
    → IfSome o (λ units. IsNarrow 0 (correction_bound units n) (shown e))
by_units shown n y row e None t a b h k f = tt
by_units shown n y row e (Some u) t a b h k f = close shown u n y row.form row.coefficients e
    (row_close row u n y t a b h k) f

-- ΔT of a year is as close as its row promises
pub year_is_close : {E : Type 0} (shown : E → Interval) (n : ℕ) (y : ℤ) (row : Correction) (e : E)
    → row_of_year y ≡ Some row → 36 ≤ n → n ≤ 56
    → ((r : Reach) → Narrow shown (limits_of n) r (computed_by row.form row.coefficients y) e)
    → IfSome row.units (λ units. IsNarrow 0 (correction_bound units n) (shown e))
unfolding keeps_units
year_is_close shown n y row e g a b f = let r = year_row keeps_units y row table_close g in
    by_units shown n y row e row.units r.passes a b r.from r.to f
