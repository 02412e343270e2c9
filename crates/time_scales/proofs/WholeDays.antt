-- An enclosure of a whole day lies in its year. The bound of a whole number has it for both endpoints, with width 0, so
-- that at every scale from 2^-36 on the floors of both are the day, and the cell of the year is the day's. So of a
-- whole day no test of the year is undecided, and a failure among the first three tests is none of the year.
use Rattle.std.specs.Prelude.{◌≡◌, ℕ, ◌-◌, ◌*◌, ◌^◌, ◌≤◌, ◌<◌, nat_lt, nat_le, cond, Bool, true, false, ℤ, pos, ◌*ℤ◌}
use Rattle.std.specs.Prelude.{unsigned_abs, Some, FitsSigned, refl}
use Rattle.std.proofs.Common.{arith, subst}
use Rattle.std.proofs.lemmas.Int.{ints}
use Rattle.std.specs.Int.{w64}
use Rattle.std.specs.Ordering.{int_eq}
use Rattle.std.proofs.lemmas.Bool.Decides.{Decides-int_eq, Decides-ltb}
use Rattle.book_model.specs.Fraction.{floor}
use Rattle.book_model.specs.Interval.{Interval, everything, between}
use Rattle.book_model.proofs.Floors.{floor_mono, floor_quotient_is}
use Rattle.book_model.specs.declared.fail.Fail.{Fail}
use Rattle.book_model.specs.declared.fail.Fail.TheVariants.{Undecided as undecided_at, Void}
use Rattle.book_model.specs.numbers.Bounds.{Reach, IsNarrow, unbounded, bounded, at_32, bound_of, integer_bound}
use Rattle.book_model.specs.numbers.Bounds.{limits_of}
use Rattle.book_model.specs.calendars.Gregorian.{year_of_day}
use Rattle.book_model.specs.numbers.Expressions.{integer}
use Rattle.book_model.specs.sky.Facts.{IsValueDay}
use Rattle.book_model.specs.programs.Leading.{IsUndecidedCell, between_cells, too_far}
use Rattle.book_model.specs.programs.Programs.{years, cell_at, cell_of}
use Rattle.book_model.specs.numbers.Relations.{Narrow, Keeps}
use Rattle.time_scales.proofs.CorrectionValues.{year_small}
use Rattle.book_model.proofs.Implying.{limits_within}
use Rattle.time_scales.specs.Steps.{IsYearUndecidedFor, IsEarlyYearFor, IsNoEarlyYear, IsNotOfYear}

floor_of_day : (d : ℤ) → floor (at_32 (d *ℤ pos (2 ^ 32))) ≡ d
floor_of_day d = let f = floor_quotient_is (d *ℤ pos (2 ^ 32)) (2 ^ 32 - 1) in omega (arith, ints, f.not_above, f.close)

year_of_endpoints : (i : Interval) (d : ℤ) (w : ℕ) → IsNarrow w (bounded (d *ℤ pos (2 ^ 32)) (d *ℤ pos (2 ^ 32)) 0 0) i
    → cell_at years i ≡ Some (year_of_day d)
unfolding IsNarrow cell_at cell_of
year_of_endpoints everything d w h = absurd h
year_of_endpoints (between lo hi) d w h =
    let l = floor_mono _ _ h.above in
    let m = floor_mono _ _ h.ordered in
    let u = floor_mono _ _ h.below in
    let f = floor_of_day d in
    let p : floor lo ≡ d = omega (arith, ints, l, m, u, f) in
    let q : floor hi ≡ d = omega (arith, ints, l, m, u, f) in
    let t : int_eq (year_of_day d) (year_of_day d) ≡ true = (Decides-int_eq (year_of_day d) (year_of_day d)).1 refl in
    rw (p, q, t) refl

-- a number that the least of the scales bears is one that each bears
small_at : (t : Bool) (n : ℕ) → n < 2 ^ 58 → nat_lt n (cond t (2 ^ 58) (2 ^ 100)) ≡ true
small_at true n h = (Decides-ltb n (2 ^ 58)).1 h
small_at false n h = (Decides-ltb n (2 ^ 100)).1 (omega (arith, h))

pub year_enclosed : {E : Type 0} (shown : E → Interval) (bits : ℕ) (d : ℤ) (e : E) → 36 ≤ bits → bits ≤ 56
    → IsValueDay d
    → Narrow shown (limits_of bits) (record { width = 0; bounds = λ k. unbounded }) (integer d) e
    → cell_at years (shown e) ≡ Some (year_of_day d)
unfolding Keeps bound_of integer_bound
year_enclosed shown bits d e a b h n =
    let small = small_at (nat_le bits 36) (unsigned_abs d * 2 ^ 32) (omega (arith, ints, h.0, h.1)) in
    let kept = (rw (limits_within bits a b) at n).kept in
    year_of_endpoints (shown e) d 0 (rw small at kept)

pub closed_year : (i : Interval) (y : ℤ) (f : Fail) → cell_at years i ≡ Some y → FitsSigned w64 y
    → IsYearUndecidedFor i f → IsNotOfYear f
closed_year i y (Void s) e g h = tt
closed_year i y (undecided_at u) e g h = λ s. by (h s)
  where
    by : IsUndecidedCell years i u.lo u.hi → ⊥
    by (between_cells n a) = absurd (cc)
    by (too_far q c n b) = let z : y ≡ q = cc in n (subst (λ t. FitsSigned w64 t) z g)

-- of a whole day, no failure of the first three tests is at the year
pub no_early_year : {E : Type 0} (shown : E → Interval) (bits : ℕ) (d : ℤ) (e : E) (f : Fail) → 36 ≤ bits → bits ≤ 56
    → IsValueDay d
    → ((k : Reach) → Narrow shown (limits_of bits) k (integer d) e)
    → IsEarlyYearFor (shown e) f → IsNoEarlyYear f
no_early_year shown bits d e (Void s) p q h n o = tt
no_early_year shown bits d e (undecided_at u) p q h n o = λ s t.
    let y = year_small d h in
    closed_year (shown e) (year_of_day d) (undecided_at u) (year_enclosed shown bits d e p q h (n _))
    (omega (arith, ints, y.0, y.1)) (λ z. o z t) s
