-- The hours of the zones are small fractions, so a moment of a day is the day's number itself or lies inside one day,
-- and in one year. That is computed once, for the whole table of places. The moment is the day's number plus one
-- fraction from -1 to 1, whose floor and ceiling in 2^-32 are bounded in three cases: from -1 to below 0, from 0 to
-- below 1, and 1.
use Rattle.std.specs.Prelude.{◌≡◌, ℕ, suc, ◌+◌, ◌-◌, ◌*◌, ◌^◌, ◌<◌, ◌≤◌, Bool, true, false, cond, ◌&&◌, int_le, int_lt}
use Rattle.std.specs.Prelude.{nat_lt, nat_le, if◌then◌else◌, ℤ, pos, negsuc, neg_ℤ, ◌+ℤ◌, ◌-ℤ◌, ◌*ℤ◌, ◌≤ℤ◌, ◌<ℤ◌}
use Rattle.std.specs.Prelude.{unsigned_abs, FitsSigned, List, [], ◌∷◌, refl}
use Rattle.std.specs.Int.{w64}
use Rattle.std.specs.List.{list_all}
use Rattle.std.specs.Ordering.{int_eq}
use Rattle.std.proofs.Common.{arith, sym}
use Rattle.std.proofs.Math.Nat.{mul-le-mul_right}
use Rattle.std.proofs.Math.Pow.{pow_mono}
use Rattle.std.proofs.lemmas.Int.{ints, by_lt_z}
use Rattle.std.proofs.lemmas.Bool.{lt-ltb, ltb-true}
use Rattle.std.proofs.lemmas.Bool.Decides.{Decides-int_eq}
use Rattle.book_model.specs.Fraction.{Fraction, whole, floor}
use Rattle.book_model.specs.Interval.{Interval, everything, between}
use Rattle.book_model.proofs.Floors.{floor_mono, floor_quotient_is}
use Rattle.book_model.proofs.Fractions.{at_most_true}
use Rattle.book_model.specs.calendars.Gregorian.{first_day, year_of_day}
use Rattle.book_model.specs.declared.fact.Place.{Place}
use Rattle.book_model.specs.declared.fact.TheConstants.{PLACES}
use Rattle.book_model.specs.declared.frac.Frac.{Frac}
use Rattle.book_model.specs.declared.zone.ZoneStep.{ZoneStep}
use Rattle.book_model.specs.numbers.Bounds.{Bound, unbounded, bounded, Reach, IsNarrow, range_size, floor_at_32}
use Rattle.book_model.specs.numbers.Bounds.{ceil_at_32, bound_of, integer_bound, constant_bound, sum_bound, limits_of}
use Rattle.book_model.specs.numbers.Expressions.{integer, constant, add}
use Rattle.book_model.specs.numbers.Fractions.{fraction_of}
use Rattle.book_model.specs.numbers.Relations.{Narrow, Keeps}
use Rattle.book_model.specs.programs.Programs.{cell_at, cell_of}
use Rattle.book_model.specs.sky.Correction.{no_fraction}
use Rattle.book_model.specs.sky.Facts.{IsValueDay}
use Rattle.book_model.specs.sky.Names.{place_number, zone_steps, last_hours}
use Rattle.book_model.specs.sky.Time.{hours_on, zone_on}
use Rattle.book_model.proofs.Calendars.{year_mono}
use Rattle.book_model.proofs.CorrectionRows.{both}
use Rattle.book_model.proofs.Implying.{limits_within}
use Rattle.book_model.proofs.NameLemmas.{column_passes, place_row}
use Rattle.encl_core.proofs.Covering.{floor_least, floor_most, ceil_least, ceil_most, size_least}
use Rattle.encl_core.proofs.Measuring.{looser}
use Rattle.time_scales.proofs.ZoneWidths.{zone_hours_kept}
use Rattle.moon_rise.specs.Computed.{shift_of, computed_moment_of}
use Rattle.moon_rise.specs.Moments.{AreHours, HasOneYear}
use Rattle.moon_rise.specs.Widths.{IsExact}

-- ---- hours
is_fine : Frac → Bool
is_fine h = nat_lt 0 h.den && nat_lt h.den (2 ^ 20)

abbrev is_fine_step : ZoneStep → Bool
is_fine_step s = is_fine s.hours

steps_fine : list_all (λ row. list_all is_fine_step row.2.1.now) PLACES ≡ true
unfolding is_fine
steps_fine = refl

last_fine : list_all (λ row. is_fine row.2.2) PLACES ≡ true
unfolding is_fine
last_fine = refl

fine_on : (steps : List ZoneStep) (last : Frac) (d : ℤ) → list_all is_fine_step steps ≡ true → is_fine last ≡ true
    → is_fine (hours_on steps last d) ≡ true
fine_on [] last d h k = k
fine_on (step ∷ steps) last d h k =
    let b = both (is_fine_step step) (list_all is_fine_step steps) h in
    by (int_lt d step.before) b.0 (fine_on steps last d b.1 k)
  where
    by : (t : Bool) → is_fine step.hours ≡ true → is_fine (hours_on steps last d) ≡ true
        → is_fine (if t then step.hours else hours_on steps last d) ≡ true
    by true p q = p
    by false p q = q

zone_fine : (place : Place) (d : ℤ) → is_fine (zone_on place d) ≡ true
unfolding zone_on zone_steps last_hours
zone_fine place d =
    fine_on _ _ d
    (column_passes (λ row. row.2.1.now) [] (λ row. place_number row.0) (list_all is_fine_step) PLACES
    (place_number place) (place_number place) steps_fine
    (place_row place))
    (column_passes (λ row. row.2.2) no_fraction (λ row. place_number row.0) is_fine PLACES (place_number place)
    (place_number place) last_fine
    (place_row place))

fine_between : (h : Frac) → is_fine h ≡ true → (0 < h.den) × (h.den < 2 ^ 20)
unfolding is_fine
fine_between h e = let b = both _ _ e in (ltb-true _ _ b.0, ltb-true _ _ b.1)

pub hours_small : (place : Place) (d : ℤ) → AreHours (zone_on place d)
hours_small place d =
    let z = zone_on place d in
    let f = fine_between z (zone_fine place d) in
    let k = both _ _ (both _ _ (zone_hours_kept place d)).1 in
    let low = at_most_true (whole (pos 0)) (fraction_of z) k.0 in
    let high = at_most_true (fraction_of z) (whole (pos 24)) k.1 in
    record { some = f.0; fine = f.1; from = omega (arith, ints, low.cross); to = omega (arith, ints, f.0, high.cross) }

-- ---- one year
low_year : int_le (pos 0) (year_of_day (pos 620728)) ≡ true
unfolding year_of_day first_day
low_year = refl

high_year : int_le (year_of_day (pos 784907)) (pos 10000) ≡ true
unfolding year_of_day first_day
high_year = refl

year_fits : (n : ℤ) → pos 620728 ≤ℤ n → n ≤ℤ pos 784907 → FitsSigned w64 (year_of_day n)
year_fits n h k =
    let l = year_mono (pos 620728) n h in
    let u = year_mono n (pos 784907) k in
    let p : true ≡ int_le (pos 0) (year_of_day (pos 620728)) = sym low_year in
    let q : true ≡ int_le (year_of_day (pos 784907)) (pos 10000) = sym high_year in
    let a : pos 0 ≤ℤ year_of_day n = omega (arith, ints, l, p) in
    let b : year_of_day n ≤ℤ pos 10000 = omega (arith, ints, u, q) in
    omega (arith, ints, a, b)

-- what lies inside one day lies in its year
one_year : (i : Interval) (low high n : ℤ) (s k w : ℕ) → IsNarrow w (bounded low high s k) i
    → (n *ℤ pos (2 ^ 32)) ≤ℤ low
    → high <ℤ (n *ℤ pos (2 ^ 32) +ℤ pos (2 ^ 32)) → FitsSigned w64 (year_of_day n) → HasOneYear i
unfolding IsNarrow cell_at cell_of
one_year everything low high n s k w h l u f = absurd h
one_year (between lo hi) low high n s k w h l u f =
    let a = floor_mono _ _ h.above in
    let m = floor_mono _ _ h.ordered in
    let b = floor_mono _ _ h.below in
    let x = floor_quotient_is low (2 ^ 32 - 1) in
    let y = floor_quotient_is high (2 ^ 32 - 1) in
    let p : floor lo ≡ n = omega (arith, ints, l, u, a, m, b, x.close, y.not_above) in
    let q : floor hi ≡ n = omega (arith, ints, l, u, a, m, b, x.close, y.not_above) in
    let t : int_eq (year_of_day n) (year_of_day n) ≡ true = (Decides-int_eq (year_of_day n) (year_of_day n)).1 refl in
    record { year = year_of_day n; fits = f; within = rw (p, q, t) refl }

-- ---- how far a moment is from its day's number
-- at most a day either way, where the hours are
shift_from : (z : Frac) (i : ℕ) → i ≤ 1536 → AreHours z → neg_ℤ (pos (1536 * z.den)) ≤ℤ (shift_of z i).num
shift_from z i b h = omega (arith, ints, h.to)

shift_to : (z : Frac) (i : ℕ) → i ≤ 1536 → AreHours z → (shift_of z i).num ≤ℤ pos (1536 * z.den)
shift_to z i b h = let p : i * z.den ≤ 1536 * z.den = mul-le-mul_right z.den b in omega (arith, ints, p, h.from)

-- a fraction from -1 up to 0, in 2^-32: rounded either way it lies there too, and not at 0
record IsBefore (f : Fraction) : Type 0 where
  low : neg_ℤ (pos (2 ^ 32)) ≤ℤ floor_at_32 f
  high : ceil_at_32 f ≤ℤ negsuc 0

before : (f : Fraction) → suc f.below ≤ 2 ^ 32 → neg_ℤ (pos (suc f.below)) ≤ℤ f.num → f.num ≤ℤ negsuc 0 → IsBefore f
before f b l u =
    let k = floor_mono (whole (pos 1)) (record { num = neg_ℤ (f.num *ℤ pos (2 ^ 32)); below = f.below })
    (record { cross = omega (arith, ints, b, u) }) in
    record {
      low = floor_least (f.num *ℤ pos (2 ^ 32)) f.below (2 ^ 32) (omega (arith, ints, l));
      high = omega (arith, ints, k);
    }

-- from 0 up to 1
record IsAfter (f : Fraction) : Type 0 where
  low : pos 0 ≤ℤ floor_at_32 f
  high : ceil_at_32 f ≤ℤ pos (2 ^ 32 - 1)

after : (f : Fraction) → suc f.below ≤ 2 ^ 32 → pos 0 ≤ℤ f.num → (f.num +ℤ pos 1) ≤ℤ pos (suc f.below) → IsAfter f
after f b l u =
    record {
      low = omega (arith, ints, floor_least (f.num *ℤ pos (2 ^ 32)) f.below 0 (omega (arith, ints, l)));
      high = ceil_most (f.num *ℤ pos (2 ^ 32)) f.below (2 ^ 32 - 1) (omega (arith, ints, b, u));
    }

-- 1
record IsNext (f : Fraction) : Type 0 where
  low : pos (2 ^ 32) ≤ℤ floor_at_32 f
  high : ceil_at_32 f ≤ℤ pos (2 ^ 32)

next : (f : Fraction) → f.num ≡ pos (suc f.below) → IsNext f
next f e =
    let k = floor_mono (whole (pos (2 ^ 32))) (record { num = f.num *ℤ pos (2 ^ 32); below = f.below })
    (record { cross = omega (arith, ints, e) }) in
    record {
      low = omega (arith, ints, k);
      high = ceil_most (f.num *ℤ pos (2 ^ 32)) f.below (2 ^ 32) (omega (arith, ints, e));
    }

-- ---- the bound of a moment
small_at : (t : Bool) (n : ℕ) → n < 2 ^ 58 → nat_lt n (cond t (2 ^ 58) (2 ^ 100)) ≡ true
small_at true n h = lt-ltb _ _ h
small_at false n h = lt-ltb _ _ (omega (arith, h))

-- the bounds of a day's number and of a fraction within 1 of 0, added
moment_bound : (bits : ℕ) (b : ℕ → Bound) (d : ℤ) (f : Fraction) → 36 ≤ bits → bits ≤ 56 → IsValueDay d
    → unsigned_abs f.num < 2 ^ 40
    → neg_ℤ (pos (2 ^ 32)) ≤ℤ floor_at_32 f → floor_at_32 f ≤ℤ pos (2 ^ 32) → neg_ℤ (pos (2 ^ 32)) ≤ℤ ceil_at_32 f
    → ceil_at_32 f ≤ℤ pos (2 ^ 32)
    → bound_of (limits_of bits) b (add (integer d) (constant f))
    ≡ bounded (d *ℤ pos (2 ^ 32) +ℤ floor_at_32 f) (d *ℤ pos (2 ^ 32) +ℤ ceil_at_32 f) 0 (0 + 2 ^ (64 - bits))
unfolding bound_of integer_bound constant_bound sum_bound
moment_bound bits b d f low high day small l1 l2 u1 u2 =
    let p : 2 ^ 70 ≤ 2 ^ (126 - bits) = pow_mono {i = 70} {j = 126 - bits} (omega (arith, high)) in
    let s1 : nat_lt (unsigned_abs d * 2 ^ 32) (cond (nat_le bits 36) (2 ^ 58) (2 ^ 100)) ≡ true =
    small_at (nat_le bits 36) _
    (omega (arith, ints, day.0, day.1)) in
    let s2 : nat_lt (unsigned_abs f.num) (2 ^ (126 - bits)) ≡ true = lt-ltb _ _ (omega (arith, p, small)) in
    let near_0 = size_least (floor_at_32 f) (ceil_at_32 f) (2 ^ 32) l1 l2 u1 u2 in
    let s3 : nat_lt (range_size (floor_at_32 f) (ceil_at_32 f)) (cond (nat_le bits 36) (2 ^ 58) (2 ^ 100)) ≡ true =
    small_at (nat_le bits 36) _
    (omega (arith, near_0)) in
    let near_d = size_least (d *ℤ pos (2 ^ 32) +ℤ floor_at_32 f) (d *ℤ pos (2 ^ 32) +ℤ ceil_at_32 f) (800000 * 2 ^ 32)
    (omega (arith, ints, day.0, l1))
    (omega (arith, ints, day.1, l2)) (omega (arith, ints, day.0, u1)) (omega (arith, ints, day.1, u2)) in
    let s4 : nat_lt (range_size (d *ℤ pos (2 ^ 32) +ℤ floor_at_32 f) (d *ℤ pos (2 ^ 32) +ℤ ceil_at_32 f))
    (cond (nat_le bits 36) (2 ^ 58) (2 ^ 100)) ≡ true =
    small_at (nat_le bits 36) _ (omega (arith, near_d)) in
    rw (limits_within bits low high, s1, s2, s3, s4) refl

-- a fraction from -1 to 1, in 2^-32
record IsNear (f : Fraction) : Type 0 where
  floor_low : neg_ℤ (pos (2 ^ 32)) ≤ℤ floor_at_32 f
  floor_high : floor_at_32 f ≤ℤ pos (2 ^ 32)
  ceil_low : neg_ℤ (pos (2 ^ 32)) ≤ℤ ceil_at_32 f
  ceil_high : ceil_at_32 f ≤ℤ pos (2 ^ 32)

near : (f : Fraction) → neg_ℤ (pos (suc f.below)) ≤ℤ f.num → f.num ≤ℤ pos (suc f.below) → IsNear f
near f l u =
    let z = f.num *ℤ pos (2 ^ 32) in
    let a : neg_ℤ (pos (2 ^ 32 * suc f.below)) ≤ℤ z = omega (arith, ints, l) in
    let b : z ≤ℤ pos (2 ^ 32 * suc f.below) = omega (arith, ints, u) in
    record {
      floor_low = floor_least z f.below (2 ^ 32) a;
      floor_high = floor_most z f.below (2 ^ 32) b;
      ceil_low = ceil_least z f.below (2 ^ 32) a;
      ceil_high = ceil_most z f.below (2 ^ 32) b;
    }

module _ {E : Type 0} (shown : E → Interval) (bits : ℕ) (e : E) (d : ℤ) (low : 36 ≤ bits) (high : bits ≤ 56)
    (day : IsValueDay d) (f : Fraction)
    (small : suc f.below < 2 ^ 32) (from : neg_ℤ (pos (suc f.below)) ≤ℤ f.num) (to : f.num ≤ℤ pos (suc f.below))
    (y : Narrow shown (limits_of bits) (record { width = 0; bounds = λ k. unbounded }) (add (integer d) (constant f)) e)
  where
    -- what its bounds are
    kept : IsNarrow 0 (bounded (d *ℤ pos (2 ^ 32) +ℤ floor_at_32 f) (d *ℤ pos (2 ^ 32) +ℤ ceil_at_32 f) 0
        (0 + 2 ^ (64 - bits))) (shown e)
    unfolding Keeps
    kept =
        let n = near f from to in
        let z = moment_bound bits (λ k. unbounded) d f low high day (omega (arith, ints, small, from, to)) n.floor_low
        n.floor_high n.ceil_low n.ceil_high in
        rw z at y.kept

    -- the year by where it lies
    in_one_year : HasOneYear (shown e)
    in_one_year =
        by_lt_z f.num (pos 0)
        (λ n.
        let r = before f (omega (arith, small)) from (omega (arith, ints, n)) in
        one_year (shown e) _ _ (d -ℤ pos 1) 0 (0 + 2 ^ (64 - bits)) 0 kept (omega (arith, ints, r.low))
        (omega (arith, ints, r.high))
        (year_fits (d -ℤ pos 1) (omega (arith, ints, day.0)) (omega (arith, ints, day.1))))
        (λ n.
        by_lt_z f.num (pos (suc f.below))
        (λ m.
        let r = after f (omega (arith, small)) (omega (arith, ints, n)) (omega (arith, ints, m)) in
        one_year (shown e) _ _ d 0 (0 + 2 ^ (64 - bits)) 0 kept (omega (arith, ints, r.low))
        (omega (arith, ints, r.high))
        (year_fits d (omega (arith, ints, day.0)) (omega (arith, ints, day.1))))
        (λ m.
        let r = next f (omega (arith, ints, m, to)) in
        one_year (shown e) _ _ (d +ℤ pos 1) 0 (0 + 2 ^ (64 - bits)) 0 kept (omega (arith, ints, r.low))
        (omega (arith, ints, r.high))
        (year_fits (d +ℤ pos 1) (omega (arith, ints, day.0)) (omega (arith, ints, day.1)))))

-- the moment of a number of a day lies in one year
pub moment_in_year : {E : Type 0} (shown : E → Interval) (bits : ℕ) (z : Frac) (d : ℤ) (i : ℕ) (e : E) → 36 ≤ bits
    → bits ≤ 56 → IsValueDay d → i ≤ 1536
    → AreHours z → ((r : Reach) → Narrow shown (limits_of bits) r (computed_moment_of z d i) e) → HasOneYear (shown e)
unfolding computed_moment_of
moment_in_year shown bits z d i e low high day b h y =
    let s : suc (1536 * z.den - 1) ≡ 1536 * z.den = omega (arith, h.some) in
    let l = shift_from z i b h in
    let u = shift_to z i b h in
    let from : neg_ℤ (pos (suc (1536 * z.den - 1))) ≤ℤ (shift_of z i).num = omega (arith, ints, s, l) in
    let to : (shift_of z i).num ≤ℤ pos (suc (1536 * z.den - 1)) = omega (arith, ints, s, u) in
    in_one_year shown bits e d low high day (shift_of z i) (omega (arith, s, h.fine)) from to (y _)

-- and is a unit wide at most
pub moment_exact : {E : Type 0} (shown : E → Interval) (bits : ℕ) (z : Frac) (d : ℤ) (i : ℕ) (e : E) → bits ≡ 56
    → IsValueDay d → i ≤ 1536 → AreHours z
    → ((r : Reach) → Narrow shown (limits_of bits) r (computed_moment_of z d i) e) → IsExact (shown e)
unfolding computed_moment_of
moment_exact shown bits z d i e is day b h y =
    let s : suc (1536 * z.den - 1) ≡ 1536 * z.den = omega (arith, h.some) in
    let l = shift_from z i b h in
    let u = shift_to z i b h in
    let from : neg_ℤ (pos (suc (1536 * z.den - 1))) ≤ℤ (shift_of z i).num = omega (arith, ints, s, l) in
    let to : (shift_of z i).num ≤ℤ pos (suc (1536 * z.den - 1)) = omega (arith, ints, s, u) in
    let n = near (shift_of z i) from to in
    let k = rw is at (kept shown bits e d (omega (arith, is)) (omega (arith, is)) day (shift_of z i)
    (omega (arith, s, h.fine)) from to (y _)) in
    looser _ _ _ _ (2 ^ 8) (2 ^ 16) (shown e) (omega (arith, ints, day.0, n.floor_low))
    (omega (arith, ints, day.1, n.ceil_high)) (omega arith)
    (record { kept = k })
