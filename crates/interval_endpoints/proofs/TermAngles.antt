-- The angle of a periodic term at scale 2^-36: a phase and a rate times the days, by one quotient at each endpoint. The
-- phase and the rate stand over one denominator, D, so that the endpoints hold the sum by multiplying out. The bound is
-- that of the phase and the product rounded apart: these two quotients lie further out than the one, and so the one is
-- no wider.
use Rattle.interval_endpoints.specs.Scales.{coarse}
use Rattle.std.proofs.Common.{◌≡◌, ℕ, ◌^◌, refl, arith, ℤ, pos, ◌+ℤ◌, ◌*ℤ◌, ◌≤ℤ◌, ◌<ℤ◌}
use lib.IntN.{neg_ℤ}
use Rattle.std.specs.Int.{int_min, int_max}
use Rattle.std.proofs.lemmas.Int.{ints, clamps}
use Rattle.book_model.specs.Fraction.{Fraction, ◌≤F◌, plus, times, floor_quotient}
use Rattle.book_model.specs.Interval.{Interval, between, ◌⊆◌, sum, product}
use Rattle.book_model.proofs.Intervals.{within_trans, least_keeps, greatest_keeps}
use Rattle.book_model.specs.numbers.Bounds.{Bound, sum_bound, scaled_bound, constant_bound, IsNarrow, limits_36}
use Rattle.book_model.specs.numbers.Fractions.{ten_millionths, daily_ten_millionths}
use Rattle.int_division.specs.Rounding.{IsFloor, IsCeiling, AreSorted}
use Rattle.int_division.proofs.Quotients.{outward_order, sorted_order, floor_quotient_floor}
use Rattle.interval_endpoints.specs.Rounding.{at_36, Keeps64, fitting}
use Rattle.interval_endpoints.proofs.Keeping.{kept_within, sum_narrow_inner}
use Rattle.interval_endpoints.proofs.Scaling.{AreScaled, scaled_narrow, constant_narrow}

-- what a rate of ten-millionths a century is counted by in a day, and 36525 times the scale
abbrev D : ℤ
D = pos 365250000000

abbrev K : ℤ
K = pos 2509978887782400

-- lo and hi are the phase and the rate times the endpoints x and y, rounded outwards
pub record AreTurned (phase rate x y p q m g lo hi : ℤ) : Type 0 where
  pub first : p ≡ phase *ℤ pos 2509978887782400 +ℤ x *ℤ rate
  pub second : q ≡ phase *ℤ pos 2509978887782400 +ℤ y *ℤ rate
  pub order : AreSorted m g p q
  pub down : IsFloor lo m (pos 365250000000)
  pub up : IsCeiling hi g (pos 365250000000)

-- the phase and the rate times a number in units of 2^-36
abbrev at_angle : (phase rate z : ℤ) → Fraction
at_angle phase rate z = plus (ten_millionths phase) (times (at_36 z) (daily_ten_millionths rate))

angle_above : (phase rate z lo : ℤ) → (lo *ℤ D) ≤ℤ (phase *ℤ K +ℤ z *ℤ rate) → at_36 lo ≤F at_angle phase rate z
unfolding plus times
angle_above phase rate z lo h = record { cross = omega (arith, ints, h) }

angle_below : (phase rate z hi : ℤ) → (phase *ℤ K +ℤ z *ℤ rate) ≤ℤ (hi *ℤ D) → at_angle phase rate z ≤F at_36 hi
unfolding plus times
angle_below phase rate z hi h = record { cross = omega (arith, ints, h) }

pub turned_order : (phase rate x y p q m g lo hi : ℤ) → AreTurned phase rate x y p q m g lo hi → lo ≤ℤ hi
turned_order phase rate x y p q m g lo hi t = outward_order m g D lo hi (sorted_order m g p q t.order) t.down t.up
    (omega (arith, ints))

-- the endpoints hold the angle
pub turned_encloses : (phase rate x y p q m g lo hi : ℤ) (i : Interval) → AreTurned phase rate x y p q m g lo hi
    → Keeps64 lo hi i
    → sum (between (ten_millionths phase) (ten_millionths phase))
    (product (between (at_36 x) (at_36 y)) (between (daily_ten_millionths rate) (daily_ten_millionths rate))) ⊆ i
unfolding sum product
turned_encloses phase rate x y p q m g lo hi i t k =
    let f = ten_millionths phase in
    let L : Fraction → Type 0 = λ z. at_36 lo ≤F plus f z in
    let U : Fraction → Type 0 = λ z. plus f z ≤F at_36 hi in
    let lx : at_36 lo ≤F at_angle phase rate x = angle_above phase rate x lo
    (omega (arith, ints, t.down.not_above, t.order.low_first, t.first)) in
    let ly : at_36 lo ≤F at_angle phase rate y = angle_above phase rate y lo
    (omega (arith, ints, t.down.not_above, t.order.low_second, t.second)) in
    let ux : at_angle phase rate x ≤F at_36 hi = angle_below phase rate x hi
    (omega (arith, ints, t.up.not_below, t.order.high_first, t.first)) in
    let uy : at_angle phase rate y ≤F at_36 hi = angle_below phase rate y hi
    (omega (arith, ints, t.up.not_below, t.order.high_second, t.second)) in
    within_trans (record { endpoints = (least_keeps L _ _ _ _ lx lx ly ly, greatest_keeps U _ _ _ _ ux ux uy uy) })
    (kept_within coarse lo hi i k)

-- ---- no wider than the phase and the product apart
phase_ceiling : (n f : ℤ) → IsFloor f (neg_ℤ n) (pos 10000000) → IsCeiling (neg_ℤ f) n (pos 10000000)
phase_ceiling n f h = record { not_below = omega (arith, ints, h.not_above); close = omega (arith, ints, h.close) }

rate_ceiling : (n f : ℤ) → IsFloor f (neg_ℤ n) D → IsCeiling (neg_ℤ f) n D
rate_ceiling n f h = record { not_below = omega (arith, ints, h.not_above); close = omega (arith, ints, h.close) }

sorted_by : (p q : ℤ) → AreSorted (int_min p q) (int_max p q) p q
sorted_by p q = record {
  low_first = omega (arith, ints, clamps);
  low_second = omega (arith, ints, clamps);
  high_first = omega (arith, ints, clamps);
  high_second = omega (arith, ints, clamps);
  best_low = λ z h k. omega (arith, ints, clamps, h, k);
  best_high = λ z h k. omega (arith, ints, clamps, h, k);
}

-- the two quotients, each rounded, lie further out than that of the sum
inner_low : (phase P m l c lo : ℤ) → (l *ℤ pos 10000000) ≤ℤ (phase *ℤ pos (2 ^ 36)) → (c *ℤ D) ≤ℤ P
    → (phase *ℤ K +ℤ P) ≤ℤ m → m <ℤ (lo *ℤ D +ℤ D) → (l +ℤ c)
    ≤ℤ lo
inner_low phase P m l c lo h j e f = omega (arith, ints, h, j, e, f)

inner_high : (phase P g u c hi : ℤ) → (phase *ℤ pos (2 ^ 36)) ≤ℤ (u *ℤ pos 10000000) → P ≤ℤ (c *ℤ D)
    → g ≤ℤ (phase *ℤ K +ℤ P) → (hi *ℤ D) <ℤ (g +ℤ D) → hi
    ≤ℤ (u +ℤ c)
inner_high phase P g u c hi h j e f = omega (arith, ints, h, j, e, f)

least_turned : (phase rate x y p q m g lo hi : ℤ) → AreTurned phase rate x y p q m g lo hi
    → (phase *ℤ K +ℤ int_min (x *ℤ rate) (y *ℤ rate)) ≤ℤ m
least_turned phase rate x y p q m g lo hi t = t.order.best_low _ (omega (arith, ints, clamps, t.first))
    (omega (arith, ints, clamps, t.second))

greatest_turned : (phase rate x y p q m g lo hi : ℤ) → AreTurned phase rate x y p q m g lo hi
    → g ≤ℤ (phase *ℤ K +ℤ int_max (x *ℤ rate) (y *ℤ rate))
greatest_turned phase rate x y p q m g lo hi t = t.order.best_high _ (omega (arith, ints, clamps, t.first))
    (omega (arith, ints, clamps, t.second))

-- the endpoints keep the bound of the phase and the product
pub turned_narrow : (w : ℕ) (a : Bound) (phase rate x y p q m g lo hi : ℤ) (i : Interval)
    → AreTurned phase rate x y p q m g lo hi → Keeps64 lo hi i
    → IsNarrow w a (between (at_36 x) (at_36 y))
    → IsNarrow w (sum_bound limits_36 (constant_bound limits_36 (ten_millionths phase))
    (scaled_bound limits_36 (daily_ten_millionths rate) a)) i
turned_narrow w a phase rate x y p q m g lo hi i t k h =
    let n = phase *ℤ pos (2 ^ 36) in
    let least = int_min (x *ℤ rate) (y *ℤ rate) in
    let most = int_max (x *ℤ rate) (y *ℤ rate) in
    let l = floor_quotient n 9999999 in
    let u = neg_ℤ (floor_quotient (neg_ℤ n) 9999999) in
    let c = floor_quotient least 365249999999 in
    let e = neg_ℤ (floor_quotient (neg_ℤ most) 365249999999) in
    let fl = floor_quotient_floor n 9999999 in
    let fu = phase_ceiling n _ (floor_quotient_floor (neg_ℤ n) 9999999) in
    let fc = floor_quotient_floor least 365249999999 in
    let fe = rate_ceiling most _ (floor_quotient_floor (neg_ℤ most) 365249999999) in
    let s : AreScaled (daily_ten_millionths rate) x y rate (x *ℤ rate) (y *ℤ rate) least most D c e = record {
      numerator = refl;
      first = refl;
      second = refl;
      denominator = refl;
      order = sorted_by (x *ℤ rate) (y *ℤ rate);
      down = fc;
      up = fe;
    } in
    let kc = constant_narrow coarse (ten_millionths phase) w n l u (pos 10000000) (between (at_36 l) (at_36 u)) refl
    refl fl fu fitting in
    let ks = scaled_narrow coarse w a (daily_ten_millionths rate) x y rate (x *ℤ rate) (y *ℤ rate) least most D c e
    (between (at_36 c) (at_36 e)) s fitting h in
    sum_narrow_inner coarse w _ _ l u c e lo hi i (turned_order phase rate x y p q m g lo hi t)
    (inner_low phase least m l c lo fl.not_above fc.not_above (least_turned phase rate x y p q m g lo hi t)
    t.down.close)
    (inner_high phase most g u e hi fu.not_below fe.not_below (greatest_turned phase rate x y p q m g lo hi t)
    t.up.close) k kc ks
