-- How wide the quotient of a negative number by a positive one is, and at which rate its arctangent moves: in a box of
-- sides that are at most v wide. An interval's range is drawn as near as 2^-32 allows (`IsTight`), so that the box has
-- whole numbers for its sides (`IsBox`); a wide quotient is far from 0, where arctangents are slow, and the rate times
-- the width is bounded for all boxes.
use Rattle.std.specs.Prelude.{max, true, nat_lt}
use Rattle.std.proofs.Common.{◌≡◌, ◌≤◌, ◌+◌, ◌-◌, ◌*◌, ◌/◌, ◌^◌, arith, ℕ, zero, suc, ℤ, pos, negsuc, ◌+ℤ◌, ◌-ℤ◌, ◌*ℤ◌}
use Rattle.std.proofs.Common.{◌≤ℤ◌, ◌<ℤ◌}
use Rattle.std.specs.Int.{int_max}
use Rattle.std.proofs.lemmas.Int.{ints, clamps}
use Rattle.std.proofs.lemmas.Bool.{lt-ltb}
use Rattle.std.proofs.Math.Nat.{mul-le-mul, mul-le-mul_left, le_of_mul-le-mul_right}
use lib.IntN.{neg_ℤ}
use Rattle.book_model.specs.Fraction.{Fraction, ◌≤F◌, plus, floor_quotient}
use Rattle.book_model.specs.Interval.{Interval, everything, between}
use Rattle.book_model.proofs.Fractions.{le_trans, plus_mono, le_refl}
use Rattle.book_model.proofs.IntLaws.{add_mul}
use Rattle.book_model.proofs.Floors.{floor_quotient_is, floor_quotient_mono}
use Rattle.book_model.specs.programs.Widths.{IsWithin}
use Rattle.book_model.specs.numbers.Bounds.{bounded, IsNarrow, at_32, breadth, ceil_div, ceil_quotient, floor_at_32}
use Rattle.book_model.specs.numbers.Bounds.{ceil_at_32, limits_at, quotient_bound}
use Rattle.book_model.specs.numbers.Bounds.{least_quotient}
use Rattle.encl_core.proofs.Measuring.{looser, remeasured}
use Rattle.arc_series.specs.Widths.{IsRateFrom, slow_width}
use Rattle.arc_series.proofs.ArcWidths.{ceil_above}

-- ---- the range of an interval, drawn as near as 2^-32 allows
floor_from : (z q : ℤ) (d : ℕ) → (q *ℤ pos (suc d)) ≤ℤ z → q ≤ℤ floor_quotient z d
floor_from z q d h =
    let m = floor_quotient_mono q z 0 d (omega (arith, ints, h)) in
    let i = floor_quotient_is q 0 in
    omega (arith, ints, m, i.not_above, i.close)

abbrev pub low_of : Interval → ℤ
low_of everything = pos 0
low_of (between a b) = floor_at_32 a

abbrev pub high_of : Interval → ℤ
high_of everything = pos 0
high_of (between a b) = ceil_at_32 b

pub record IsTight (low high : ℤ) (v : ℕ) (a b : ℤ) : Type 0 where
  pub from : low ≤ℤ a
  pub order : a ≤ℤ b
  pub to : b ≤ℤ high
  pub near : ((b -ℤ a) *ℤ pos (2 ^ 32)) ≤ℤ pos (v + 2 * 2 ^ 32)

floor_under : (f : Fraction) → at_32 (floor_at_32 f) ≤F f
floor_under f = let i = floor_quotient_is (f.num *ℤ pos (2 ^ 32)) f.below in
    record { cross = omega (arith, ints, i.not_above) }

floor_over : (f : Fraction) → f ≤F at_32 (floor_at_32 f +ℤ pos 1)
floor_over f = let i = floor_quotient_is (f.num *ℤ pos (2 ^ 32)) f.below in
    record { cross = by_close (floor_at_32 f) i.close }
  where
    by_close : (q : ℤ) → (f.num *ℤ pos (2 ^ 32)) <ℤ (q *ℤ pos (suc f.below) +ℤ pos (suc f.below))
        → (f.num *ℤ pos (2 ^ 32)) ≤ℤ ((q +ℤ pos 1) *ℤ pos (suc f.below))
    by_close q h = omega (arith, ints, h, add_mul q (pos 1) (pos (suc f.below)))

ceil_over : (f : Fraction) → f ≤F at_32 (ceil_at_32 f)
ceil_over f =
    let i = floor_quotient_is (neg_ℤ (f.num *ℤ pos (2 ^ 32))) f.below in record
    { cross = by_below (floor_quotient (neg_ℤ (f.num *ℤ pos (2 ^ 32))) f.below) i.not_above }
  where
    by_below : (q : ℤ) → (q *ℤ pos (suc f.below)) ≤ℤ neg_ℤ (f.num *ℤ pos (2 ^ 32))
        → (f.num *ℤ pos (2 ^ 32)) ≤ℤ (neg_ℤ q *ℤ pos (suc f.below))
    by_below (pos zero) h = omega (arith, ints, h)
    by_below (pos (suc q)) h = omega (arith, ints, h)
    by_below (negsuc q) h = omega (arith, ints, h)

ceil_under : (f : Fraction) → at_32 (ceil_at_32 f -ℤ pos 1) ≤F f
ceil_under f =
    let i = floor_quotient_is (neg_ℤ (f.num *ℤ pos (2 ^ 32))) f.below in record
    { cross = by_close (floor_quotient (neg_ℤ (f.num *ℤ pos (2 ^ 32))) f.below) i.close }
  where
    by_close : (q : ℤ) → neg_ℤ (f.num *ℤ pos (2 ^ 32)) <ℤ (q *ℤ pos (suc f.below) +ℤ pos (suc f.below))
        → ((neg_ℤ q -ℤ pos 1) *ℤ pos (suc f.below)) ≤ℤ (f.num *ℤ pos (2 ^ 32))
    by_close (pos zero) h = omega (arith, ints, h)
    by_close (pos (suc q)) h = omega (arith, ints, h)
    by_close (negsuc q) h = let e : (neg_ℤ (negsuc q) -ℤ pos 1) ≡ pos q = omega (arith, ints) in
        rw e (omega (arith, ints, h))

near_32 : (a b : ℤ) (v : ℕ) → at_32 (b -ℤ pos 1) ≤F plus (at_32 (a +ℤ pos 1)) (breadth 0 0 v)
    → ((b -ℤ a) *ℤ pos (2 ^ 32)) ≤ℤ pos (v + 2 * 2 ^ 32)
unfolding plus
near_32 a b v h = omega (arith, ints, h.cross)

order_32 : (a b : ℤ) → at_32 a ≤F at_32 b → a ≤ℤ b
order_32 a b h = omega (arith, ints, h.cross)

pub tight_is : (low high : ℤ) (v : ℕ) (i : Interval) → IsWithin low high v i → IsTight low high v (low_of i) (high_of i)
unfolding IsNarrow
tight_is low high v everything h = absurd h.kept
tight_is low high v (between x y) h = record {
  from = floor_from (x.num *ℤ pos (2 ^ 32)) low x.below (omega (arith, ints, h.kept.above.cross));
  order = order_32 _ _ (le_trans _ x _ (floor_under x) (le_trans _ y _ h.kept.ordered (ceil_over y)));
  to = by_opposite (floor_from (neg_ℤ (y.num *ℤ pos (2 ^ 32))) (neg_ℤ high) y.below
      (opposite_cross high (y.num *ℤ pos (2 ^ 32)) y.below h.kept.below.cross));
  near = near_32 (floor_at_32 x) (ceil_at_32 y) v
      (le_trans _ y _ (ceil_under y) (le_trans _ _ _ h.kept.close (plus_mono _ _ _ _ (floor_over x) (le_refl _))));
}
  where
    by_opposite : {q : ℤ} → neg_ℤ high ≤ℤ q → neg_ℤ q ≤ℤ high
    by_opposite {q} l = omega (arith, ints, l)

    opposite_cross : (k z : ℤ) (d : ℕ) → z ≤ℤ (k *ℤ pos (suc d)) → (neg_ℤ k *ℤ pos (suc d)) ≤ℤ neg_ℤ z
    opposite_cross (pos zero) z d l = omega (arith, ints, l)
    opposite_cross (pos (suc k)) z d l = omega (arith, ints, l)
    opposite_cross (negsuc k) z d l = omega (arith, ints, l)

pub tight_kept : (low high : ℤ) (v : ℕ) (i : Interval) → IsWithin low high v i → IsWithin (low_of i) (high_of i) v i
unfolding IsNarrow
tight_kept low high v everything h = absurd h.kept
tight_kept low high v (between x y) h =
    record {
      kept = record {
        ordered = h.kept.ordered;
        above = floor_under x;
        below = ceil_over y;
        close = h.kept.close;
      };
    }

-- ---- the rate times the width
-- numbers in units of 2^-32: the sizes of a box, x from p to n and y from g to h, and the least size q of the quotient
record IsBox (n p g h v q : ℕ) : Type 0 where
  x_most : n ≤ 2 ^ 33
  x_near : n * 2 ^ 32 ≤ p * 2 ^ 32 + v + 2 * 2 ^ 32
  x_least : 2 ^ 31 ≤ n
  x_less : p ≤ 2 ^ 33
  y_least : 2 ^ 28 ≤ g
  y_order : g ≤ h
  y_near : h * 2 ^ 32 ≤ g * 2 ^ 32 + v + 2 * 2 ^ 32
  y_most : h ≤ 2 ^ 33
  small : v ≤ 2 ^ 44
  least : q * h ≤ p * 2 ^ 32
  close : p * 2 ^ 32 ≤ q * h + h

-- 1 and the quotient, times y, are hardly less than x and y
box_sum : (n p g h v q : ℕ) → IsBox n p g h v q → (2 ^ 32 * (g + n)) * 2047 ≤ ((2 ^ 32 + q) * g) * 2048
box_sum n p g h v q b = by_gap (h - g) (omega (arith, b.y_order)) (omega (arith, b.y_near, b.y_order, b.small))
  where
    q_most : q ≤ 2 ^ 37
    q_most = let m = mul-le-mul_left q b.y_least in let k = mul-le-mul_left q b.y_order in
        omega (arith, m, k, b.least, b.x_less)

    by_gap : (e : ℕ) → h ≡ g + e → e ≤ 4098 → (2 ^ 32 * (g + n)) * 2047 ≤ ((2 ^ 32 + q) * g) * 2048
    by_gap e f l =
        let k = mul-le-mul q_most l in let c : p * 2 ^ 32 ≤ q * (g + e) + (g + e) = rw f at b.close in omega
        (arith, k, c, l, b.x_near, b.small, b.x_least, b.y_least, b.y_order, b.y_most)

-- the rates above b are enough, the widths above a too
box_product : (m r u t a b v : ℕ) → 9 * 2 ^ 28 ≤ m → (2 ^ 32 * m) * 2047 ≤ r * 2048 → u * t ≡ r * r
    → a * u ≤ v * m * 2 ^ 32 → b * t ≤ 9 * 2 ^ 122
    → a * b * 2047 * 2047 ≤ v * 2 ^ 62 * 2048 * 2048
box_product m r u t a b v hm hr e ha hb =
    let k : a * b * (u * t) ≤ v * m * 2 ^ 32 * (9 * 2 ^ 122) = omega (arith, mul-le-mul ha hb) in
    let s = mul-le-mul hr hr in
    let l = mul-le-mul_left (a * b) s in
    let o = mul-le-mul_left (a * b * m) hm in
    le_of_mul-le-mul_right {k = m} (by_size (a * b) (m * m) (r * r) (rw e at k) (omega (arith, l)) (omega (arith, o)))
    (omega (arith, hm))
  where
    by_size : (c mm rr : ℕ) → c * rr ≤ v * m * 2 ^ 32 * (9 * 2 ^ 122)
        → c * mm * 2 ^ 64 * 2047 * 2047 ≤ c * rr * 2048 * 2048 → c * m * (9 * 2 ^ 28) ≤ c * mm
        → (c * 2047 * 2047) * m ≤ (v * 2 ^ 62 * 2048 * 2048) * m
    by_size c mm rr x y z = omega (arith, x, y, z)

-- the rate of numbers up to -q
abbrev pub rate_from : ℕ → ℕ
rate_from q = ceil_div (9 * 2 ^ 122) ((2 ^ 32 + q) * (2 ^ 32 + q) - 1)

ceil_is : (x d : ℕ) → 1 ≤ d → x ≤ ceil_div x (d - 1) * d
ceil_is x d l = by_quotient (ceil_div x (d - 1)) (ceil_above x (d - 1))
  where
    by_quotient : (c : ℕ) → x ≤ c * suc (d - 1) → x ≤ c * d
    by_quotient c h = let e : suc (d - 1) ≡ d = omega (arith, l) in rw e at h

pub rate_is : (q : ℕ) → IsRateFrom (rate_from q) q
rate_is q = record { enough = ceil_is (9 * 2 ^ 122) ((2 ^ 32 + q) * (2 ^ 32 + q)) (omega arith) }

-- the width of the quotient
abbrev pub box_width : (n g v : ℕ) → ℕ
box_width n g v = ceil_div ((v * suc g + n * v) * 2 ^ 32) (suc g * suc g - 1) + 2 * 2 ^ 8

ceil_below : (n d : ℕ) → ceil_div n d * suc d ≤ n + suc d
ceil_below n d = omega arith

less_one : (c d x : ℕ) → c * d ≤ x + d → (c - 1) * d ≤ x
less_one zero d x h = omega arith
less_one (suc c) d x h = let e : suc c - 1 ≡ c = omega arith in rw e (omega (arith, h))

ceil_less : (x d : ℕ) → 1 ≤ d → (ceil_div x (d - 1) - 1) * d ≤ x
ceil_less x d l = by_quotient (ceil_div x (d - 1)) (ceil_below x (d - 1))
  where
    by_quotient : (c : ℕ) → c * suc (d - 1) ≤ x + suc (d - 1) → (c - 1) * d ≤ x
    by_quotient c h = let e : suc (d - 1) ≡ d = omega (arith, l) in less_one c d x (rw e at h)

fitting : (v a b c s : ℕ) → a * b * 2047 * 2047 ≤ v * 2 ^ 62 * 2048 * 2048 → a * 2 ^ 56 ≤ v * 2 ^ 66
    → b * 2 ^ 64 ≤ 9 * 2 ^ 122 → v ≤ 2 ^ 44 → c ≤ suc a
    → s ≤ suc b → slow_width s (c + 2 * 2 ^ 8) + 2 ^ 9 ≤ 230 * v + 2 ^ 20
fitting v a b c s x y z l f g = by_product ((c + 2 * 2 ^ 8) * s)
    (ceil_below ((c + 2 * 2 ^ 8) * s * 573) (10 * 2 ^ 60 - 1)) (mul-le-mul (by_sum f) g)
  where
    by_sum : c ≤ suc a → c + 2 * 2 ^ 8 ≤ a + 513
    by_sum h = omega (arith, h)

    by_product : (k : ℕ) → ceil_div (k * 573) (10 * 2 ^ 60 - 1) * suc (10 * 2 ^ 60 - 1) ≤ k * 573 + suc
        (10 * 2 ^ 60 - 1) → k ≤ (a + 513) * suc b
        → ceil_div (k * 573) (10 * 2 ^ 60 - 1) + 58 * 2 ^ 8 + 2 ^ 9 ≤ 230 * v + 2 ^ 20
    by_product k i j = by_quotient (ceil_div (k * 573) (10 * 2 ^ 60 - 1)) i j
      where
        by_quotient : (q : ℕ) → q * (10 * 2 ^ 60) ≤ k * 573 + 10 * 2 ^ 60 → k ≤ (a + 513) * suc b
            → q + 58 * 2 ^ 8 + 2 ^ 9 ≤ 230 * v + 2 ^ 20
        by_quotient q i j = omega (arith, i, j, x, y, z, l)

box_fits : (n p g h v q : ℕ) → IsBox n p (suc g) h v q → slow_width (rate_from q) (box_width n g v) + 2 ^ 9 ≤ 230 * v
    + 2 ^ 20
box_fits n p g h v q b =
    let u = mul-le-mul b.y_least b.y_least in
    let ha = ceil_less ((v * suc g + n * v) * 2 ^ 32) (suc g * suc g) (omega (arith, u)) in
    let hb = ceil_less (9 * 2 ^ 122) ((2 ^ 32 + q) * (2 ^ 32 + q)) (omega arith) in
    by_less (ceil_div ((v * suc g + n * v) * 2 ^ 32) (suc g * suc g - 1)) (rate_from q) (omega (arith, ha)) hb u
  where
    by_less : (c s : ℕ) → (c - 1) * (suc g * suc g) ≤ v * (suc g + n) * 2 ^ 32
        → (s - 1) * ((2 ^ 32 + q) * (2 ^ 32 + q)) ≤ 9 * 2 ^ 122
        → 2 ^ 28 * 2 ^ 28 ≤ suc g * suc g → slow_width s (c + 2 * 2 ^ 8) + 2 ^ 9 ≤ 230 * v + 2 ^ 20
    by_less c s ha hb u =
        let m : suc g + n ≤ 2 ^ 34 = omega (arith, b.x_most, b.y_most, b.y_order) in
        let t : 2 ^ 64 ≤ (2 ^ 32 + q) * (2 ^ 32 + q) = omega arith in
        fitting v (c - 1) (s - 1) c s
        (box_product (suc g + n) ((2 ^ 32 + q) * suc g) (suc g * suc g) ((2 ^ 32 + q) * (2 ^ 32 + q)) (c - 1) (s - 1) v
        (omega (arith, b.x_least, b.y_least))
        (box_sum n p (suc g) h v q b) (squares (suc g) (2 ^ 32 + q)) ha hb)
        (by_least (c - 1) ha (mul-le-mul_left (c - 1) u) (mul-le-mul_left v m))
        (by_most (s - 1) hb (mul-le-mul_left (s - 1) t)) b.small (omega arith)
        (omega arith)
      where
        squares : (x y : ℕ) → (x * x) * (y * y) ≡ (y * x) * (y * x)
        squares x y = omega arith

        by_least : (a : ℕ) → a * (suc g * suc g) ≤ v * (suc g + n) * 2 ^ 32
            → a * (2 ^ 28 * 2 ^ 28) ≤ a * (suc g * suc g) → v * (suc g + n) ≤ v * 2 ^ 34
            → a * 2 ^ 56 ≤ v * 2 ^ 66
        by_least a x y z = omega (arith, x, y, z)

        by_most : (e : ℕ) → e * ((2 ^ 32 + q) * (2 ^ 32 + q)) ≤ 9 * 2 ^ 122
            → e * 2 ^ 64 ≤ e * ((2 ^ 32 + q) * (2 ^ 32 + q)) → e * 2 ^ 64 ≤ 9 * 2 ^ 122
        by_most e x y = omega (arith, x, y)

-- ---- the quotient
quotient_below : (p d q : ℕ) → q * suc d ≤ suc p * 2 ^ 32 → ceil_quotient (negsuc p *ℤ pos (2 ^ 32)) d ≤ℤ neg_ℤ (pos q)
quotient_below p d q h = by_floor (floor_from (neg_ℤ (negsuc p *ℤ pos (2 ^ 32))) (pos q) d (omega (arith, ints, h)))
  where
    by_floor : {z : ℤ} → pos q ≤ℤ z → neg_ℤ z ≤ℤ neg_ℤ (pos q)
    by_floor {z} l = omega (arith, ints, l)

greatest_below : (x y z : ℤ) → x ≤ℤ z → y ≤ℤ z → int_max x y ≤ℤ z
greatest_below x y z h k = omega (arith, ints, clamps, h, k)

-- an interval for whose arctangents there are a rate and a width
pub record IsCornered (v : ℕ) (i : Interval) : Type 0 where
  pub low : ℤ
  pub least : ℕ
  pub rate : ℕ
  pub width : ℕ
  pub enough : IsRateFrom rate least
  pub kept : IsWithin low (neg_ℤ (pos least)) width i
  pub fits : slow_width rate width + 2 ^ 9 ≤ 230 * v + 2 ^ 20

cornered_sizes : (n p g h v : ℕ) (i : Interval) → suc n ≤ 2 ^ 33 → suc p ≤ suc n → 2 ^ 31 ≤ suc p
    → suc n * 2 ^ 32 ≤ suc p * 2 ^ 32 + v + 2 * 2 ^ 32
    → 2 ^ 28 ≤ suc g → suc g ≤ suc h → suc h ≤ 2 ^ 33 → suc h * 2 ^ 32 ≤ suc g * 2 ^ 32 + v + 2 * 2 ^ 32 → v ≤ 2 ^ 44
    → IsNarrow 0 (quotient_bound (limits_at 56) (bounded (negsuc n) (negsuc p) 0 v)
    (bounded (pos (suc g)) (pos (suc h)) 0 v)) i → IsCornered v i
unfolding quotient_bound
cornered_sizes n p g h v i nm pn pl nn gl gh hm hn l k =
    let q : ℕ = (suc p * 2 ^ 32) / suc h in
    let ea : max (suc n) (suc p) ≡ suc n = omega (arith, pn) in
    let eb : max (suc g) (suc h) ≡ suc h = omega (arith, gh) in
    let eh : suc h - 1 ≡ h = omega arith in
    let t1 : nat_lt (ceil_div (suc n * 2 ^ 32) g) (2 ^ 100) ≡ true =
    lt-ltb _ _ (omega (arith, ceil_below (suc n * 2 ^ 32) g, nm, gh, hm)) in
    let t2 : nat_lt (suc h) (2 ^ 46) ≡ true = lt-ltb _ _ (omega (arith, hm)) in
    let lq : q * suc h ≤ suc p * 2 ^ 32 = omega arith in
    let lg : q * suc g ≤ suc p * 2 ^ 32 = omega (arith, lq, mul-le-mul_left q gh) in
    let b : IsBox (suc n) (suc p) (suc g) (suc h) v q =
    record {
      x_most =
          nm;
      x_near =
          nn;
      x_least =
          omega (arith, pl, pn);
      x_less = omega (arith, pn, nm);
      y_least = gl;
      y_order = gh;
      y_near = hn;
      y_most = hm;
      small = l;
      least = lq;
      close = omega arith;
    } in
    record {
      low = least_quotient (negsuc n) g h;
      least = q;
      rate = rate_from q;
      width = box_width (suc n) g v;
      enough = rate_is q;
      kept =
          looser _ _ _ _ (box_width (suc n) g v) (box_width (suc n) g v) i (omega (arith, ints))
          (greatest_below _ _ _ (quotient_below p g q lg) (quotient_below p h q lq)) (omega arith)
          (record {
            kept = remeasured _ _ 0 _ (box_width (suc n) g v) 0 0 (box_width (suc n) g v) i (omega arith)
                (rw (ea, eb, eh, t1, t2) at k);
          });
      fits = box_fits (suc n) (suc p) g (suc h) v q b;
    }

pub cornered : (a b c d : ℤ) (v : ℕ) (i : Interval) → v ≤ 2 ^ 44 → IsTight (neg_ℤ (pos (2 ^ 33))) (neg_ℤ (pos (2 ^ 31)))
    v a b
    → IsTight (pos (2 ^ 28)) (pos (2 ^ 33)) v c d
    → IsNarrow 0 (quotient_bound (limits_at 56) (bounded a b 0 v) (bounded c d 0 v)) i → IsCornered v i
cornered (negsuc n) (negsuc p) (pos (suc g)) (pos (suc h)) v i l x y k =
    cornered_sizes n p g h v i (omega (arith, ints, x.from)) (omega (arith, ints, x.order)) (omega (arith, ints, x.to))
    (omega (arith, ints, x.near))
    (omega (arith, ints, y.from)) (omega (arith, ints, y.order)) (omega (arith, ints, y.to))
    (omega (arith, ints, y.near)) l k
cornered (pos n) b c d v i l x y k = absurd (omega (arith, ints, x.order, x.to))
cornered (negsuc n) (pos p) c d v i l x y k = absurd (omega (arith, ints, x.to))
cornered (negsuc n) (negsuc p) (pos zero) d v i l x y k = absurd (omega (arith, ints, y.from))
cornered (negsuc n) (negsuc p) (negsuc g) d v i l x y k = absurd (omega (arith, ints, y.from))
cornered (negsuc n) (negsuc p) (pos (suc g)) (pos zero) v i l x y k = absurd (omega (arith, ints, y.order))
cornered (negsuc n) (negsuc p) (pos (suc g)) (negsuc h) v i l x y k = absurd (omega (arith, ints, y.order))
