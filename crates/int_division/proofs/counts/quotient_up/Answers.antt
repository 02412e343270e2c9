use Rattle.std.proofs.Common.{◌≡◌, ◌∙◌, arith, rules, SFits, w64, ℕ, ℤ, pos, negsuc, neg_ℤ, ◌-◌, ◌-ℤ◌, ◌≤ℤ◌}
use Rattle.std.proofs.lemmas.Int.{ints, to_z-of_z}
use Rattle.exact_math.specs.Fraction.{floor_quotient}
use Rattle.exact_math.proofs.Floors.{floor_quotient_mono}
use Rattle.int_division.specs.Counts.{IsCount}
use Rattle.int_division.proofs.Quotients.{euclid_is}
use Rattle.int_division.proofs.counts.quotient_up.Goals as goal

-- the opposite of a count has room, and so has the opposite of its quotient
opposite : (n : ℤ) → IsCount n → SFits w64 (pos 0 -ℤ n)
opposite n count = omega (arith, ints, count.0, count.1)

least : (n : ℤ) (d : ℕ) → n ≤ℤ pos 50000000 → negsuc 49999999 ≤ℤ floor_quotient (pos 0 -ℤ n) d
least n d h = floor_quotient_mono (negsuc 49999999) (pos 0 -ℤ n) 0 d (omega (arith, ints, h))

opposite_quotient : (q n : ℤ) (d : ℕ) → SFits w64 q → n ≤ℤ pos 50000000 → q ≡ floor_quotient (pos 0 -ℤ n) d
    → SFits w64 (pos 0 -ℤ q)
opposite_quotient q n d f h e = let l = least n d h in omega (arith, ints, f, l, e)

same : (q n : ℤ) (d : ℕ) → q ≡ floor_quotient (pos 0 -ℤ n) d → pos 0 -ℤ q ≡ neg_ℤ (floor_quotient (neg_ℤ n) d)
same q n d e =
    let m : pos 0 -ℤ n ≡ neg_ℤ n = omega (arith, ints) in
    let f = rw m at e in
    omega (arith, ints, f)

pub overflow_sub-number : goal.overflow_sub-number
overflow_sub-number c =
    let fn : SFits w64 c.args.number = c.ranges.number in
    simp to_z-of_z (opposite c.args.number c.requires.number)

quotient_is : (c : goal.After-div_euclid)
    → c.div_euclid.result ≡ floor_quotient (pos 0 -ℤ c.args.number) (c.args.divisor - 1)
quotient_is c =
    let fn : SFits w64 c.args.number = c.ranges.number in
    let fm = opposite c.args.number c.requires.number in
    let ff : SFits w64 c.from.result = search rules in
    let fq : SFits w64 c.div_euclid.result = search rules in
    let e : c.from.result ≡ pos c.args.divisor = c.from.ensures in
    let v = simp to_z-of_z at c.div_euclid.ensures in
    (rw e at v) ∙ euclid_is (pos 0 -ℤ c.args.number) c.args.divisor c.requires.positive

pub overflow_sub-result : goal.overflow_sub-result
overflow_sub-result c =
    let fq : SFits w64 c.div_euclid.result = search rules in
    simp to_z-of_z (opposite_quotient c.div_euclid.result c.args.number (c.args.divisor - 1) fq c.requires.number.1
    (quotient_is c))

pub returns : goal.returns
returns c =
    let fq : SFits w64 c.div_euclid.result = search rules in
    let fr = opposite_quotient c.div_euclid.result c.args.number (c.args.divisor - 1) fq c.requires.number.1
    (quotient_is c) in
    record { quotient = simp to_z-of_z (same c.div_euclid.result c.args.number (c.args.divisor - 1) (quotient_is c)) }
