use Rattle.std.proofs.Common.{◌≡◌, rules, arith, refl, ◌∙◌, SFits, w64, ℤ, pos, ◌-ℤ◌, ◌*ℤ◌, ◌≤ℤ◌, ◌<ℤ◌, ◌^◌}
use Rattle.std.specs.Int.{w128}
use Rattle.std.proofs.lemmas.Int.{ints, to_z-of_z}
use Rattle.int_division.specs.Rounding.{IsFloor}
use Rattle.int_division.proofs.Stepping.{rest_in, cast_fits, cast_is}
use Rattle.int_division.proofs.floors.rest_of.Goals as goal

-- x, y and z are the three numbers in 128 bits, where there is room for what is left
record IsLeft (number times d x y z : ℤ) : Type 0 where
  first : SFits w128 x
  second : SFits w128 y
  third : SFits w128 z
  product : SFits w128 (y *ℤ z)
  rest : SFits w128 (x -ℤ y *ℤ z)
  natural : pos 0 ≤ℤ (x -ℤ y *ℤ z)
  less : (x -ℤ y *ℤ z) <ℤ z
  small : z <ℤ pos (2 ^ 35)
  divisor : z ≡ d
  value : x -ℤ y *ℤ z ≡ number -ℤ times *ℤ d

left : (c : goal.After-from-3)
    → IsLeft c.args.number c.args.times c.args.d c.from.result c.from-2.result c.from-3.result
left c =
    let fn = c.ranges.number in
    let ft = c.ranges.times in
    let fd = c.ranges.d in
    let f1 : SFits w128 c.from.result = search rules in
    let f2 : SFits w128 c.from-2.result = search rules in
    let f3 : SFits w128 c.from-3.result = search rules in
    let e1 : c.from.result ≡ c.args.number = simp to_z-of_z at c.from.ensures in
    let e2 : c.from-2.result ≡ c.args.times = simp to_z-of_z at c.from-2.ensures in
    let e3 : c.from-3.result ≡ c.args.d = simp to_z-of_z at c.from-3.ensures in
    let f : IsFloor c.from-2.result c.from.result c.from-3.result = rw (e1, e2, e3) c.requires.floor in
    let k : SFits w64 c.from.result = rw e1 fn in
    let s : c.from-3.result <ℤ pos (2 ^ 35) = rw e3 c.requires.small in
    let r = rest_in c.from.result c.from-3.result c.from-2.result k s f in
    record {
      first = f1;
      second = f2;
      third = f3;
      product = r.0;
      rest = r.1;
      natural = r.2;
      less = r.3;
      small = s;
      divisor = e3;
      value = rw (e1, e2, e3) refl;
    }

pub overflow_mul-result : goal.overflow_mul-result
overflow_mul-result c =
    let l = left c in
    let f2 = l.second in
    let f3 = l.third in
    simp to_z-of_z l.product

pub overflow_sub-result : goal.overflow_sub-result
overflow_sub-result c =
    let l = left c in
    let f1 = l.first in
    let f2 = l.second in
    let f3 = l.third in
    let f4 = l.product in
    simp to_z-of_z l.rest

pub overflow_cast-result : goal.overflow_cast-result
overflow_cast-result c =
    let l = left c in
    let f1 = l.first in
    let f2 = l.second in
    let f3 = l.third in
    let f4 = l.product in
    let f5 = l.rest in
    simp to_z-of_z (cast_fits _ l.natural (omega (arith, ints, l.less, l.small)))

pub returns-clause-value : goal.returns-clause-value
returns-clause-value c =
    let l = left c in
    let f1 = l.first in
    let f2 = l.second in
    let f3 = l.third in
    let f4 = l.product in
    let f5 = l.rest in
    simp to_z-of_z (cast_is _ l.natural ∙ l.value)

pub returns-clause-less : goal.returns-clause-less
returns-clause-less c =
    let l = left c in
    let f1 = l.first in
    let f2 = l.second in
    let f3 = l.third in
    let f4 = l.product in
    let f5 = l.rest in
    let k = cast_is _ l.natural in
    simp to_z-of_z (omega (arith, ints, k, l.less, l.divisor))
