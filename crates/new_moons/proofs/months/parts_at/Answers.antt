use Rattle.std.proofs.Common.{◌≡◌, arith, SFits, pos, ◌^◌, ◌*ℤ◌, ◌+ℤ◌, refl}
use Rattle.std.specs.Int.{w128}
use Rattle.std.proofs.lemmas.Int.{ints, to_z-of_z}
use Rattle.encl_core.proofs.Scaling.{bounded_z}
use Rattle.new_moons.proofs.months.parts_at.Goals as goal

pub overflow_add-result : goal.overflow_add-result
overflow_add-result c =
    let fa = c.ranges.start in
    let fb = c.ranges.month in
    let fd = c.ranges.number in
    let e : c.from.result ≡ c.args.start = simp to_z-of_z at c.from.ensures in
    let h : c.from-2.result ≡ c.args.month = simp to_z-of_z at c.from-2.ensures in
    let k : c.from-3.result ≡ c.args.number = simp to_z-of_z at c.from-3.ensures in
    let p = bounded_z c.args.month c.args.number (pos (2 ^ 63)) (pos (2 ^ 63)) (omega (arith, ints))
    (omega (arith, ints)) (omega (arith, ints))
    (omega (arith, ints)) in
    let ga : SFits w128 c.args.start = omega (arith, ints) in
    let gb : SFits w128 c.args.month = omega (arith, ints) in
    let gd : SFits w128 c.args.number = omega (arith, ints) in
    let gp : SFits w128 (c.args.month *ℤ c.args.number) = omega (arith, ints, p.0, p.1) in
    let gs : SFits w128 (c.args.start +ℤ c.args.month *ℤ c.args.number) = omega (arith, ints, p.0, p.1) in
    rw (e, h, k) (simp to_z-of_z gs)

pub returns : goal.returns
returns c =
    let fa = c.ranges.start in
    let fb = c.ranges.month in
    let fd = c.ranges.number in
    let e : c.from.result ≡ c.args.start = simp to_z-of_z at c.from.ensures in
    let h : c.from-2.result ≡ c.args.month = simp to_z-of_z at c.from-2.ensures in
    let k : c.from-3.result ≡ c.args.number = simp to_z-of_z at c.from-3.ensures in
    let p = bounded_z c.args.month c.args.number (pos (2 ^ 63)) (pos (2 ^ 63)) (omega (arith, ints))
    (omega (arith, ints)) (omega (arith, ints))
    (omega (arith, ints)) in
    let ga : SFits w128 c.args.start = omega (arith, ints) in
    let gb : SFits w128 c.args.month = omega (arith, ints) in
    let gd : SFits w128 c.args.number = omega (arith, ints) in
    let gp : SFits w128 (c.args.month *ℤ c.args.number) = omega (arith, ints, p.0, p.1) in
    let gs : SFits w128 (c.args.start +ℤ c.args.month *ℤ c.args.number) = omega (arith, ints, p.0, p.1) in
    record { value = rw (e, h, k) (simp to_z-of_z refl) }
