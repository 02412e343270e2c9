use Rattle.std.proofs.Common.{◌≡◌, ◌∙◌, refl, ◌-ℤ◌, sym, arith, rules, SFits, pos, ◌-◌, ◌^◌, ◌*ℤ◌}
use Rattle.std.specs.Int.{w128}
use Rattle.std.proofs.lemmas.Int.{ints, to_z-of_z}
use Rattle.book_model.proofs.Floors.{floor_quotient_is}
use Rattle.interval_endpoints.proofs.Past.{AreLowered, are_lowered}
use Rattle.interval_endpoints.proofs.word.I128MachineWord.rest.Goals as goal

lowered : (c : goal.After-from) → AreLowered (c.from.result *ℤ c.args.period) c.floor-whole.result c.args.self
lowered c =
    let fe : SFits w128 c.args.self = c.ranges.self in
    let fw : SFits w128 c.floor-whole.result = search rules in
    let e : c.from.result ≡ pos c.args.modulus = c.from.ensures in
    let v = simp to_z-of_z at c.floor-whole.ensures.value in
    let f = rw (sym v) at (floor_quotient_is c.args.self (2 ^ 56 - 1)) in
    rw e (are_lowered (pos c.args.modulus *ℤ c.args.period) c.floor-whole.result c.args.self c.args.modulus fe
    (omega (arith, ints, f.not_above))
    (omega (arith, ints, f.close)) c.requires.begun c.requires.not_over c.ranges.modulus.fits)

pub overflow_mul-begun : goal.overflow_mul-begun
overflow_mul-begun c =
    let fp = c.ranges.period in
    let ff : SFits w128 c.from.result = search rules in
    simp to_z-of_z (lowered c).begun

pub overflow_mul-rest : goal.overflow_mul-rest
overflow_mul-rest c =
    let fw : SFits w128 c.floor-whole.result = search rules in
    simp to_z-of_z (lowered c).down

pub overflow_sub-rest : goal.overflow_sub-rest
overflow_sub-rest c =
    let fe = c.ranges.self in
    let fw : SFits w128 c.floor-whole.result = search rules in
    let l = lowered c in
    let f4 = l.down in
    simp to_z-of_z l.rest

pub overflow_sub-result : goal.overflow_sub-result
overflow_sub-result c =
    let fp = c.ranges.period in
    let fw : SFits w128 c.floor-whole.result = search rules in
    let ff : SFits w128 c.from.result = search rules in
    let l = lowered c in
    let f1 = l.begun in
    simp to_z-of_z l.above

pub overflow_mul-result : goal.overflow_mul-result
overflow_mul-result c =
    let fp = c.ranges.period in
    let fw : SFits w128 c.floor-whole.result = search rules in
    let ff : SFits w128 c.from.result = search rules in
    let l = lowered c in
    let f1 = l.begun in
    let f2 = l.above in
    simp to_z-of_z l.raised

pub overflow_add-result : goal.overflow_add-result
overflow_add-result c =
    let fe = c.ranges.self in
    let fp = c.ranges.period in
    let fw : SFits w128 c.floor-whole.result = search rules in
    let ff : SFits w128 c.from.result = search rules in
    let l = lowered c in
    let f1 = l.begun in
    let f2 = l.above in
    let f3 = l.raised in
    let f4 = l.down in
    let f5 = l.rest in
    simp to_z-of_z l.sum

pub returns-clause-none : goal.returns-clause-none
returns-clause-none c = λ e f. cc

pub returns-clause-value : goal.returns-clause-value
returns-clause-value c =
    let fe = c.ranges.self in
    let fp = c.ranges.period in
    let fw : SFits w128 c.floor-whole.result = search rules in
    let ff : SFits w128 c.from.result = search rules in
    let e : c.from.result ≡ pos c.args.modulus = c.from.ensures in
    let l = lowered c in
    let f1 = l.begun in
    let f2 = l.above in
    let f3 = l.raised in
    let f4 = l.down in
    let f5 = l.rest in
    let f6 = l.sum in
    let by_modulus : c.args.self -ℤ (c.from.result *ℤ c.args.period) *ℤ pos (2 ^ 56) ≡ c.args.self
    -ℤ (pos c.args.modulus *ℤ c.args.period)
    *ℤ pos (2 ^ 56) = rw e refl in
    simp to_z-of_z (l.same ∙ by_modulus)
