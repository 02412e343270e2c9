use Rattle.std.proofs.Common.{◌≡◌, rules, SFits, pos, ◌*ℤ◌, w64}
use Rattle.std.specs.Int.{w128}
use Rattle.std.proofs.lemmas.Int.{to_z-of_z}
use Rattle.interval_endpoints.proofs.Past.{AreBegun, are_begun}
use Rattle.interval_endpoints.proofs.word.I64MachineWord.rest.Goals as goal

-- where the period begins, there is room for it
begun : (c : goal.After-from-2) → AreBegun (c.from.result *ℤ c.from-2.result) c.args.self
begun c =
    let fp : SFits w64 c.args.period = c.ranges.period in
    let e : c.from.result ≡ pos c.args.modulus = c.from.ensures in
    let f : c.from-2.result ≡ c.args.period = simp to_z-of_z at c.from-2.ensures in
    simp (e, f)
    (are_begun (pos c.args.modulus *ℤ c.args.period) c.args.self c.args.modulus c.ranges.self c.requires.begun
    c.requires.not_over c.ranges.modulus.fits)

pub overflow_mul-begun : goal.overflow_mul-begun
overflow_mul-begun c =
    let ff : SFits w128 c.from.result = search rules in
    let fg : SFits w128 c.from-2.result = search rules in
    simp to_z-of_z (begun c).begun

pub overflow_mul-begun-2 : goal.overflow_mul-begun-2
overflow_mul-begun-2 c =
    let fs : SFits w64 c.args.self = c.ranges.self in
    let fp : SFits w64 c.args.period = c.ranges.period in
    let ff : SFits w128 c.from.result = search rules in
    let fg : SFits w128 c.from-2.result = search rules in
    let fh : SFits w128 c.from-3.result = search rules in
    let e : c.from.result ≡ pos c.args.modulus = c.from.ensures in
    let f : c.from-2.result ≡ c.args.period = simp to_z-of_z at c.from-2.ensures in
    let g : c.from-3.result ≡ c.args.self = simp to_z-of_z at c.from-3.ensures in
    let l : AreBegun (c.from.result *ℤ c.from-2.result) c.from-3.result = simp (e, f, g)
    (are_begun (pos c.args.modulus *ℤ c.args.period) c.args.self c.args.modulus fs c.requires.begun
    c.requires.not_over c.ranges.modulus.fits) in
    let f1 = l.begun in
    simp to_z-of_z l.raised

pub overflow_sub-from : goal.overflow_sub-from
overflow_sub-from c =
    let fs : SFits w64 c.args.self = c.ranges.self in
    let fp : SFits w64 c.args.period = c.ranges.period in
    let ff : SFits w128 c.from.result = search rules in
    let fg : SFits w128 c.from-2.result = search rules in
    let fh : SFits w128 c.from-3.result = search rules in
    let e : c.from.result ≡ pos c.args.modulus = c.from.ensures in
    let f : c.from-2.result ≡ c.args.period = simp to_z-of_z at c.from-2.ensures in
    let g : c.from-3.result ≡ c.args.self = simp to_z-of_z at c.from-3.ensures in
    let l : AreBegun (c.from.result *ℤ c.from-2.result) c.from-3.result = simp (e, f, g)
    (are_begun (pos c.args.modulus *ℤ c.args.period) c.args.self c.args.modulus fs c.requires.begun
    c.requires.not_over c.ranges.modulus.fits) in
    let f1 = l.begun in
    let f2 = l.raised in
    simp to_z-of_z l.rest

pub returns-clause-value : goal.returns-clause-value
returns-clause-value c =
    let fs : SFits w64 c.args.self = c.ranges.self in
    let fp : SFits w64 c.args.period = c.ranges.period in
    let ff : SFits w128 c.from.result = search rules in
    let fg : SFits w128 c.from-2.result = search rules in
    let fh : SFits w128 c.from-3.result = search rules in
    let e : c.from.result ≡ pos c.args.modulus = c.from.ensures in
    let f : c.from-2.result ≡ c.args.period = simp to_z-of_z at c.from-2.ensures in
    let g : c.from-3.result ≡ c.args.self = simp to_z-of_z at c.from-3.ensures in
    let l : AreBegun (c.from.result *ℤ c.from-2.result) c.from-3.result = simp (e, f, g)
    (are_begun (pos c.args.modulus *ℤ c.args.period) c.args.self c.args.modulus fs c.requires.begun
    c.requires.not_over c.ranges.modulus.fits) in
    let f1 = l.begun in
    let f2 = l.raised in
    let f3 = l.rest in
    let v = simp to_z-of_z at c.of_units.ensures.value in
    simp (e, f, g) at v

pub returns-clause-none : goal.returns-clause-none
returns-clause-none c =
    let fs : SFits w64 c.args.self = c.ranges.self in
    let fp : SFits w64 c.args.period = c.ranges.period in
    let ff : SFits w128 c.from.result = search rules in
    let fg : SFits w128 c.from-2.result = search rules in
    let fh : SFits w128 c.from-3.result = search rules in
    let e : c.from.result ≡ pos c.args.modulus = c.from.ensures in
    let f : c.from-2.result ≡ c.args.period = simp to_z-of_z at c.from-2.ensures in
    let g : c.from-3.result ≡ c.args.self = simp to_z-of_z at c.from-3.ensures in
    let l : AreBegun (c.from.result *ℤ c.from-2.result) c.from-3.result = simp (e, f, g)
    (are_begun (pos c.args.modulus *ℤ c.args.period) c.args.self c.args.modulus fs c.requires.begun
    c.requires.not_over c.ranges.modulus.fits) in
    let f1 = l.begun in
    let f2 = l.raised in
    let f3 = l.rest in
    let v = simp to_z-of_z at c.of_units.ensures.none in
    simp (e, f, g) at v
