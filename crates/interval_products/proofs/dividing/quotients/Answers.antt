use Rattle.std.proofs.Common.{refl, rules, SFits}
use Rattle.std.specs.Int.{w128}
use Rattle.std.proofs.lemmas.Int.{to_z-of_z}
use Rattle.interval_endpoints.proofs.Ratios.{quotients_are, divisor_positive, first_divisor_positive}
use Rattle.interval_products.proofs.Fitting.{first_has, last_has}
use Rattle.interval_products.proofs.dividing.quotients.Goals as goal

pub quotient_down-requires-clause-divisor : goal.quotient_down-requires-clause-divisor
quotient_down-requires-clause-divisor g c =
    let fa = c.ranges.a in
    let fc = c.ranges.c in
    let fd = c.ranges.d in
    let fp : SFits w128 c.least_by.result = search rules in
    simp to_z-of_z (first_divisor_positive _ _ _ _ c.requires.positive c.requires.divisor
    (simp to_z-of_z at c.least_by.ensures))

pub quotient_up-requires-clause-divisor : goal.quotient_up-requires-clause-divisor
quotient_up-requires-clause-divisor g c =
    let fb = c.ranges.b in
    let fc = c.ranges.c in
    let fd = c.ranges.d in
    let fq : SFits w128 c.greatest_by.result = search rules in
    simp to_z-of_z (divisor_positive _ _ _ _ c.requires.positive c.requires.divisor
    (simp to_z-of_z at c.greatest_by.ensures))

pub returns-in_err-lo-clause-some : goal.returns-in_err-lo-clause-some
returns-in_err-lo-clause-some g c = λ r.
    let fa = c.ranges.a in
    let fc = c.ranges.c in
    let fd = c.ranges.d in
    let fp : SFits w128 c.least_by.result = search rules in
    let l = simp to_z-of_z at c.least_by.ensures in
    let n = simp to_z-of_z at c.in_err-lo.ensures.none in
    absurd (n refl (first_has g.I.MachineWord.scale _ _ _ _ _ c.requires.dividend.ordered c.requires.divisor l r))

pub returns-in_err-hi-clause-some : goal.returns-in_err-hi-clause-some
returns-in_err-hi-clause-some g c = λ r.
    let fb = c.ranges.b in
    let fc = c.ranges.c in
    let fd = c.ranges.d in
    let fq : SFits w128 c.greatest_by.result = search rules in
    let l = simp to_z-of_z at c.greatest_by.ensures in
    let n = simp to_z-of_z at c.in_err-hi.ensures.none in
    absurd (n refl (last_has g.I.MachineWord.scale _ _ _ _ _ c.requires.dividend.ordered c.requires.divisor l r))

pub returns-clause-value : goal.returns-clause-value
returns-clause-value g c =
    let fa = c.ranges.a in
    let fb = c.ranges.b in
    let fc = c.ranges.c in
    let fd = c.ranges.d in
    let fp : SFits w128 c.least_by.result = search rules in
    let fq : SFits w128 c.greatest_by.result = search rules in
    let l = simp to_z-of_z at c.least_by.ensures in
    let m = simp to_z-of_z at c.greatest_by.ensures in
    let fl : SFits w128 c.in_ok-lo.lo = search rules in
    let fh : SFits w128 c.in_ok-hi.hi = search rules in
    let i = simp to_z-of_z at c.in_ok-lo.ensures.value in
    let j = simp to_z-of_z at c.in_ok-hi.ensures.value in
    simp to_z-of_z (quotients_are g.I.MachineWord.scale c.args.a c.args.b c.args.c c.args.d _ _ _ _
    c.requires.dividend.ordered c.requires.positive c.requires.divisor l m i j)
