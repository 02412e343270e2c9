use Rattle.std.proofs.Common.{rules, SFits}
use Rattle.std.specs.Int.{w128, int_div_euclid, int_rem_euclid}
use Rattle.std.proofs.lemmas.Int.{to_z-of_z}
use Rattle.interval_products.proofs.TwoSteps.{AreParts, euclid_parts, has_parts, whole_fits, rest_fits}
use Rattle.interval_products.proofs.stepping.raised_parts.Goals as goal

pub returns-in_err-whole-clause-some : goal.returns-in_err-whole-clause-some
returns-in_err-whole-clause-some c = λ r.
    let fn = c.ranges.n in
    let fd = c.ranges.d in
    let fw : SFits w128 c.div_euclid.result = search rules in
    let e = simp to_z-of_z at c.div_euclid.ensures in
    let p : AreParts c.args.n c.args.d c.div_euclid.result (int_rem_euclid c.args.n c.args.d) =
    rw e (euclid_parts c.args.n c.args.d c.requires) in
    let n = simp to_z-of_z at c.in_err-whole.ensures in
    absurd (n (whole_fits _ _ _ _ c.requires p r))

pub returns-in_err-rest-clause-some : goal.returns-in_err-rest-clause-some
returns-in_err-rest-clause-some c = λ r.
    let fn = c.ranges.n in
    let fd = c.ranges.d in
    let fr : SFits w128 c.rem_euclid.result = search rules in
    let e = simp to_z-of_z at c.rem_euclid.ensures.value in
    let p : AreParts c.args.n c.args.d (int_div_euclid c.args.n c.args.d) c.rem_euclid.result =
    rw e (euclid_parts c.args.n c.args.d c.requires) in
    let n = simp to_z-of_z at c.in_err-rest.ensures in
    absurd (n (rest_fits _ _ _ _ p r))

pub returns-clause-value : goal.returns-clause-value
returns-clause-value c =
    let fn = c.ranges.n in
    let fd = c.ranges.d in
    let fw : SFits w128 c.div_euclid.result = search rules in
    let fr : SFits w128 c.rem_euclid.result = search rules in
    let fq : SFits w128 c.in_ok-whole.whole = search rules in
    let fs : SFits w128 c.in_ok-rest.rest = search rules in
    let e = simp to_z-of_z at c.div_euclid.ensures in
    let g = simp to_z-of_z at c.rem_euclid.ensures.value in
    let p : AreParts c.args.n c.args.d c.div_euclid.result c.rem_euclid.result =
    rw (e, g) (euclid_parts c.args.n c.args.d c.requires) in
    let q = simp to_z-of_z at c.in_ok-whole.ensures in
    let s = simp to_z-of_z at c.in_ok-rest.ensures in
    simp to_z-of_z (has_parts _ _ _ _ _ _ p q.1 s.1)
