use Rattle.std.proofs.Common.{rules, arith, pos, neg_ℤ, SFits, w64, ◌^◌, ◌+ℤ◌, ◌≤ℤ◌}
use Rattle.std.specs.Int.{w128}
use Rattle.std.proofs.lemmas.Int.{ints, to_z-of_z}
use Rattle.periodic_terms.proofs.Products.{sum_of_four}
use Rattle.periodic_terms.proofs.term_rows.sum_of_multiples.Goals as goal

pub overflow_add-result-2 : goal.overflow_add-result-2
overflow_add-result-2 c =
    let f1 : SFits w128 c.times.result.0 = search rules in
    let f2 : SFits w128 c.times-2.result.0 = search rules in
    let f3 : SFits w128 c.times-3.result.0 = search rules in
    let g2 : SFits w128 (c.times.result.0 +ℤ c.times-2.result.0) =
    omega (arith, ints, c.times.ensures, c.times-2.ensures) in
    let g3 : SFits w128 (c.times.result.0 +ℤ c.times-2.result.0 +ℤ c.times-3.result.0) =
    omega (arith, ints, c.times.ensures, c.times-2.ensures, c.times-3.ensures) in
    simp to_z-of_z g3

pub overflow_add-result-3 : goal.overflow_add-result-3
overflow_add-result-3 c =
    let f1 : SFits w128 c.times.result.0 = search rules in
    let f2 : SFits w128 c.times-2.result.0 = search rules in
    let f3 : SFits w128 c.times-3.result.0 = search rules in
    let f4 : SFits w128 c.times-4.result.0 = search rules in
    let g2 : SFits w128 (c.times.result.0 +ℤ c.times-2.result.0) =
    omega (arith, ints, c.times.ensures, c.times-2.ensures) in
    let g3 : SFits w128 (c.times.result.0 +ℤ c.times-2.result.0 +ℤ c.times-3.result.0) =
    omega (arith, ints, c.times.ensures, c.times-2.ensures, c.times-3.ensures) in
    let g4 : SFits w128 (c.times.result.0 +ℤ c.times-2.result.0 +ℤ c.times-3.result.0 +ℤ c.times-4.result.0) = omega
    (arith, ints, c.times.ensures, c.times-2.ensures, c.times-3.ensures, c.times-4.ensures) in
    simp to_z-of_z g4

pub returns-clause-value : goal.returns-clause-value
returns-clause-value c =
    let f1 : SFits w128 c.times.result.0 = search rules in
    let f2 : SFits w128 c.times-2.result.0 = search rules in
    let f3 : SFits w128 c.times-3.result.0 = search rules in
    let f4 : SFits w128 c.times-4.result.0 = search rules in
    let g2 : SFits w128 (c.times.result.0 +ℤ c.times-2.result.0) =
    omega (arith, ints, c.times.ensures, c.times-2.ensures) in
    let g3 : SFits w128 (c.times.result.0 +ℤ c.times-2.result.0 +ℤ c.times-3.result.0) =
    omega (arith, ints, c.times.ensures, c.times-2.ensures, c.times-3.ensures) in
    let g4 : SFits w128 (c.times.result.0 +ℤ c.times-2.result.0 +ℤ c.times-3.result.0 +ℤ c.times-4.result.0) = omega
    (arith, ints, c.times.ensures, c.times-2.ensures, c.times-3.ensures, c.times-4.ensures) in
    let e1 : SFits w64 c.args.row.elongation = search rules in
    let e2 : SFits w64 c.args.row.sun_anomaly = search rules in
    let e3 : SFits w64 c.args.row.moon_anomaly = search rules in
    let e4 : SFits w64 c.args.row.latitude_argument = search rules in
    let v1 = simp to_z-of_z at c.times.ensures.value in
    let v2 = simp to_z-of_z at c.times-2.ensures.value in
    let v3 = simp to_z-of_z at c.times-3.ensures.value in
    let v4 = simp to_z-of_z at c.times-4.ensures.value in
    simp to_z-of_z (sum_of_four _ _ _ _ _ _ _ _ v1 v2 v3 v4)

pub returns-clause-from : goal.returns-clause-from
returns-clause-from c =
    let f1 : SFits w128 c.times.result.0 = search rules in
    let f2 : SFits w128 c.times-2.result.0 = search rules in
    let f3 : SFits w128 c.times-3.result.0 = search rules in
    let f4 : SFits w128 c.times-4.result.0 = search rules in
    let g2 : SFits w128 (c.times.result.0 +ℤ c.times-2.result.0) =
    omega (arith, ints, c.times.ensures, c.times-2.ensures) in
    let g3 : SFits w128 (c.times.result.0 +ℤ c.times-2.result.0 +ℤ c.times-3.result.0) =
    omega (arith, ints, c.times.ensures, c.times-2.ensures, c.times-3.ensures) in
    let g4 : SFits w128 (c.times.result.0 +ℤ c.times-2.result.0 +ℤ c.times-3.result.0 +ℤ c.times-4.result.0) = omega
    (arith, ints, c.times.ensures, c.times-2.ensures, c.times-3.ensures, c.times-4.ensures) in
    let p : neg_ℤ (pos (2 ^ 70)) ≤ℤ (c.times.result.0 +ℤ c.times-2.result.0 +ℤ c.times-3.result.0
    +ℤ c.times-4.result.0) = omega
    (arith, ints, c.times.ensures, c.times-2.ensures, c.times-3.ensures, c.times-4.ensures) in
    simp to_z-of_z p

pub returns-clause-to : goal.returns-clause-to
returns-clause-to c =
    let f1 : SFits w128 c.times.result.0 = search rules in
    let f2 : SFits w128 c.times-2.result.0 = search rules in
    let f3 : SFits w128 c.times-3.result.0 = search rules in
    let f4 : SFits w128 c.times-4.result.0 = search rules in
    let g2 : SFits w128 (c.times.result.0 +ℤ c.times-2.result.0) =
    omega (arith, ints, c.times.ensures, c.times-2.ensures) in
    let g3 : SFits w128 (c.times.result.0 +ℤ c.times-2.result.0 +ℤ c.times-3.result.0) =
    omega (arith, ints, c.times.ensures, c.times-2.ensures, c.times-3.ensures) in
    let g4 : SFits w128 (c.times.result.0 +ℤ c.times-2.result.0 +ℤ c.times-3.result.0 +ℤ c.times-4.result.0) = omega
    (arith, ints, c.times.ensures, c.times-2.ensures, c.times-3.ensures, c.times-4.ensures) in
    let p : (c.times.result.0 +ℤ c.times-2.result.0 +ℤ c.times-3.result.0 +ℤ c.times-4.result.0) ≤ℤ pos (2 ^ 70) = omega
    (arith, ints, c.times.ensures, c.times-2.ensures, c.times-3.ensures, c.times-4.ensures) in
    simp to_z-of_z p
