use Rattle.std.proofs.Common.{refl, rules, SFits}
use Rattle.std.specs.Int.{w128}
use Rattle.std.proofs.lemmas.Int.{to_z-of_z}
use Rattle.interval_products.proofs.Closeness.{four_corners}
use Rattle.interval_products.proofs.products.all_products.Goals as goal

pub returns-in_err-p-clause-some : goal.returns-in_err-p-clause-some
returns-in_err-p-clause-some g c = λ t. absurd (c.in_err-p.ensures.none refl t.first)

pub returns-in_err-q-clause-some : goal.returns-in_err-q-clause-some
returns-in_err-q-clause-some g c = λ t. absurd (c.in_err-q.ensures.none refl t.second)

pub returns-in_err-r-clause-some : goal.returns-in_err-r-clause-some
returns-in_err-r-clause-some g c = λ t. absurd (c.in_err-r.ensures.none refl t.third)

pub returns-in_err-s-clause-some : goal.returns-in_err-s-clause-some
returns-in_err-s-clause-some g c = λ t. absurd (c.in_err-s.ensures.none refl t.fourth)

pub returns-clause-corners : goal.returns-clause-corners
returns-clause-corners g c =
    let fp : SFits w128 c.in_ok-p.p = search rules in
    let fq : SFits w128 c.in_ok-q.q = search rules in
    let fr : SFits w128 c.in_ok-r.r = search rules in
    let fs : SFits w128 c.in_ok-s.s = search rules in
    let p = c.in_ok-p.ensures.product in
    let q = c.in_ok-q.ensures.product in
    let r = c.in_ok-r.ensures.product in
    let s = c.in_ok-s.ensures.product in
    let fl : SFits w128 c.least_of.result = search rules in
    let fg : SFits w128 c.greatest_of.result = search rules in
    let a = simp to_z-of_z at c.least_of.ensures in
    let b = simp to_z-of_z at c.greatest_of.ensures in
    simp to_z-of_z (four_corners _ _ _ _ _ _ _ _ _ _ p q r s a.bounds a.best b.bounds b.best)
