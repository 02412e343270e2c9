use Rattle.std.proofs.Common.{refl, rules, SFits}
use Rattle.std.specs.Int.{w128}
use Rattle.std.proofs.lemmas.Int.{to_z-of_z}
use Rattle.interval_products.proofs.Closeness.{natural_corners}
use Rattle.interval_products.proofs.products.natural_products.Goals as goal

pub returns-in_err-least-clause-some : goal.returns-in_err-least-clause-some
returns-in_err-least-clause-some g c = λ t. absurd (c.in_err-least.ensures.none refl t.first)

pub returns-in_err-greatest-clause-some : goal.returns-in_err-greatest-clause-some
returns-in_err-greatest-clause-some g c = λ t. absurd (c.in_err-greatest.ensures.none refl t.fourth)

pub returns-clause-corners : goal.returns-clause-corners
returns-clause-corners g c =
    let fl : SFits w128 c.in_ok-least.least = search rules in
    let fg : SFits w128 c.in_ok-greatest.greatest = search rules in
    let p = c.in_ok-least.ensures.product in
    let q = c.in_ok-greatest.ensures.product in
    simp to_z-of_z (natural_corners _ _ _ _ _ _ c.args.x.ordered c.args.y.ordered c.requires.first c.requires.second p
    q)
