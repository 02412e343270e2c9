use Rattle.std.proofs.Common.{refl, rules, SFits}
use Rattle.std.specs.Int.{w128}
use Rattle.std.proofs.lemmas.Int.{to_z-of_z}
use Rattle.interval_products.proofs.Fitting.{endpoints_divide}
use Rattle.interval_products.proofs.dividing.wide_endpoints.Goals as goal

pub returns-clause-dividends : goal.returns-clause-dividends
returns-clause-dividends g c =
    let fl : SFits w128 c.wide.result = search rules in
    let fh : SFits w128 c.wide-2.result = search rules in
    simp to_z-of_z (endpoints_divide g.I.MachineWord.scale c.wide.result c.wide-2.result _ _ c.wide.ensures.fits
    c.wide-2.ensures.fits
    (rw (c.wide.ensures.value, c.wide-2.ensures.value) c.args.x.ordered) refl refl)
