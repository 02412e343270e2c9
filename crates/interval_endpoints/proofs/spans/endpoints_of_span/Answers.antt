use Rattle.std.proofs.Common.{rules, SFits}
use Rattle.std.specs.Int.{w128}
use Rattle.std.proofs.lemmas.Int.{to_z-of_z}
use Rattle.interval_endpoints.proofs.Widths.{span_encloses, spanned_narrow}
use Rattle.interval_endpoints.proofs.OnEndpoints.{shows}
use Rattle.interval_endpoints.proofs.spans.endpoints_of_span.Goals as goal

pub returns-clause-holds : goal.returns-clause-holds
returns-clause-holds g c =
    let fa = c.ranges.lo in
    let fb = c.ranges.hi in
    let fl : SFits w128 c.floor_of_fine-down.result = search rules in
    let fh : SFits w128 c.ceil_of_fine-up.result = search rules in
    span_encloses g.I.MachineWord.scale _ _ _ _ _ (simp to_z-of_z at c.floor_of_fine-down.ensures.floor)
    (simp to_z-of_z at c.ceil_of_fine-up.ensures.ceiling)
    (shows _ _ _ (simp to_z-of_z at c.endpoints_of.ensures.endpoints))

pub returns-clause-narrow : goal.returns-clause-narrow
returns-clause-narrow g c = λ w b h.
    let fa = c.ranges.lo in
    let fb = c.ranges.hi in
    let fl : SFits w128 c.floor_of_fine-down.result = search rules in
    let fh : SFits w128 c.ceil_of_fine-up.result = search rules in
    spanned_narrow g.I.MachineWord.scale w b _ _ _ _ _ (simp to_z-of_z at c.floor_of_fine-down.ensures.floor)
    (simp to_z-of_z at c.ceil_of_fine-up.ensures.ceiling)
    (shows _ _ _ (simp to_z-of_z at c.endpoints_of.ensures.endpoints)) h
