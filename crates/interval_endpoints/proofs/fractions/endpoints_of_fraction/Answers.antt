use Rattle.std.proofs.Common.{rules, arith, SFits, pos, ◌≤ℤ◌}
use Rattle.std.specs.Int.{w128}
use Rattle.std.proofs.lemmas.Int.{ints, to_z-of_z}
use Rattle.book_model.specs.numbers.Fractions.{fraction_of}
use Rattle.int_division.proofs.Quotients.{outward_order}
use Rattle.interval_endpoints.proofs.Scaling.{constant_encloses, constant_narrow, constant_overflow}
use Rattle.interval_endpoints.proofs.OnEndpoints.{shows}
use Rattle.interval_endpoints.proofs.Rounded.{one_apart}
use Rattle.interval_endpoints.proofs.OnEndpoints.{when_there}
use Rattle.interval_endpoints.proofs.fractions.endpoints_of_fraction.Goals as goal

pub endpoints_of-requires : goal.endpoints_of-requires
endpoints_of-requires g c =
    let fn : SFits w128 c.num.result = search rules in
    let fu : SFits w128 c.units.result = search rules in
    let fr : SFits w128 c.in_ok-raised.raised = search rules in
    let fd : SFits w128 c.denominator-below.result = search rules in
    let fl : SFits w128 c.floor_div.result = search rules in
    let fh : SFits w128 c.ceil_div.result = search rules in
    let i = simp to_z-of_z at c.floor_div.ensures in
    let j = simp to_z-of_z at c.ceil_div.ensures in
    simp to_z-of_z (outward_order _ _ _ _ _ (omega (arith, ints)) i j c.denominator-below.ensures.positive)

pub returns-in_err-raised-clause-narrow : goal.returns-in_err-raised-clause-narrow
returns-in_err-raised-clause-narrow g c = λ w.
    let fn : SFits w128 c.num.result = search rules in
    let fu : SFits w128 c.units.result = search rules in
    let n = simp (c.num.ensures, c.units.ensures.value) at (simp to_z-of_z at c.in_err-raised.ensures) in
    rw c.from_residual.ensures (constant_overflow g.I.MachineWord.scale (fraction_of c.args.value) w n)

pub returns-clause-holds : goal.returns-clause-holds
returns-clause-holds g c =
    let fn : SFits w128 c.num.result = search rules in
    let fu : SFits w128 c.units.result = search rules in
    let fr : SFits w128 c.in_ok-raised.raised = search rules in
    let fd : SFits w128 c.denominator-below.result = search rules in
    let fl : SFits w128 c.floor_div.result = search rules in
    let fh : SFits w128 c.ceil_div.result = search rules in
    let i = simp to_z-of_z at c.floor_div.ensures in
    let j = simp to_z-of_z at c.ceil_div.ensures in
    let k = shows _ _ _ (simp to_z-of_z at c.endpoints_of.ensures.endpoints) in
    let e = simp (c.num.ensures, c.units.ensures.value) at (simp to_z-of_z at c.in_ok-raised.ensures) in
    constant_encloses g.I.MachineWord.scale (fraction_of c.args.value) c.in_ok-raised.raised _ _
    c.denominator-below.result _ e.1
    c.denominator-below.ensures.value i j k

pub returns-clause-narrow : goal.returns-clause-narrow
returns-clause-narrow g c = λ w.
    let fn : SFits w128 c.num.result = search rules in
    let fu : SFits w128 c.units.result = search rules in
    let fr : SFits w128 c.in_ok-raised.raised = search rules in
    let fd : SFits w128 c.denominator-below.result = search rules in
    let fl : SFits w128 c.floor_div.result = search rules in
    let fh : SFits w128 c.ceil_div.result = search rules in
    let i = simp to_z-of_z at c.floor_div.ensures in
    let j = simp to_z-of_z at c.ceil_div.ensures in
    let k = shows _ _ _ (simp to_z-of_z at c.endpoints_of.ensures.endpoints) in
    let e = simp (c.num.ensures, c.units.ensures.value) at (simp to_z-of_z at c.in_ok-raised.ensures) in
    constant_narrow g.I.MachineWord.scale (fraction_of c.args.value) w c.in_ok-raised.raised _ _
    c.denominator-below.result _ e.1
    c.denominator-below.ensures.value i j k

pub returns-clause-close : goal.returns-clause-close
returns-clause-close g c =
    let fn : SFits w128 c.num.result = search rules in
    let fu : SFits w128 c.units.result = search rules in
    let fr : SFits w128 c.in_ok-raised.raised = search rules in
    let fd : SFits w128 c.denominator-below.result = search rules in
    let fl : SFits w128 c.floor_div.result = search rules in
    let fh : SFits w128 c.ceil_div.result = search rules in
    let i = simp to_z-of_z at c.floor_div.ensures in
    let j = simp to_z-of_z at c.ceil_div.ensures in
    let k = simp to_z-of_z at c.endpoints_of.ensures.endpoints in
    when_there _ _ _ (λ z. z ≤ℤ pos 1) k (one_apart _ _ _ _ c.denominator-below.ensures.positive i j)
