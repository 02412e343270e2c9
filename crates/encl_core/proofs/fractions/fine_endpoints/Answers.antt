use Rattle.interval_endpoints.specs.Scales.{coarse}
use Rattle.std.proofs.Common.{◌≡◌, refl, rules, arith, SFits, pos, ◌+◌, ◌^◌, ◌*ℤ◌}
use Rattle.std.specs.Int.{w128}
use Rattle.std.proofs.lemmas.Int.{ints, to_z-of_z}
use Rattle.book_model.specs.numbers.Fractions.{fraction_of}
use Rattle.interval_endpoints.proofs.Quotients.{outward_order, fine_floor, fine_ceiling}
use Rattle.interval_endpoints.proofs.Scaling.{constant_encloses, constant_narrow}
use Rattle.interval_endpoints.proofs.OnEndpoints.{shows}
use Rattle.encl_core.proofs.fractions.fine_endpoints.Goals as goal

pub endpoints_of-requires : goal.endpoints_of-requires
endpoints_of-requires c =
    let fn : SFits w128 c.num-parts.result = search rules in
    let fu : SFits w128 c.from-units.result = search rules in
    let fl : SFits w128 c.floor_div.result = search rules in
    let fh : SFits w128 c.ceil_div.result = search rules in
    let i = simp to_z-of_z at c.floor_div.ensures in
    let j = simp to_z-of_z at c.ceil_div.ensures in
    simp to_z-of_z (outward_order _ _ _ _ _ (omega (arith, ints)) i j
    (omega (arith, ints, c.requires.some, c.from-units.ensures)))

pub returns : goal.returns
returns c =
    let fn : SFits w128 c.num-parts.result = search rules in
    let fu : SFits w128 c.from-units.result = search rules in
    let fl : SFits w128 c.floor_div.result = search rules in
    let fh : SFits w128 c.ceil_div.result = search rules in
    let i = simp c.num-parts.ensures at (simp to_z-of_z at c.floor_div.ensures) in
    let j = simp c.num-parts.ensures at (simp to_z-of_z at c.ceil_div.ensures) in
    let k = shows _ _ _ (simp to_z-of_z at c.endpoints_of.ensures.endpoints) in
    let f = fraction_of c.args.value in
    let e : c.from-units.result *ℤ pos (2 ^ 36) ≡ pos (f.below + 1) =
    omega (arith, ints, c.requires.some, c.requires.denominator, c.from-units.ensures) in
    let l = fine_floor c.floor_div.result f.num c.from-units.result _ e i in
    let u = fine_ceiling c.ceil_div.result f.num c.from-units.result _ e j in
    record {
      holds = constant_encloses coarse f (f.num *ℤ pos (2 ^ 36)) _ _ _ _ refl refl l u k;
      narrow = λ w. constant_narrow coarse f w (f.num *ℤ pos (2 ^ 36)) _ _ _ _ refl refl l u k;
    }
