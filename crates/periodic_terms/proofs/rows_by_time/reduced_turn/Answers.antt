use Rattle.std.proofs.Common.{◌∙◌, ap, arith, rules, SFits, pos, ◌-ℤ◌, ◌*ℤ◌}
use Rattle.std.specs.Int.{w128}
use Rattle.std.proofs.lemmas.Int.{ints, to_z-of_z}
use Rattle.encl_core.proofs.Stepping.{cast_is}
use Rattle.periodic_terms.proofs.Counts.{are_turns}
use Rattle.periodic_terms.proofs.rows_by_time.reduced_turn.Goals as goal

pub returns : goal.returns
returns c =
    let fn : SFits w128 c.args.turns.0 = search rules in
    let fr : SFits w128 c.shr_floor.result = search rules in
    let i = simp to_z-of_z at c.shr_floor.ensures.floor in
    let l = i.not_above in
    let u = i.close in
    let g1 : SFits w128 (c.shr_floor.result *ℤ pos 18446744073709551616) = omega (arith, ints, l, u, c.requires) in
    let g2 : SFits w128 (c.args.turns.0 -ℤ c.shr_floor.result *ℤ pos 18446744073709551616) =
    omega (arith, ints, l, u, c.requires) in
    let k = cast_is (c.args.turns.0 -ℤ c.shr_floor.result *ℤ pos 18446744073709551616) (omega (arith, ints, l)) in
    let e = are_turns c.args.turns.0 c.shr_floor.result l u in
    record { value = simp to_z-of_z (k ∙ ap (λ z. c.args.turns.0 -ℤ z *ℤ pos 18446744073709551616) e) }
