use Rattle.std.proofs.Common.{◌≡◌, rules, SFits, Fits, w64, pos, ◌*ℤ◌}
use Rattle.std.specs.Int.{int_wrap, w128}
use Rattle.std.proofs.lemmas.Int.{to_z-of_z}
use Rattle.periodic_terms.proofs.Counts.{part_bounds, sum_bounds, turn_of_wrapped}
use Rattle.periodic_terms.proofs.rows_by_time.term_turn.Goals as goal

pub returns : goal.returns
returns c =
    let fa : SFits w128 c.args.rate.0 = search rules in
    let fb : SFits w128 c.args.days.count = search rules in
    let f64 : Fits w64 c.args.phase.0 = search rules in
    let ft : SFits w128 c.turns_made.result.0 = search rules in
    let fr : SFits w128 c.shr_floor-made.result = search rules in
    let fp : SFits w128 c.from.result = search rules in
    let e : c.from.result ≡ pos c.args.phase.0 = c.from.ensures in
    let v : c.turns_made.result.0 ≡ int_wrap w128 (c.args.rate.0 *ℤ c.args.days.count) =
    c.turns_made.ensures.value in
    let i = simp to_z-of_z at c.shr_floor-made.ensures.floor in
    let l = i.not_above in
    let u = i.close in
    let b = part_bounds c.turns_made.result.0 c.shr_floor-made.result ft l u in
    let g = sum_bounds c.from.result c.shr_floor-made.result c.args.phase.0 e f64 b in
    let h = simp to_z-of_z at c.reduced_turn.ensures.value in
    record {
      value =
          turn_of_wrapped (c.args.rate.0 *ℤ c.args.days.count) c.turns_made.result.0 c.shr_floor-made.result
          c.args.phase.0 c.from.result
          c.reduced_turn.result.0 v l u e h;
    }
