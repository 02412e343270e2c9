use Rattle.std.proofs.Common.{arith, rules, SFits, Fits, w32, w64}
use Rattle.std.specs.Int.{w128}
use Rattle.std.proofs.lemmas.Int.{to_z-of_z}
use Rattle.periodic_terms.proofs.RowsByTime.{row_holds}
use Rattle.periodic_terms.proofs.rows_by_time.row_at.Goals as goal

pub returns-clause-holds : goal.returns-clause-holds
returns-clause-holds c = λ w x v width lo hi d t n k.
    let fz : SFits w32 c.args.row.now.size = search rules in
    let fm : SFits w128 c.args.days.count = search rules in
    let fs : SFits w64 c.sine_at_turn.result.count = search rules in
    let ft : Fits w64 c.term_turn.result.0 = search rules in
    let fy : SFits w128 c.sized_sine.result.0 = search rules in
    let e = c.term_turn.ensures.value in
    let p = c.sine_at_turn.ensures.near in
    let y = simp to_z-of_z at c.sized_sine.ensures.value in
    row_holds w x v c.args.row.now c.term_turn.result.0 c.sine_at_turn.result.count c.args.days.count
    c.sized_sine.result.0
    width lo hi d
    (record {
      turning = t;
      turn_fits = omega (arith, ft);
      turn_is = e;
      near = n;
      point = p;
      above = c.sine_at_turn.result.from;
      below = c.sine_at_turn.result.to;
    }) k y
