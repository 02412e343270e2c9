use Rattle.std.proofs.Common.{rules, SFits}
use Rattle.std.specs.Int.{w128}
use Rattle.std.proofs.lemmas.Int.{to_z-of_z}
use Rattle.trig_series.proofs.TurnLemmas.{few_or_many}
use Rattle.trig_series.proofs.octants.sine_over_edges.Goals as goal

pub returns : goal.returns
returns c =
    let fl = c.ranges.lo in
    let fh = c.ranges.hi in
    let ff : SFits w128 c.first_met.result = search rules in
    let ft : SFits w128 c.last_met.result = search rules in
    let b = simp to_z-of_z at c.first_met.ensures.ended in
    let e = simp to_z-of_z at c.last_met.ensures.begun in
    let n = simp to_z-of_z at c.sine_over_octants.ensures.narrow in
    record {
      holds = simp to_z-of_z at c.sine_over_octants.ensures.holds;
      narrow = few_or_many c.first_met.result c.last_met.result c.args.lo c.args.hi c.sine_over_octants.result.lo
          c.sine_over_octants.result.hi b e n;
      small = simp to_z-of_z at c.sine_over_octants.ensures.small;
      crest = simp to_z-of_z at c.sine_over_octants.ensures.crest;
    }
