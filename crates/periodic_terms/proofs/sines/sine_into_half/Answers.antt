use Rattle.periodic_terms.proofs.Edges.{in_half}
use Rattle.periodic_terms.proofs.sines.sine_into_half.Goals as goal

pub returns : goal.returns
returns c =
    let wave = c.wave_in_half.ensures in
    record {
      near = in_half c.args.octant c.args.degrees.count c.degrees_from_quarter-near.result.count
          c.wave_of_degrees_56.result c.rounded_sine.result.count c.wave_in_half.result
          c.rounded_sine.ensures.below c.rounded_sine.ensures.close c.requires.octant
          c.degrees_from_quarter-near.ensures.even c.degrees_from_quarter-near.ensures.odd
          wave.at_0 wave.at_1 wave.at_2 wave.at_3
          c.wave_of_degrees_56.ensures.sine c.wave_of_degrees_56.ensures.cosine;
    }
