use Rattle.trig_series.proofs.KernelAngles.{cosine_there, sine_there}
use Rattle.trig_series.proofs.kernel.wave_of_degrees_56.Goals as goal

pub returns : goal.returns
returns c = record {
  sine = λ e n x l t. c.wave_of_angle_64.ensures.sine e n x l (c.angle.ensures.there x t);
  cosine = λ e n x l t. c.wave_of_angle_64.ensures.cosine e n x l (c.angle.ensures.there x t);
  near_sine = λ e n m.
      sine_there n c.args.degrees c.angle.result c.wave_of_angle_64.result m c.requires.octant
      (c.angle.ensures.near n m)
      (λ x l t. c.wave_of_angle_64.ensures.sine e n x l t);
  near_cosine = λ e n m.
      cosine_there n c.args.degrees c.angle.result c.wave_of_angle_64.result m c.requires.octant
      (c.angle.ensures.near n m)
      (λ x l t. c.wave_of_angle_64.ensures.cosine e n x l t);
}
