use Rattle.std.proofs.Common.{refl}
use Rattle.trig_series.proofs.kernel.cosine_of_degrees_56.Goals as goal

pub returns : goal.returns
returns c = record {
  near = c.wave_of_degrees_56.ensures.near_cosine refl;
  endpoints = c.wave_of_degrees_56.ensures.cosine refl;
}
