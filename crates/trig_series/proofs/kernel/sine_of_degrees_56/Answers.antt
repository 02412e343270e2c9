use Rattle.std.proofs.Common.{refl}
use Rattle.trig_series.proofs.kernel.sine_of_degrees_56.Goals as goal

pub returns : goal.returns
returns c = record {
  near = c.wave_of_degrees_56.ensures.near_sine refl;
  endpoints = c.wave_of_degrees_56.ensures.sine refl;
}
