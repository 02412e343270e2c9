use Rattle.book_model.specs.sky.Moon.{lunar_angles_of}
use Rattle.moon_core.proofs.linear_models.MoonLinearModel.by.Goals as goal

pub invariant_of-result : goal.invariant_of-result
unfolding lunar_angles_of
invariant_of-result g c = record {
  higher = c.requires.higher;
  angles = c.requires.angles;
  terms = λ w x h. c.others_by.ensures.holds w x h.deep (c.requires.angles w x h);
  venus = c.sine_periodic_term.ensures.holds;
  jupiter = c.sine_periodic_term-2.ensures.holds;
  flattening =
      λ w x h. c.flattening.ensures.holds w x (c.quartic_by.ensures.holds w x h (c.requires.higher w x h).longitude)
      (c.requires.angles w x h).latitude_argument;
  nutation = c.requires.nutation;
}
