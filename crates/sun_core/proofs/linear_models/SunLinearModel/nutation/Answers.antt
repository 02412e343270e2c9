use Rattle.sun_core.proofs.linear_models.SunLinearModel.nutation.Goals as goal

pub returns : goal.returns
returns g c = record {
  holds =
      λ w x h. c.self.invariant.nutation w x (rw c.self.view_is h);
}
