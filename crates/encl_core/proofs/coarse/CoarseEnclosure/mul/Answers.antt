use Rattle.interval_endpoints.specs.Scales.{coarse}
use Rattle.encl_core.specs.Shown.{shown_coarse}
use Rattle.interval_endpoints.proofs.Following.{within_multiply, narrow_multiply}
use Rattle.encl_core.proofs.coarse.CoarseEnclosure.mul.Goals as goal

pub returns : goal.returns
returns c = record {
  encloses = record {
    holds = λ w x y. within_multiply shown_coarse w x y _ _ _ c.mul_endpoints.ensures.holds;
    narrow = λ r x y.
        narrow_multiply coarse shown_coarse r x y _ _ _ c.mul_endpoints.ensures.narrow;
  };
}
