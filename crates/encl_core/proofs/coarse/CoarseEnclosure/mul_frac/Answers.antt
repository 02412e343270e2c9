use Rattle.interval_endpoints.specs.Scales.{coarse}
use Rattle.encl_core.specs.Shown.{shown_coarse}
use Rattle.interval_endpoints.proofs.Following.{within_scale, narrow_scale}
use Rattle.encl_core.proofs.coarse.CoarseEnclosure.mul_frac.Goals as goal

pub returns : goal.returns
returns c = record {
  encloses = record {
    holds = λ w x. within_scale shown_coarse w _ x _ _ c.scale_endpoints.ensures.holds;
    narrow = λ r x.
        narrow_scale coarse shown_coarse r _ x _ _ c.scale_endpoints.ensures.narrow;
  };
}
