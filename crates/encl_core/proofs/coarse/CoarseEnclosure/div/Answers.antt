use Rattle.interval_endpoints.specs.Scales.{coarse}
use Rattle.encl_core.specs.Shown.{shown_coarse}
use Rattle.interval_endpoints.proofs.Following.{within_divide, narrow_divide}
use Rattle.encl_core.proofs.coarse.CoarseEnclosure.div.Goals as goal

pub returns : goal.returns
returns c = record {
  encloses = record {
    holds = λ w x y. within_divide shown_coarse w x y _ _ _ c.div_endpoints.ensures.holds;
    narrow = λ r x y.
        narrow_divide coarse shown_coarse r x y _ _ _ c.div_endpoints.ensures.narrow;
  };
}
