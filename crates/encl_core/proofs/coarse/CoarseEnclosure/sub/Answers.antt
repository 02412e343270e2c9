use Rattle.interval_endpoints.specs.Scales.{coarse}
use Rattle.encl_core.specs.Shown.{shown_coarse}
use Rattle.interval_endpoints.proofs.Following.{within_subtract, narrow_subtract}
use Rattle.encl_core.proofs.coarse.CoarseEnclosure.sub.Goals as goal

pub returns : goal.returns
returns c = record {
  encloses = record {
    holds = λ w x y. within_subtract shown_coarse w x y _ _ _ c.sub_endpoints.ensures.holds;
    narrow = λ r x y.
        narrow_subtract coarse shown_coarse r x y _ _ _ c.sub_endpoints.ensures.narrow;
  };
}
