use Rattle.interval_endpoints.specs.Scales.{coarse}
use Rattle.encl_core.specs.Shown.{shown_coarse}
use Rattle.interval_endpoints.proofs.RootEndpoints.{within_root}
use Rattle.interval_endpoints.proofs.RootWidths.{narrow_root_at}
use Rattle.encl_core.proofs.coarse.CoarseEnclosure.root.Goals as goal

pub returns : goal.returns
returns c = record {
  encloses = record {
    holds = λ w x. within_root shown_coarse w x _ _ c.root_endpoints.ensures.holds;
    narrow = λ r x.
        narrow_root_at coarse shown_coarse r x _ _ c.root_endpoints.ensures.narrow;
  };
}
