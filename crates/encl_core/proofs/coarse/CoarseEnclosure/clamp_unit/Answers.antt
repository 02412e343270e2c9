use Rattle.encl_core.specs.Shown.{shown_coarse}
use Rattle.interval_endpoints.proofs.RootEndpoints.{within_clamp}
use Rattle.interval_endpoints.proofs.RootWidths.{narrow_clamp}
use Rattle.encl_core.proofs.coarse.CoarseEnclosure.clamp_unit.Goals as goal

pub returns : goal.returns
returns c = record {
  encloses = record {
    holds = λ w x. within_clamp shown_coarse w x _ _ c.clamp_endpoints.ensures.holds;
    narrow = λ r x.
        narrow_clamp shown_coarse _ r x _ _ c.clamp_endpoints.ensures.narrow;
  };
}
