use Rattle.interval_endpoints.specs.Scales.{coarse}
use Rattle.encl_core.specs.Shown.{shown_coarse}
use Rattle.interval_endpoints.proofs.Following.{within_constant, narrow_constant}
use Rattle.encl_core.proofs.coarse.CoarseEnclosure.from_frac.Goals as goal

pub returns : goal.returns
returns c = record {
  encloses = record {
    holds = λ w d. within_constant shown_coarse w _ _ d c.frac_endpoints.ensures.holds;
    narrow = λ r.
        narrow_constant coarse shown_coarse r _ _ c.frac_endpoints.ensures.narrow;
  };
}
