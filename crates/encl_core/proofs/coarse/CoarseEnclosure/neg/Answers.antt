use Rattle.interval_endpoints.specs.Scales.{coarse}
use Rattle.encl_core.specs.Shown.{shown_coarse}
use Rattle.interval_endpoints.proofs.Following.{within_negate, narrow_negate}
use Rattle.encl_core.proofs.coarse.CoarseEnclosure.neg.Goals as goal

pub returns : goal.returns
returns c = record {
  encloses = record {
    holds = λ w x. within_negate shown_coarse w x _ _ c.neg_endpoints.ensures.holds;
    narrow = λ r x.
        narrow_negate coarse shown_coarse r x _ _ c.neg_endpoints.ensures.narrow;
  };
}
