use Rattle.interval_endpoints.specs.Scales.{coarse}
use Rattle.encl_core.specs.Shown.{shown_coarse}
use Rattle.interval_endpoints.proofs.Following.{within_widen, narrow_widen}
use Rattle.encl_core.proofs.coarse.CoarseEnclosure.widen.Goals as goal

pub returns : goal.returns
returns c = record {
  encloses = record {
    holds = λ w x. within_widen shown_coarse w _ x _ _ c.widen_endpoints.ensures.holds;
    narrow = λ r x.
        narrow_widen coarse shown_coarse r _ x _ _ c.widen_endpoints.ensures.narrow;
  };
}
