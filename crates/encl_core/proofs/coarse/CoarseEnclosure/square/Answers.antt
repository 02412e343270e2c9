use Rattle.interval_endpoints.specs.Scales.{coarse}
use Rattle.encl_core.specs.Shown.{shown_coarse}
use Rattle.interval_endpoints.proofs.Following.{within_power, narrow_square}
use Rattle.encl_core.proofs.coarse.CoarseEnclosure.square.Goals as goal

pub returns : goal.returns
returns c = record {
  encloses = record {
    holds = λ w x. within_power shown_coarse w x 2 _ _ c.square_endpoints.ensures.holds;
    narrow = λ r x.
        narrow_square coarse shown_coarse r x _ _ c.square_endpoints.ensures.narrow;
  };
}
