use Rattle.interval_endpoints.specs.Scales.{coarse}
use Rattle.encl_core.specs.Shown.{shown_coarse}
use Rattle.interval_endpoints.proofs.Following.{within_add, narrow_add}
use Rattle.encl_core.proofs.coarse.CoarseEnclosure.add.Goals as goal

pub returns : goal.returns
returns c = record {
  encloses = record {
    holds = λ w x y. within_add shown_coarse w x y _ _ _ c.add_endpoints.ensures.holds;
    narrow = λ r x y.
        narrow_add coarse shown_coarse r x y _ _ _ c.add_endpoints.ensures.narrow;
  };
}
