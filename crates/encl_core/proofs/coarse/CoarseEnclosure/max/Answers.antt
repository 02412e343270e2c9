use Rattle.encl_core.specs.Shown.{shown_coarse}
use Rattle.interval_endpoints.proofs.Following.{within_maximum, narrow_maximum}
use Rattle.encl_core.proofs.coarse.CoarseEnclosure.max.Goals as goal

pub returns : goal.returns
returns c = record {
  encloses = record {
    holds = λ w x y. within_maximum shown_coarse w x y _ _ _ c.max_endpoints.ensures.holds;
    narrow = λ r x y.
        narrow_maximum shown_coarse _ r x y _ _ _ c.max_endpoints.ensures.narrow;
  };
}
