use Rattle.encl_core.specs.Shown.{shown_coarse}
use Rattle.interval_endpoints.proofs.Following.{within_minimum, narrow_minimum}
use Rattle.encl_core.proofs.coarse.CoarseEnclosure.min.Goals as goal

pub returns : goal.returns
returns c = record {
  encloses = record {
    holds = λ w x y. within_minimum shown_coarse w x y _ _ _ c.min_endpoints.ensures.holds;
    narrow = λ r x y.
        narrow_minimum shown_coarse _ r x y _ _ _ c.min_endpoints.ensures.narrow;
  };
}
