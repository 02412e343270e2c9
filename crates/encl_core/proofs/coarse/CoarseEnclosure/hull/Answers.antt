use Rattle.encl_core.specs.Shown.{shown_coarse}
use Rattle.interval_endpoints.proofs.Following.{within_hull, narrow_hull}
use Rattle.encl_core.proofs.coarse.CoarseEnclosure.hull.Goals as goal

pub returns : goal.returns
returns c = record {
  encloses = record {
    holds = λ w x y. within_hull shown_coarse w x y _ _ _ c.hull_endpoints.ensures.holds;
    narrow = λ r x y.
        narrow_hull shown_coarse _ r x y _ _ _ c.hull_endpoints.ensures.narrow;
  };
  tight = c.hull_endpoints.ensures.tight;
}
