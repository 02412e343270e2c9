use Rattle.interval_endpoints.proofs.Following.{within_hull, narrow_hull}
use Rattle.enclosure_tests.proofs.tests.rough.RoughEnclosure.hull.Goals as goal

pub returns : goal.returns
returns c = record {
  encloses = record {
    holds = λ w x y. within_hull _ w x y _ _ _ c.hull_endpoints.ensures.holds;
    narrow = λ r x y.
        narrow_hull _ _ r x y _ _ _ c.hull_endpoints.ensures.narrow;
  };
  tight = c.hull_endpoints.ensures.tight;
}
