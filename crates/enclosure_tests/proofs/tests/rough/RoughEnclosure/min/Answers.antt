use Rattle.interval_endpoints.proofs.Following.{within_minimum, narrow_minimum}
use Rattle.enclosure_tests.proofs.tests.rough.RoughEnclosure.min.Goals as goal

pub returns : goal.returns
returns c = record {
  encloses = record {
    holds = λ w x y. within_minimum _ w x y _ _ _ c.min_endpoints.ensures.holds;
    narrow = λ r x y.
        narrow_minimum _ _ r x y _ _ _ c.min_endpoints.ensures.narrow;
  };
}
