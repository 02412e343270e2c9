use Rattle.interval_endpoints.proofs.Following.{within_maximum, narrow_maximum}
use Rattle.enclosure_tests.proofs.tests.rough.RoughEnclosure.max.Goals as goal

pub returns : goal.returns
returns c = record {
  encloses = record {
    holds = λ w x y. within_maximum _ w x y _ _ _ c.max_endpoints.ensures.holds;
    narrow = λ r x y.
        narrow_maximum _ _ r x y _ _ _ c.max_endpoints.ensures.narrow;
  };
}
