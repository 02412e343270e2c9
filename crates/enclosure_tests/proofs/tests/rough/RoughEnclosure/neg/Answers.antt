use Rattle.interval_endpoints.proofs.Following.{within_negate}
use Rattle.interval_endpoints.proofs.Unpromised.{narrow_negate}
use Rattle.enclosure_tests.proofs.tests.rough.RoughEnclosure.neg.Goals as goal

pub returns : goal.returns
returns c = record {
  encloses = record {
    holds = λ w x. within_negate _ w x _ _ c.neg_endpoints.ensures.holds;
    narrow = λ r x h. narrow_negate _ r x _;
  };
}
