use Rattle.book_model.proofs.Intervals.{within_trans}
use Rattle.interval_endpoints.proofs.Following.{within_scale}
use Rattle.interval_endpoints.proofs.Unpromised.{narrow_scale}
use Rattle.enclosure_tests.proofs.tests.rough.RoughEnclosure.mul_frac.Goals as goal

pub returns : goal.returns
returns c = record {
  encloses = record {
    holds = λ w x. within_scale _ w _ x _ _ (within_trans c.scale_endpoints.ensures.holds c.roughened.ensures);
    narrow = λ r x h. narrow_scale _ r _ x _;
  };
}
