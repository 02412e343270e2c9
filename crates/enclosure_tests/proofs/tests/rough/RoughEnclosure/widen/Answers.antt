use Rattle.book_model.proofs.Intervals.{within_trans}
use Rattle.interval_endpoints.proofs.Following.{within_widen}
use Rattle.interval_endpoints.proofs.Unpromised.{narrow_widen}
use Rattle.enclosure_tests.proofs.tests.rough.RoughEnclosure.widen.Goals as goal

pub returns : goal.returns
returns c = record {
  encloses = record {
    holds = λ w x. within_widen _ w _ x _ _ (within_trans c.widen_endpoints.ensures.holds c.roughened.ensures);
    narrow = λ r x h. narrow_widen _ r _ x _;
  };
}
