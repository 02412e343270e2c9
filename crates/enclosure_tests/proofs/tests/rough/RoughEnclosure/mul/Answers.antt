use Rattle.book_model.proofs.Intervals.{within_trans}
use Rattle.interval_endpoints.proofs.Following.{within_multiply}
use Rattle.interval_endpoints.proofs.Unpromised.{narrow_multiply}
use Rattle.enclosure_tests.proofs.tests.rough.RoughEnclosure.mul.Goals as goal

pub returns : goal.returns
returns c = record {
  encloses = record {
    holds = λ w x y. within_multiply _ w x y _ _ _ (within_trans c.mul_endpoints.ensures.holds c.roughened.ensures);
    narrow = λ r x y h k. narrow_multiply _ r x y _;
  };
}
