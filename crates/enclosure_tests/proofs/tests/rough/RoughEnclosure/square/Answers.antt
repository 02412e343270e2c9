use Rattle.book_model.proofs.Intervals.{within_trans}
use Rattle.interval_endpoints.proofs.Following.{within_power}
use Rattle.interval_endpoints.proofs.Unpromised.{narrow_square}
use Rattle.enclosure_tests.proofs.tests.rough.RoughEnclosure.square.Goals as goal

pub returns : goal.returns
returns c = record {
  encloses = record {
    holds = λ w x. within_power _ w x 2 _ _ (within_trans c.square_endpoints.ensures.holds c.roughened.ensures);
    narrow = λ r x h. narrow_square _ r x _;
  };
}
