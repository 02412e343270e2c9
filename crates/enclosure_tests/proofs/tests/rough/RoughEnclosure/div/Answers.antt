use Rattle.book_model.proofs.Intervals.{within_trans}
use Rattle.interval_endpoints.proofs.Following.{within_divide}
use Rattle.interval_endpoints.proofs.Unpromised.{narrow_divide}
use Rattle.enclosure_tests.proofs.tests.rough.RoughEnclosure.div.Goals as goal

pub returns : goal.returns
returns c = record {
  encloses = record {
    holds = λ w x y. within_divide _ w x y _ _ _ (within_trans c.div_endpoints.ensures.holds c.roughened.ensures);
    narrow = λ r x y h k. narrow_divide _ r x y _;
  };
}
