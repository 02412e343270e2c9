use Rattle.book_model.proofs.Intervals.{within_trans}
use Rattle.interval_endpoints.proofs.Following.{within_constant}
use Rattle.interval_endpoints.proofs.Unpromised.{narrow_constant}
use Rattle.enclosure_tests.proofs.tests.rough.RoughEnclosure.from_frac.Goals as goal

pub returns : goal.returns
returns c = record {
  encloses = record {
    holds = λ w d. within_constant _ w _ _ d (within_trans c.endpoints_of_fraction.ensures.holds c.roughened.ensures);
    narrow = λ r. narrow_constant _ r _ _;
  };
}
