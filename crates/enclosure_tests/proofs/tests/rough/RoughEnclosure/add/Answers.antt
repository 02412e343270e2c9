use Rattle.interval_endpoints.proofs.Following.{within_add}
use Rattle.interval_endpoints.proofs.Unpromised.{narrow_add}
use Rattle.enclosure_tests.proofs.tests.rough.RoughEnclosure.add.Goals as goal

pub returns : goal.returns
returns c = record {
  encloses = record {
    holds = λ w x y. within_add _ w x y _ _ _ c.add_endpoints.ensures.holds;
    narrow = λ r x y h k. narrow_add _ r x y _;
  };
}
