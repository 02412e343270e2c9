use Rattle.interval_endpoints.proofs.Following.{within_subtract}
use Rattle.interval_endpoints.proofs.Unpromised.{narrow_subtract}
use Rattle.enclosure_tests.proofs.tests.rough.RoughEnclosure.sub.Goals as goal

pub returns : goal.returns
returns c = record {
  encloses = record {
    holds = λ w x y. within_subtract _ w x y _ _ _ c.sub_endpoints.ensures.holds;
    narrow = λ r x y h k.
        narrow_subtract _ r x y _;
  };
}
