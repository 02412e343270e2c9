use Rattle.interval_endpoints.proofs.RootEndpoints.{within_clamp}
use Rattle.interval_endpoints.proofs.RootWidths.{narrow_clamp}
use Rattle.enclosure_tests.proofs.tests.rough.RoughEnclosure.clamp_unit.Goals as goal

pub returns : goal.returns
returns c = record {
  encloses = record {
    holds = λ w x. within_clamp _ w x _ _ c.clamp_endpoints.ensures.holds;
    narrow = λ r x.
        narrow_clamp _ _ r x _ _ c.clamp_endpoints.ensures.narrow;
  };
}
