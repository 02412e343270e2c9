use Rattle.book_model.proofs.Intervals.{within_trans}
use Rattle.interval_endpoints.proofs.RootEndpoints.{within_root}
use Rattle.interval_endpoints.proofs.Unpromised.{narrow_root}
use Rattle.enclosure_tests.proofs.tests.rough.RoughEnclosure.root.Goals as goal

pub returns : goal.returns
returns c = record {
  encloses = record {
    holds = λ w x. within_root _ w x _ _ (λ n d. within_trans (c.root_endpoints.ensures.holds n d) c.roughened.ensures);
    narrow = λ r x h. narrow_root _ r x _;
  };
}
