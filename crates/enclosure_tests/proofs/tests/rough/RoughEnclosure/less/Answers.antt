use Rattle.std.proofs.Common.{◌∙◌, sym}
use Rattle.interval_endpoints.proofs.Testing.{undecided_comparison}
use Rattle.enclosure_tests.proofs.tests.rough.RoughEnclosure.less.Goals as goal

pub returns-in-None-clause-undecided : goal.returns-in-None-clause-undecided
returns-in-None-clause-undecided c = undecided_comparison _ _ _ _ _
    (sym c.in-None.is ∙ c.order_of_endpoints.ensures.value) c.undecided_test_at.ensures.endpoints
    c.hull_endpoints.ensures.holds c.hull_endpoints.ensures.tight
