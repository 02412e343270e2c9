use Rattle.moon_core.proofs.Replays.{leads_counted}
use Rattle.moon_core.proofs.picked_longitudes.picked_over.Goals as goal

pub invariant_of-result : goal.invariant_of-result
invariant_of-result g c = record {
  again =
      λ w x p h k e i n.
      leads_counted c.anew-own.ensures.empty c.count-tests.ensures.value c.if-tests-lt4294967295.true
      (c.in-Ok-false.ensures.longitudes c.in-Ok-false.field-0-test w x p h k e i) n;
}
