use Rattle.sun_core.specs.Daily.{in_centuries}
use Rattle.moon_core.proofs.elements.elements_at.Goals as goal

pub returns-clause-holds : goal.returns-clause-holds
unfolding in_centuries
returns-clause-holds g c = λ w x h.
    let k = c.mul_frac-centuries.ensures.encloses.holds w x h in
    let q = c.higher_terms-higher.ensures.holds w _ k in
    record {
      days = h;
      centuries = k;
      mean_longitude = c.quartic_by.ensures.holds w x h q.longitude;
      angles =
          c.angles_by.ensures.holds w x h k q;
    }

pub returns-clause-narrow : goal.returns-clause-narrow
unfolding in_centuries
returns-clause-narrow g c = λ r x h.
    let k = c.mul_frac-centuries.ensures.encloses.narrow r x h in
    let q = c.higher_terms-higher.ensures.narrow r _ k in
    record {
      days = h;
      centuries = k;
      mean_longitude = c.quartic_by.ensures.narrow r x h q.longitude;
      angles =
          c.angles_by.ensures.narrow r x h k q;
    }
