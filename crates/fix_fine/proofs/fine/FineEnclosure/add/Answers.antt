use Rattle.interval_endpoints.specs.Scales.{fine}
use Rattle.fix_fine.specs.Shown.{shown_fine}
use Rattle.interval_endpoints.proofs.Following.{within_add, narrow_add}
use Rattle.fix_fine.proofs.Rows.{sum_of_endpoints}
use Rattle.fix_fine.proofs.fine.FineEnclosure.add.Goals as goal

pub returns : goal.returns
returns c = record {
  encloses = record {
    holds = λ w x y. within_add shown_fine w x y _ _ _ c.add_endpoints.ensures.holds;
    narrow = λ r x y.
        narrow_add fine shown_fine r x y _ _ _ c.add_endpoints.ensures.narrow;
  };
  table = sum_of_endpoints _ _ _ c.add_endpoints.ensures.endpoints;
}
