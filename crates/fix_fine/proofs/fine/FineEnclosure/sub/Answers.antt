use Rattle.interval_endpoints.specs.Scales.{fine}
use Rattle.fix_fine.specs.Shown.{shown_fine}
use Rattle.interval_endpoints.proofs.Following.{within_subtract, narrow_subtract}
use Rattle.fix_fine.proofs.Rows.{difference_of_endpoints}
use Rattle.fix_fine.proofs.fine.FineEnclosure.sub.Goals as goal

pub returns : goal.returns
returns c = record {
  encloses = record {
    holds = λ w x y. within_subtract shown_fine w x y _ _ _ c.sub_endpoints.ensures.holds;
    narrow = λ r x y.
        narrow_subtract fine shown_fine r x y _ _ _ c.sub_endpoints.ensures.narrow;
  };
  table = difference_of_endpoints _ _ _ c.sub_endpoints.ensures.endpoints;
}
