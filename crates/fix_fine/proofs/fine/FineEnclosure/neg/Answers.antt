use Rattle.interval_endpoints.specs.Scales.{fine}
use Rattle.fix_fine.specs.Shown.{shown_fine}
use Rattle.interval_endpoints.proofs.Following.{within_negate, narrow_negate}
use Rattle.fix_fine.proofs.Rows.{opposite_of_endpoints}
use Rattle.fix_fine.proofs.fine.FineEnclosure.neg.Goals as goal

pub returns : goal.returns
returns c = record {
  encloses = record {
    holds = λ w x. within_negate shown_fine w x _ _ c.neg_endpoints.ensures.holds;
    narrow = λ r x.
        narrow_negate fine shown_fine r x _ _ c.neg_endpoints.ensures.narrow;
  };
  table = opposite_of_endpoints _ _ c.neg_endpoints.ensures.endpoints;
}
