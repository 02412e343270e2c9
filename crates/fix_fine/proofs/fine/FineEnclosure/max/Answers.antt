use Rattle.fix_fine.specs.Shown.{shown_fine}
use Rattle.interval_endpoints.proofs.Following.{within_maximum, narrow_maximum}
use Rattle.fix_fine.proofs.Rows.{greater_of_endpoints}
use Rattle.fix_fine.proofs.fine.FineEnclosure.max.Goals as goal

pub returns : goal.returns
returns c = record {
  encloses = record {
    holds = λ w x y. within_maximum shown_fine w x y _ _ _ c.max_endpoints.ensures.holds;
    narrow = λ r x y.
        narrow_maximum shown_fine _ r x y _ _ _ c.max_endpoints.ensures.narrow;
  };
  table = greater_of_endpoints c.args.self.endpoints c.args.other.endpoints c.max_endpoints.result
      c.max_endpoints.ensures.narrow;
}
