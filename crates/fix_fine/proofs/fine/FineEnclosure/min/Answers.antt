use Rattle.fix_fine.specs.Shown.{shown_fine}
use Rattle.interval_endpoints.proofs.Following.{within_minimum, narrow_minimum}
use Rattle.fix_fine.proofs.Rows.{lesser_of_endpoints}
use Rattle.fix_fine.proofs.fine.FineEnclosure.min.Goals as goal

pub returns : goal.returns
returns c = record {
  encloses = record {
    holds = λ w x y. within_minimum shown_fine w x y _ _ _ c.min_endpoints.ensures.holds;
    narrow = λ r x y.
        narrow_minimum shown_fine _ r x y _ _ _ c.min_endpoints.ensures.narrow;
  };
  table = lesser_of_endpoints c.args.self.endpoints c.args.other.endpoints c.min_endpoints.result
      c.min_endpoints.ensures.narrow;
}
