use Rattle.fix_fine.specs.Shown.{shown_fine}
use Rattle.interval_endpoints.proofs.RootEndpoints.{within_clamp}
use Rattle.interval_endpoints.proofs.RootWidths.{narrow_clamp}
use Rattle.fix_fine.proofs.Rows.{cut_of_endpoints}
use Rattle.fix_fine.proofs.fine.FineEnclosure.clamp_unit.Goals as goal

pub returns : goal.returns
returns c = record {
  encloses = record {
    holds = λ w x. within_clamp shown_fine w x _ _ c.clamp_endpoints.ensures.holds;
    narrow = λ r x.
        narrow_clamp shown_fine _ r x _ _ c.clamp_endpoints.ensures.narrow;
  };
  table = cut_of_endpoints c.args.self.endpoints c.clamp_endpoints.result c.clamp_endpoints.ensures.narrow;
}
