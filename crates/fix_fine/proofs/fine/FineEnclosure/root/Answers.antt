use Rattle.interval_endpoints.specs.Scales.{fine}
use Rattle.fix_fine.specs.Shown.{shown_fine}
use Rattle.interval_endpoints.proofs.RootEndpoints.{within_root}
use Rattle.interval_endpoints.proofs.RootWidths.{narrow_root_at}
use Rattle.fix_fine.proofs.Rows.{root_of_endpoints}
use Rattle.fix_fine.proofs.fine.FineEnclosure.root.Goals as goal

pub returns : goal.returns
returns c = record {
  encloses = record {
    holds = λ w x. within_root shown_fine w x _ _ c.root_endpoints.ensures.holds;
    narrow = λ r x.
        narrow_root_at fine shown_fine r x _ _ c.root_endpoints.ensures.narrow;
  };
  table = root_of_endpoints c.args.self.endpoints c.root_endpoints.result c.root_endpoints.ensures.close
      c.root_endpoints.ensures.some;
}
