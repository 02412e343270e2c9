use Rattle.interval_endpoints.specs.Scales.{fine}
use Rattle.fix_fine.specs.Shown.{shown_fine}
use Rattle.interval_endpoints.proofs.Following.{within_widen, narrow_widen}
use Rattle.fix_fine.proofs.Rows.{widened_of_endpoints}
use Rattle.fix_fine.proofs.fine.FineEnclosure.widen.Goals as goal

pub returns : goal.returns
returns c = record {
  encloses = record {
    holds = λ w x. within_widen shown_fine w _ x _ _ c.widen_endpoints.ensures.holds;
    narrow = λ r x.
        narrow_widen fine shown_fine r _ x _ _ c.widen_endpoints.ensures.narrow;
  };
  table = widened_of_endpoints _ c.args.self.endpoints c.widen_endpoints.result c.widen_endpoints.ensures.narrow
      c.widen_endpoints.ensures.close;
}
