use Rattle.interval_endpoints.specs.Scales.{fine}
use Rattle.fix_fine.specs.Shown.{shown_fine}
use Rattle.interval_endpoints.proofs.Following.{within_scale, narrow_scale}
use Rattle.fix_fine.proofs.Rows.{factor_of_endpoints}
use Rattle.fix_fine.proofs.fine.FineEnclosure.mul_frac.Goals as goal

pub returns : goal.returns
returns c = record {
  encloses = record {
    holds = λ w x. within_scale shown_fine w _ x _ _ c.scale_endpoints.ensures.holds;
    narrow = λ r x.
        narrow_scale fine shown_fine r _ x _ _ c.scale_endpoints.ensures.narrow;
  };
  table = factor_of_endpoints _ c.args.self.endpoints c.scale_endpoints.result c.scale_endpoints.ensures.close
      c.scale_endpoints.ensures.some;
}
