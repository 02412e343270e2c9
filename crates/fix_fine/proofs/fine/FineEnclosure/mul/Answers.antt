use Rattle.interval_endpoints.specs.Scales.{fine}
use Rattle.fix_fine.specs.Shown.{shown_fine}
use Rattle.interval_endpoints.proofs.Following.{within_multiply, narrow_multiply}
use Rattle.fix_fine.proofs.Rows.{product_of_endpoints}
use Rattle.fix_fine.proofs.fine.FineEnclosure.mul.Goals as goal

pub returns : goal.returns
returns c = record {
  encloses = record {
    holds = λ w x y. within_multiply shown_fine w x y _ _ _ c.mul_endpoints.ensures.holds;
    narrow = λ r x y.
        narrow_multiply fine shown_fine r x y _ _ _ c.mul_endpoints.ensures.narrow;
  };
  table = product_of_endpoints c.args.self.endpoints c.args.other.endpoints c.mul_endpoints.result
      c.mul_endpoints.ensures.close c.mul_endpoints.ensures.some;
}
