use Rattle.interval_endpoints.specs.Scales.{fine}
use Rattle.fix_fine.specs.Shown.{shown_fine}
use Rattle.interval_endpoints.proofs.Following.{within_divide, narrow_divide}
use Rattle.fix_fine.proofs.Rows.{quotient_of_endpoints}
use Rattle.fix_fine.proofs.fine.FineEnclosure.div.Goals as goal

pub returns : goal.returns
returns c = record {
  encloses = record {
    holds = λ w x y. within_divide shown_fine w x y _ _ _ c.div_endpoints.ensures.holds;
    narrow = λ r x y.
        narrow_divide fine shown_fine r x y _ _ _ c.div_endpoints.ensures.narrow;
  };
  table = quotient_of_endpoints c.args.self.endpoints c.args.other.endpoints c.div_endpoints.result
      c.div_endpoints.ensures.close c.div_endpoints.ensures.some;
}
