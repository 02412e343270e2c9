use Rattle.interval_endpoints.specs.Scales.{fine}
use Rattle.fix_fine.specs.Shown.{shown_fine}
use Rattle.interval_endpoints.proofs.Following.{within_power, narrow_square}
use Rattle.fix_fine.proofs.Rows.{square_of_endpoints}
use Rattle.fix_fine.proofs.fine.FineEnclosure.square.Goals as goal

pub returns : goal.returns
returns c = record {
  encloses = record {
    holds = λ w x. within_power shown_fine w x 2 _ _ c.square_endpoints.ensures.holds;
    narrow = λ r x.
        narrow_square fine shown_fine r x _ _ c.square_endpoints.ensures.narrow;
  };
  table = square_of_endpoints c.args.self.endpoints c.square_endpoints.result c.square_endpoints.ensures.close
      c.square_endpoints.ensures.some;
}
