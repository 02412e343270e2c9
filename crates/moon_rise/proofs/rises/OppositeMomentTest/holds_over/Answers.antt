use Rattle.moon_rise.proofs.Between.{each_opposite}
use Rattle.moon_rise.proofs.rises.OppositeMomentTest.holds_over.Goals as goal

pub returns : goal.returns
returns g c = record {
  leads = each_opposite _ c.args.from c.args.to c.in_ok-everywhere.everywhere.so
      c.in_ok-everywhere.ensures.leads;
}
