use Rattle.interval_endpoints.specs.Scales.{fine}
use Rattle.fix_fine.specs.Shown.{shown_fine}
use Rattle.interval_endpoints.proofs.Following.{within_constant, narrow_constant}
use Rattle.fix_fine.proofs.Rows.{fraction_of_endpoints}
use Rattle.fix_fine.proofs.fine.FineEnclosure.from_frac.Goals as goal

pub returns : goal.returns
returns c = record {
  encloses = record {
    holds = λ w d. within_constant shown_fine w _ _ d c.endpoints_of_fraction.ensures.holds;
    narrow = λ r.
        narrow_constant fine shown_fine r _ _ c.endpoints_of_fraction.ensures.narrow;
  };
  table = fraction_of_endpoints _ c.endpoints_of_fraction.result c.endpoints_of_fraction.ensures.narrow
      c.endpoints_of_fraction.ensures.close;
}
