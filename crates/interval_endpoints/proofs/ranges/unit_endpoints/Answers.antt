use Rattle.interval_endpoints.proofs.RootEndpoints.{cut_all}
use Rattle.interval_endpoints.proofs.ranges.unit_endpoints.Goals as goal

pub returns : goal.returns
returns g c = record {
  holds = rw (c.minus_one-lo.ensures.value, c.one-hi.ensures.value)
      (cut_all g.I.MachineWord.scale);
}
