use Rattle.std.proofs.Common.{rules, SFits, w64}
use Rattle.std.proofs.lemmas.Int.{to_z-of_z}
use Rattle.moon_core.proofs.Picked.{longitudes_picked}
use Rattle.moon_core.proofs.picked_longitudes.time_is_picked.Goals as goal

pub returns : goal.returns
returns g c = record {
  longitudes =
      let n : SFits w64 c.in_ok-number.number = search rules in
      let q = simp to_z-of_z at c.in_ok-by_time.ensures.leads in
      longitudes_picked g.E.Enclosure.shown c.args.by_longitudes c.args.t c.in_ok-number.number c.in_ok-by_time.by_time
      c.in_ok-number.ensures.leads q c.is_apart.result c.is_apart.ensures.leads;
}
