use Rattle.std.proofs.Common.{rules, SFits, w64}
use Rattle.std.proofs.lemmas.Int.{to_z-of_z}
use Rattle.moon_rise.proofs.Between.{each_up}
use Rattle.moon_rise.proofs.rises.MoonUpMomentTest.holds_over.Goals as goal

pub returns : goal.returns
returns g c = record {
  leads =
      let f : SFits w64 c.args.self.now.day = search rules in
      let m = simp to_z-of_z at c.moments_over-interval_of_days.ensures.holds in
      each_up g.E.Enclosure.shown c.args.self.now.place c.args.self.now.location c.args.self.now.day c.args.from
      c.args.to c.moments_over-interval_of_days.result
      c.is_up_over.result m c.is_up_over.ensures.leads;
}
