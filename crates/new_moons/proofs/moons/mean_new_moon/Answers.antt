use Rattle.std.proofs.Common.{SFits, w64}
use Rattle.std.proofs.lemmas.Int.{to_z-of_z}
use Rattle.book_model.specs.sky.NewMoons.{mean_new_moon_of}
use Rattle.new_moons.proofs.Measured.{mean_within, recent_mean_within}
use Rattle.new_moons.proofs.moons.mean_new_moon.Goals as goal

pub returns : goal.returns
unfolding mean_new_moon_of
returns g c =
    let f : SFits w64 c.args.number = c.ranges.number in
    let shown = g.E.Enclosure.shown in
    record {
      holds = λ w d h.
          let m = simp to_z-of_z at c.mean_by_months.ensures.holds in
          c.add.ensures.encloses.holds w _ _ (c.from_frac.ensures.encloses.holds w d) (m w d h);
      measured = λ e k h.
          let m = simp to_z-of_z at c.mean_by_months.ensures.measured in
          mean_within shown _ c.from_frac.result c.mean_by_months.result c.add.result e
          (λ r. c.from_frac.ensures.encloses.narrow r)
          (λ r x y. c.add.ensures.encloses.narrow r x y) (m e k h);
      recent = λ e k h.
          let m = simp to_z-of_z at c.mean_by_months.ensures.recent in
          recent_mean_within shown _ c.from_frac.result c.mean_by_months.result c.add.result e
          (λ r. c.from_frac.ensures.encloses.narrow r)
          (λ r x y. c.add.ensures.encloses.narrow r x y) (m e k h);
    }
