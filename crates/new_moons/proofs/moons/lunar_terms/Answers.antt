use Rattle.std.proofs.Common.{SFits, w64}
use Rattle.std.proofs.lemmas.Int.{to_z-of_z}
use Rattle.book_model.specs.sky.NewMoons.{centuries_of_months, new_moon_angles_of, new_moon_terms_of}
use Rattle.new_moons.proofs.moons.lunar_terms.Goals as goal

pub returns : goal.returns
unfolding new_moon_terms_of
returns g c =
    let f : SFits w64 c.args.number = c.ranges.number in
    let a = simp to_z-of_z at c.angles_by_months.ensures.holds in
    let m = simp to_z-of_z at c.angles_by_months.ensures.measured in
    record {
      holds = λ w d h. c.sum_of_angles.ensures.holds w (new_moon_angles_of (centuries_of_months c.args.number)) d
          (a w d h);
      measured = λ e k h. c.sum_of_angles.ensures.measured e (m e k h);
    }
