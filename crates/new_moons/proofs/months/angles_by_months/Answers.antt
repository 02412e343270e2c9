use Rattle.std.proofs.Common.{SFits, w64}
use Rattle.std.proofs.lemmas.Int.{to_z-of_z}
use Rattle.book_model.specs.numbers.Expressions.{constant}
use Rattle.book_model.specs.sky.NewMoons.{centuries_of_months, new_moon_angles_of}
use Rattle.new_moons.proofs.Measured.{eccentricity_within}
use Rattle.new_moons.proofs.months.angles_by_months.Goals as goal

pub returns : goal.returns
unfolding new_moon_angles_of
returns g c =
    let f : SFits w64 c.args.number = c.ranges.number in
    record {
      holds = λ w d h.
          let s = simp to_z-of_z at c.sun_anomaly_by_months.ensures.holds in
          let m = simp to_z-of_z at c.moon_anomaly_by_months.ensures.holds in
          let l = simp to_z-of_z at c.latitude_by_months.ensures.holds in
          record {
            sun_anomaly = s w d h;
            moon_anomaly = m w d h;
            latitude_argument = l w d h;
            eccentricity = c.eccentricity_factor.ensures.encloses.holds w (constant (centuries_of_months c.args.number))
                h.centuries;
          };
      measured = λ e k h.
          let s = simp to_z-of_z at c.sun_anomaly_by_months.ensures.measured in
          let m = simp to_z-of_z at c.moon_anomaly_by_months.ensures.measured in
          let l = simp to_z-of_z at c.latitude_by_months.ensures.measured in
          record {
            sun_anomaly = s e k h;
            moon_anomaly = m e k h;
            latitude_argument = l e k h;
            eccentricity = eccentricity_within g.E.Enclosure.shown _ c.args.powers.centuries c.eccentricity_factor.result e
                h.centuries
                (λ r x. c.eccentricity_factor.ensures.encloses.narrow r x);
          };
    }
