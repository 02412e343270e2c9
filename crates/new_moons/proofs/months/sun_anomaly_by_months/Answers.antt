use Rattle.std.proofs.Common.{refl, arith, pos, ◌^◌, ◌+ℤ◌, ◌*ℤ◌, SFits, w64}
use Rattle.std.proofs.lemmas.Int.{ints, to_z-of_z}
use Rattle.book_model.specs.Fraction.{power}
use Rattle.book_model.specs.declared.new_moon_tables.TheConstants.{NEW_MOON_SUN_ANOMALY}
use Rattle.book_model.specs.numbers.Expressions.{constant}
use Rattle.book_model.specs.sky.NewMoons.{centuries_of_months}
use Rattle.new_moons.proofs.Measured.{cubic_within, parts_within, sun_reach}
use Rattle.new_moons.proofs.MonthPolynomials.{cubic_holds, sun_first}
use Rattle.new_moons.proofs.months.sun_anomaly_by_months.Goals as goal

pub returns : goal.returns
returns g c =
    let f : SFits w64 c.args.number = c.ranges.number in
    let v = simp to_z-of_z at c.first_terms.ensures.value in
    record {
      holds = λ w d h.
          let t = centuries_of_months c.args.number in
          let a = rw v at (c.from_frac.ensures.encloses.holds w d) in
          cubic_holds g.E.Enclosure.shown w NEW_MOON_SUN_ANOMALY t _ (sun_first c.args.number) c.cubic_at.result refl
          (c.cubic_at.ensures.holds w _ (constant (power t 2)) (constant (power t 3)) a h.square h.cube);
      measured = λ e k h.
          let shown = g.E.Enclosure.shown in
          let a = parts_within shown _ (record {
            num = pos 255340000 +ℤ pos 2910535670 *ℤ c.args.number;
            below = 99999999;
          }) (2 ^ 56) c.from_frac.result e (omega arith)
          (omega (arith, ints, k.0, k.1)) (omega (arith, ints, k.0, k.1))
          (λ r. rw v at (c.from_frac.ensures.encloses.narrow r)) in
          cubic_within shown _ (2 ^ 56) (2 ^ 57) NEW_MOON_SUN_ANOMALY c.from_frac.result c.cubic_at.result c.args.powers
          e a h sun_reach
          (λ r. c.cubic_at.ensures.narrow r);
    }
