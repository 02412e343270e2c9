use Rattle.std.proofs.Common.{refl, arith, pos, ◌^◌, ◌+ℤ◌, ◌*ℤ◌, SFits, w64}
use Rattle.std.proofs.lemmas.Int.{ints, to_z-of_z}
use Rattle.book_model.specs.Fraction.{power}
use Rattle.book_model.specs.declared.new_moon_tables.TheConstants.{MEAN_NEW_MOON}
use Rattle.book_model.specs.numbers.Expressions.{constant}
use Rattle.book_model.specs.sky.NewMoons.{centuries_of_months}
use Rattle.new_moons.proofs.Measured.{mean_reach, parts_within, quartic_within, recent_reach}
use Rattle.new_moons.proofs.MonthPolynomials.{quartic_holds, mean_first}
use Rattle.new_moons.proofs.months.mean_by_months.Goals as goal

pub returns : goal.returns
returns g c =
    let f : SFits w64 c.args.number = c.ranges.number in
    let v = simp to_z-of_z at c.first_terms.ensures.value in
    record {
      holds = λ w d h.
          let t = centuries_of_months c.args.number in
          let a = rw v at (c.from_frac.ensures.encloses.holds w d) in
          quartic_holds g.E.Enclosure.shown w MEAN_NEW_MOON t _ (mean_first c.args.number) c.add.result refl
          (c.add.ensures.encloses.holds w _ _ (c.cubic_at.ensures.holds w _ (constant (power t 2)) (constant (power t 3)) a
          h.square h.cube) (c.fourth_at.ensures.encloses.holds w (constant (power t 3)) (constant t) h.cube h.centuries));
      measured = λ e k h.
          let shown = g.E.Enclosure.shown in
          let a = parts_within shown _ (record {
            num = pos 5097660000 +ℤ pos 29530588861 *ℤ c.args.number;
            below = 999999999;
          }) (2 ^ 52) c.from_frac.result e (omega arith)
          (omega (arith, ints, k.0, k.1)) (omega (arith, ints, k.0, k.1))
          (λ r. rw v at (c.from_frac.ensures.encloses.narrow r)) in
          quartic_within shown _ (2 ^ 52) (2 ^ 53) MEAN_NEW_MOON c.from_frac.result c.add.result c.args.powers e
          a h mean_reach
          (λ r x s u t hx hs hu ht. c.add.ensures.encloses.narrow r _ _ (c.cubic_at.ensures.narrow r x s u hx hs hu)
          (c.fourth_at.ensures.encloses.narrow r u t hu ht));
      recent = λ e k h.
          let shown = g.E.Enclosure.shown in
          let a = parts_within shown _ (record {
            num = pos 5097660000 +ℤ pos 29530588861 *ℤ c.args.number;
            below = 999999999;
          }) (2 ^ 49) c.from_frac.result e (omega arith)
          (omega (arith, ints, k.0, k.1)) (omega (arith, ints, k.0, k.1))
          (λ r. rw v at (c.from_frac.ensures.encloses.narrow r)) in
          quartic_within shown _ (2 ^ 49) _ MEAN_NEW_MOON c.from_frac.result c.add.result c.args.powers e a h
          recent_reach
          (λ r x s u t hx hs hu ht. c.add.ensures.encloses.narrow r _ _ (c.cubic_at.ensures.narrow r x s u hx hs hu)
          (c.fourth_at.ensures.encloses.narrow r u t hu ht));
    }
