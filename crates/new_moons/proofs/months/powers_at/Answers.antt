use Rattle.book_model.specs.Fraction.{power}
use Rattle.book_model.specs.numbers.Expressions.{constant}
use Rattle.book_model.specs.numbers.Fractions.{fraction_of}
use Rattle.new_moons.proofs.Measured.{cube_within, square_within, time_within}
use Rattle.new_moons.proofs.MonthPolynomials.{square_holds, cube_holds}
use Rattle.new_moons.proofs.months.powers_at.Goals as goal

pub returns : goal.returns
returns g c = record {
  holds = λ w d.
      let shown = g.E.Enclosure.shown in
      let t = fraction_of c.args.time in
      let h = c.from_frac-centuries.ensures.encloses.holds w d in
      let s = square_holds shown w t _ (c.square-square.ensures.encloses.holds w (constant t) h) in
      record {
        centuries = h;
        square = s;
        cube = cube_holds shown w t _ (c.mul-cube.ensures.encloses.holds w (constant (power t 2)) (constant t) s h);
      };
  measured = λ e h.
      let shown = g.E.Enclosure.shown in
      let t = time_within shown _ _ c.from_frac-centuries.result e h
      (λ r. c.from_frac-centuries.ensures.encloses.narrow r) in
      let s = square_within shown _ c.from_frac-centuries.result c.square-square.result e t
      (λ r x. c.square-square.ensures.encloses.narrow r x) in
      record {
        centuries = t;
        square = s;
        cube = cube_within shown _ c.from_frac-centuries.result c.mul-cube.result e t c.square-square.result s
            (λ r a b. c.mul-cube.ensures.encloses.narrow r a b);
      };
}
