use Rattle.std.proofs.Common.{SFits, w64}
use Rattle.std.proofs.lemmas.Int.{to_z-of_z}
use Rattle.book_model.specs.sky.NewMoons.{node_term_of}
use Rattle.new_moons.proofs.Measured.{node_within}
use Rattle.new_moons.proofs.moons.node_term.Goals as goal

pub returns : goal.returns
unfolding node_term_of
returns g c =
    let f : SFits w64 c.args.number = c.ranges.number in
    record {
      holds = λ w d h.
          let n = simp to_z-of_z at c.node_by_months.ensures.holds in
          c.mul_frac.ensures.encloses.holds w _ (c.sin_deg.ensures.encloses.holds w _ (n w d h));
      measured = λ e k h.
          let n = simp to_z-of_z at c.node_by_months.ensures.measured in
          node_within g.E.Enclosure.shown _ c.node_by_months.result c.sin_deg.result c.mul_frac.result e (n e k h)
          (λ r x. c.sin_deg.ensures.encloses.narrow r x) (λ r x. c.mul_frac.ensures.encloses.narrow r x);
    }
