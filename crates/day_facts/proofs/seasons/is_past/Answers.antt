use Rattle.std.proofs.Common.{arith, SFits, w64}
use Rattle.std.proofs.lemmas.Int.{to_z-of_z}
use Rattle.book_model.specs.sky.Kinds.{is_on_side_of}
use Rattle.day_facts.proofs.Measured.{turn_about, whole_about}
use Rattle.day_facts.proofs.seasons.is_past.Goals as goal

pub returns-clause-leads : goal.returns-clause-leads
unfolding is_on_side_of
returns-clause-leads g c = λ w x h.
    let f : SFits w64 c.args.degrees = c.ranges.degrees in
    let i = simp to_z-of_z at (c.from_int.ensures.encloses.holds w h.deep) in
    c.less_step.ensures.leads w _ x i h

pub returns-clause-close : goal.returns-clause-close
returns-clause-close g c = λ s v e b h.
    let f : SFits w64 c.args.degrees = c.ranges.degrees in
    let n = whole_about g.E.Enclosure.shown _ c.args.degrees c.from_int.result e s
    (simp to_z-of_z at c.from_int.ensures.encloses.narrow) in
    c.less_step.ensures.close 0 v (omega (arith, b)) n (turn_about v _ h)
