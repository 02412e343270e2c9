use Rattle.std.proofs.Common.{SFits, w64}
use Rattle.std.proofs.lemmas.Int.{to_z-of_z}
use Rattle.book_model.specs.sky.Horizon.{depression_of}
use Rattle.rise_set.proofs.Measured.{first_moment}
use Rattle.rise_set.proofs.depression.moment_of_depression.Goals as goal

pub returns-clause-leads : goal.returns-clause-leads
unfolding depression_of
returns-clause-leads g c = λ w a h.
    let f : SFits w64 c.args.day = c.ranges.day in
    let q = simp to_z-of_z at (c.quarter.ensures.encloses.holds w h.sine.deep) in
    c.settled.ensures.leads w a _ h q

pub returns-clause-measured : goal.returns-clause-measured
returns-clause-measured g c = λ p h e.
    let f : SFits w64 c.args.day = c.ranges.day in
    let q = simp to_z-of_z at c.quarter.ensures.measured in
    c.settled.ensures.measured p (first_moment _ (q e h)) e
