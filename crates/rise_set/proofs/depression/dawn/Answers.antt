use Rattle.std.proofs.Common.{SFits, w64}
use Rattle.std.proofs.lemmas.Int.{to_z-of_z}
use Rattle.book_model.specs.sky.Horizon.{dawn_of}
use Rattle.rise_set.proofs.depression.dawn.Goals as goal

pub returns-clause-leads : goal.returns-clause-leads
unfolding dawn_of
returns-clause-leads g c = λ w a h.
    let f : SFits w64 c.args.day = c.ranges.day in
    let l = simp to_z-of_z at c.moment_of_depression.ensures.leads in
    rw c.horizon_at-horizon.ensures.location at (l w a (c.horizon_at-horizon.ensures.holds w a h))

pub returns-clause-measured : goal.returns-clause-measured
returns-clause-measured g c = λ p d h e.
    let f : SFits w64 c.args.day = c.ranges.day in
    let m = simp to_z-of_z at c.moment_of_depression.ensures.measured in
    m (c.horizon_at-horizon.ensures.measured e p d) h e
