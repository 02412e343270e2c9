use Rattle.std.proofs.Common.{arith, pos, ◌*◌, ◌^◌, ◌+ℤ◌, SFits, w64}
use Rattle.std.proofs.lemmas.Int.{to_z-of_z, ints}
use Rattle.book_model.specs.sky.Kinds.{midnight_after_of}
use Rattle.book_model.proofs.Leads.{leads_answer}
use Rattle.encl_core.proofs.Measuring.{looser}
use Rattle.day_facts.proofs.solstice.MidnightAfterDayMoment.at.Goals as goal

pub returns-clause-leads : goal.returns-clause-leads
unfolding midnight_after_of
returns-clause-leads g c = λ w d.
    let f : SFits w64 c.args.day = c.ranges.day in
    let n : SFits w64 (c.args.day +ℤ pos 1) = omega (arith, ints, c.requires.day.0, c.requires.day.1) in
    leads_answer (simp to_z-of_z at (c.midnight.ensures.encloses.holds w d))

pub returns-clause-measured : goal.returns-clause-measured
returns-clause-measured g c = λ e.
    let f : SFits w64 c.args.day = c.ranges.day in
    let n : SFits w64 (c.args.day +ℤ pos 1) = omega (arith, ints, c.requires.day.0, c.requires.day.1) in
    let m = simp to_z-of_z at c.midnight.ensures.measured in
    looser _ _ _ _ (3 * 2 ^ 8) (2 ^ 33) _ (omega (arith, ints)) (omega (arith, ints)) (omega arith)
    (m e (omega (arith, ints, c.requires.day.0), omega (arith, ints, c.requires.day.1)))
