use Rattle.std.proofs.Common.{rules, SFits, w64}
use Rattle.std.proofs.lemmas.Int.{to_z-of_z}
use Rattle.encl_core.proofs.Keeping.{taken_without_test}
use Rattle.time_scales.proofs.KeptCorrections.{taken_about}
use Rattle.time_scales.proofs.Measured.{correction_looser}
use Rattle.time_scales.proofs.dynamical_time.correction_once.Goals as goal

pub returns-in-Some-clause-leads : goal.returns-in-Some-clause-leads
returns-in-Some-clause-leads g c =
    let f : SFits w64 c.args.year = search rules in
    taken_without_test c.in-Some.days c.args.trail.now.count (simp to_z-of_z at c.in-Some.ensures.evaluated)
    c.from_span.ensures.holds

pub returns-in-Some-clause-measured : goal.returns-in-Some-clause-measured
returns-in-Some-clause-measured g c = taken_about g.E.Enclosure.shown _ c.in-Some.days c.from_span.result
    (rw c.BITS.ensures at c.in-Some.ensures.measured)
    c.from_span.ensures.narrow

pub returns-in-None-clause-measured : goal.returns-in-None-clause-measured
returns-in-None-clause-measured g c = λ e. correction_looser g.E.Enclosure.shown c.kept_correction.result
    (c.kept_correction.ensures.measured e)
