use Rattle.std.proofs.Common.{arith, ◌+◌, ◌*◌, ◌^◌}
use Rattle.std.proofs.lemmas.Int.{ints}
use Rattle.encl_core.proofs.Measuring.{looser}
use Rattle.sun_core.proofs.StarWidths.{tilt_within, crossing_within, advance_within}
use Rattle.sun_core.proofs.stars.precession_at.Goals as goal

pub returns-clause-measured : goal.returns-clause-measured
returns-clause-measured g c = λ v e l h.
    let shown = g.E.Enclosure.shown in
    let t = tilt_within shown _ v c.args.c c.tilt_at.result e h (λ r x. c.tilt_at.ensures.encloses.narrow r x) in
    let p = crossing_within shown _ v c.args.c c.crossing_at.result e h
    (λ r x. c.crossing_at.ensures.encloses.narrow r x)
    in
    let a = advance_within shown _ v c.args.c c.advance_at.result e h (λ r x. c.advance_at.ensures.encloses.narrow r x)
    in
    looser _ _ _ _ (7 * (2 * v + 2 ^ 14) + 2 ^ 23) (14 * v + 2 ^ 24) _ (omega (arith, ints)) (omega (arith, ints))
    (omega arith)
    (c.precession_by.ensures.measured (2 * v + 2 ^ 14) e (omega (arith, l)) t p a)
