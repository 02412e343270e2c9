use Rattle.std.proofs.lemmas.Result.{err_from_is_err_and}
use Rattle.time_scales.proofs.Measured.{later_moment, later_difference_within}
use Rattle.time_scales.proofs.dynamical_time.from_dynamical.Goals as goal

pub returns-clause-recent : goal.returns-clause-recent
returns-clause-recent g c = λ v e b h.
    later_difference_within g.E.Enclosure.shown _ v c.args.t c.in_ok-correction.correction c.sub.result e
    c.in_ok-correction.ensures.in_table h
    (c.in_ok-correction.ensures.measured v e b (later_moment v _ h)) (λ r x y. c.sub.ensures.encloses.narrow r x y)

pub returns-in_err-correction-clause-recent : goal.returns-in_err-correction-clause-recent
returns-in_err-correction-clause-recent g c = λ v e b h.
    let fails = err_from_is_err_and c.from_residual.result c.from_residual.ensures.1 in
    rw (fails.1, fails.2) (c.in_err-correction.ensures.measured v e b (later_moment v _ h))
