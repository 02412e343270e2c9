use Rattle.std.proofs.Common.{arith, ◌+◌, ◌^◌}
use Rattle.time_scales.proofs.Measured.{recent_moment}
use Rattle.day_facts.proofs.HinduWidths.{years_within}
use Rattle.std.proofs.lemmas.Result.{err_from_is_err_and}
use Rattle.day_facts.proofs.zodiac.hindu_year.Goals as goal

pub returns-clause-close : goal.returns-clause-close
returns-clause-close g c = λ v e b h.
    let s = c.in_ok-longitude.ensures.measured v e (omega (arith, b)) h in
    c.floor_step.ensures.close (v + 2 ^ 34) (omega (arith, b))
    (years_within g.E.Enclosure.shown _ v c.args.t c.in_ok-longitude.longitude c.years_gone.result c.from_frac.result
    c.add.result e (recent_moment v _ h) s
    (λ r p q. c.years_gone.ensures.encloses.narrow r p q) (λ r. c.from_frac.ensures.encloses.narrow r)
    (λ r p q. c.add.ensures.encloses.narrow r p q))

pub returns-in_err-longitude-clause-close : goal.returns-in_err-longitude-clause-close
returns-in_err-longitude-clause-close g c = λ v e b h.
    let fails = err_from_is_err_and c.from_residual.result c.from_residual.ensures.1 in
    rw (fails.1, fails.2) (c.in_err-longitude.ensures.measured v e (omega (arith, b)) h)
