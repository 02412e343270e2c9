use Rattle.std.proofs.Common.{arith}
use Rattle.book_model.specs.numbers.Expressions.{subtract}
use Rattle.book_model.specs.programs.Leading.{leaf}
use Rattle.book_model.specs.sky.Sun.{sun_of, sun_short_of}
use Rattle.book_model.proofs.Leads.{leaf_within}
use Rattle.sun_core.proofs.Again.{longitude_known}
use Rattle.sun_core.proofs.PassageWidths.{short_within}
use Rattle.sun_core.proofs.passages.degrees_short_again.Goals as goal

pub returns-clause-leads : goal.returns-clause-leads
unfolding sun_short_of
returns-clause-leads g c = λ w y x h k.
    longitude_known _ k (rw c.step.ensures.counted at c.step-2.ensures.counted)
    (c.reduced.ensures.leads w (subtract y (leaf w (sun_of x)))
    (c.sub.ensures.encloses.holds w _ _ h (leaf_within (k.again 0))))

pub returns-clause-measured : goal.returns-clause-measured
returns-clause-measured g c = λ v e b h s.
    let d = short_within g.E.Enclosure.shown _ v c.args.longitude c.args.sun c.sub.result e h s
    (λ r p q. c.sub.ensures.encloses.narrow r p q) in
    c.reduced.ensures.measured v e (omega (arith, b)) d
