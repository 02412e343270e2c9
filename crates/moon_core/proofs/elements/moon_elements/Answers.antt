use Rattle.std.proofs.Common.{◌+◌, ◌^◌}
use Rattle.book_model.specs.declared.time_tables.TheConstants.{NOON_2000}
use Rattle.book_model.specs.numbers.Bounds.{Reach}
use Rattle.book_model.specs.numbers.Expressions.{argument, constant}
use Rattle.book_model.specs.numbers.Fractions.{fraction_of}
use Rattle.encl_core.proofs.Measuring.{measured_argument}
use Rattle.sun_core.proofs.Measured.{tabled, days_of}
use Rattle.moon_core.proofs.MomentElements.{centuries_again, elements_lead}
use Rattle.moon_core.proofs.elements.moon_elements.Goals as goal

pub returns-clause-leads : goal.returns-clause-leads
returns-clause-leads g c = λ w x h.
    elements_lead x _ (c.in_ok-moment.ensures.leads w x h)
    (λ d r. c.elements_at.ensures.holds w _ (c.sub.ensures.encloses.holds w d _ r
    (c.from_frac.ensures.encloses.holds w r.deep)))

pub returns-clause-again : goal.returns-clause-again
returns-clause-again g c = λ w x h.
    record {
      again =
          centuries_again x
          (elements_lead x _ (c.in_ok-moment.ensures.leads w x h)
          (λ d r. c.elements_at.ensures.holds w _ (c.sub.ensures.encloses.holds w d _ r
          (c.from_frac.ensures.encloses.holds w r.deep))));
    }

pub returns-clause-measured : goal.returns-clause-measured
returns-clause-measured g c = λ v e b h.
    let r : Reach = record { width = v + 2 ^ 17; bounds = tabled } in
    let m = c.in_ok-moment.ensures.measured v e b h in
    record {
      short = b;
      keep =
          c.elements_at.ensures.narrow r days_of
          (c.sub.ensures.encloses.narrow r (argument 0) (constant (fraction_of NOON_2000))
          (measured_argument g.E.Enclosure.shown _ _ _ (v + 2 ^ 17) 0 c.in_ok-moment.moment m)
          (c.from_frac.ensures.encloses.narrow r));
    }
