use Rattle.std.proofs.Common.{sym, ◌≡◌}
use Rattle.book_model.specs.declared.crescent_tables.TheConstants.{CRESCENT_DEPRESSION}
use Rattle.book_model.specs.numbers.Expressions.{constant}
use Rattle.book_model.specs.numbers.Fractions.{fraction_of}
use Rattle.crescent.proofs.Evenings.{depression_within}
use Rattle.crescent.proofs.evening.Evenings.of.Goals as goal

pub invariant_of-result : goal.invariant_of-result
invariant_of-result g c =
    let here : c.horizon_at.result.location ≡ c.args.observer.now =
    rw c.location.ensures.location at c.horizon_at.ensures.location in (
      c.horizon_at.ensures.whole (constant (fraction_of CRESCENT_DEPRESSION))
          (λ w d. c.from_frac.ensures.encloses.holds w d)
          (λ e p. depression_within g.E.Enclosure.shown _ c.from_frac.result e
          (λ r. c.from_frac.ensures.encloses.narrow r)),
      sym here,
    )
