use Rattle.book_model.specs.declared.site.Site.TheVariants.{Offset}
use Rattle.rise_set.proofs.Measured.{one_within, size_within, within_reach}
use Rattle.rise_set.proofs.offsets.is_out_of_reach.Goals as goal

pub returns-clause-measured : goal.returns-clause-measured
returns-clause-measured g c = λ v e h.
    let shown = g.E.Enclosure.shown in
    within_reach Offset v (shown c.from_int.result) (shown c.size.result) c.less_step.result
    (one_within shown _ c.from_int.result e (λ r. c.from_int.ensures.encloses.narrow r))
    (size_within shown _ v c.args.offset c.size.result e h (λ r p. c.size.ensures.encloses.narrow r p))
    c.less_step.ensures.decided c.less_step.ensures.open
