use Rattle.encl_core.proofs.Keeping.{kept_without_test}
use Rattle.book_model.proofs.FactRuns.{correction_few}
use Rattle.time_scales.proofs.KeptCorrections.{kept_about}
use Rattle.time_scales.proofs.dynamical_time.kept_correction.Goals as goal

pub keep-requires : goal.keep-requires
keep-requires g c = record {
  evaluated = kept_without_test c.span.result (correction_few _) c.in_ok-days.ensures.leads c.span.ensures.holds;
  measured = kept_about g.E.Enclosure.shown _ c.span.result _
      (λ p. c.in_ok-days.ensures.measured (rw c.BITS.ensures at p)) c.span.ensures.holds
      c.span.ensures.tight;
}
