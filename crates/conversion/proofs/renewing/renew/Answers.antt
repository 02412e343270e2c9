use Rattle.std.proofs.Common.{arith}
use Rattle.std.proofs.lemmas.List.{length-map}
use Rattle.std.proofs.lemmas.Result.{err_from_is_err_and}
use Rattle.jobs_core.specs.Outcomes.{line_outcome}
use Rattle.conversion.specs.Echoes.{words_in}
use Rattle.conversion.proofs.EchoLemmas.{stand_length}
use Rattle.conversion.proofs.PrintedLemmas.{performs_cut}
use Rattle.conversion.proofs.RenewLemmas.{renews_stand, renewed_whole, renewed_cut}
use Rattle.conversion.proofs.renewing.renew.Goals as goal

pub write_text-requires-clause-same : goal.write_text-requires-clause-same
write_text-requires-clause-same g c =
    let e = stand_length _ _ (renews_stand _ _ c.in_ok-outcomes.ensures.renews) in
    omega (
      arith,
      e,
      length-map c.in_ok-outcomes.outcomes.items line_outcome,
      length-map c.args.lines.now words_in,
      c.deref.ensures.len,
    )

pub write_text-requires-clause-stand : goal.write_text-requires-clause-stand
write_text-requires-clause-stand g c = rw c.deref.ensures.value (renews_stand _ _ c.in_ok-outcomes.ensures.renews)

pub returns-in_err-write_text : goal.returns-in_err-write_text
returns-in_err-write_text g c =
    let fails = err_from_is_err_and c.from_residual-in_err-write_text.result c.from_residual-in_err-write_text.ensures.1
    in
    let cut = renewed_cut _ _ _ c.in_ok-outcomes.outcomes.items c.in_ok-outcomes.ensures.renews
    (rw c.deref.ensures.value at c.in_err-write_text.ensures.err) in
    record {
      performs = performs_cut fails.0 fails.1 cut (λ is_fault. c.in_err-write_text.ensures.fault (cc fails.2))
          c.in_err-write_text.ensures.later;
    }

pub returns : goal.returns
returns g c = record {
  performs = record {
    ok = renewed_whole _ _ _ c.in_ok-outcomes.outcomes.items _ c.in_ok-outcomes.ensures.renews
        (rw c.deref.ensures.value at c.in_ok-write_text.ensures.ok)
        (rw c.deref-2.ensures.value at c.all_found.ensures);
    fault = λ e. absurd (cc);
    memory = λ e. absurd (cc);
    cause = λ e. absurd (cc);
    later = c.in_ok-write_text.ensures.later;
  };
}
