use Rattle.conversion.proofs.PrintedLemmas.{counted}
use Rattle.conversion.proofs.counting.count.Goals as goal

pub returns : goal.returns
returns g c = record {
  performs = record {
    ok = counted _ _ _ c.args.count c.args.seed c.in_ok-outcomes.outcomes.items _ c.in_ok-outcomes.ensures.right
        (rw (c.deref-2.ensures.value, c.in_ok-text.ensures.text, c.deref.ensures.value) at c.in_ok-write_all.ensures.ok)
        (rw c.deref-3.ensures.value at c.all_found.ensures);
    fault = λ e. absurd (cc);
    memory = λ e. absurd (cc);
    cause = λ e. absurd (cc);
    later = c.in_ok-write_all.ensures.cause.later;
  };
  memory = λ e. absurd (cc);
}
