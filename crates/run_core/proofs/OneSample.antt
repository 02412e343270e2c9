-- A sample of which no line is undecided has one line of counts. By book_model's law on one outcome of each line two
-- lists of right outcomes of the same lines are equal, and the counts are a function of the list.
use Rattle.std.proofs.Common.{ℕ, ap}
use Rattle.run_core.specs.Commands.{sample_lines}
use Rattle.book_model.specs.declared.version.TheConstants.{WRITTEN}
use Rattle.cert_text.proofs.OneText.{one_list}
use Rattle.run_core.specs.Laws.{HasOneCount}
use Rattle.conversion.specs.Counting.{sample_text}

pub one_count : (count seed : ℕ) → HasOneCount count seed
one_count count seed = λ os ps h k a b. ap (sample_text count seed)
    (one_list WRITTEN (sample_lines count seed) os ps h k a b)
