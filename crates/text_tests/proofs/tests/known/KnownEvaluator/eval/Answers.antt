use Rattle.std.proofs.Common.{sym, ◌∙◌, arith}
use Rattle.std.proofs.lemmas.Int.{ints}
use Rattle.text_tests.proofs.KnownFacts.{right_1990, right_2024, right_next_day, right_early}
use Rattle.text_tests.proofs.tests.known.KnownEvaluator.eval.Goals as goal

pub returns-then-day-lt-FIRST_DAY : goal.returns-then-day-lt-FIRST_DAY
returns-then-day-lt-FIRST_DAY g c = right_early c.args.fact (omega (arith, ints))

pub returns-in-726592 : goal.returns-in-726592
returns-in-726592 g c = right_1990 c.args.fact (sym c.kind.ensures ∙ c.in-Dt.is) (omega (arith, ints))

pub returns-in-738926 : goal.returns-in-738926
returns-in-738926 g c = right_2024 c.args.fact (sym c.kind.ensures ∙ c.in-Dt.is) (omega (arith, ints))

pub returns-in-738927 : goal.returns-in-738927
returns-in-738927 g c = right_next_day c.args.fact (sym c.kind.ensures ∙ c.in-Dt.is) (omega (arith, ints))
