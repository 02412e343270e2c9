use Rattle.book_model.proofs.Older.{composed_tests, composed_numbers, composed_expressions}
use Rattle.book_model.proofs.laws.older_formulas.Goals as goal

pub returns-clause-tests : goal.returns-clause-tests
returns-clause-tests c = composed_tests

pub returns-clause-numbers : goal.returns-clause-numbers
returns-clause-numbers c = composed_numbers

pub returns-clause-expressions : goal.returns-clause-expressions
returns-clause-expressions c = composed_expressions
