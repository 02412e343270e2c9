-- When an answer is right for a fact.
use Rattle.book_model.specs.declared.fact.Fact.{Fact}
use Rattle.book_model.specs.sky.Facts.{IsFactValue, IsTrueWith, IsNear, IsVoidAt}
use Rattle.oracle_core.specs.declared.evaluator.Answer.{Answer}
use Rattle.oracle_core.specs.declared.evaluator.Answer.TheVariants.{Value, Undecided, Void}

-- a value goes with a fact that is true with it, which it may have; an undecided test with one that is near
-- there; a void with one that is void there
abbrev pub IsRightAnswer : Fact → Answer → Type 0
IsRightAnswer f (Value v) = IsTrueWith f v × IsFactValue v
IsRightAnswer f (Undecided u) = IsNear f u
IsRightAnswer f (Void s) = IsVoidAt f s
