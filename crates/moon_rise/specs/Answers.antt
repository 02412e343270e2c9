-- What an evaluation over an interval of moments answers.
use Rattle.std.specs.Prelude.{Result, Ok, Err, Bool}
use Rattle.book_model.specs.declared.fail.Fail.{Fail}
use Rattle.moon_rise.specs.declared.walk.AnswerOver.{AnswerOver}

-- the answer of the test, without what is told beside it
abbrev pub answered : Result AnswerOver Fail → Result Bool Fail
answered (Ok all) = Ok all.so
answered (Err f) = Err f
