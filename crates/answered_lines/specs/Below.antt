-- What the crates below say of an answer and of a check, given on.
pub use Rattle.book_model.specs.lines.Lines.{lines_of}
pub use Rattle.book_model.specs.lines.Outcomes.{LineOutcome}
pub use Rattle.run_core.specs.Reading.{grammar_of}
pub use Rattle.run_core.specs.Readers.TheConstants.{LONGEST_FILE}
pub use Rattle.run_core.specs.Answering.{Answered, AnswerCutShort, answer_text, brief_text}
pub use Rattle.run_core.specs.Writing.{Performs}
pub use Rattle.run_core.specs.Checking.{ChecksText, CheckCutShort, RefusesText}
pub use Rattle.run_core.specs.Run.{IsOfCheck}
