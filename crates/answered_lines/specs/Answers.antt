-- The answers to lines, one behind another.
use Rattle.std.specs.Prelude.{ℕ, ◌≤◌, List, [], ◌∷◌, ◌++◌, length, take}
use Rattle.std.specs.declared.option.Option.{Option}
use Rattle.std.specs.Io.KnownBytes.{Appends, Consumes, IsAtEnd}
use Rattle.book_model.specs.declared.version.TheConstants.{WRITTEN}
use Rattle.book_model.specs.lines.Outcomes.{LineOutcome, AreRight}
use Rattle.byte_streams.specs.Stream.{AppendsPrefix}
use Rattle.answered_lines.specs.Below.{answer_text, lines_of}
use Rattle.answered_lines.specs.Lines.{ended_lines, plain_lines}
use Rattle.run_core.specs.Writers.WriteStop.{WriteStop}
use Rattle.run_core.specs.Writers.WriteStop.TheVariants as stop
use Rattle.run_core.specs.declared.status.Status.{Status}
use Rattle.run_core.specs.declared.status.Status.TheVariants.{Done, Mixed, Words, ReadFault, WriteFault, Memory}
use Rattle.run_core.specs.declared.status.Status.TheVariants.{TooLarge, BadText}

-- for each line what stands for it by itself
abbrev pub answers_text : List (List ℕ) → List LineOutcome → List ℕ
answers_text [] os = []
answers_text (line ∷ lines) [] = []
answers_text (line ∷ lines) (o ∷ os) = answer_text line o ++ answers_text lines os

-- the answers to lines, each of an outcome that is right for its line, stand behind what the sink held
pub record AnswersAll (old new : Option (List ℕ)) (lines : List (List ℕ)) : Type 0 where
  pub outcomes : List LineOutcome
  pub right : AreRight WRITTEN lines outcomes
  pub written : Appends old new (answers_text lines outcomes)

-- a prefix of the answers to the first of the lines stands there
pub record AnswersCut (old new : Option (List ℕ)) (lines : List (List ℕ)) : Type 0 where
  pub count : ℕ
  pub within : count ≤ length lines
  pub outcomes : List LineOutcome
  pub right : AreRight WRITTEN (take count lines) outcomes
  pub prefix : AppendsPrefix old new (answers_text (take count lines) outcomes)

-- the source was read to its end, and each line of its bytes is answered
pub record AnswersInput (left now old new : Option (List ℕ)) : Type 0 where
  pub input : List ℕ
  pub read : Consumes left now input
  pub end : IsAtEnd now
  pub answered : AnswersAll old new (lines_of input)

-- some bytes of the source were read, and each line that ended in them is answered
pub record AnswersEnded (left now old new : Option (List ℕ)) : Type 0 where
  pub input : List ℕ
  pub read : Consumes left now input
  pub answered : AnswersAll old new (plain_lines (ended_lines [] input))

-- some bytes of the source were read, and a prefix of the answers to the first of their lines stands there
pub record InputCut (left now old new : Option (List ℕ)) : Type 0 where
  pub input : List ℕ
  pub read : Consumes left now input
  pub answered : AnswersCut old new (lines_of input)

-- how answering ends where a write failed or memory ran out
abbrev pub stopped : WriteStop → Status
stopped stop.Fault = WriteFault
stopped stop.Memory = Memory

-- it ends so
abbrev pub IsStopped : Status → Type 0
IsStopped Done = ⊥
IsStopped Mixed = ⊥
IsStopped Words = ⊥
IsStopped ReadFault = ⊥
IsStopped WriteFault = Unit {0}
IsStopped Memory = Unit {0}
IsStopped TooLarge = ⊥
IsStopped BadText = ⊥

-- how the answering of lines ends
abbrev pub IsOfLines : Status → Type 0
IsOfLines Done = Unit {0}
IsOfLines Mixed = ⊥
IsOfLines Words = ⊥
IsOfLines ReadFault = Unit {0}
IsOfLines WriteFault = Unit {0}
IsOfLines Memory = Unit {0}
IsOfLines TooLarge = ⊥
IsOfLines BadText = ⊥
