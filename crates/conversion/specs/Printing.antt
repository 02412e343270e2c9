-- What is written where rows are printed.
use Rattle.std.specs.Prelude.{◌≡◌, ℕ, Bool, List}
use Rattle.std.specs.List.{list_all}
use Rattle.std.specs.declared.option.Option.{Option}
use Rattle.std.specs.Io.KnownBytes.{Appends}
use Rattle.book_model.specs.declared.version.TheConstants.{WRITTEN}
use Rattle.book_model.specs.lines.Outcomes.{LineOutcome, AreRight, is_result}
use Rattle.book_model.specs.lines.Text.{text}
use Rattle.byte_streams.specs.Stream.{AppendsPrefix}

-- the whole text stands behind what the sink held, each outcome right for its line
pub record Printed (old new : Option (List ℕ)) (lines : List (List ℕ)) (all_results : Bool) : Type 0 where
  pub outcomes : List LineOutcome
  pub right : AreRight WRITTEN lines outcomes
  pub written : Appends old new (text lines outcomes)
  pub results : all_results ≡ list_all is_result outcomes

-- a prefix of such a text stands there
pub record CutShort (old new : Option (List ℕ)) (lines : List (List ℕ)) : Type 0 where
  pub outcomes : List LineOutcome
  pub right : AreRight WRITTEN lines outcomes
  pub prefix : AppendsPrefix old new (text lines outcomes)
