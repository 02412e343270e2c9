-- What is written of a sample: how many of its lines have each outcome, and how many facts their text has.
use Rattle.std.specs.Prelude.{◌≡◌, ℕ, Bool, true, false, not, List, [], ◌∷◌, length, filter, codes, decimal}
use Rattle.std.specs.List.{concat, list_all}
use Rattle.std.specs.declared.option.Option.{Option}
use Rattle.std.specs.Io.KnownBytes.{Appends}
use Rattle.book_model.specs.declared.fact.Fact.{Fact}
use Rattle.book_model.specs.declared.version.TheConstants.{WRITTEN}
use Rattle.book_model.specs.lines.Outcomes.{LineOutcome, refused, resolved, undecided, void, AreRight, is_shown}
use Rattle.book_model.specs.lines.Outcomes.{is_result}
use Rattle.book_model.specs.lines.Text.{seen_after}
use Rattle.byte_streams.specs.Stream.{AppendsPrefix}
use Rattle.cert_text.specs.Laws.{is_undecided}
use Rattle.conversion.specs.declared.counting.OutcomeKind.{OutcomeKind}
use Rattle.conversion.specs.declared.counting.OutcomeKind.TheVariants.{Decided, Undecided, Void, Refused}

-- whether a fact of the line is void
abbrev pub is_void : LineOutcome → Bool
is_void (refused rule) = false
is_void (resolved x facts) = false
is_void (undecided f u) = false
is_void (void f s) = true

-- whether the line is refused, by itself or by computing
abbrev pub is_refused : LineOutcome → Bool
is_refused (refused rule) = true
is_refused (resolved x facts) = not (is_shown x)
is_refused (undecided f u) = false
is_refused (void f s) = false

-- whether the outcome of a line is of the kind
abbrev pub is_of : OutcomeKind → LineOutcome → Bool
is_of Decided = is_result
is_of Undecided = is_undecided
is_of Void = is_void
is_of Refused = is_refused

-- the facts printed after these lines
abbrev pub seen_after_all : List Fact → List LineOutcome → List Fact
seen_after_all seen [] = seen
seen_after_all seen (o ∷ os) = seen_after_all (seen_after seen o) os

-- how many facts the text of these lines has
abbrev pub facts_in : List LineOutcome → ℕ
facts_in os = length (seen_after_all [] os)

-- sample COUNT SEED decided A undecided B void C refused D facts F
unfoldable pub counts_text : (count seed decided undecided void refused facts : ℕ) → List ℕ
counts_text count seed a b c d facts =
    concat (codes "sample " ∷ decimal count ∷ codes " " ∷ decimal seed ∷ codes " decided " ∷ decimal a
    ∷ codes " undecided " ∷ decimal b ∷ codes " void " ∷
    decimal c
    ∷ codes " refused " ∷ decimal d ∷ codes " facts " ∷ decimal facts ∷ codes "\n" ∷ [])

-- the line of a sample whose lines have these outcomes
abbrev pub sample_text : (count seed : ℕ) → List LineOutcome → List ℕ
sample_text count seed os = counts_text count seed (length (filter is_result os)) (length (filter is_undecided os))
    (length (filter is_void os))
    (length (filter is_refused os)) (facts_in os)

-- the counts of lines stand behind what the sink held, each outcome right for its line
pub record Counted (old new : Option (List ℕ)) (lines : List (List ℕ)) (count seed : ℕ) (all_results : Bool) : Type 0
  where
    pub outcomes : List LineOutcome
    pub right : AreRight WRITTEN lines outcomes
    pub written : Appends old new (sample_text count seed outcomes)
    pub results : all_results ≡ list_all is_result outcomes

-- a prefix of such a line stands there
pub record CountCutShort (old new : Option (List ℕ)) (lines : List (List ℕ)) (count seed : ℕ) : Type 0 where
  pub outcomes : List LineOutcome
  pub right : AreRight WRITTEN lines outcomes
  pub prefix : AppendsPrefix old new (sample_text count seed outcomes)
