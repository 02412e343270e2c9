-- A text, or a line of counts, that is written whole, and a text that is cut.
use Rattle.std.proofs.Common.{◌≡◌, ◌∙◌, ◌≤◌, ℕ, Bool, List, map, inr}
use Rattle.std.specs.Prelude.{Result, Ok, Err}
use Rattle.std.specs.List.{list_all}
use Rattle.std.specs.declared.option.Option.{Option}
use Rattle.std.specs.Io.KnownBytes.{Appends}
use Rattle.book_model.specs.declared.version.TheConstants.{WRITTEN}
use Rattle.book_model.specs.lines.Outcomes.{AreRight, is_result}
use Rattle.book_model.specs.lines.Text.{text}
use Rattle.byte_streams.specs.Stream.{AppendsPrefix, Rose}
use Rattle.jobs_core.specs.declared.outcome.Outcome.{Outcome}
use Rattle.jobs_core.specs.Outcomes.{line_outcome}
use Rattle.conversion.specs.Counting.{Counted, sample_text}
use Rattle.conversion.specs.Printing.{Printed, CutShort}
use Rattle.conversion.specs.Writing.{Performs}
use Rattle.conversion.specs.declared.text.WriteStop.{WriteStop}
use Rattle.conversion.specs.declared.text.WriteStop.TheVariants.{Fault}
use Rattle.conversion.proofs.RightLemmas.{all_results}

-- lines, outcomes that are right for them, and their text
pub printed : (old new : Option (List ℕ)) (lines : List (List ℕ)) (os : List Outcome) (all : Bool)
    → AreRight WRITTEN lines (map line_outcome os)
    → Appends old new (text lines (map line_outcome os)) → all ≡ list_all (λ o. is_result (line_outcome o)) os
    → Printed old new lines all
printed old new lines os all right written results = record {
  outcomes = map line_outcome os;
  right = right;
  written = written;
  results = results ∙ all_results os;
}

-- lines, outcomes that are right for them, and their counts
pub counted : (old new : Option (List ℕ)) (lines : List (List ℕ)) (count seed : ℕ) (os : List Outcome) (all : Bool)
    → AreRight WRITTEN lines (map line_outcome os)
    → Appends old new (sample_text count seed (map line_outcome os))
    → all ≡ list_all (λ o. is_result (line_outcome o)) os
    → Counted old new lines count seed all
counted old new lines count seed os all right written results = record {
  outcomes = map line_outcome os;
  right = right;
  written = written;
  results = results ∙ all_results os;
}

-- lines, outcomes that are right for them, and a prefix of their text
pub cut_short : (old new : Option (List ℕ)) (lines : List (List ℕ)) (os : List Outcome)
    → AreRight WRITTEN lines (map line_outcome os)
    → AppendsPrefix old new (text lines (map line_outcome os)) → CutShort old new lines
cut_short old new lines os right prefix = record { outcomes = map line_outcome os; right = right; prefix = prefix }

-- a call that failed has left a cut, whether a write failed or memory ran out
pub performs_cut : {S T : Type 0} {written : S → Option (List ℕ)} {faults : S → ℕ} {old new : S} {finished : T → Type 0}
    {cut : Type 0}
    {result : Result T WriteStop} (stop : WriteStop) → result ≡ Err stop → cut
    → (stop ≡ Fault → Rose (faults old) (faults new)) → faults old ≤ faults new
    → Performs written faults old new finished cut result
performs_cut {result = Ok x} stop fails left rose later = absurd (cc)
performs_cut {result = Err e} stop fails left rose later = record {
  ok = tt;
  fault = λ _. left;
  memory = λ _. inr left;
  cause = λ is_fault. rose (cc);
  later = later;
}
