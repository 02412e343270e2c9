-- The text of lines and their outcomes, one block further.
use Rattle.std.proofs.Common.{◌≡◌, ℕ, ◌+◌, ◌<◌, ◌≤◌, List, [], ◌++◌, length, drop, get_or, map, refl, arith}
use Rattle.std.proofs.lemmas.Grind.{common_steps}
use Rattle.std.proofs.lemmas.List.{drop_more}
use Rattle.std.specs.Prelude.{Ok, Err, Result, OnOk, OnErr}
use Rattle.std.specs.Io.KnownBytes.{Appends}
use Rattle.std.specs.declared.option.Option.{Option}
use Rattle.book_model.specs.declared.fact.Fact.{Fact}
use Rattle.book_model.specs.lines.Outcomes.{LineOutcome}
use Rattle.book_model.specs.lines.Text.{block_text, seen_after, text_from, end_text}
use Rattle.jobs_core.specs.declared.outcome.Outcome.{Outcome}
use Rattle.jobs_core.specs.Outcomes.{line_outcome}
use Rattle.byte_streams.specs.Stream.{Wrote, AppendsPrefix}
use Rattle.byte_streams.proofs.Flow.{buffered_on, buffered_prefix, wrote_flushed, prefix_then}

-- the text from a line on is its block and the text from the next line on
text_split : (seen : List Fact) (i : ℕ) (lines : List (List ℕ)) (os : List Outcome) (d : List ℕ) (o : Outcome)
    → i < length lines → i < length os → o
    ≡ get_or os i o
    → text_from seen i (drop i lines) (map line_outcome (drop i os))
    ≡ block_text seen (i + 1) (get_or lines i d) (line_outcome o)
    ++ text_from (seen_after seen (line_outcome o)) (i + 1) (drop (i + 1) lines) (map line_outcome (drop (i + 1) os))
text_split seen i lines os d o h k e = rw (drop_more lines i d h, drop_more os i o k, ← e) refl

-- one more block is put
pub text_on : (a b c : Option (List ℕ)) (t w w' : List ℕ) (seen seen' : List Fact) (i : ℕ) (lines : List (List ℕ))
    (os : List Outcome) (d : List ℕ)
    (o : Outcome)
    → i < length lines → i < length os → o ≡ get_or os i o
    → Wrote a b t (w ++ text_from seen i (drop i lines) (map line_outcome (drop i os)))
    → seen' ≡ seen_after seen (line_outcome o)
    → Wrote b c (w ++ block_text seen (i + 1) (get_or lines i d) (line_outcome o)) w'
    → Wrote a c t (w' ++ text_from seen' (i + 1) (drop (i + 1) lines) (map line_outcome (drop (i + 1) os)))
text_on a b c t w w' seen seen' i lines os d o h k e old s new =
    rw s (buffered_on a b c t w _ w' _ (rw (text_split seen i lines os d o h k e) at old) new)

-- a prefix of one more block is put
pub text_prefix : (a b c : Option (List ℕ)) (t w : List ℕ) (seen : List Fact) (i : ℕ) (lines : List (List ℕ))
    (os : List Outcome) (d : List ℕ) (o : Outcome)
    → i < length lines → i < length os → o ≡ get_or os i o
    → Wrote a b t (w ++ text_from seen i (drop i lines) (map line_outcome (drop i os)))
    → AppendsPrefix b c (w ++ block_text seen (i + 1) (get_or lines i d) (line_outcome o))
    → AppendsPrefix a c t
text_prefix a b c t w seen i lines os d o h k e old new = buffered_prefix a b c t w _ _
    (rw (text_split seen i lines os d o h k e) at old) new

-- after the last block the end is left
pub text_end : (a b : Option (List ℕ)) (t w : List ℕ) (seen : List Fact) (i n m : ℕ) (lines : List (List ℕ))
    (os : List LineOutcome) → length lines ≤ i → i ≡ n
    → m ≡ length seen
    → Wrote a b t (w ++ text_from seen i (drop i lines) os) → Wrote a b t (w ++ end_text n m)
text_end a b t w seen i n m lines os h e k old =
    let over : drop i lines ≡ [] = grind (arith, common_steps) in
    let done = rw over at old in
    rw (← e, k) done

-- the last call writes what is left
pub text_ended : {T E : Type 0} (r : Result T E) (a b c : Option (List ℕ)) (t left : List ℕ) → Wrote a b t left
    → OnOk r (Appends b c left)
    → OnOk r (Appends a c t)
text_ended (Ok x) a b c t left old new = wrote_flushed a b c t left old new
text_ended (Err e) a b c t left old new = tt

-- the last call writes a prefix of what is left
pub text_cut : {T E : Type 0} (r : Result T E) (a b c : Option (List ℕ)) (t left : List ℕ) → Wrote a b t left
    → OnErr r (AppendsPrefix b c left)
    → OnErr r (AppendsPrefix a c t)
text_cut (Ok x) a b c t left old new = tt
text_cut (Err e) a b c t left old new = prefix_then a b c t left old new
