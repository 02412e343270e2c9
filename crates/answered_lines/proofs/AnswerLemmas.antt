-- Answers to lines, and then to more: all of them, or a prefix of the answers to the first.
use Rattle.std.proofs.Common.{◌≡◌, ◌∙◌, sym, ap, refl, ℕ, suc, ◌+◌, ◌⊎◌, inl, inr, Bool, List, [], ◌∷◌, ◌++◌, length}
use Rattle.std.proofs.Common.{take, append_assoc, append-nil, length-append, zero-add, arith}
use Rattle.std.proofs.lemmas.List.{take-append-le}
use Rattle.std.specs.Prelude.{Err}
use Rattle.std.specs.declared.option.Option.{Option}
use Rattle.std.specs.Io.KnownBytes.{Keeps}
use Rattle.book_model.specs.declared.version.TheConstants.{WRITTEN}
use Rattle.book_model.specs.lines.Outcomes.{LineOutcome, AreRight}
use Rattle.byte_streams.proofs.Flow.{appends_none, appends_on, appends_kept, prefix_none, prefix_second}
use Rattle.answered_lines.specs.Below.{Answered, AnswerCutShort, Performs, answer_text}
use Rattle.run_core.specs.Writers.WriteStop.{WriteStop}
use Rattle.run_core.specs.Writers.WriteStop.TheVariants as stop
use Rattle.answered_lines.specs.Answers.{answers_text, AnswersAll, AnswersCut}

right-append : (ls ms : List (List ℕ)) (os ps : List LineOutcome) → AreRight WRITTEN ls os → AreRight WRITTEN ms ps
    → AreRight WRITTEN (ls ++ ms) (os ++ ps)
right-append [] ms [] ps h k = k
right-append [] ms (o ∷ os) ps h k = absurd h
right-append (l ∷ ls) ms [] ps h k = absurd h
right-append (l ∷ ls) ms (o ∷ os) ps h k = (h.0, right-append ls ms os ps h.1 k)

answers_text-append : (ls ms : List (List ℕ)) (os ps : List LineOutcome) → AreRight WRITTEN ls os
    → answers_text (ls ++ ms) (os ++ ps) ≡ answers_text ls os ++ answers_text ms ps
answers_text-append [] ms [] ps h = refl
answers_text-append [] ms (o ∷ os) ps h = absurd h
answers_text-append (l ∷ ls) ms [] ps h = absurd h
answers_text-append (l ∷ ls) ms (o ∷ os) ps h =
    ap (λ t. answer_text l o ++ t) (answers_text-append ls ms os ps h.1)
    ∙ sym (append_assoc (answer_text l o) (answers_text ls os) (answers_text ms ps))

-- no line is answered yet
pub none_answered : (a : Option (List ℕ)) → AnswersAll a a []
none_answered a = record { outcomes = []; right = tt; written = appends_none a }

-- lines are answered, and then more
pub all_on : (a b c : Option (List ℕ)) (ls ms : List (List ℕ)) → AnswersAll a b ls → AnswersAll b c ms
    → AnswersAll a c (ls ++ ms)
all_on a b c ls ms h k = record {
  outcomes = h.outcomes ++ k.outcomes;
  right = right-append ls ms h.outcomes k.outcomes h.right k.right;
  written = rw (answers_text-append ls ms h.outcomes k.outcomes h.right)
      (appends_on a b c (answers_text ls h.outcomes) (answers_text ms k.outcomes) h.written k.written);
}

-- as many lines as there are, and more of those behind them
take_past : (ls ms : List (List ℕ)) (n : ℕ) → take (length ls + n) (ls ++ ms) ≡ ls ++ take n ms
take_past [] ms n = rw (zero-add n) refl
take_past (l ∷ ls) ms n = let one : length (l ∷ ls) + n ≡ suc (length ls + n) = omega arith in
    rw one (ap (λ t. l ∷ t) (take_past ls ms n))

-- lines are answered, and then a prefix of more is written
pub cut_on : (a b c : Option (List ℕ)) (ls ms : List (List ℕ)) → AnswersAll a b ls → AnswersCut b c ms
    → AnswersCut a c (ls ++ ms)
cut_on a b c ls ms h k = record {
  count = length ls + k.count;
  within = omega (arith, k.within, length-append ls ms);
  outcomes = h.outcomes ++ k.outcomes;
  right = rw (take_past ls ms k.count) (right-append ls (take k.count ms) h.outcomes k.outcomes h.right k.right);
  prefix = rw (take_past ls ms k.count, answers_text-append ls (take k.count ms) h.outcomes k.outcomes h.right)
      (prefix_second a b c (answers_text ls h.outcomes) (answers_text (take k.count ms) k.outcomes) h.written k.prefix);
}

-- a prefix of the answers to some of the lines
pub cut_first : (a b : Option (List ℕ)) (ls ms : List (List ℕ)) → AnswersCut a b ls → AnswersCut a b (ls ++ ms)
cut_first a b ls ms h =
    let same : take h.count (ls ++ ms) ≡ take h.count ls = take-append-le h.count ls ms h.within in
    record {
      count = h.count;
      within = omega (arith, h.within, length-append ls ms);
      outcomes = h.outcomes;
      right = rw same h.right;
      prefix = rw same h.prefix;
    }

-- nothing is written, which is a prefix of any answers
pub cut_kept : (a b : Option (List ℕ)) (ls : List (List ℕ)) → Keeps a b → AnswersCut a b ls
cut_kept a b ls h = record {
  count = 0;
  within = omega arith;
  outcomes = [];
  right = tt;
  prefix = record {
    rest = [];
    wrote = record {
      prefix = [];
      appended = appends_kept a a b [] (appends_none a) h;
      whole = refl;
    };
  };
}

pub cut_none : (a : Option (List ℕ)) (ls : List (List ℕ)) → AnswersCut a a ls
cut_none a ls = record { count = 0; within = omega arith; outcomes = []; right = tt; prefix = prefix_none a [] }

-- answers to the first of the lines
pub cut_after : (a b : Option (List ℕ)) (ls ms : List (List ℕ)) → AnswersAll a b ls → AnswersCut a b (ls ++ ms)
cut_after a b ls ms h = cut_on a b b ls ms h (cut_none b ms)

-- one line is answered
pub one_answered : (a b : Option (List ℕ)) (l : List ℕ) (is : Bool) → Answered (answer_text l) a b l is
    → AnswersAll a b (l ∷ [])
one_answered a b l is h = record {
  outcomes = h.outcome ∷ [];
  right = (h.right, tt);
  written = rw (append-nil (answer_text l h.outcome)) h.written;
}

-- a prefix of the answer to one line is written
pub one_cut : (a b : Option (List ℕ)) (l : List ℕ) → AnswerCutShort (answer_text l) a b l → AnswersCut a b (l ∷ [])
one_cut a b l h = record {
  count = 1;
  within = omega arith;
  outcomes = h.outcome ∷ [];
  right = (h.right, tt);
  prefix = rw (append-nil (answer_text l h.outcome)) h.prefix;
}

pub one_stopped : (a b : Option (List ℕ)) (l : List ℕ) → Keeps a b ⊎ AnswerCutShort (answer_text l) a b l
    → AnswersCut a b (l ∷ [])
one_stopped a b l (inl kept) = cut_kept a b (l ∷ []) kept
one_stopped a b l (inr cut) = one_cut a b l cut

-- a call that has stopped wrote nothing, or a prefix of its text
pub stop_left : {S T : Type 0} {written : S → Option (List ℕ)} {faults : S → ℕ} {old new : S} {finished : T → Type 0}
    {cut : Type 0} (why : WriteStop)
    → Performs written faults old new finished cut (Err why) → Keeps (written old) (written new) ⊎ cut
stop_left stop.Fault h = inr (h.fault refl)
stop_left stop.Memory h = h.memory refl
