-- What words leave once some of them are taken.
use Rattle.std.specs.Prelude.{◌≡◌, ℕ, ◌&&◌, ◌==◌, not, if◌then◌else◌, Bool, true, false, List, [], ◌∷◌, Some, None}
use Rattle.std.specs.Prelude.{Option, refl}
use Rattle.std.specs.List.{list_all}
use Rattle.std.specs.Borrow.{Bor}
use Rattle.std.proofs.Common.{ap, arith}
use Rattle.std.proofs.lemmas.Bool.Decides.{nat_tests}
use Rattle.book_model.specs.lines.Lines.{is_plain, is_printable, IsWord, AreWords, words_of}
use Rattle.line_core.proofs.SpacedWords.{both, plain_words}
use Rattle.cert_parser.specs.Digits.{counter_of}
use Rattle.cert_parser.specs.Gives.{Gives}
use Rattle.cert_parser.specs.Grammar.{◌>>=◌, counter_at, is_spaced, is_spaced_after, word_at}

-- the word that is taken, and the others, are words
pub record AreTaken (word : List ℕ) (rest : List (List ℕ)) : Type 0 where
  pub word_is : IsWord word
  pub rest_are : AreWords rest

-- what was taken, and what is left
abbrev taken_of : Option (List ℕ × List (List ℕ)) → List ℕ
taken_of None = []
taken_of (Some p) = p.0

abbrev left_of : {X : Type 0} → Option (X × List (List ℕ)) → List (List ℕ)
left_of None = []
left_of (Some p) = p.1

pub word_taken : (ws : List (List ℕ)) (word : List ℕ) (rest : List (List ℕ)) → AreWords ws
    → word_at ws ≡ Some (word, rest) → AreTaken word rest
word_taken [] word rest h k = absurd (cc)
word_taken (w ∷ ws) word rest h k =
    let first : w ≡ word = ap taken_of k in
    let others : ws ≡ rest = ap left_of k in
    record { word_is = rw first at h.0; rest_are = rw others at h.1 }

-- after a counter stand words
pub counter_taken : (ws rest : List (List ℕ)) (n : ℕ) → AreWords ws → counter_at ws ≡ Some (n, rest) → AreWords rest
unfolding counter_at
counter_taken [] rest n h k = absurd (cc)
counter_taken (w ∷ ws) rest n h k = by (counter_of w) k
  where
    by : (o : Option ℕ) → ◌>>=◌ {B = ℕ × List (List ℕ)} o (λ m. Some (m, ws)) ≡ Some (n, rest) → AreWords rest
    by None e = absurd (cc)
    by (Some m) e = let others : ws ≡ rest = ap left_of e in rw others at h.1

-- the same of what the reader of a word, and that of a counter, give
pub after_word : (line : List ℕ) (word rest : Bor (List ℕ)) (o : Option (Bor (List ℕ) × Bor (List ℕ)))
    → AreWords (words_of line)
    → Gives (λ p. (p.0.now, words_of p.1.now)) o (word_at (words_of line)) → o ≡ Some (word, rest)
    → AreTaken word.now (words_of rest.now)
after_word line word rest o h gives same = word_taken (words_of line) word.now (words_of rest.now) h (rw same at gives)

pub after_counter : (line : List ℕ) (n : ℕ) (rest : Bor (List ℕ)) (o : Option (ℕ × Bor (List ℕ)))
    → AreWords (words_of line)
    → Gives (λ p. (p.0, words_of p.1.now)) o (counter_at (words_of line)) → o ≡ Some (n, rest)
    → AreWords (words_of rest.now)
after_counter line n rest o h gives same = counter_taken (words_of line) (words_of rest.now) n h (rw same at gives)

-- a line that is spaced well holds no other bytes than a line of input may
spaced_plain : (after : Bool) (line : List ℕ) → is_spaced_after after line ≡ true → list_all is_plain line ≡ true
spaced_plain after [] h = refl
spaced_plain after (b ∷ bs) h = step (b == 32) refl h (spaced_plain true bs) (spaced_plain false bs)
  where
    step : (t : Bool) → (b == 32) ≡ t
        → (if t then not after && is_spaced_after true bs else is_printable b && is_spaced_after false bs) ≡ true
        → (is_spaced_after true bs ≡ true → list_all is_plain bs ≡ true)
        → (is_spaced_after false bs ≡ true → list_all is_plain bs ≡ true)
        → (is_plain b && list_all is_plain bs) ≡ true
    step true e k one other =
        let p = both (not after) (is_spaced_after true bs) k in
        let plain : is_plain b ≡ true = grind (arith, nat_tests) in
        rw (plain, one p.1) refl
    step false e k one other =
        let p = both (is_printable b) (is_spaced_after false bs) k in
        let printed = p.0 in
        let plain : is_plain b ≡ true = grind (arith, nat_tests) in
        rw (plain, other p.1) refl

-- its words are words
pub spaced_are_words : (line : List ℕ) → is_spaced line ≡ true → AreWords (words_of line)
spaced_are_words line h = plain_words line (spaced_plain true line h)
