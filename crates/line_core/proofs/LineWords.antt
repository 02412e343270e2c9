-- The words of a line, cut off one by one. The definition goes byte by byte, the code by two searches: for the first
-- byte that isn't blank, and from there for the first that is. By induction over the bytes leading blanks change no
-- word, and the first word ends at the first blank; each step takes its test as an argument, so that both cases
-- compute.
use Rattle.std.proofs.Common.{◌≡◌, ◌∙◌, ℕ, suc, ◌+◌, Bool, true, false, List, [], ◌∷◌, length, take, drop, get_or, ap}
use Rattle.std.proofs.Common.{refl, arith}
use Rattle.std.specs.Prelude.{Some, None, not}
use Rattle.std.specs.List.{position_or_len, position}
use Rattle.std.proofs.lemmas.List.{drop_more, drop_all}
use Rattle.std.proofs.lemmas.List.Sums.{passes_at_first, prefix_len-le-length}
use Rattle.book_model.specs.lines.Lines.{is_blank, words_of, onto_first}
use Rattle.line_core.proofs.DateText.{found_at, not_found}

-- how many blanks come first
abbrev pub blanks : List ℕ → ℕ
blanks bs = position_or_len (λ b. not (is_blank b)) bs

-- how many bytes stand before the first blank
abbrev pub word_length : List ℕ → ℕ
word_length bs = position_or_len is_blank bs

-- leading blanks change nothing
skip_blanks : (bs : List ℕ) → words_of bs ≡ words_of (drop (blanks bs) bs)
skip_blanks [] = refl
skip_blanks (b ∷ bs) = step (is_blank b) refl (skip_blanks bs)
  where
    step : (t : Bool) → is_blank b ≡ t → words_of bs ≡ words_of (drop (blanks bs) bs)
        → words_of (b ∷ bs) ≡ words_of (drop (blanks (b ∷ bs)) (b ∷ bs))
    step true e rest = let one : 1 + blanks bs ≡ suc (blanks bs) = omega arith in rw (e, one) rest
    step false e rest = let none : blanks (b ∷ bs) ≡ 0 = rw e refl in rw none refl

-- the first word ends at the first blank
take_word : (b : ℕ) (bs : List ℕ) → is_blank b ≡ false → words_of (b ∷ bs)
    ≡ take (word_length (b ∷ bs)) (b ∷ bs) ∷ words_of (drop (word_length (b ∷ bs)) (b ∷ bs))
take_word b [] e = rw e refl
take_word b (c ∷ cs) e = step (is_blank c) refl (λ f. take_word c cs f)
  where
    step : (t : Bool) → is_blank c ≡ t → (is_blank c ≡ false → words_of (c ∷ cs)
        ≡ take (word_length (c ∷ cs)) (c ∷ cs) ∷ words_of (drop (word_length (c ∷ cs)) (c ∷ cs)))
        → words_of (b ∷ c ∷ cs)
        ≡ take (word_length (b ∷ c ∷ cs)) (b ∷ c ∷ cs) ∷ words_of (drop (word_length (b ∷ c ∷ cs)) (b ∷ c ∷ cs))
    step true f rest =
        let words : words_of (b ∷ c ∷ cs) ≡ (b ∷ []) ∷ words_of (c ∷ cs) = rw (e, f) refl in
        let one : word_length (b ∷ c ∷ cs) ≡ 1 = rw (e, f) refl in
        rw one words
    step false f rest =
        let words : words_of (b ∷ c ∷ cs) ≡ onto_first b (words_of (c ∷ cs)) = rw (e, f) refl in
        let more : word_length (b ∷ c ∷ cs) ≡ suc (word_length (c ∷ cs)) = rw e (omega arith) in
        rw more (words ∙ ap (onto_first b) (rest f))

-- the words, where the first begins at i
pub words_at : (line : List ℕ) (i : ℕ) → Some i ≡ position (λ b. not (is_blank b)) line → words_of line
    ≡ take (word_length (drop i line)) (drop i line) ∷ words_of (drop (word_length (drop i line)) (drop i line))
words_at line i h =
    let f = found_at (λ b. not (is_blank b)) line i h in
    let split = drop_more line (blanks line) 0 f.before_end in
    let begins : is_blank (get_or line (blanks line) 0) ≡ false =
    opposite _ (passes_at_first (λ b. not (is_blank b)) line 0 f.before_end) in
    rw f.same (skip_blanks line ∙ rw split (take_word (get_or line (blanks line) 0) (drop (blanks line + 1) line)
    begins))
  where
    opposite : (t : Bool) → not t ≡ true → t ≡ false
    opposite true e = cc
    opposite false e = refl

-- no words, where no word begins
pub words_none : (line : List ℕ) → None ≡ position (λ b. not (is_blank b)) line → words_of line ≡ []
words_none line h = skip_blanks line ∙ ap words_of
    (drop_all (blanks line) line (not_found (λ b. not (is_blank b)) line h))

-- a line with no blank ends with its first word
pub no_blank : (line : List ℕ) → None ≡ position is_blank line → length line ≡ word_length line
no_blank line h = omega (arith, not_found is_blank line h, prefix_len-le-length (λ b. not (is_blank b)) line)
