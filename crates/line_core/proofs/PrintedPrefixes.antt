-- The word with which a line begins. By induction over the bytes all before the first that a word may not hold are a
-- word's, so what stands before that place is a word where it isn't empty. A line cut at two spaces is then put
-- together again by the rules of lists.
use Rattle.std.proofs.Common.{◌≡◌, ◌∙◌, ℕ, suc, ◌+◌, ◌<◌, ◌≤◌, Bool, true, false, List, [], ◌∷◌, ◌++◌, length, take}
use Rattle.std.proofs.Common.{drop, get_or, append-nil, refl, sym, ap, arith}
use Rattle.std.proofs.lemmas.List.{drop_more, length-take-le, take-append-drop, take_all}
use Rattle.std.specs.Prelude.{Some, None, not}
use Rattle.std.specs.List.{list_all, position, position_or_len}
use Rattle.book_model.specs.lines.Lines.{is_printable, IsWord}
use Rattle.book_model.specs.lines.Text.{three_words_text}
use Rattle.line_core.proofs.DateText.{found_at, not_found}

-- with how many bytes of a word it begins
abbrev pub printed : List ℕ → ℕ
printed bs = position_or_len (λ b. not (is_printable b)) bs

-- a word may hold each of these
prefix_printed : (bs : List ℕ) → list_all is_printable (take (printed bs) bs) ≡ true
prefix_printed [] = refl
prefix_printed (b ∷ bs) = step (is_printable b) refl (prefix_printed bs)
  where
    step : (t : Bool) → is_printable b ≡ t → list_all is_printable (take (printed bs) bs) ≡ true
        → list_all is_printable (take (printed (b ∷ bs)) (b ∷ bs)) ≡ true
    step true e rest =
        let one : printed (b ∷ bs) ≡ suc (printed bs) = rw e (omega arith) in
        rw one (rw (e, rest) refl)
    step false e rest = let none : printed (b ∷ bs) ≡ 0 = rw e refl in rw none refl

-- what stands before the first other byte is a word
pub prefix_word : (line : List ℕ) (i : ℕ) → Some i ≡ position (λ b. not (is_printable b)) line → 0 < i
    → IsWord (take i line)
prefix_word line i h some =
    let f = found_at (λ b. not (is_printable b)) line i h in
    let prefix : length (take i line) ≡ i = length-take-le i line (omega (arith, f.before_end)) in
    record { some = omega (arith, prefix); printed = rw f.same (prefix_printed line) }

-- and the whole line is one, where no other byte stands in it
pub word_alone : (line : List ℕ) → None ≡ position (λ b. not (is_printable b)) line → 0 < length line → IsWord line
word_alone line h some =
    let long : length line ≤ printed line = not_found (λ b. not (is_printable b)) line h in
    record { some = some; printed = rw (take_all (printed line) line long) at (prefix_printed line) }

-- a line is what stands before a space, the space, and what follows it
pub cut_at : (line : List ℕ) (i : ℕ) → i < length line → get_or line i 0 ≡ 32
    → line ≡ take i line ++ (32 ∷ drop (i + 1) line)
cut_at line i within space =
    let rest : drop i line ≡ 32 ∷ drop (i + 1) line = rw space at (drop_more line i 0 within) in
    sym (take-append-drop i line) ∙ ap (λ more. take i line ++ more) rest

-- two cuts at spaces make three words with single spaces between them
pub cut_twice : (line from date to rest : List ℕ) → line ≡ from ++ (32 ∷ rest) → rest ≡ date ++ (32 ∷ to)
    → line ≡ three_words_text from date to
unfolding three_words_text
cut_twice line from date to rest first second = first ∙ ap (λ more. from ++ (32 ∷ more)) second ∙ simp append-nil
