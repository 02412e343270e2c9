-- Words with single spaces between them: their words again, and each of their bytes; and the words of any line. What a
-- byte of a word isn't, as a blank or a line feed, is one record that arithmetic gives from its range; with it the
-- definition of words computes along a word's bytes, by induction, and along the words. Of a plain line the same
-- induction says that its words are words.
use Rattle.std.proofs.Common.{◌≡◌, ◌∙◌, ℕ, Bool, true, false, List, [], ◌∷◌, ◌++◌, ap, refl, arith}
use Rattle.std.proofs.lemmas.Bool.Decides.{nat_tests}
use Rattle.std.proofs.lemmas.List.Folds.{list_all-append}
use Rattle.std.specs.List.{list_all}
use Rattle.std.specs.Prelude.{◌&&◌, ◌==◌, if◌then◌else◌}
use Rattle.book_model.specs.lines.Lines.{is_blank, is_plain, is_printable, IsWord, AreWords, words_of, onto_first}
use Rattle.book_model.specs.lines.Lines.{onto_word}

-- words, each after a space
abbrev pub spaced : List (List ℕ) → List ℕ
spaced [] = []
spaced (w ∷ ws) = 32 ∷ (w ++ spaced ws)

-- what a byte of a word isn't
pub record IsInner (b : ℕ) : Type 0 where
  pub printable : is_printable b ≡ true
  pub space : (b == 32) ≡ false
  pub blank : is_blank b ≡ false
  pub feed : (b == 10) ≡ false
  pub back : (b == 13) ≡ false
  pub plain : is_plain b ≡ true

inner : (b : ℕ) → is_printable b ≡ true → IsInner b
inner b h = record {
  printable = h;
  space = grind (arith, nat_tests);
  blank = grind (arith, nat_tests);
  feed = grind (arith, nat_tests);
  back = grind (arith, nat_tests);
  plain = grind (arith, nat_tests);
}

-- both, where both together are
pub both : (s t : Bool) → (s && t) ≡ true → (s ≡ true) × (t ≡ true)
both true t h = (refl, h)
both false t h = absurd (cc)

-- the first byte of a word, and the others
pub head_inner : (b : ℕ) (bs : List ℕ) → list_all is_printable (b ∷ bs) ≡ true → IsInner b
head_inner b bs h = inner b (both (is_printable b) (list_all is_printable bs) h).0

pub tail_printed : (b : ℕ) (bs : List ℕ) → list_all is_printable (b ∷ bs) ≡ true → list_all is_printable bs ≡ true
tail_printed b bs h = (both (is_printable b) (list_all is_printable bs) h).1

-- the words of what begins with a word
words_begin : (b : ℕ) (bs : List ℕ) (ws : List (List ℕ)) → list_all is_printable (b ∷ bs) ≡ true
    → words_of (spaced ws) ≡ ws → words_of ((b ∷ bs) ++ spaced ws)
    ≡ (b ∷ bs) ∷ ws
words_begin b [] [] h rest = rw (head_inner b [] h).blank refl
words_begin b [] (w ∷ ws) h rest = rw (head_inner b [] h).blank (ap (λ t. (b ∷ []) ∷ t) rest)
words_begin b (c ∷ cs) ws h rest =
    let more : list_all is_printable (c ∷ cs) ≡ true = tail_printed b (c ∷ cs) h in
    let first : is_blank b ≡ false = (head_inner b (c ∷ cs) h).blank in
    let second : is_blank c ≡ false = (head_inner c cs more).blank in
    let words : words_of (b ∷ c ∷ (cs ++ spaced ws)) ≡ onto_first b (words_of (c ∷ (cs ++ spaced ws))) =
    rw (first, second) refl in
    words ∙ ap (onto_first b) (words_begin c cs ws more rest)

words_spaced : (ws : List (List ℕ)) → AreWords ws → words_of (spaced ws) ≡ ws
words_spaced [] h = refl
words_spaced ([] ∷ ws) h = absurd (omega (arith, h.0.some))
words_spaced ((b ∷ bs) ∷ ws) h = words_begin b bs ws h.0.printed (words_spaced ws h.1)

-- the words of a line are read again
pub words_read : (w : List ℕ) (ws : List (List ℕ)) → IsWord w → AreWords ws → words_of (w ++ spaced ws) ≡ w ∷ ws
words_read [] ws h k = absurd (omega (arith, h.some))
words_read (b ∷ bs) ws h k = words_begin b bs ws h.printed (words_spaced ws k)

-- each byte of a word is one that a line may hold
plain_bytes : (w : List ℕ) → list_all is_printable w ≡ true → list_all is_plain w ≡ true
plain_bytes [] h = refl
plain_bytes (b ∷ bs) h = rw ((head_inner b bs h).plain, plain_bytes bs (tail_printed b bs h)) refl

plain_spaced : (ws : List (List ℕ)) → AreWords ws → list_all is_plain (spaced ws) ≡ true
plain_spaced [] h = refl
plain_spaced (w ∷ ws) h = rw (list_all-append is_plain w (spaced ws), plain_bytes w h.0.printed, plain_spaced ws h.1)
    refl

-- and so is each byte of words with spaces between them
pub plain_line : (w : List ℕ) (ws : List (List ℕ)) → IsWord w → AreWords ws → list_all is_plain (w ++ spaced ws) ≡ true
plain_line w ws h k = rw (list_all-append is_plain w (spaced ws), plain_bytes w h.printed, plain_spaced ws k) refl

-- ---- the words of a line that holds no other bytes than it may

alone_word : (b : ℕ) → is_printable b ≡ true → IsWord (b ∷ [])
alone_word b h = record { some = omega arith; printed = rw h refl }

first_longer : (b : ℕ) (ws : List (List ℕ)) → is_printable b ≡ true → AreWords ws → AreWords (onto_first b ws)
first_longer b [] h k = (alone_word b h, tt)
first_longer b (w ∷ ws) h k = (record { some = omega arith; printed = rw (h, k.0.printed) refl }, k.1)

word_longer : (b : ℕ) (bs : List ℕ) (ws : List (List ℕ)) → is_printable b ≡ true → AreWords ws
    → AreWords (onto_word b bs ws)
word_longer b [] ws h k = (alone_word b h, k)
word_longer b (c ∷ cs) ws h k = step (is_blank c)
  where
    step : (t : Bool) → AreWords (if t then (b ∷ []) ∷ ws else onto_first b ws)
    step true = (alone_word b h, k)
    step false = first_longer b ws h k

-- they are words
pub plain_words : (line : List ℕ) → list_all is_plain line ≡ true → AreWords (words_of line)
plain_words [] h = tt
plain_words (b ∷ bs) h =
    let p = both (is_plain b) (list_all is_plain bs) h in
    step (is_blank b) refl p.0 (plain_words bs p.1)
  where
    step : (t : Bool) → is_blank b ≡ t → is_plain b ≡ true → AreWords (words_of bs)
        → AreWords (if t then words_of bs else onto_word b bs (words_of bs))
    step true e plain rest = rest
    step false e plain rest =
        let printable : is_printable b ≡ true = grind (arith, nat_tests) in
        word_longer b bs (words_of bs) printable rest
