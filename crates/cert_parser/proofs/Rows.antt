-- Words with single spaces between them, and a line feed at the end: the line that they are.
use Rattle.std.proofs.Common.{◌≡◌, ◌∙◌, ℕ, suc, ◌-◌, ◌<◌, Bool, true, false, List, [], ◌∷◌, ◌++◌, length, get_or, ap}
use Rattle.std.proofs.Common.{refl, arith, append-nil}
use Rattle.std.specs.List.{list_all}
use Rattle.std.specs.Prelude.{◌&&◌, ◌==◌}
use Rattle.book_model.specs.lines.Lines.{is_printable, IsWord, AreWords, onto_first, raw_lines, lines_of}
use Rattle.cert_parser.specs.Grammar.{is_spaced_after, is_spaced}
use Rattle.line_core.proofs.SpacedWords.{spaced, head_inner, tail_printed}

-- words, each after a space, then a line feed, and the rest of a text
abbrev pub spaced_then : List (List ℕ) → List ℕ → List ℕ
spaced_then [] rest = 10 ∷ rest
spaced_then (w ∷ ws) rest = 32 ∷ (w ++ spaced_then ws rest)

-- all of three, and of four, where all together are
pub three : (s t u : Bool) → (s && t && u) ≡ true → (s ≡ true) × (t ≡ true) × (u ≡ true)
three true true u h = (refl, refl, h)
three true false u h = absurd (cc)
three false t u h = absurd (cc)

pub four : (s t u v : Bool) → (s && t && u && v) ≡ true → (s ≡ true) × (t ≡ true) × (u ≡ true) × (v ≡ true)
four true true true v h = (refl, refl, refl, h)
four true true false v h = absurd (cc)
four true false u v h = absurd (cc)
four false t u v h = absurd (cc)

-- after a word, what is spaced
spaced_begin : (word : List ℕ) (rest : List ℕ) → list_all is_printable word ≡ true
    → is_spaced_after false (word ++ rest) ≡ is_spaced_after false rest
spaced_begin [] rest h = refl
spaced_begin (b ∷ bs) rest h =
    let first = head_inner b bs h in
    rw (first.space, first.printable) (spaced_begin bs rest (tail_printed b bs h))

first_begin : (word : List ℕ) (rest : List ℕ) → IsWord word → is_spaced_after true (word ++ rest) ≡ is_spaced_after
    false rest
first_begin [] rest h = absurd (omega (arith, h.some))
first_begin (b ∷ bs) rest h =
    let first = head_inner b bs h.printed in
    rw (first.space, first.printable) (spaced_begin bs rest (tail_printed b bs h.printed))

all_spaced : (ws : List (List ℕ)) → AreWords ws → is_spaced_after false (spaced ws) ≡ true
all_spaced [] h = refl
all_spaced (w ∷ ws) h = first_begin w (spaced ws) h.0 ∙ all_spaced ws h.1

-- words are spaced well
pub spaced_well : (w : List ℕ) (ws : List (List ℕ)) → IsWord w → AreWords ws → is_spaced (w ++ spaced ws) ≡ true
spaced_well w ws h k = first_begin w (spaced ws) h ∙ all_spaced ws k

-- the first line is one byte longer
raw_word : (word rest line : List ℕ) (lines : List (List ℕ)) → list_all is_printable word ≡ true
    → raw_lines rest ≡ line ∷ lines → raw_lines (word ++ rest)
    ≡ (word ++ line) ∷ lines
raw_word [] rest line lines h k = k
raw_word (b ∷ bs) rest line lines h k =
    let feed : (b == 10) ≡ false = (head_inner b bs h).feed in
    rw feed (ap (onto_first b) (raw_word bs rest line lines (tail_printed b bs h) k))

raw_spaced : (ws : List (List ℕ)) (rest : List ℕ) → AreWords ws → raw_lines (spaced_then ws rest) ≡ spaced ws
    ∷ raw_lines rest
raw_spaced [] rest h = refl
raw_spaced (w ∷ ws) rest h = ap (onto_first 32) (raw_word w (spaced_then ws rest) (spaced ws) (raw_lines rest)
    h.0.printed (raw_spaced ws rest h.1))

-- no carriage return stands at the end
record EndpointsPlain (line : List ℕ) : Type 0 where
  some : 0 < length line
  last : (get_or line (length line - 1) 0 == 13) ≡ false

one_more : (b : ℕ) (line : List ℕ) → EndpointsPlain line → EndpointsPlain (b ∷ line)
one_more b [] h = absurd (omega (arith, h.some))
one_more b (c ∷ cs) h =
    let long : suc (suc (length cs)) - 1 ≡ suc (length cs) = omega arith in
    let short : suc (length cs) - 1 ≡ length cs = omega arith in
    record { some = omega arith; last = rw long (rw short at h.last) }

plain_after : (prefix line : List ℕ) → EndpointsPlain line → EndpointsPlain (prefix ++ line)
plain_after [] line h = h
plain_after (b ∷ bs) line h = one_more b (bs ++ line) (plain_after bs line h)

plain_word : (word : List ℕ) → IsWord word → EndpointsPlain word
plain_word [] h = absurd (omega (arith, h.some))
plain_word (b ∷ []) h = record { some = omega arith; last = (head_inner b [] h.printed).back }
plain_word (b ∷ c ∷ cs) h = one_more b (c ∷ cs)
    (plain_word (c ∷ cs) (record { some = omega arith; printed = tail_printed b (c ∷ cs) h.printed }))

plain_row : (w : List ℕ) (ws : List (List ℕ)) → IsWord w → AreWords ws → EndpointsPlain (w ++ spaced ws)
plain_row w [] h k = rw (append-nil w) (plain_word w h)
plain_row w (v ∷ vs) h k = plain_after w (spaced (v ∷ vs)) (one_more 32 (v ++ spaced vs) (plain_row v vs k.0 k.1))

-- words, a line feed, and the rest of a text: the words are its first line
pub row_read : (w : List ℕ) (ws : List (List ℕ)) (rest : List ℕ) → IsWord w → AreWords ws
    → lines_of (w ++ spaced_then ws rest)
    ≡ (w ++ spaced ws) ∷ lines_of rest
row_read w ws rest h k =
    let raw : raw_lines (w ++ spaced_then ws rest) ≡ (w ++ spaced ws) ∷ raw_lines rest =
    raw_word w (spaced_then ws rest) (spaced ws) (raw_lines rest) h.printed
    (raw_spaced ws rest k) in
    rw raw (rw (plain_row w ws h k).last refl)
