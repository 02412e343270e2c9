-- A word that doesn't begin as a key does isn't that key.
use Rattle.std.proofs.Common.{◌≡◌, ℕ, ◌≤◌, Bool, true, false, List, [], ◌∷◌, length, nat_eq, refl, arith}
use Rattle.std.proofs.lemmas.Bool.Decides.{nat_tests}
use Rattle.std.specs.Prelude.{◌==◌, IsTrue, None, not, if◌then◌else◌, slice_index_or}
use Rattle.book_model.specs.lines.Lines.{is_blank, is_printable, onto_first, onto_word, words_of}
use Rattle.cert_parser.specs.Grammar.{key_at}

-- the first word of what begins with a byte that is no blank begins with it
record BeginsWith (b : ℕ) (ws : List (List ℕ)) : Type 0 where
  word : List ℕ
  others : List (List ℕ)
  begun : ws ≡ (b ∷ word) ∷ others

first_begun : (b : ℕ) (ws : List (List ℕ)) → BeginsWith b (onto_first b ws)
first_begun b [] = record { word = []; others = []; begun = refl }
first_begun b (w ∷ ws) = record { word = w; others = ws; begun = refl }

word_begun : (b : ℕ) (bs : List ℕ) (ws : List (List ℕ)) → BeginsWith b (onto_word b bs ws)
word_begun b [] ws = record { word = []; others = ws; begun = refl }
word_begun b (c ∷ cs) ws = step (is_blank c)
  where
    step : (t : Bool) → BeginsWith b (if t then (b ∷ []) ∷ ws else onto_first b ws)
    step true = record { word = []; others = ws; begun = refl }
    step false = first_begun b ws

-- so it isn't a key that begins with another byte
begun_otherwise : (b k : ℕ) (bs ks : List ℕ) → is_blank b ≡ false → (b == k) ≡ false
    → key_at (k ∷ ks) (words_of (32 ∷ b ∷ bs)) ≡ None
unfolding key_at
begun_otherwise b k bs ks inner other =
    let w = word_begun b bs (words_of bs) in
    let words : words_of (32 ∷ b ∷ bs) ≡ (b ∷ w.word) ∷ w.others = rw inner w.begun in
    rw (words, other) refl

not_true : (t : Bool) → IsTrue (not t) → t ≡ false
not_true true h = absurd (cc)
not_true false h = refl

-- the same, as the first bytes are read
pub other_key : (line text : List ℕ) → 2 ≤ length line → 1 ≤ length text → slice_index_or line 0 0 ≡ 32
    → is_printable (slice_index_or line 1 0) ≡ true
    → IsTrue (not (nat_eq (slice_index_or line 1 0) (slice_index_or text 0 0))) → key_at text (words_of line) ≡ None
other_key [] text two one space printed other = absurd (omega (arith, two))
other_key (s ∷ []) text two one space printed other = absurd (omega (arith, two))
other_key (s ∷ b ∷ bs) [] two one space printed other = absurd (omega (arith, one))
other_key (s ∷ b ∷ bs) (k ∷ ks) two one space printed other =
    let inner : is_blank b ≡ false = grind (arith, nat_tests) in
    rw space (begun_otherwise b k bs ks inner (not_true (nat_eq b k) other))
