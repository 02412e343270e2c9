-- The lines of an input, and the words and numbers of a line.
use Rattle.std.specs.Prelude.{◌≡◌, ℕ, ◌+◌, ◌-◌, ◌*◌, ◌<◌, ◌==◌, ◌&&◌, ◌||◌, nat_lt, nat_le, if◌then◌else◌, Bool, true}
use Rattle.std.specs.Prelude.{List, [], ◌∷◌, length, take, map, slice_index, Some, None, Option}
use Rattle.std.specs.List.{list_all}

-- the byte, and then the first of the parts
abbrev pub onto_first : ℕ → List (List ℕ) → List (List ℕ)
onto_first b [] = (b ∷ []) ∷ []
onto_first b (part ∷ parts) = (b ∷ part) ∷ parts

-- the parts that line feeds end; a last part without one counts
abbrev pub raw_lines : List ℕ → List (List ℕ)
raw_lines [] = []
raw_lines (b ∷ bs) = if b == 10 then [] ∷ raw_lines bs else onto_first b (raw_lines bs)

-- less the one carriage return at its end
abbrev pub without_return : List ℕ → List ℕ
without_return line = if slice_index line (length line - 1) == 13 then take (length line - 1) line else line

-- the lines of an input
abbrev pub lines_of : List ℕ → List (List ℕ)
lines_of bytes = map without_return (raw_lines bytes)

-- a space or a tab
abbrev pub is_blank : ℕ → Bool
is_blank b = (b == 32) || (b == 9)

-- a byte that a line may hold: a tab, or a byte from 0x20 to 0x7E
abbrev pub is_plain : ℕ → Bool
is_plain b = (b == 9) || (nat_le 32 b && nat_lt b 127)

-- a byte that a word may hold, from 0x21 to 0x7E
abbrev pub is_printable : ℕ → Bool
is_printable b = nat_lt 32 b && nat_lt b 127

-- one or more bytes that a word may hold
pub record IsWord (word : List ℕ) : Type 0 where
  pub some : 0 < length word
  pub printed : list_all is_printable word ≡ true

-- each of them is a word
abbrev pub AreWords : List (List ℕ) → Type 0
AreWords [] = Unit {0}
AreWords (w ∷ ws) = IsWord w × AreWords ws

-- the byte b, before the bytes whose words these are: it begins a word where a blank or nothing follows
abbrev pub onto_word : ℕ → List ℕ → List (List ℕ) → List (List ℕ)
onto_word b [] words = (b ∷ []) ∷ words
onto_word b (c ∷ cs) words = if is_blank c then (b ∷ []) ∷ words else onto_first b words

-- the words of a line, which blanks separate
abbrev pub words_of : List ℕ → List (List ℕ)
words_of [] = []
words_of (b ∷ bs) = if is_blank b then words_of bs else onto_word b bs (words_of bs)

-- the parts of a word, which single dashes separate
abbrev pub parts_of : List ℕ → List (List ℕ)
parts_of [] = [] ∷ []
parts_of (b ∷ bs) = if b == 45 then [] ∷ parts_of bs else onto_first b (parts_of bs)

-- the number that begins with the digits of n and goes on with these
abbrev pub value_from : ℕ → List ℕ → Option ℕ
value_from n [] = Some n
value_from n (b ∷ bs) = if nat_lt 47 b && nat_lt b 58 then value_from (10 * n + (b - 48)) bs else None

-- the number that one to seven decimal digits spell
abbrev pub number_of : List ℕ → Option ℕ
number_of digits = if nat_lt 0 (length digits) && nat_lt (length digits) 8 then value_from 0 digits else None
