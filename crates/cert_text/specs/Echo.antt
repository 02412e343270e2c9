-- The three words of a line of input, and where they stand in a text without the spaces.
use Rattle.std.specs.Prelude.{ℕ, ◌-◌, ◌≤◌, List, length, take, drop}
use Rattle.book_model.specs.lines.Lines.{IsWord}

-- FROM DATE TO
pub record Echo : Type 0 where
  pub from : List ℕ
  pub date : List ℕ
  pub to : List ℕ

-- the parts of a text, where the second and the third begin at these places
abbrev pub first_part : (text : List ℕ) (second : ℕ) → List ℕ
first_part text second = take second text

abbrev pub second_part : (text : List ℕ) (second third : ℕ) → List ℕ
second_part text second third = take (third - second) (drop second text)

abbrev pub third_part : (text : List ℕ) (third : ℕ) → List ℕ
third_part text third = drop third text

-- each of the three parts is a word
pub record AreParts (text : List ℕ) (second third : ℕ) : Type 0 where
  pub ordered : second ≤ third
  pub within : third ≤ length text
  pub from : IsWord (first_part text second)
  pub date : IsWord (second_part text second third)
  pub to : IsWord (third_part text third)
