-- What the commands of the program do and read.
use Rattle.std.specs.Prelude.{ℕ, List, map, Option, Some, None}
use Rattle.almanac_core.specs.Almanac.{almanac_requests}
use Rattle.almanac_core.specs.East.{east_requests}
use Rattle.almanac_core.specs.Sample.{sample_requests}
use Rattle.book_model.specs.declared.request.Request.{Request}
use Rattle.book_model.specs.lines.Text.{line_text}
use Rattle.command_line.specs.declared.command.Command.{Command}
use Rattle.command_line.specs.declared.command.Command.TheVariants.{Convert, Check, Upgrade, Almanac, Sample, East}

-- the lines of the almanac of a year
abbrev pub almanac_lines : ℕ → List (List ℕ)
almanac_lines year = map line_text (almanac_requests year)

-- the lines of a sample, whose generator begins at the seed
abbrev pub sample_lines : (count seed : ℕ) → List (List ℕ)
sample_lines n seed = map line_text (sample_requests n seed)

-- which lines are printed: those of the input, or those of requests that the program makes
pub data Lines : Type 0 where
  given : Lines
  made : List Request → Lines

-- what is done: the text of lines with their outcomes is printed, it is counted how many of a sample's lines have
-- each outcome, a certificate is judged, or one of an older version is renewed
pub data Work : Type 0 where
  print : Lines → Work
  count : (count seed : ℕ) → Work
  judge : Work
  renew : Work

-- what a command does
abbrev pub work_of : Command → Work
work_of Convert = print given
work_of Check = judge
work_of Upgrade = renew
work_of (Almanac year) = print (made (almanac_requests year))
work_of (Sample n seed) = count n seed
work_of (East year) = print (made (east_requests year))

-- what is read: the whole input, of up to so many bytes, or nothing
pub data Input : Type 0 where
  whole : ℕ → Input
  nothing : Input

-- what is read where an input has a limit, and where there is none
abbrev pub input_within : Option ℕ → Input
input_within (Some limit) = whole limit
input_within None = nothing

-- what work reads
abbrev pub input_read : Work → Input
input_read (print given) = whole 4194304
input_read (print (made requests)) = nothing
input_read (count n seed) = nothing
input_read judge = whole 268435456
input_read renew = whole 268435456

-- what a command reads
abbrev pub input_of : Command → Input
input_of command = input_read (work_of command)

-- how many bytes an input may have
abbrev pub limit_in : Input → ℕ
limit_in (whole limit) = limit
limit_in nothing = 0

-- how many bytes an input of the command may have
abbrev pub limit_of : Command → ℕ
limit_of command = limit_in (input_of command)
