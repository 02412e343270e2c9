-- What the program is told to do by its arguments.
use Rattle.std.specs.Prelude.{ℕ, ◌+◌, ◌-◌, ◌*◌, ◌^◌, ◌≤◌, ◌&&◌, nat_le, if◌then◌else◌, Bool, true, false, List, [], ◌∷◌}
use Rattle.std.specs.Prelude.{length, codes, Option, Some, None, is_some, option_map, option_and_then}
use Rattle.std.specs.Str.{all_ascii_digits, bytes_eq}
use Rattle.clap.specs.Walk.{Row, Rule, first_of, is_empty}
use Rattle.clap.specs.Simple.{App, matches_of, new_app, new_rule, on_top, with_rule}
use Rattle.clap.specs.Faults.{fault_of}
use Rattle.clap.specs.declared.builder.action.ArgAction.TheVariants.{Set}
use Rattle.book_model.specs.declared.version.TheConstants.{FIRST_ALMANAC_YEAR, LAST_ALMANAC_YEAR}
use Rattle.book_model.specs.calendars.Versions.{IsAlmanacYear}
use Rattle.command_line.specs.declared.command.Command.{Command}
use Rattle.command_line.specs.declared.command.Command.TheVariants.{Convert, Check, Upgrade, Almanac, Sample, East}

-- ---- the command by which clap reads the arguments

-- a positional argument
abbrev pub placed : List ℕ → Bool → Rule
placed id required = record (new_rule id) { action = Some Set; required = required }

-- the option --jobs, which has the value 1 where it isn't given
abbrev pub jobs : Rule
jobs = record (new_rule (codes "jobs")) { long = Some (codes "jobs"); action = Some Set; defaults = codes "1" ∷ [] }

-- the command with no argument yet: the arguments come without the program's name, and --help is no flag
abbrev pub bare : App
bare = on_top (λ s. record s { no_binary_name = true; disable_help_flag = true }) (new_app (codes "calendrica"))

-- COMMAND, which has to be there, then A, then B, and the option --jobs
abbrev pub program : App
program = with_rule (with_rule (with_rule (with_rule bare (placed (codes "command") true)) (placed (codes "a") false))
    (placed (codes "b") false)) jobs

-- clap finds no fault in the arguments
abbrev pub is_accepted : List (List ℕ) → Bool
is_accepted words = is_empty (fault_of program words)

-- ---- numbers

-- one to twenty decimal digits and nothing else
abbrev pub is_number : List ℕ → Bool
is_number word = (nat_le 1 (length word) && nat_le (length word) 20) && all_ascii_digits word

-- what decimal digits are worth, each by its place
abbrev pub worth : List ℕ → ℕ
worth [] = 0
worth (b ∷ bs) = (b - 48) * 10 ^ length bs + worth bs

-- the number that one to twenty decimal digits spell
abbrev pub number_word : List ℕ → Option ℕ
number_word word = if is_number word then Some (worth word) else None

-- a number that lies from low to high
abbrev pub between : ℕ → ℕ → Option ℕ → Option ℕ
between low high None = None
between low high (Some n) = if nat_le low n && nat_le n high then Some n else None

-- ---- the table

-- `convert`, `check` or `upgrade`, with nothing behind it
abbrev pub lone_command : List ℕ → Option Command
lone_command name =
    if bytes_eq name (codes "convert") then Some Convert
    else (if bytes_eq name (codes "check") then Some Check else (if bytes_eq name (codes "upgrade") then Some Upgrade
    else None))

-- a year of which there is an almanac
abbrev pub almanac_year : List ℕ → Option ℕ
almanac_year word = between FIRST_ALMANAC_YEAR LAST_ALMANAC_YEAR (number_word word)

-- `almanac` or `east` of a year
abbrev pub command_of_year : List ℕ → ℕ → Option Command
command_of_year name year =
    if bytes_eq name (codes "almanac") then Some (Almanac year)
    else (if bytes_eq name (codes "east") then Some (East year) else None)

-- the same with a year of which there is an almanac
abbrev pub year_command : List ℕ → List ℕ → Option Command
year_command name year = option_and_then (command_of_year name) (almanac_year year)

-- `sample` with a count from 1 to 100,000 and a seed of 64 bits
abbrev pub sample_command : List ℕ → List ℕ → List ℕ → Option Command
sample_command name count seed = if bytes_eq name (codes "sample") then option_and_then
    (λ n. option_map (λ s. Sample n s) (between 0 18446744073709551615 (number_word seed)))
    (between 1 100000 (number_word count)) else None

-- the command that COMMAND names, with A and B where they are there
abbrev pub table : List ℕ → Option (List ℕ) → Option (List ℕ) → Option Command
table name None None = lone_command name
table name (Some year) None = year_command name year
table name (Some count) (Some seed) = sample_command name count seed
table name None (Some seed) = None

-- the number of threads that an argument asks for, from 1 to 64
abbrev pub jobs_in : List ℕ → Option ℕ
jobs_in word = between 1 64 (number_word word)

-- what the values of COMMAND, --jobs, A and B tell, where that of --jobs asks for a number of threads
abbrev pub told_by : Option (List ℕ) → Option (List ℕ) → Option (List ℕ) → Option (List ℕ) → Option Command
told_by None value a b = None
told_by (Some name) None a b = None
told_by (Some name) (Some value) a b = if is_some (jobs_in value) then table name a b else None

-- what the first values that clap's reading found tell
abbrev pub told : List Row → Option Command
told rows = told_by (first_of (codes "command") rows) (first_of (codes "jobs") rows) (first_of (codes "a") rows)
    (first_of (codes "b") rows)

-- the threads that the value of --jobs asks for
abbrev pub jobs_told : Option (List ℕ) → Option ℕ
jobs_told None = None
jobs_told (Some value) = jobs_in value

-- the threads that the first value of --jobs that clap's reading found asks for
abbrev pub told_jobs : List Row → Option ℕ
told_jobs rows = jobs_told (first_of (codes "jobs") rows)

-- what the arguments tell: arguments that clap accepts, by the table
abbrev pub command_of : List (List ℕ) → Option Command
command_of words = if is_accepted words then told (matches_of program words) else None

-- how many threads the arguments ask for, where clap accepts them
abbrev pub jobs_of : List (List ℕ) → Option ℕ
jobs_of words = if is_accepted words then told_jobs (matches_of program words) else None

-- the numbers of a command are in their ranges
abbrev pub IsInRange : Command → Type 0
IsInRange Convert = Unit {0}
IsInRange Check = Unit {0}
IsInRange Upgrade = Unit {0}
IsInRange (Almanac year) = IsAlmanacYear year
IsInRange (Sample count seed) = (1 ≤ count) × (count ≤ 100000)
IsInRange (East year) = IsAlmanacYear year
