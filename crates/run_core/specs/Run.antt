-- How a run ends, and what it has done.
use Rattle.std.specs.Prelude.{◌≡◌, ◌<◌, ◌≤◌, ℕ, Bool, true, false, List, [], codes, length, map, None, Some, Result, Ok}
use Rattle.std.specs.Prelude.{Err}
use Rattle.std.specs.declared.option.Option.{Option}
use Rattle.std.specs.Io.KnownBytes.{Consumes, IsAtEnd}
use Rattle.book_model.specs.lines.Lines.{lines_of}
use Rattle.book_model.specs.lines.Text.{line_text}
use Rattle.conversion.specs.Printing.{Printed, CutShort}
use Rattle.conversion.specs.Counting.{Counted, CountCutShort}
use Rattle.run_core.specs.Commands.{Input, whole, nothing, Lines, given, made, Work, print, count, judge, renew}
use Rattle.run_core.specs.Commands.{work_of, sample_lines}
use Rattle.cert_parser.specs.Reading.{grammar_of}
use Rattle.run_core.specs.Checking.{ChecksText, CheckCutShort, RefusesText}
use Rattle.run_core.specs.Upgrading.{Upgrades, UpgradeCutShort, upgradable}
use Rattle.command_line.specs.declared.command.Command.{Command}
use Rattle.run_core.specs.declared.check.Checked.{Checked}
use Rattle.run_core.specs.declared.check.Checked.TheVariants as checked
use Rattle.run_core.specs.declared.check.Checked.TheVariants.{AllYes, NotAll}
use Rattle.conversion.specs.declared.text.WriteStop.{WriteStop}
use Rattle.conversion.specs.declared.text.WriteStop.TheVariants as stop
use Rattle.conversion.specs.declared.text.WriteStop.TheVariants.{Fault}
use Rattle.run_core.specs.declared.status.Status.{Status}
use Rattle.run_core.specs.declared.status.Status.TheVariants.{Done, Mixed, Words, ReadFault, WriteFault, Memory}
use Rattle.run_core.specs.declared.status.Status.TheVariants.{TooLarge, BadText}

-- the number of a status, with which the program exits
abbrev pub status_number : Status → ℕ
status_number Done = 0
status_number Mixed = 1
status_number Words = 2
status_number ReadFault = 3
status_number WriteFault = 4
status_number Memory = 5
status_number TooLarge = 6
status_number BadText = 7

-- the line that is written where the arguments are in no form
abbrev pub usage : List ℕ
usage = codes "usage: calendrica convert | check | almanac YEAR | sample COUNT SEED | upgrade | east YEAR [--jobs N]\n"

-- the source gave these bytes and no more, and they are within the limit
pub record ReadWhole (old new : Option (List ℕ)) (limit : ℕ) (input : List ℕ) : Type 0 where
  pub read : Consumes old new input
  pub end : IsAtEnd new
  pub small : length input ≤ limit

-- the source tells its bytes, and they are within the limit
abbrev pub Fits : Option (List ℕ) → ℕ → Type 0
Fits None limit = ⊥
Fits (Some bytes) limit = length bytes ≤ limit

-- the source tells its bytes, and they are more
abbrev pub IsLarger : Option (List ℕ) → ℕ → Type 0
IsLarger None limit = ⊥
IsLarger (Some bytes) limit = limit < length bytes

-- these bytes were read, as a command that reads so does
abbrev pub HasRead : Input → Option (List ℕ) → Option (List ℕ) → List ℕ → Type 0
HasRead (whole limit) old new input = ReadWhole old new limit input
HasRead nothing old new input = (new ≡ old) × (input ≡ [])

-- the source tells its bytes, and such a command takes them
abbrev pub CanRead : Input → Option (List ℕ) → Type 0
CanRead (whole limit) left = Fits left limit
CanRead nothing left = Unit {0}

-- the source tells its bytes, and such a command doesn't take them
abbrev pub IsTooLarge : Input → Option (List ℕ) → Type 0
IsTooLarge (whole limit) left = IsLarger left limit
IsTooLarge nothing left = ⊥

-- so many bytes are more than such a command takes
abbrev pub IsPast : Input → List ℕ → Type 0
IsPast (whole limit) taken = limit < length taken
IsPast nothing taken = ⊥

-- the lines that are printed, by the input
abbrev pub lines_in : Lines → List ℕ → List (List ℕ)
lines_in given input = lines_of input
lines_in (made requests) input = map line_text requests

-- what work has done with an input: the text of lines stands there, or the counts of a sample's lines, or the verdicts
-- of a certificate, or the text that it is upgraded to
abbrev pub IsDone : Work → Option (List ℕ) → Option (List ℕ) → List ℕ → Bool → Type 0
IsDone (print lines) old new input all = Printed old new (lines_in lines input) all
IsDone (count n seed) old new input all = Counted old new (sample_lines n seed) n seed all
IsDone judge old new input all = ChecksText old new input all
IsDone renew old new input all = Upgrades old new input all

-- a prefix of what work writes for an input stands there
abbrev pub IsCutOff : Work → Option (List ℕ) → Option (List ℕ) → List ℕ → Type 0
IsCutOff (print lines) old new input = CutShort old new (lines_in lines input)
IsCutOff (count n seed) old new input = CountCutShort old new (sample_lines n seed) n seed
IsCutOff judge old new input = CheckCutShort old new input
IsCutOff renew old new input = UpgradeCutShort old new input

-- the input isn't such a file as work takes, and the line that says why stands there
abbrev pub IsRefused : Work → Option (List ℕ) → Option (List ℕ) → List ℕ → Type 0
IsRefused (print lines) old new input = ⊥
IsRefused (count n seed) old new input = ⊥
IsRefused judge old new input = RefusesText (grammar_of input) old new
IsRefused renew old new input = RefusesText (upgradable input) old new

-- what a command has done with an input
abbrev pub Finishes : Command → Option (List ℕ) → Option (List ℕ) → List ℕ → Bool → Type 0
Finishes command old new input all = IsDone (work_of command) old new input all

-- a prefix of what the command writes for an input stands there
abbrev pub IsCut : Command → Option (List ℕ) → Option (List ℕ) → List ℕ → Type 0
IsCut command old new input = IsCutOff (work_of command) old new input

-- the input isn't such a file as the command takes, and the line that says why stands there
abbrev pub Refuses : Command → Option (List ℕ) → Option (List ℕ) → List ℕ → Type 0
Refuses command old new input = IsRefused (work_of command) old new input

-- how a run ends whose lines were written, with results in all or not, or that stopped there
abbrev pub ended : Result Bool WriteStop → Status
ended (Ok true) = Done
ended (Ok false) = Mixed
ended (Err Fault) = WriteFault
ended (Err stop.Memory) = Memory

-- how work on a certificate ends: with each verdict yes or each line a result, or not, with bytes that aren't such a
-- file, or where it stopped
abbrev pub check_ended : Result Checked WriteStop → Status
check_ended (Ok AllYes) = Done
check_ended (Ok NotAll) = Mixed
check_ended (Ok checked.BadText) = BadText
check_ended (Err Fault) = WriteFault
check_ended (Err stop.Memory) = Memory

-- a status that comes once the input was read
abbrev pub IsOfWork : Status → Type 0
IsOfWork Done = Unit {0}
IsOfWork Mixed = Unit {0}
IsOfWork Words = ⊥
IsOfWork ReadFault = ⊥
IsOfWork WriteFault = Unit {0}
IsOfWork Memory = Unit {0}
IsOfWork TooLarge = ⊥
IsOfWork BadText = Unit {0}

-- a status that comes of bytes that are checked in memory
abbrev pub IsOfCheck : Status → Type 0
IsOfCheck Done = Unit {0}
IsOfCheck Mixed = Unit {0}
IsOfCheck Words = ⊥
IsOfCheck ReadFault = ⊥
IsOfCheck WriteFault = Unit {0}
IsOfCheck Memory = Unit {0}
IsOfCheck TooLarge = Unit {0}
IsOfCheck BadText = Unit {0}
