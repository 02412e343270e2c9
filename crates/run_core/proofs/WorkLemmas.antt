-- What finishes the code's work finishes the command's. The code's work and the definition's are two types with the
-- same cases: what the contracts say of one case, as that rows are printed, is turned into what the command asks by
-- cases of both, in which all that don't match are absurd; and so is how a run ended.
use Rattle.std.proofs.Common.{◌≡◌, ◌⊎◌, ℕ, Bool, List, refl}
use Rattle.std.specs.Prelude.{Ok, Err, Result, IsErrOf}
use Rattle.std.specs.Io.KnownBytes.{Keeps}
use Rattle.std.specs.declared.option.Option.{Option}
use Rattle.conversion.specs.Counting.{Counted, CountCutShort}
use Rattle.conversion.specs.Printing.{Printed, CutShort}
use Rattle.conversion.specs.Rows.{lines_in as lines_of_rows, AreSpelledRows}
use Rattle.conversion.specs.declared.rows.Rows.{Rows}
use Rattle.conversion.specs.declared.text.WriteStop.{WriteStop}
use Rattle.conversion.specs.declared.text.WriteStop.TheVariants as stop
use Rattle.run_core.specs.Checking.{CheckCutShort}
use Rattle.run_core.specs.Upgrading.{UpgradeCutShort}
use Rattle.run_core.specs.Commands.{Lines, Work, print, count, judge, renew, sample_lines}
use Rattle.run_core.specs.Run.{IsDone, IsCutOff, check_ended, lines_in}
use Rattle.run_core.specs.Works.{DoesWork}
use Rattle.run_core.specs.declared.check.Checked.{Checked}
use Rattle.run_core.specs.declared.check.Checked.TheVariants as checked
use Rattle.run_core.specs.declared.status.Status.TheVariants.{WriteFault, Memory}
use Rattle.run_core.specs.declared.work.Work.TheVariants.{Print, Count, Judge, Renew}

-- rows are printed where work prints their lines
pub record IsPrinting (work : Work) (input : List ℕ) (rows : Rows) : Type 0 where
  pub lines : Lines
  pub is : work ≡ print lines
  pub same : lines_of_rows rows ≡ lines_in lines input
  pub spelled : AreSpelledRows rows

pub printing : (work : Work) (input : List ℕ) (rows : Rows) → DoesWork work input (Print rows)
    → IsPrinting work input rows
printing (print lines) input rows h = record { lines = lines; is = refl; same = h.0; spelled = h.1 }
printing (count m s) input rows h = absurd h
printing judge input rows h = absurd h
printing renew input rows h = absurd h

pub printed_done : (work : Work) (input : List ℕ) (rows : Rows) (old new : Option (List ℕ)) (all : Bool)
    → IsPrinting work input rows
    → Printed old new (lines_of_rows rows) all → IsDone work old new input all
printed_done work input rows old new all h p = rw h.is (rw h.same at p)

pub printed_cut : (work : Work) (input : List ℕ) (rows : Rows) (old new : Option (List ℕ)) → IsPrinting work input rows
    → CutShort old new (lines_of_rows rows) → IsCutOff work old new input
printed_cut work input rows old new h p = rw h.is (rw h.same at p)

-- rows are counted where work counts their lines
pub record IsCounting (work : Work) (rows : Rows) (n seed : ℕ) : Type 0 where
  pub is : work ≡ count n seed
  pub same : lines_of_rows rows ≡ sample_lines n seed
  pub spelled : AreSpelledRows rows

pub counting : (work : Work) (input : List ℕ) (rows : Rows) (n seed : ℕ) → DoesWork work input (Count rows n seed)
    → IsCounting work rows n seed
counting (print lines) input rows n seed h = absurd h
counting (count m s) input rows n seed h = record { is = rw (h.0, h.1) refl; same = rw (h.0, h.1) h.2; spelled = h.3 }
counting judge input rows n seed h = absurd h
counting renew input rows n seed h = absurd h

pub counted_done : (work : Work) (input : List ℕ) (rows : Rows) (n seed : ℕ) (old new : Option (List ℕ)) (all : Bool)
    → IsCounting work rows n seed
    → Counted old new (lines_of_rows rows) n seed all → IsDone work old new input all
counted_done work input rows n seed old new all h p = rw h.is (rw h.same at p)

pub counted_cut : (work : Work) (input : List ℕ) (rows : Rows) (n seed : ℕ) (old new : Option (List ℕ))
    → IsCounting work rows n seed
    → CountCutShort old new (lines_of_rows rows) n seed → IsCutOff work old new input
counted_cut work input rows n seed old new h p = rw h.is (rw h.same at p)

-- a file is judged where work judges
pub judging : (work : Work) (input : List ℕ) → DoesWork work input Judge → work ≡ judge
judging (print lines) input h = absurd h
judging (count m s) input h = absurd h
judging judge input h = refl
judging renew input h = absurd h

-- a file is renewed where work renews
pub renewing : (work : Work) (input : List ℕ) → DoesWork work input Renew → work ≡ renew
renewing (print lines) input h = absurd h
renewing (count m s) input h = absurd h
renewing judge input h = absurd h
renewing renew input h = refl

-- work on a file that a fault ended was cut off
pub fault_ended : (cut : Type 0) (r : Result Checked WriteStop) → check_ended r ≡ WriteFault
    → (IsErrOf r stop.Fault → cut) → cut
fault_ended cut (Ok checked.AllYes) e h = absurd (cc)
fault_ended cut (Ok checked.NotAll) e h = absurd (cc)
fault_ended cut (Ok checked.BadText) e h = absurd (cc)
fault_ended cut (Err stop.Fault) e h = h refl
fault_ended cut (Err stop.Memory) e h = absurd (cc)

-- that which ended out of memory was too, or it wrote nothing
pub memory_ended : (cut : Type 0) (r : Result Checked WriteStop) → check_ended r ≡ Memory
    → (IsErrOf r stop.Memory → cut) → cut
memory_ended cut (Ok checked.AllYes) e h = absurd (cc)
memory_ended cut (Ok checked.NotAll) e h = absurd (cc)
memory_ended cut (Ok checked.BadText) e h = absurd (cc)
memory_ended cut (Err stop.Fault) e h = absurd (cc)
memory_ended cut (Err stop.Memory) e h = h refl

pub judged_cut : (work : Work) (input : List ℕ) (old new : Option (List ℕ)) (r : Result Checked WriteStop)
    → work ≡ judge → check_ended r ≡ WriteFault
    → (IsErrOf r stop.Fault → CheckCutShort old new input) → IsCutOff work old new input
judged_cut work input old new r is e h = rw is (fault_ended (CheckCutShort old new input) r e h)

pub judged_kept : (work : Work) (input : List ℕ) (old new : Option (List ℕ)) (r : Result Checked WriteStop)
    → work ≡ judge → check_ended r ≡ Memory
    → (IsErrOf r stop.Memory → Keeps old new ⊎ CheckCutShort old new input) → Keeps old new
    ⊎ IsCutOff work old new input
judged_kept work input old new r is e h = rw is (memory_ended (Keeps old new ⊎ CheckCutShort old new input) r e h)

pub renewed_cut : (work : Work) (input : List ℕ) (old new : Option (List ℕ)) (r : Result Checked WriteStop)
    → work ≡ renew → check_ended r ≡ WriteFault
    → (IsErrOf r stop.Fault → UpgradeCutShort old new input) → IsCutOff work old new input
renewed_cut work input old new r is e h = rw is (fault_ended (UpgradeCutShort old new input) r e h)

pub renewed_kept : (work : Work) (input : List ℕ) (old new : Option (List ℕ)) (r : Result Checked WriteStop)
    → work ≡ renew → check_ended r ≡ Memory
    → (IsErrOf r stop.Memory → Keeps old new ⊎ UpgradeCutShort old new input) → Keeps old new
    ⊎ IsCutOff work old new input
renewed_kept work input old new r is e h = rw is (memory_ended (Keeps old new ⊎ UpgradeCutShort old new input) r e h)
