-- The work that the code does.
use Rattle.std.specs.Prelude.{◌≡◌, ℕ, List}
use Rattle.conversion.specs.Rows.{lines_in as lines_of_rows, AreSpelledRows}
use Rattle.run_core.specs.Commands.{Work, print, count, judge, renew, sample_lines}
use Rattle.run_core.specs.Run.{lines_in}
use Rattle.run_core.specs.declared.work.Work.{Work as WorkOf}
use Rattle.run_core.specs.declared.work.Work.TheVariants.{Print, Count, Judge, Renew}

-- it does the work with the input
abbrev pub DoesWork : Work → List ℕ → WorkOf → Type 0
DoesWork (print lines) input (Print rows) = (lines_of_rows rows ≡ lines_in lines input) × AreSpelledRows rows
DoesWork (print lines) input (Count rows n seed) = ⊥
DoesWork (print lines) input Judge = ⊥
DoesWork (print lines) input Renew = ⊥
DoesWork (count m s) input (Print rows) = ⊥
DoesWork (count m s) input (Count rows n seed) = (n ≡ m) × (seed ≡ s) × (lines_of_rows rows ≡ sample_lines m s)
    × AreSpelledRows rows
DoesWork (count m s) input Judge = ⊥
DoesWork (count m s) input Renew = ⊥
DoesWork judge input (Print rows) = ⊥
DoesWork judge input (Count rows n seed) = ⊥
DoesWork judge input Judge = Unit {0}
DoesWork judge input Renew = ⊥
DoesWork renew input (Print rows) = ⊥
DoesWork renew input (Count rows n seed) = ⊥
DoesWork renew input Judge = ⊥
DoesWork renew input Renew = Unit {0}
