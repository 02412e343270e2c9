-- What is written by a call that fails where a write fails or memory runs out.
use Rattle.std.specs.Prelude.{ℕ, ◌≤◌, ◌⊎◌, List, Result, OnOk, OnErr, IfOk, IsErrOf}
use Rattle.std.specs.declared.option.Option.{Option}
use Rattle.std.specs.Io.KnownBytes.{Appends, Keeps}
use Rattle.byte_streams.specs.Stream.{AppendsPrefix, Rose}
use Rattle.conversion.specs.declared.text.WriteStop.{WriteStop}
use Rattle.conversion.specs.declared.text.WriteStop.TheVariants.{Fault, Memory}

-- a call that is to append these bytes has appended them all, unless it failed
abbrev pub WritesAll : {S T E : Type 0} → (S → Option (List ℕ)) → (old new : S) → List ℕ → Result T E → Type 0
WritesAll written old new bytes result = OnOk result (Appends (written old) (written new) bytes)

-- and where it failed, a prefix of them
abbrev pub WritesPrefix : {S T E : Type 0} → (S → Option (List ℕ)) → (old new : S) → List ℕ → Result T E → Type 0
WritesPrefix written old new bytes result = OnErr result (AppendsPrefix (written old) (written new) bytes)

-- What a call that computes and writes has done at its end. At Ok its work is finished; at a fault of writing there is
-- what a cut of it leaves, and where memory ran out that, or nothing was written. A fault has its cause, and faults are
-- counted on.
pub record Performs {S T : Type 0} (written : S → Option (List ℕ)) (faults : S → ℕ) (old new : S) (finished : T
    → Type 0) (cut : Type 0)
    (result : Result T WriteStop) : Type 0 where
  pub ok : IfOk result finished
  pub fault : IsErrOf result Fault → cut
  pub memory : IsErrOf result Memory → Keeps (written old) (written new) ⊎ cut
  pub cause : IsErrOf result Fault → Rose (faults old) (faults new)
  pub later : faults old ≤ faults new
