-- Faults that have a cause, and bytes of which a prefix is written.
use Rattle.std.specs.Prelude.{◌≡◌, ◌≤◌, ◌+◌, ◌-◌, ◌^◌, ℕ, List, ◌++◌, min, Result, OnOk, OnErr}
use Rattle.std.specs.declared.option.Option.{Option}
use Rattle.std.specs.Io.KnownBytes.{Appends}

-- one more, or the last value of 64 bits
abbrev pub next_count : ℕ → ℕ
next_count n = min (n + 1) (2 ^ 64 - 1)

-- the count rose, or stands at its last value
abbrev pub Rose : ℕ → ℕ → Type 0
Rose before now = next_count before ≤ now

-- the count didn't fall, and it rose where the call failed
pub record HasCause {T E : Type 0} (before now : ℕ) (result : Result T E) : Type 0 where
  pub later : before ≤ now
  pub failed : OnErr result (Rose before now)

-- of these bytes all but the rest have been appended
pub record Wrote (old new : Option (List ℕ)) (bytes rest : List ℕ) : Type 0 where
  pub prefix : List ℕ
  pub appended : Appends old new prefix
  pub whole : bytes ≡ prefix ++ rest

-- a prefix of these bytes was appended
pub record AppendsPrefix (old new : Option (List ℕ)) (bytes : List ℕ) : Type 0 where
  pub rest : List ℕ
  pub wrote : Wrote old new bytes rest

-- a call that is to write these bytes has appended them all, or failed, which has its cause, and appended a prefix of
-- them
pub record Writes {S T E : Type 0} (written : S → Option (List ℕ)) (faults : S → ℕ) (old new : S) (bytes : List ℕ)
    (result : Result T E) : Type 0 where
  pub ok : OnOk result (Appends (written old) (written new) bytes)
  pub err : OnErr result (AppendsPrefix (written old) (written new) bytes)
  pub cause : HasCause (faults old) (faults new) result
