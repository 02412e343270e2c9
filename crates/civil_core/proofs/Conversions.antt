-- Numbers that were converted to another type, if they fit it.
use Rattle.std.specs.Prelude.{◌≡◌, ◌↔◌, ℤ, Some, Result, Ok, Err, IsSome, IsOk}
use Rattle.std.proofs.Common.{SFits, to_z, of_z, to_z-of_z}
use Rattle.std.specs.Int.{Width}
use Rattle.std.specs.Result.{OkIff, result_ok}

-- the number x that was converted to z, and that it fits
pub record IsConverted {T : Type 0} (P : Type 0) (z x : T) : Type 0 where
  pub fits : P
  pub same : z ≡ x

-- what a conversion that succeeds gives
pub converted : {T E P : Type 0} (r : Result T E) (z x : T) → OkIff r P x → Some z ≡ result_ok r → IsConverted P z x
converted (Ok y) z x h e = record { fits = h.0; same = cc }
converted (Err y) z x h e = cc

-- such a number comes through its bits as it was
pub passed : (w : Width) (z x : ℤ) → IsConverted (SFits w x) z x → to_z w (of_z w z) ≡ x
passed w z x h = rw h.same (to_z-of_z h.fits)

-- turning an error into nothing keeps when there is a value
pub ok_exactly : {T E P : Type 0} (r : Result T E) → IsOk r ↔ P → IsSome (result_ok r) ↔ P
ok_exactly (Ok x) h = h
ok_exactly (Err e) h = h
