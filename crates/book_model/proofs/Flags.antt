-- A field that is 0 or 1 is the flag of its being 1.
use Rattle.std.proofs.Common.{◌≡◌, ◌≤◌, ℕ, zero, suc, refl, arith}
use Rattle.std.specs.Prelude.{◌==◌, unsigned_abs}
use Rattle.book_model.specs.calendars.Inquiries.{flag}

pub flag_again : (n : ℕ) → n ≤ 1 → unsigned_abs (flag (n == 1)) ≡ n
flag_again zero h = refl
flag_again (suc zero) h = refl
flag_again (suc (suc n)) h = absurd (omega (arith, h))
