-- A run that answers makes the same tests wherever its count begins: by induction over the tests that a result reports.
use Rattle.std.specs.Prelude.{◌≡◌, ℕ, zero, suc, ◌-◌, ◌<◌, ◌≤◌, ◌^◌, Ok}
use Rattle.std.specs.Prelude.{refl}
use Rattle.std.proofs.Common.{arith}
use Rattle.book_model.specs.numbers.Expressions.{World}
use Rattle.book_model.specs.programs.Leading.{next_turn, Reports, passes, answers, Leads}
use Rattle.book_model.specs.programs.Programs.{Program, Run}
use Rattle.moon_core.specs.Replays.{turn_after}

-- ---- so many tests more
pub no_turn : (b : ℕ) → turn_after 0 b ≡ b
unfolding turn_after
no_turn b = refl

pub turn_more : (n b : ℕ) → 1 ≤ n → turn_after n b ≡ turn_after (n - 1) (next_turn b)
unfolding turn_after
turn_more zero b h = absurd (omega (arith, h))
turn_more (suc n) b h = let z : suc n - 1 ≡ n = omega arith in rw z refl

pub ruleset turns = (no_turn, turn_more)

-- ---- the same run, counted from elsewhere
next_is : (b a : ℕ) → next_turn b ≤ a → a < 2 ^ 32 - 1 → next_turn b ≡ suc b
unfolding next_turn
next_is b a h k = omega (arith, h, k)

-- a count that hasn't come to its greatest number tells how many tests there were
record IsReplayed {A T : Type 0} (R : A → T → Type 0) (r : Run A) (b a : ℕ) (y : T) : Type 0 where
  grows : b ≤ a
  anew : (c : ℕ) → Reports R r c (turn_after (a - b) c) (Ok y)

replayed : {A T : Type 0} {R : A → T → Type 0} {r : Run A} {b a : ℕ} {y : T} → a < 2 ^ 32 - 1 → Reports R r b a (Ok y)
    → IsReplayed R r b a y
unfolding turn_after
replayed {b = b} k (answers h) = let z : b - b ≡ 0 = omega arith in
    record { grows = omega arith; anew = λ c. rw z (answers h) }
replayed {b = b} {a = a} k (passes h) =
    let t = replayed k h in
    let e = next_is b a t.grows k in
    let z : a - b ≡ suc (a - next_turn b) = omega (arith, e, t.grows) in
    record { grows = omega (arith, e, t.grows); anew = λ c. rw z (passes (t.anew (next_turn c))) }

-- what answers by the tests from one count to another answers by as many from any
pub leads_anew : {A T : Type 0} {w : World} {R : A → T → Type 0} {p : Program A} {b a : ℕ} {y : T} → a < 2 ^ 32 - 1
    → Leads w R p b a (Ok y) → (c : ℕ)
    → Leads w R p c (turn_after (a - b) c) (Ok y)
leads_anew k h c = record { reports = (replayed k h.reports).anew c }

-- a run whose count began at 0, and which made fewer tests than are counted
pub leads_counted : {A T : Type 0} {w : World} {R : A → T → Type 0} {p : Program A} {b a n : ℕ} {y : T} → b ≡ 0
    → n ≡ a → n < 2 ^ 32 - 1 → Leads w R p b a (Ok y) → (c : ℕ)
    → Leads w R p c (turn_after n c) (Ok y)
leads_counted {b = b} {a = a} {n = n} e f k h c =
    let z : a - b ≡ n = omega (arith, e, f) in
    rw z at (leads_anew (omega (arith, f, k)) h c)
