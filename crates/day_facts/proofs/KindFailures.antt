-- Which failures of each kind of fact are at the year of the whole day itself: a kind of whose tests none, the first
-- alone, or each is of that day has its own lemma, from what its call says of the year to what the formula says. They
-- are one ruleset, so that the formula of each kind proves itself, whichever its row of whole_days is.
use Rattle.std.specs.Prelude.{◌≡◌, ℕ, ◌≤◌, ◌==◌, ℤ, pos, negsuc, ◌≤ℤ◌, Bool, true, false, ◌||◌, IsTrue, Result, Ok, Err}
use Rattle.std.specs.Prelude.{IfOk, IfErr, refl}
use Rattle.std.proofs.Common.{arith}
use Rattle.std.proofs.lemmas.Bool.Decides.{nat_tests}
use Rattle.std.proofs.lemmas.Int.{ints}
use Rattle.book_model.specs.declared.fact.Kind.{Kind}
use Rattle.book_model.specs.declared.fact.WholeDays.{WholeDays}
use Rattle.book_model.specs.declared.fact.WholeDays.TheVariants.{Nowhere, AtFirst, Everywhere}
use Rattle.book_model.specs.declared.fail.Fail.{Fail}
use Rattle.book_model.specs.declared.fail.Fail.TheVariants.{Undecided as undecided_at, Void}
use Rattle.book_model.specs.sky.Facts.{IsFactValue}
use Rattle.book_model.specs.sky.Names.{whole_days, is_of_whole_day}
use Rattle.time_scales.specs.Steps.{IsNotOfYear, IsNoEarlyYear}
use Rattle.day_facts.specs.WholeDays.{IsNoWholeDay}

-- a kind of whose tests none is of the whole day itself
pub of_other_days : (k : Kind) (r : Result ℤ Fail) → whole_days k ≡ Nowhere → IfErr r (IsNoWholeDay k)
of_other_days k (Ok v) h = tt
of_other_days k (Err (undecided_at u)) h = λ e w. none (whole_days k) u.turn h w
  where
    none : (d : WholeDays) (n : ℕ) → d ≡ Nowhere → IsTrue (is_of_whole_day d n) → ⊥
    none Nowhere n e w = absurd (cc)
    none AtFirst n e w = absurd (cc)
    none Everywhere n e w = absurd (cc)
of_other_days k (Err (Void s)) h = tt

-- the kinds of which the first and the third test of the year are made on the day itself, and never undecided
pub of_days : (k : Kind) (r : Result ℤ Fail) → whole_days k ≡ AtFirst → IfErr r IsNoEarlyYear → IfErr r (IsNoWholeDay k)
of_days k (Ok v) a h = tt
of_days k (Err (undecided_at u)) a h = λ e w. h e (early (whole_days k) u.turn a w)
  where
    by : (n : ℕ) (p q : Bool) → (n == 1) ≡ p → (n == 3) ≡ q → IsTrue (p || q) → n ≤ 3
    by n true q f g w = let e : n ≡ 1 = grind (arith, nat_tests, f) in omega (arith, e)
    by n false true f g w = let e : n ≡ 3 = grind (arith, nat_tests, g) in omega (arith, e)
    by n false false f g w = absurd (cc)

    early : (d : WholeDays) (n : ℕ) → d ≡ AtFirst → IsTrue (is_of_whole_day d n) → n ≤ 3
    early Nowhere n e w = absurd (cc)
    early AtFirst n e w = by n (n == 1) (n == 3) refl refl w
    early Everywhere n e w = absurd (cc)
of_days k (Err (Void s)) a h = tt

-- a kind of which no test of a year is undecided
pub of_all_days : (k : Kind) (r : Result ℤ Fail) → whole_days k ≡ Everywhere → IfErr r IsNotOfYear
    → IfErr r (IsNoWholeDay k)
of_all_days k (Ok v) a h = tt
of_all_days k (Err (undecided_at u)) a h = λ e w. h e
of_all_days k (Err (Void s)) a h = tt

-- minutes after midnight are a value that a fact may have
pub minutes_are_value : (r : Result ℤ Fail) → IfOk r (λ v. negsuc 0 ≤ℤ v) → IfOk r (λ v. v ≤ℤ pos 1440)
    → IfOk r IsFactValue
minutes_are_value (Ok v) h k = (omega (arith, ints, h), omega (arith, ints, k))
minutes_are_value (Err f) h k = tt

pub ruleset keeping = (of_days, of_all_days, of_other_days, minutes_are_value)
