-- Words that runs share: what is read of one is right for what it says, and what is written is right by the trail that
-- had it.
use Rattle.std.proofs.Common.{◌≡◌, ◌≢◌, ℕ, ℤ, refl, inl, inr, arith, SFits, of_z}
use Rattle.std.proofs.lemmas.Int.{to_z-of_z}
use Rattle.std.specs.Int.{w128}
use Rattle.std.specs.Prelude.{Option, Some, None, IfSome, IsTrue, ◌==◌}
use Rattle.encl_core.specs.Kept.{IsKept, program_of, tests_of}
use Rattle.encl_core.specs.declared.asked.Asked.{Asked}
use Rattle.encl_core.specs.declared.span.Span.{Span}
use Rattle.fact_eval.specs.Shared.{IsSharedWord, IsRightWithin, asked_of, high_of, low_of}

pub none : IsSharedWord 0
unfolding IsSharedWord
none = inl refl

-- endpoints that are those of a right span
within : (asked : Asked) (s : Span) (lo hi : ℤ) → IsRightWithin asked lo hi → s.lo ≡ lo → s.hi ≡ hi
    → IsKept (tests_of asked) (program_of asked) s
within asked s lo hi h e f = record {
  answers = h.evaluated.answers;
  holds = λ w d. rw (e, f, ← h.low, ← h.high) (h.evaluated.holds w d);
}

pub lent : (w : ℕ) (asked : Asked) (s : Span) → IsSharedWord w → w ≢ 0 → asked ≡ asked_of w → s.lo ≡ low_of w
    → s.hi ≡ high_of w
    → IsKept (tests_of asked) (program_of asked) s
unfolding IsSharedWord
lent w asked s (inl z) k e l u = absurd (k z)
lent w asked s (inr h) k e l u = rw e (within (asked_of w) s _ _ h l u)

pub taken : (o : Option ℕ) (asked : Asked) (s : Span) → IsKept (tests_of asked) (program_of asked) s
    → IfSome o (λ w. asked_of w ≡ asked) → IfSome o (λ w. s.lo ≡ low_of w) → IfSome o (λ w. s.hi ≡ high_of w)
    → IfSome o IsSharedWord
unfolding IsSharedWord
taken None asked s h e l u = tt
taken (Some w) asked s h e l u = inr (record { span = s; low = l; high = u; evaluated = rw (← e) at h })

-- numbers of 128 bits that are compared
pub same_number : (a b : ℤ) → SFits w128 a → SFits w128 b → IsTrue (of_z w128 a == of_z w128 b) → b ≡ a
same_number a b f g so = grind (arith, to_z-of_z, so)
